-- THE HOUSE ITSELF, as a machine of 262,144 numbers: what it does for whatever its memory holds and whatever it is told.
-- Assumes nothing: these are definitions.
use Rattle.std.specs.Prelude.{ℕ, Bool, cond, ◌&&◌, List, length, replicate, Some, None, Option, ◌==◌, nat_le, slice_index, slice_set}
use Rattle.pages.specs.Run.{Engine, Step, Event, on, said, page, next, Act, done, refused}
use Rattle.records.specs.declared.command.Command.{Command}
use Rattle.records.specs.Reader.{found}

unfoldable pub start_memory : List ℕ
start_memory = replicate 262144 0

-- the first number is how many pages each device has; 0 where there was no power yet
unfoldable pub pages_in : List ℕ → ℕ
pages_in m = slice_index m 0

unfoldable pub with_pages : ℕ → List ℕ → List ℕ
with_pages n m = slice_set m 0 n

abbrev pub a_house : ℕ → Bool
a_house n = nat_le 256 n && nat_le n 1048576

abbrev pub answers : Act → List ℕ → Step
answers a m = record { memory = m; act = a }

-- what is not expected changes nothing
abbrev pub fault : List ℕ → Step
fault m = answers (refused 999) m

abbrev pub step_on : ℕ → List ℕ → Step
step_on n m = cond (a_house n) (answers done (with_pages n m)) (fault m)

-- no command is known yet: 2 is said of each, and 1 of what is none
abbrev pub replied : Option Command → List ℕ → Step
replied None m = answers (refused 1) m
replied (Some c) m = answers (refused 2) m

abbrev pub step_said : List ℕ → List ℕ → Step
step_said t m = cond (a_house (pages_in m)) (replied (found t) m) (fault m)

abbrev pub step_of : List ℕ → Event → Step
step_of m (on n) = step_on n m
step_of m (said t) = step_said t m
step_of m (page p) = fault m
step_of m next = fault m

abbrev pub guarded : List ℕ → Event → Step
guarded m ev = cond (length m == 262144) (step_of m ev) (fault m)

unfoldable pub own : Engine
own = record { start = start_memory; step = guarded }
