-- What the whole house promises. Assumes nothing.
use Rattle.std.specs.Prelude.{◌≡◌, ℕ, ◌≤◌, Bool, true, false, List, [], length}
use Rattle.pages.specs.Lists.{so_many}
use Rattle.pages.specs.Run.{Engine, Item, Right, Steady, new_world, proper}
use Rattle.dates.specs.Zone.{no_zone}
use Rattle.records.specs.Command.{Command}
use Rattle.records.specs.Promise.{May}

-- THE MAIN PROMISE: for all devices and all that can happen, beside the plain house
unfoldable pub Whole : (Command → Bool) → Engine → Type 0
Whole known e =
    Steady e
    × ((pages : ℕ) (is : List Item) → 256 ≤ pages → pages ≤ 1048576 → length is ≤ 4294967296 → proper false is ≡ true →
    Right (May known pages) (λ w. w) e (new_world pages) (record { zones = so_many 16 no_zone; people = [] }) is)
