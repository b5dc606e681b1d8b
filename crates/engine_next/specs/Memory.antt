-- The machine's memory: registers in front, and areas at fixed places, a byte or a number in each of its numbers. Assumes nothing: these are definitions.
use Rattle.std.specs.Prelude.{ℕ, ◌+◌, ◌*◌, List, [], ◌∷◌, ◌++◌, take, drop, replicate, slice_index}
use Rattle.pages.specs.Bytes.{low_bytes, placed}
use Rattle.engine_next.specs.declared.registers.Registers.{Registers}

unfoldable pub start_memory : List ℕ
start_memory = replicate 262144 0

-- REGISTERS
unfoldable pub loaded : List ℕ → Registers
loaded m = record { phase = slice_index m 0; pages = slice_index m 1; at = slice_index m 2; side = slice_index m 3; long = slice_index m 4; people = slice_index m 5; weight = slice_index m 6 }

abbrev pub words : Registers → List ℕ
words r = r.phase ∷ r.pages ∷ r.at ∷ r.side ∷ r.long ∷ r.people ∷ r.weight ∷ []

unfoldable pub stored : Registers → List ℕ → List ℕ
stored r m = words r ++ drop 7 m

-- AREAS
-- the name at hand, so many bytes
unfoldable pub name_in : ℕ → List ℕ → List ℕ
name_in n m = low_bytes (take n (drop 64 m))

unfoldable pub with_name : List ℕ → List ℕ → List ℕ
with_name bs m = placed 64 bs m

-- the root page
unfoldable pub root_in : List ℕ → List ℕ
root_in m = low_bytes (take 512 (drop 3392 m))

unfoldable pub with_root : List ℕ → List ℕ → List ℕ
with_root bs m = placed 3392 bs m

-- the numbers of a header
unfoldable pub head_in : List ℕ → List ℕ
head_in m = take 32 (drop 3904 m)

unfoldable pub with_head : List ℕ → List ℕ → List ℕ
with_head ws m = placed 3904 ws m

-- a page of the batch
unfoldable pub batch_in : ℕ → List ℕ → List ℕ
batch_in i m = low_bytes (take 512 (drop (4416 + 512 * i) m))

unfoldable pub with_batch : ℕ → List ℕ → List ℕ → List ℕ
with_batch i bs m = placed (4416 + 512 * i) bs m
