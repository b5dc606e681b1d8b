-- Numbers in fixed places of a page: a layout is a list of fields, each a width in bytes and a value. Assumes nothing: these are definitions.
use Rattle.std.specs.Prelude.{ℕ, zero, suc, ◌+◌, List, [], ◌∷◌, ◌++◌, take, drop}
use Rattle.pages.specs.Bytes.{in_bytes, from_eight}
use Rattle.pages.specs.Device.{zeros}

-- the number of so many bytes, the highest first
unfoldable pub number : ℕ → List ℕ → ℕ
number w bs = from_eight 0 (take w bs)

-- the number of so many bytes from a place on
unfoldable pub at : ℕ → ℕ → List ℕ → ℕ
at off w p = number w (drop off p)

pub record Field : Type 0 where
  pub width : ℕ
  pub value : ℕ

abbrev pub fd : ℕ → ℕ → Field
fd w v = record { width = w; value = v }

-- the bytes of all fields, before what comes after them
unfoldable pub fields : List Field → List ℕ → List ℕ
fields [] r = r
fields (f ∷ fs) r = in_bytes f.width f.value (fields fs r)

abbrev pub offset : List Field → ℕ → ℕ
offset [] i = 0
offset (f ∷ fs) zero = 0
offset (f ∷ fs) (suc i) = f.width + offset fs i

abbrev pub field_of : List Field → ℕ → Field
field_of [] i = fd 0 0
field_of (f ∷ fs) zero = f
field_of (f ∷ fs) (suc i) = field_of fs i

abbrev pub width_all : List Field → ℕ
width_all [] = 0
width_all (f ∷ fs) = f.width + width_all fs

-- bytes brought to a length
unfoldable pub pad : ℕ → List ℕ → List ℕ
pad w bs = take w (bs ++ zeros w)
