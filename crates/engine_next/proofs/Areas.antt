-- The areas of the machine's memory: what is put into one is there, and the others stay.
use Rattle.std.proofs.Common.{◌≡◌, ℕ, ◌+◌, ◌*◌, ◌<◌, ◌≤◌, true, List, length, take, drop, sym, refl, ap, ◌∙◌, ⊎_elim, arith, lit≤, length-drop, length-take}
use borrow.Rule.Slice.PartMut.{put_mid}
use Rattle.std.proofs.lemmas.Bool.{cases_lt}
use Rattle.pages.specs.Bytes.{all_bytes, low_bytes, placed}
use Rattle.pages.proofs.Parts.{length_placed, low_bytes_same, part_above, part_below, part_same, placed_again, placed_swap, placed_whole}
use Rattle.engine_next.specs.Memory.{loaded, words, stored, name_in, with_name, root_in, with_root, head_in, with_head, batch_in, with_batch}
use Rattle.engine_next.specs.declared.registers.Registers.{Registers}

-- the header's numbers lent and changed
pub lent_head : (m ys : List ℕ) → length m ≡ 262144 → length ys ≡ length (take 32 (drop 3904 m)) → (put_mid 3904 32 m ys ≡ with_head ys m) × (length (put_mid 3904 32 m ys) ≡ 262144)
unfolding with_head
lent_head m ys l e =
    let t : length (take 32 (drop 3904 m)) ≡ 32 = simp (length-take, length-drop) (omega arith) in
    let y : length ys ≡ 32 = e ∙ t in
    let p = placed_whole 3904 32 m ys y in
    (p, ap length p ∙ length_placed 3904 ys m (omega arith) ∙ l)

-- between commands: the memory has its length, and knows how many pages each side has
pub record Ready (n : ℕ) (m : List ℕ) : Type 0 where
  pub long : length m ≡ 262144
  pub has : (loaded m).pages ≡ n

-- THE REGISTERS
pub loaded_stored : (r : Registers) (m : List ℕ) → loaded (stored r m) ≡ r
unfolding loaded stored
loaded_stored r m = refl

pub stored_stored : (r q : Registers) (m : List ℕ) → stored r (stored q m) ≡ stored r m
unfolding stored
stored_stored r q m = refl

stored_placed : (r : Registers) (m : List ℕ) → stored r m ≡ placed 0 (words r) m
unfolding stored placed
stored_placed r m = refl

-- THE MEMORY'S LENGTH
pub long_stored : (r : Registers) (m : List ℕ) → length m ≡ 262144 → length (stored r m) ≡ 262144
long_stored r m l = ap length (stored_placed r m) ∙ length_placed 0 (words r) m (omega arith) ∙ l

pub long_name : (w m : List ℕ) → length w ≤ 64 → length m ≡ 262144 → length (with_name w m) ≡ 262144
unfolding with_name
long_name w m h l = length_placed 64 w m (omega arith) ∙ l

pub long_root : (w m : List ℕ) → length w ≡ 512 → length m ≡ 262144 → length (with_root w m) ≡ 262144
unfolding with_root
long_root w m h l = length_placed 3392 w m (omega arith) ∙ l

pub long_head : (w m : List ℕ) → length w ≡ 32 → length m ≡ 262144 → length (with_head w m) ≡ 262144
unfolding with_head
long_head w m h l = length_placed 3904 w m (omega arith) ∙ l

pub long_batch : (j : ℕ) (w m : List ℕ) → j < 29 → length w ≡ 512 → length m ≡ 262144 → length (with_batch j w m) ≡ 262144
unfolding with_batch
long_batch j w m b h l = length_placed (4416 + 512 * j) w m (omega arith) ∙ l

-- an area is written before the registers or after them
past_registers : (k : ℕ) → 7 ≤ k → k ≤ 262144 → (r : Registers) (w m : List ℕ) → length m ≡ 262144 → placed k w (stored r m) ≡ stored r (placed k w m)
past_registers k a b r w m l = ap (placed k w) (stored_placed r m) ∙ placed_swap 0 k (words r) w m (omega arith) (omega arith) ∙ sym (stored_placed r (placed k w m))

pub name_past : (r : Registers) (w m : List ℕ) → length m ≡ 262144 → with_name w (stored r m) ≡ stored r (with_name w m)
unfolding with_name
name_past = past_registers 64 (lit≤ tt) (lit≤ tt)

pub root_past : (r : Registers) (w m : List ℕ) → length m ≡ 262144 → with_root w (stored r m) ≡ stored r (with_root w m)
unfolding with_root
root_past = past_registers 3392 (lit≤ tt) (lit≤ tt)

pub head_past : (r : Registers) (w m : List ℕ) → length m ≡ 262144 → with_head w (stored r m) ≡ stored r (with_head w m)
unfolding with_head
head_past = past_registers 3904 (lit≤ tt) (lit≤ tt)

pub batch_past : (j : ℕ) → j < 29 → (r : Registers) (w m : List ℕ) → length m ≡ 262144 → with_batch j w (stored r m) ≡ stored r (with_batch j w m)
unfolding with_batch
batch_past j b = past_registers (4416 + 512 * j) (omega arith) (omega arith)

-- WHAT IS PUT is there
pub head_again : (v w m : List ℕ) → length v ≡ 32 → length w ≡ 32 → length m ≡ 262144 → with_head w (with_head v m) ≡ with_head w m
unfolding with_head
head_again v w m h k l = placed_again 3904 v w m (omega arith) (omega arith)

pub head_back : (w m : List ℕ) → length w ≡ 32 → length m ≡ 262144 → head_in (with_head w m) ≡ w
unfolding head_in with_head
head_back w m h l = part_same 3904 32 w m h (omega arith)

byte_part : (k n : ℕ) (w m : List ℕ) → all_bytes w ≡ true → length w ≡ n → k ≤ length m → low_bytes (take n (drop k (placed k w m))) ≡ w
byte_part k n w m b h l = ap low_bytes (part_same k n w m h l) ∙ low_bytes_same w b

pub name_back : (n : ℕ) (w m : List ℕ) → all_bytes w ≡ true → length w ≡ n → length m ≡ 262144 → name_in n (with_name w m) ≡ w
unfolding name_in with_name
name_back n w m b h l = byte_part 64 n w m b h (omega arith)

pub root_back : (w m : List ℕ) → all_bytes w ≡ true → length w ≡ 512 → length m ≡ 262144 → root_in (with_root w m) ≡ w
unfolding root_in with_root
root_back w m b h l = byte_part 3392 512 w m b h (omega arith)

pub batch_back : (j : ℕ) (w m : List ℕ) → j < 29 → all_bytes w ≡ true → length w ≡ 512 → length m ≡ 262144 → batch_in j (with_batch j w m) ≡ w
unfolding batch_in with_batch
batch_back j w m i b h l = byte_part (4416 + 512 * j) 512 w m b h (omega arith)

-- WHAT IS ELSEWHERE stays
below : (a n k : ℕ) (w m : List ℕ) → a + n ≤ k → k ≤ length m → low_bytes (take n (drop a (placed k w m))) ≡ low_bytes (take n (drop a m))
below a n k w m h l = ap low_bytes (part_below a n k w m h l)

above : (a n k : ℕ) (w m : List ℕ) → k + length w ≤ a → k ≤ length m → low_bytes (take n (drop a (placed k w m))) ≡ low_bytes (take n (drop a m))
above a n k w m h l = ap low_bytes (part_above a n k w m h l)

past_stored : (a n : ℕ) (r : Registers) (m : List ℕ) → 7 ≤ a → take n (drop a (stored r m)) ≡ take n (drop a m)
past_stored a n r m h = ap (λ z. take n (drop a z)) (stored_placed r m) ∙ part_above a n 0 (words r) m (omega arith) (omega arith)

pub head_stored : (r : Registers) (m : List ℕ) → head_in (stored r m) ≡ head_in m
unfolding head_in
head_stored r m = past_stored 3904 32 r m (lit≤ tt)

pub name_stored : (n : ℕ) (r : Registers) (m : List ℕ) → name_in n (stored r m) ≡ name_in n m
unfolding name_in
name_stored n r m = ap low_bytes (past_stored 64 n r m (lit≤ tt))

pub root_stored : (r : Registers) (m : List ℕ) → root_in (stored r m) ≡ root_in m
unfolding root_in
root_stored r m = ap low_bytes (past_stored 3392 512 r m (lit≤ tt))

pub batch_stored : (i : ℕ) (r : Registers) (m : List ℕ) → batch_in i (stored r m) ≡ batch_in i m
unfolding batch_in
batch_stored i r m = ap low_bytes (past_stored (4416 + 512 * i) 512 r m (omega arith))

pub name_root : (n : ℕ) (w m : List ℕ) → n ≤ 64 → length m ≡ 262144 → name_in n (with_root w m) ≡ name_in n m
unfolding name_in with_root
name_root n w m h l = below 64 n 3392 w m (omega arith) (omega arith)

pub name_head : (n : ℕ) (w m : List ℕ) → n ≤ 64 → length m ≡ 262144 → name_in n (with_head w m) ≡ name_in n m
unfolding name_in with_head
name_head n w m h l = below 64 n 3904 w m (omega arith) (omega arith)

pub name_batch : (n : ℕ) (j : ℕ) (w m : List ℕ) → n ≤ 64 → j < 29 → length m ≡ 262144 → name_in n (with_batch j w m) ≡ name_in n m
unfolding name_in with_batch
name_batch n j w m h h₁ l = below 64 n (4416 + 512 * j) w m (omega arith) (omega arith)

pub root_name : (w m : List ℕ) → length w ≤ 64 → length m ≡ 262144 → root_in (with_name w m) ≡ root_in m
unfolding root_in with_name
root_name w m h l = above 3392 512 64 w m (omega arith) (omega arith)

pub root_head : (w m : List ℕ) → length m ≡ 262144 → root_in (with_head w m) ≡ root_in m
unfolding root_in with_head
root_head w m l = below 3392 512 3904 w m (omega arith) (omega arith)

pub root_batch : (j : ℕ) (w m : List ℕ) → j < 29 → length m ≡ 262144 → root_in (with_batch j w m) ≡ root_in m
unfolding root_in with_batch
root_batch j w m h l = below 3392 512 (4416 + 512 * j) w m (omega arith) (omega arith)

pub head_name : (w m : List ℕ) → length w ≤ 64 → length m ≡ 262144 → head_in (with_name w m) ≡ head_in m
unfolding head_in with_name
head_name w m h l = part_above 3904 32 64 w m (omega arith) (omega arith)

pub head_root : (w m : List ℕ) → length w ≡ 512 → length m ≡ 262144 → head_in (with_root w m) ≡ head_in m
unfolding head_in with_root
head_root w m h l = part_above 3904 32 3392 w m (omega arith) (omega arith)

pub head_batch : (j : ℕ) (w m : List ℕ) → j < 29 → length m ≡ 262144 → head_in (with_batch j w m) ≡ head_in m
unfolding head_in with_batch
head_batch j w m h l = part_below 3904 32 (4416 + 512 * j) w m (omega arith) (omega arith)

pub batch_name : (i : ℕ) (w m : List ℕ) → length w ≤ 64 → length m ≡ 262144 → batch_in i (with_name w m) ≡ batch_in i m
unfolding batch_in with_name
batch_name i w m h l = above (4416 + 512 * i) 512 64 w m (omega arith) (omega arith)

pub batch_root : (i : ℕ) (w m : List ℕ) → length w ≡ 512 → length m ≡ 262144 → batch_in i (with_root w m) ≡ batch_in i m
unfolding batch_in with_root
batch_root i w m h l = above (4416 + 512 * i) 512 3392 w m (omega arith) (omega arith)

pub batch_head : (i : ℕ) (w m : List ℕ) → length w ≡ 32 → length m ≡ 262144 → batch_in i (with_head w m) ≡ batch_in i m
unfolding batch_in with_head
batch_head i w m h l = above (4416 + 512 * i) 512 3904 w m (omega arith) (omega arith)

pub batch_batch : (i j : ℕ) (w m : List ℕ) → ¬ (i ≡ j) → j < 29 → length w ≡ 512 → length m ≡ 262144 → batch_in i (with_batch j w m) ≡ batch_in i m
unfolding batch_in with_batch
batch_batch i j w m d b h l =
    ⊎_elim (λ o. below (4416 + 512 * i) 512 (4416 + 512 * j) w m (omega arith) (omega arith)) (λ o. above (4416 + 512 * i) 512 (4416 + 512 * j) w m (omega arith) (omega arith)) (cases_lt i j)
