-- A field of a layout reads back as it was written.
use Rattle.std.proofs.Common.{◌≡◌, ℕ, zero, suc, ◌+◌, ◌/◌, ◌%◌, ◌^◌, ◌<◌, ◌≤◌, true, List, [], ◌∷◌, ◌++◌, length, take, drop, sym, refl, ap, ◌∙◌, add-one, arith, length-append, length-take}
use Rattle.std.proofs.lemmas.List.{drop-drop, take-take, take_at}
use Rattle.pages.specs.Bytes.{all_bytes, in_bytes, from_eight}
use Rattle.pages.specs.Device.{zeros}
use Rattle.pages.specs.Fields.{number, at, Field, fields, offset, field_of, width_all, pad}
use Rattle.pages.proofs.ByteLists.{bytes_in_bytes, from_in_bytes}

-- in_bytes puts its bytes before what comes after
pub in_bytes_append : (k n : ℕ) (r s : List ℕ) → in_bytes k n r ++ s ≡ in_bytes k n (r ++ s)
unfolding in_bytes
in_bytes_append zero n r s = refl
in_bytes_append (suc k) n r s = in_bytes_append k (n / 256) (n % 256 ∷ r) s

pub length_in_bytes : (k n : ℕ) (r : List ℕ) → length (in_bytes k n r) ≡ k + length r
unfolding in_bytes
length_in_bytes zero n r = omega arith
length_in_bytes (suc k) n r = let h = length_in_bytes k (n / 256) (n % 256 ∷ r) in omega arith

pub drop_in_bytes : (k n : ℕ) (r : List ℕ) → drop k (in_bytes k n r) ≡ r
unfolding in_bytes
drop_in_bytes zero n r = refl
drop_in_bytes (suc k) n r = sym (rw add-one at (drop-drop 1 k (in_bytes k (n / 256) (n % 256 ∷ r)))) ∙ ap (drop 1) (drop_in_bytes k (n / 256) (n % 256 ∷ r))

pub number_back : (k n : ℕ) (r : List ℕ) → n < 256 ^ k → number k (in_bytes k n r) ≡ n
unfolding number from_eight
number_back k n r h =
    let l : length (in_bytes k n []) ≡ k = length_in_bytes k n [] ∙ omega arith in
    ap (λ bs. from_eight 0 (take k bs)) (sym (in_bytes_append k n [] r)) ∙ ap (from_eight 0) (take_at (in_bytes k n []) r k l) ∙ from_in_bytes k n [] h

-- THE LEMMA: the i-th field reads back
pub field_back : (fs : List Field) (r : List ℕ) (i : ℕ) → (field_of fs i).value < 256 ^ (field_of fs i).width →
    at (offset fs i) (field_of fs i).width (fields fs r) ≡ (field_of fs i).value
unfolding at fields number from_eight
field_back [] r i h = refl
field_back (f ∷ fs) r zero h = number_back f.width f.value (fields fs r) h
field_back (f ∷ fs) r (suc i) h =
    ap (number (field_of fs i).width) (sym (drop-drop (offset fs i) f.width _) ∙ ap (drop (offset fs i)) (drop_in_bytes f.width f.value (fields fs r)))
    ∙ field_back fs r i h

-- what comes after all fields
pub drop_fields : (fs : List Field) (r : List ℕ) → drop (width_all fs) (fields fs r) ≡ r
unfolding fields
drop_fields [] r = refl
drop_fields (f ∷ fs) r =
    sym (drop-drop (width_all fs) f.width _) ∙ ap (drop (width_all fs)) (drop_in_bytes f.width f.value (fields fs r)) ∙ drop_fields fs r

pub length_fields : (fs : List Field) (r : List ℕ) → length (fields fs r) ≡ width_all fs + length r
unfolding fields
length_fields [] r = omega arith
length_fields (f ∷ fs) r = let a = length_in_bytes f.width f.value (fields fs r) in let b = length_fields fs r in omega arith

pub fields_append : (fs : List Field) (r s : List ℕ) → fields fs r ++ s ≡ fields fs (r ++ s)
unfolding fields
fields_append [] r s = refl
fields_append (f ∷ fs) r s = in_bytes_append f.width f.value (fields fs r) s ∙ ap (in_bytes f.width f.value) (fields_append fs r s)

pub bytes_fields : (fs : List Field) (r : List ℕ) → all_bytes r ≡ true → all_bytes (fields fs r) ≡ true
unfolding fields
bytes_fields [] r h = h
bytes_fields (f ∷ fs) r h = bytes_in_bytes f.width f.value (fields fs r) (bytes_fields fs r h)

-- bytes brought to a length
pub length_zeros : (n : ℕ) → length (zeros n) ≡ n
unfolding zeros
length_zeros zero = refl
length_zeros (suc n) = ap suc (length_zeros n)

pub length_pad : (w : ℕ) (bs : List ℕ) → length (pad w bs) ≡ w
unfolding pad
length_pad w bs = simp (length-take, length-append, length_zeros) (omega arith)

pub take_pad : (w t : ℕ) (bs : List ℕ) → length bs ≡ t → t ≤ w → take t (pad w bs) ≡ bs
unfolding pad
take_pad w t bs l h = take-take t w (bs ++ zeros w) h ∙ take_at bs (zeros w) t l
