-- Numbers written into a row and read from it, each in so many bytes.
use Rattle.std.proofs.Common.{◌≡◌, ℕ, zero, suc, ◌+◌, ◌-◌, ◌*◌, ◌/◌, ◌%◌, ◌<◌, ◌≤◌, true, leb, List, [], ◌∷◌, ◌++◌, length, get_or, take, drop, set, replicate, sym, refl, ap, ◌∙◌, arith}
use Rattle.std.proofs.lemmas.Bool.{leb-true, and_parts}
use Rattle.std.proofs.lemmas.List.{append-nil, at_drop_more, drop_all, drop-drop, drop-replicate, length-append, length-take, take_all, take-replicate}
use Rattle.pages.specs.Lists.{added_up, every, flat}
use Rattle.pages.specs.Bytes.{eight, from_eight, in_bytes, over, placed}
use Rattle.pages.specs.Device.{zeros}
use Rattle.pages.specs.Fields.{at, fields, number, pad}
use Rattle.pages.proofs.Fields.{drop_in_bytes, in_bytes_append, length_in_bytes}
use Rattle.pages.proofs.Placed.{more_at, placed_front, placed_none}
use Rattle.records.specs.Layout.{fours}
use Rattle.records.specs.Does.{read_threes, relink}
use Rattle.records.specs.Sheets.{laid, threes}

-- the low bytes of a number
low_in_bytes : (k w n : ℕ) (r : List ℕ) → drop k (in_bytes (w + k) n r) ≡ in_bytes w n r
unfolding in_bytes
low_in_bytes k zero n r = let e : 0 + k ≡ k = omega arith in rw e (drop_in_bytes k n r)
low_in_bytes k (suc w) n r = let e : suc w + k ≡ suc (w + k) = omega arith in rw e (low_in_bytes k w (n / 256) (n % 256 ∷ r))

pub low_of_eight : (w n : ℕ) → w ≤ 8 → take (8 - (8 - w)) (drop (8 - w) (eight n)) ≡ in_bytes w n []
low_of_eight w n h =
    let e : 8 ≡ w + (8 - w) = omega arith in
    let d : drop (8 - w) (eight n) ≡ in_bytes w n [] = ap (λ m. drop (8 - w) (in_bytes m n [])) e ∙ low_in_bytes (8 - w) w n [] in
    let l : length (in_bytes w n []) ≤ 8 - (8 - w) = omega (arith, length_in_bytes w n []) in
    ap (take (8 - (8 - w))) d ∙ take_all (8 - (8 - w)) (in_bytes w n []) l

-- one number, and what is to come behind it
pub one_more : (k j w n : ℕ) (rest row row₁ : List ℕ) → k ≤ length row → row₁ ≡ placed k (in_bytes w n []) row → j ≡ k + w → placed j rest row₁ ≡ placed k (in_bytes w n rest) row
one_more k j w n rest row row₁ h e q =
    let l : length (in_bytes w n []) ≡ w = length_in_bytes w n [] ∙ omega arith in
    more_at k j (in_bytes w n []) rest row row₁ (placed j rest row₁) h e (omega arith) refl ∙ ap (λ v. placed k v row) (in_bytes_append w n [] rest)

-- fields by width and value
pub every_at : (fs : List (ℕ × ℕ)) (i : ℕ) (d : ℕ × ℕ) → every (λ f. leb f.0 8) fs ≡ true → i < length fs → (get_or fs i d).0 ≤ 8
every_at [] i d h l = absurd (omega arith)
every_at (f ∷ fs) zero d h l = leb-true f.0 8 (and_parts _ _ h).0
every_at (f ∷ fs) (suc i) d h l = every_at fs i d (and_parts _ _ h).1 (omega arith)

pub widths_more : (fs : List (ℕ × ℕ)) (i : ℕ) (d : ℕ × ℕ) → i < length fs → added_up (λ f. f.0) (drop i fs) ≡ (get_or fs i d).0 + added_up (λ f. f.0) (drop (i + 1) fs)
widths_more fs i d h = at_drop_more (added_up (λ f. f.0)) fs i d h

pub laid_more : (fs : List (ℕ × ℕ)) (i : ℕ) (d : ℕ × ℕ) → i < length fs → fields (laid (drop i fs)) [] ≡ in_bytes (get_or fs i d).0 (get_or fs i d).1 (fields (laid (drop (i + 1) fs)) [])
unfolding fields
laid_more fs i d h = at_drop_more (λ xs. fields (laid xs) []) fs i d h

pub laid_all : (fs : List (ℕ × ℕ)) (row : List ℕ) (k i : ℕ) → length fs ≤ i → placed k (fields (laid (drop i fs)) []) row ≡ row
unfolding fields
laid_all fs row k i h = rw (drop_all i fs h) (sym (placed_none k row))

-- places of four bytes
fours_suc : (m i : ℕ) (as₁ r : List ℕ) → fours (suc m) (drop i as₁) r ≡ in_bytes 4 (get_or as₁ i 0) (fours m (drop (suc i) as₁) r)
unfolding fours
fours_suc m zero [] r = refl
fours_suc m (suc i) [] r = refl
fours_suc m zero (a ∷ as₁) r = refl
fours_suc m (suc i) (a ∷ as₁) r = fours_suc m i as₁ r

pub fours_more : (n i : ℕ) (as₁ r : List ℕ) → i < n → fours (n - i) (drop i as₁) r ≡ in_bytes 4 (get_or as₁ i 0) (fours (n - (i + 1)) (drop (i + 1) as₁) r)
fours_more n i as₁ r h =
    let e : n - i ≡ suc (n - (i + 1)) = omega arith in
    let s : i + 1 ≡ suc i = omega arith in
    rw (e, s) (fours_suc (n - suc i) i as₁ r)

pub fours_all : (n i k : ℕ) (as₁ row : List ℕ) → n ≤ i → placed k (fours (n - i) (drop i as₁) []) row ≡ row
unfolding fours
fours_all n i k as₁ row h = let e : n - i ≡ 0 = omega arith in rw e (sym (placed_none k row))

pub fours_append : (m : ℕ) (as₁ r s : List ℕ) → fours m as₁ r ++ s ≡ fours m as₁ (r ++ s)
unfolding fours
fours_append zero as₁ r s = refl
fours_append (suc m) [] r s = in_bytes_append 4 0 (fours m [] r) s ∙ ap (in_bytes 4 0) (fours_append m [] r s)
fours_append (suc m) (a ∷ as₁) r s = in_bytes_append 4 a (fours m as₁ r) s ∙ ap (in_bytes 4 a) (fours_append m as₁ r s)

-- three bytes for each day
pub length_threes : (ds : List ℕ) → length (threes ds) ≡ 3 * length ds
length_threes [] = refl
length_threes (d ∷ ds) = let i = length_threes ds in let q = length_in_bytes 3 d [] in length-append (in_bytes 3 d []) (flat (λ d. in_bytes 3 d []) ds) ∙ omega arith

pub threes_more : (ds : List ℕ) (i : ℕ) → i < length ds → threes (drop i ds) ≡ in_bytes 3 (get_or ds i 0) (threes (drop (i + 1) ds))
threes_more ds i h = at_drop_more threes ds i 0 h ∙ in_bytes_append 3 (get_or ds i 0) [] (threes (drop (i + 1) ds))

pub threes_all : (ds row : List ℕ) (k i : ℕ) → length ds ≤ i → placed k (threes (drop i ds)) row ≡ row
threes_all ds row k i h = rw (drop_all i ds h) (sym (placed_none k row))

-- numbers one behind the other, each in so many bytes
pub all_more : (w : ℕ) (ns : List ℕ) (i : ℕ) → i < length ns → flat (λ n. in_bytes w n []) (drop i ns) ≡ in_bytes w (get_or ns i 0) (flat (λ n. in_bytes w n []) (drop (i + 1) ns))
all_more w ns i h = at_drop_more (flat (λ n. in_bytes w n [])) ns i 0 h ∙ in_bytes_append w (get_or ns i 0) [] (flat (λ n. in_bytes w n []) (drop (i + 1) ns))

pub all_put : (w : ℕ) (ns row : List ℕ) (k i : ℕ) → length ns ≤ i → placed k (flat (λ n. in_bytes w n []) (drop i ns)) row ≡ row
all_put w ns row k i h = rw (drop_all i ns h) (sym (placed_none k row))

-- zeros, and bytes brought to a length
pub zeros_are : (n : ℕ) → replicate n 0 ≡ zeros n
unfolding zeros
zeros_are zero = refl
zeros_are (suc n) = ap (λ z. 0 ∷ z) (zeros_are n)

take_zeros : (m n : ℕ) → m ≤ n → take m (zeros n) ≡ zeros m
take_zeros m n h = sym (ap (take m) (zeros_are n)) ∙ take-replicate m n 0 h ∙ zeros_are m

drop_zeros : (m n : ℕ) → zeros (n - m) ≡ drop m (zeros n)
drop_zeros m n = sym (zeros_are (n - m)) ∙ sym (drop-replicate m n 0) ∙ ap (drop m) (zeros_are n)

over_zeros : (w n : ℕ) (bs : List ℕ) → length bs ≤ w → w ≤ n → over bs (zeros w) ≡ take w (bs ++ zeros n)
unfolding zeros
over_zeros w n [] h l = sym (take_zeros w n l)
over_zeros zero n (b ∷ bs) h l = absurd (omega arith)
over_zeros (suc w) n (b ∷ bs) h l = ap (λ z. b ∷ z) (over_zeros w n bs (omega arith) (omega arith))

pub pad_over : (w : ℕ) (bs : List ℕ) → length bs ≤ w → over bs (zeros w) ≡ pad w bs
unfolding pad
pad_over w bs h = over_zeros w w bs h (omega arith)

-- two parts one behind the other in a row of zeros
pub both_padded : (w : ℕ) (t u z a b : List ℕ) → z ≡ replicate w 0 → a ≡ placed 0 t z → b ≡ placed (length t) u a → length t + length u ≤ w → b ≡ pad w (t ++ u)
both_padded w t u z a b ez ea eb h =
    more_at 0 (length t) t u z a b (omega arith) ea (omega arith) eb ∙ ap (placed 0 (t ++ u)) (ez ∙ zeros_are w)
    ∙ placed_front (t ++ u) (zeros w) ∙ pad_over w (t ++ u) (omega (arith, length-append t u))

-- a part of bytes brought to a length
part : (k m w n j : ℕ) (bs : List ℕ) → k + m ≤ w → w ≤ n → m ≤ j → take m (drop k (take w (bs ++ zeros n))) ≡ take m (drop k bs ++ zeros j)
part k m w n j [] h l q =
    let a : take m (drop k (take w (zeros n))) ≡ zeros m = rw (take_zeros w n l, sym (drop_zeros k w)) (take_zeros m (w - k) (omega arith)) in
    let b : take m (drop k [] ++ zeros j) ≡ zeros m = rw (drop_all {X = ℕ} k [] (omega arith)) (take_zeros m j q) in
    a ∙ sym b
part zero zero w n j (b ∷ bs) h l q = refl
part zero (suc m) zero n j (b ∷ bs) h l q = absurd (omega arith)
part zero (suc m) (suc w) n j (b ∷ bs) h l q = ap (λ z. b ∷ z) (part zero m w n j bs (omega arith) (omega arith) (omega arith))
part (suc k) m zero n j (b ∷ bs) h l q = absurd (omega arith)
part (suc k) m (suc w) n j (b ∷ bs) h l q = part k m w n j bs (omega arith) (omega arith) q

pub pad_part : (k m w : ℕ) (bs : List ℕ) → k + m ≤ w → take m (drop k (pad w bs)) ≡ pad m (drop k bs)
unfolding pad
pad_part k m w bs h = part k m w w m bs h (omega arith) (omega arith)

-- a whole row
pub placed_whole : (w ys : List ℕ) → length ys ≤ length w → placed 0 w ys ≡ w
placed_whole w ys h = placed_front w ys ∙ rw (drop_all (length w) ys h) (append-nil w)

-- a mark and the bytes behind it
pub marked_part : (p q w : List ℕ) (n : ℕ) → q ≡ placed 1 w (set p 0 n) → length p ≡ 1 + length w → q ≡ n ∷ w
unfolding placed
marked_part [] q w n e h = absurd (omega arith)
marked_part (x ∷ p) q w n e h =
    let a : 1 + length w ≡ suc (length w) = omega arith in
    let d : drop (length w) p ≡ [] = drop_all (length w) p (omega arith) in
    e ∙ rw (a, d) (ap (λ z. n ∷ z) (append-nil w))

pub relinked : (l : ℕ) (p : List ℕ) → placed 1 (in_bytes 4 l []) p ≡ relink l p
unfolding placed relink
relinked l p =
    let e : 1 + length (in_bytes 4 l []) ≡ 5 = omega (arith, length_in_bytes 4 l []) in
    rw e (ap (λ z. take 1 p ++ z) (in_bytes_append 4 l [] (drop 5 p)))

-- a number read
pub at_byte : (k : ℕ) (p : List ℕ) → get_or p k 0 ≡ at k 1 p
unfolding at number from_eight
at_byte zero [] = refl
at_byte (suc k) [] = refl
at_byte zero (b ∷ p) = omega arith
at_byte (suc k) (b ∷ p) = at_byte k p

pub at_few : (k w : ℕ) (p : List ℕ) → w ≤ 8 → from_eight 0 (take 8 (take (k + w - k) (drop k p))) ≡ at k w p
unfolding at number
at_few k w p h =
    let e : k + w - k ≡ w = omega arith in
    rw e (ap (from_eight 0) (take_all 8 (take w (drop k p)) (simp length-take (omega arith))))

-- three bytes to each number read
pub length_read_threes : (c : ℕ) (bs : List ℕ) → length (read_threes c bs) ≡ c
unfolding read_threes
length_read_threes zero bs = refl
length_read_threes (suc c) bs = ap suc (length_read_threes c (drop 3 bs))

pub three_read : (c i : ℕ) (bs : List ℕ) → i < c → get_or (read_threes c bs) i 0 ≡ at (3 * i) 3 bs
unfolding read_threes at
three_read zero i bs h = absurd (omega arith)
three_read (suc c) zero bs h = refl
three_read (suc c) (suc i) bs h =
    let e : 3 + 3 * i ≡ 3 * suc i = omega arith in
    three_read c i (drop 3 bs) (omega arith) ∙ ap (number 3) (drop-drop (3 * i) 3 bs ∙ ap (λ j. drop j bs) e)
