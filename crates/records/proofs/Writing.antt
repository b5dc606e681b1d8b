-- Lists written with their count before them.
use Rattle.std.proofs.Common.{◌≡◌, ℕ, zero, suc, ◌+◌, ◌*◌, ◌<◌, ◌≤◌, Bool, true, false, cond, List, [], ◌∷◌, ◌++◌, length, get_or, take, sym, refl, ap, ◌∙◌, add-one, arith}
use Rattle.std.specs.List.{filter, range_with_len}
use Rattle.std.proofs.lemmas.List.{append_assoc, append-nil, length-append, length-take}
use Rattle.pages.specs.Lists.{pick, flat}
use Rattle.pages.specs.Bytes.{eight, with_length}
use Rattle.pages.proofs.ByteLists.{length_eight}
use Rattle.recurrence.specs.Week.{days_of, flags, places}
use Rattle.recurrence.specs.declared.event.Weekdays.{Weekdays}
use Rattle.recurrence.specs.Value.{repeat_of, event_with}
use Rattle.recurrence.specs.declared.event.Event.{Event}
use Rattle.records.specs.Command.{bit, numbers, repeat_spelled, event_spelled}
use Rattle.records.specs.Written.{timing_spelled}

flat_suc : (ns : List ℕ) (i : ℕ) → i < length ns → flat eight (take (suc i) ns) ≡ flat eight (take i ns) ++ eight (get_or ns i 0)
flat_suc [] i h = absurd (omega arith)
flat_suc (n ∷ ns) zero h = append-nil (eight n)
flat_suc (n ∷ ns) (suc i) h = ap (λ u. eight n ++ u) (flat_suc ns i (omega arith)) ∙ sym (append_assoc (eight n) (flat eight (take i ns)) (eight (get_or ns i 0)))

pub flat_more : (ns : List ℕ) (i : ℕ) → i < length ns → flat eight (take (i + 1) ns) ≡ flat eight (take i ns) ++ eight (get_or ns i 0)
flat_more ns i h = rw (add-one i) (flat_suc ns i h)

pub length_flat : (ns : List ℕ) → length (flat eight ns) ≡ 8 * length ns
length_flat [] = refl
length_flat (n ∷ ns) = let i = length_flat ns in let q = length_eight n in length-append (eight n) (flat eight ns) ∙ omega arith

pub length_numbers : (ns : List ℕ) → length (numbers ns) ≡ 8 + 8 * length ns
length_numbers ns = let q = length_eight (length ns) in let r = length_flat ns in length-append (eight (length ns)) (flat eight ns) ∙ omega arith

pub length_text : (bs : List ℕ) → length (with_length bs) ≡ 8 + length bs
length_text bs = let q = length_eight (length bs) in length-append (eight (length bs)) bs ∙ omega arith

-- weekdays: one more, and not too many
places_suc : (k : ℕ) (bs : List Bool) (i : ℕ) → i < length bs → places k (take (suc i) bs) ≡ places k (take i bs) ++ pick (get_or bs i false) ((k + i) ∷ []) []
unfolding places
places_suc k [] i h = absurd (omega arith)
places_suc k (true ∷ bs) zero h = let z : k + 0 ≡ k = omega arith in rw z
places_suc k (false ∷ bs) zero h = refl
places_suc k (true ∷ bs) (suc i) h =
    let z : suc k + i ≡ k + suc i = omega arith in
    rw (← z) (ap (λ u. k ∷ u) (places_suc (suc k) bs i (omega arith)))
places_suc k (false ∷ bs) (suc i) h =
    let z : suc k + i ≡ k + suc i = omega arith in
    rw (← z) (places_suc (suc k) bs i (omega arith))

pub places_more : (bs : List Bool) (i : ℕ) → i < length bs → places 0 (take (i + 1) bs) ≡ places 0 (take i bs) ++ pick (get_or bs i false) (i ∷ []) []
places_more bs i h = let z : 0 + i ≡ i = omega arith in rw (add-one i) (places_suc 0 bs i h ∙ rw z)

pub places_few : (k : ℕ) (bs : List Bool) → length (places k bs) ≤ length bs
unfolding places
places_few k [] = omega arith
places_few k (true ∷ bs) = let i = places_few (suc k) bs in omega arith
places_few k (false ∷ bs) = let i = places_few (suc k) bs in omega arith

-- the numbers of weekdays, out of all seven
day_kept : (b : Bool) (n : ℕ) (xs ys : List ℕ) → xs ≡ ys → cond b (n ∷ xs) xs ≡ pick b (n ∷ ys) ys
day_kept true n xs ys e = ap (λ z. n ∷ z) e
day_kept false n xs ys e = e

pub days_filtered : (w : Weekdays) → filter (λ d. get_or (flags w) d false) (range_with_len 0 7) ≡ days_of w
unfolding days_of places
days_filtered w =
    day_kept w.monday 0 _ _ (day_kept w.tuesday 1 _ _ (day_kept w.wednesday 2 _ _ (day_kept w.thursday 3 _ _ (day_kept w.friday 4 _ _ (day_kept w.saturday 5 _ _ (day_kept w.sunday 6 _ _ refl))))))

pub days_few : (w : Weekdays) → length (days_of w) ≤ 7
unfolding days_of
days_few w = places_few 0 (flags w)

-- one turn of a loop over the weekdays
pub day_marked : (bs : List Bool) (i : ℕ) → i < length bs → true ≡ get_or bs i false → places 0 (take (i + 1) bs) ≡ places 0 (take i bs) ++ (i ∷ [])
day_marked bs i h e = places_more bs i h ∙ rw (← e)

pub day_passed : (bs : List Bool) (i : ℕ) → i < length bs → false ≡ get_or bs i false → places 0 (take (i + 1) bs) ≡ places 0 (take i bs)
day_passed bs i h e = places_more bs i h ∙ rw (← e) (append-nil (places 0 (take i bs)))

pub flat_one_more : (ns : List ℕ) (n : ℕ) → flat eight (ns ++ (n ∷ [])) ≡ flat eight ns ++ eight n
flat_one_more [] n = append-nil (eight n)
flat_one_more (m ∷ ns) n = ap (λ u. eight m ++ u) (flat_one_more ns n) ∙ sym (append_assoc (eight m) (flat eight ns) (eight n))

pub places_taken : (i : ℕ) (bs : List Bool) → length (places 0 (take i bs)) ≤ i
places_taken i bs = let a = places_few 0 (take i bs) in let b = length-take i bs in omega arith

regroup : (a b c d e f : List ℕ) → a ++ (b ++ c ++ d ++ e) ++ f ≡ a ++ b ++ c ++ d ++ e ++ f
regroup a b c d e f = simp append_assoc

pub event_regrouped : (e : Event) (t d : List ℕ) → with_length t ++ timing_spelled e ++ numbers d ≡ event_spelled (event_with e t d)
unfolding timing_spelled
event_regrouped e t d =
    regroup (with_length t) (e.zone ∷ eight e.first) (eight e.minute) (eight e.long) (bit e.busy ∷ repeat_spelled (repeat_of e.repeat)) (numbers d)
