-- Owners and chains: one is changed.
use Rattle.std.proofs.Common.{◌≡◌, ℕ, zero, suc, ◌+◌, ◌*◌, ◌<◌, ◌≤◌, List, [], ◌∷◌, ◌++◌, length, get_or, take, drop, set, sym, refl, ap, ◌∙◌, append_assoc, append-nil, zero-le, arith, length-append}
use Rattle.pages.specs.Lists.{each, added_up}
use Rattle.pages.specs.Cells.{Cell, keys}
use Rattle.records.specs.Layout.{Slot, Owner, entry, entries_of, person, further_cells, slot_cells, head_or, chain_cells, all_cells, person_record, rec, further, body_length}
use Rattle.records.specs.House.{Entry, person_at, set_person, event_weight}
use Rattle.records.proofs.Holds.{Each, SoundOwner, SoundSlot}

abbrev pub no_owner : Owner
no_owner = record { name = []; next = 0; chain = [] }

abbrev pub owner_at : List Owner → ℕ → Owner
owner_at os a = get_or os a no_owner

-- EACH
pub each_get : (P : Owner → Type 0) (os : List Owner) (a : ℕ) → Each P os → a < length os → P (owner_at os a)
unfolding Each
each_get P [] a h l = let no : ⊥ = omega arith in absurd no
each_get P (o ∷ os) zero h l = h.0
each_get P (o ∷ os) (suc a) h l = each_get P os a h.1 (omega arith)

pub each_set : (P : Owner → Type 0) (os : List Owner) (a : ℕ) (o : Owner) → Each P os → P o → Each P (set os a o)
unfolding Each
each_set P [] a o h p = tt
each_set P (x ∷ os) zero o h p = (p, h.1)
each_set P (x ∷ os) (suc a) o h p = (h.0, each_set P os a o h.1 p)

pub each_join : {A : Type 0} (P : A → Type 0) (xs ys : List A) → Each P xs → Each P ys → Each P (xs ++ ys)
unfolding Each
each_join P [] ys h k = k
each_join P (x ∷ xs) ys h k = (h.0, each_join P xs ys h.1 k)

pub each_front : {A : Type 0} (P : A → Type 0) (xs ys : List A) → Each P (xs ++ ys) → Each P xs
unfolding Each
each_front P [] ys h = tt
each_front P (x ∷ xs) ys h = (h.0, each_front P xs ys h.1)

pub each_back : {A : Type 0} (P : A → Type 0) (xs ys : List A) → Each P (xs ++ ys) → Each P ys
unfolding Each
each_back P [] ys h = h
each_back P (x ∷ xs) ys h = each_back P xs ys h.1

pub each_more : {A : Type 0} (P Q : A → Type 0) (f : (x : A) → P x → Q x) (xs : List A) → Each P xs → Each Q xs
unfolding Each
each_more P Q f [] h = tt
each_more P Q f (x ∷ xs) h = (f x h.0, each_more P Q f xs h.1)

-- RECORDS
pub rec_at : (os : List Owner) (a : ℕ) → a < length os → rec os a ≡ person_record (owner_at os a)
unfolding rec
rec_at [] a h = let no : ⊥ = omega arith in absurd no
rec_at (o ∷ os) zero h = refl
rec_at (o ∷ os) (suc a) h = rec_at os a (omega arith)

pub rec_set : (os : List Owner) (a : ℕ) (o : Owner) → a < length os → rec (set os a o) a ≡ person_record o
unfolding rec
rec_set [] a o h = let no : ⊥ = omega arith in absurd no
rec_set (x ∷ os) zero o h = refl
rec_set (x ∷ os) (suc a) o h = rec_set os a o (omega arith)

pub rec_other : (os : List Owner) (a : ℕ) (o : Owner) (i : ℕ) → ¬ (i ≡ a) → rec (set os a o) i ≡ rec os i
unfolding rec
rec_other [] a o i h = refl
rec_other (x ∷ os) zero o zero h = absurd (h refl)
rec_other (x ∷ os) zero o (suc i) h = refl
rec_other (x ∷ os) (suc a) o zero h = refl
rec_other (x ∷ os) (suc a) o (suc i) h = rec_other os a o i (λ q. h (ap suc q))

-- CELLS
pub cells_set : (os : List Owner) (a : ℕ) (o : Owner) → a < length os →
    all_cells (set os a o) ≡ all_cells (take a os) ++ (chain_cells o.chain 0 ++ all_cells (drop (suc a) os))
unfolding all_cells
cells_set [] a o h = let no : ⊥ = omega arith in absurd no
cells_set (x ∷ os) zero o h = refl
cells_set (x ∷ os) (suc a) o h = ap (λ c. chain_cells x.chain 0 ++ c) (cells_set os a o (omega arith)) ∙ sym (append_assoc (chain_cells x.chain 0) (all_cells (take a os)) _)

pub cells_at : (os : List Owner) (a : ℕ) → a < length os →
    all_cells os ≡ all_cells (take a os) ++ (chain_cells (owner_at os a).chain 0 ++ all_cells (drop (suc a) os))
unfolding all_cells
cells_at [] a h = let no : ⊥ = omega arith in absurd no
cells_at (x ∷ os) zero h = refl
cells_at (x ∷ os) (suc a) h = ap (λ c. chain_cells x.chain 0 ++ c) (cells_at os a (omega arith)) ∙ sym (append_assoc (chain_cells x.chain 0) (all_cells (take a os)) _)

pub chain_append : (cs ss : List Slot) (l : ℕ) → chain_cells (cs ++ ss) l ≡ chain_cells cs (head_or ss l) ++ chain_cells ss l
unfolding chain_cells
chain_append [] ss l = refl
chain_append (c ∷ []) ss l = ap (λ z. z ++ chain_cells ss l) (sym (append-nil (slot_cells (head_or ss l) c)))
chain_append (c ∷ d ∷ cs) ss l = ap (λ z. slot_cells d.place c ++ z) (chain_append (d ∷ cs) ss l) ∙ sym (append_assoc (slot_cells d.place c) _ (chain_cells ss l))

-- THE PLAIN HOUSE
pub people_set : (os : List Owner) (a : ℕ) (o : Owner) → each person (set os a o) ≡ set_person (each person os) a (person o)
unfolding set_person
people_set [] a o = refl
people_set (x ∷ os) zero o = refl
people_set (x ∷ os) (suc a) o = ap (λ z. person x ∷ z) (people_set os a o)

pub people_at : (os : List Owner) (a : ℕ) → person_at (each person os) a ≡ person (owner_at os a)
unfolding person_at
people_at [] a = refl
people_at (x ∷ os) zero = refl
people_at (x ∷ os) (suc a) = people_at os a

pub people_many : (os : List Owner) → length (each person os) ≡ length os
people_many [] = refl
people_many (x ∷ os) = ap suc (people_many os)

-- WEIGHT
abbrev pub entry_weights : List Entry → ℕ
entry_weights xs = added_up (λ x. event_weight x.event) xs

abbrev pub people_weight : List Owner → ℕ
people_weight os = added_up (λ p. 256 + entry_weights p.entries) (each person os)

pub weight_set : (os : List Owner) (a : ℕ) (o : Owner) → a < length os →
    people_weight (set os a o) + entry_weights (entries_of (owner_at os a).chain) ≡ people_weight os + entry_weights (entries_of o.chain)
weight_set [] a o h = let no : ⊥ = omega arith in absurd no
weight_set (x ∷ os) zero o h = omega arith
weight_set (x ∷ os) (suc a) o h = let ih = weight_set os a o (omega arith) in omega arith

pub weight_at : (os : List Owner) (a : ℕ) → entry_weights (entries_of (owner_at os a).chain) ≤ people_weight os
weight_at [] a = zero-le
weight_at (x ∷ os) zero = omega arith
weight_at (x ∷ os) (suc a) = let ih = weight_at os a in omega arith

pub weights_append : (xs ys : List Entry) → entry_weights (xs ++ ys) ≡ entry_weights xs + entry_weights ys
weights_append [] ys = omega arith
weights_append (x ∷ xs) ys = let ih = weights_append xs ys in omega arith

-- each page of an event has its part of the weight
pub slot_light : (t d : ℕ) → 256 * suc (further (body_length t d)) ≤ 256 + t + 8 * d
slot_light t d = omega arith

pub further_keys : (as₁ bs : List ℕ) → keys (further_cells as₁ bs) ≡ as₁
unfolding keys further_cells
further_keys [] bs = refl
further_keys (a ∷ as₁) bs = ap (λ z. a ∷ z) (further_keys as₁ (drop 511 bs))

pub length_keys : (xs : List Cell) → length (keys xs) ≡ length xs
unfolding keys
length_keys [] = refl
length_keys (x ∷ xs) = ap suc (length_keys xs)

pub keys_append : (xs ys : List Cell) → keys (xs ++ ys) ≡ keys xs ++ keys ys
unfolding keys
keys_append [] ys = refl
keys_append (x ∷ xs) ys = ap (λ z. x.key ∷ z) (keys_append xs ys)

pub slot_keys : (l : ℕ) (s : Slot) → keys (slot_cells l s) ≡ s.place ∷ s.more
unfolding keys
slot_keys l s = ap (λ z. s.place ∷ z) (further_keys s.more _)

pub chain_light : (ss : List Slot) (l : ℕ) → Each SoundSlot ss → 256 * length (keys (chain_cells ss l)) ≤ entry_weights (entries_of ss)
unfolding chain_cells keys Each
chain_light [] l h = zero-le
chain_light (s ∷ ss) l h =
    let ih = chain_light ss l h.1 in
    let w = weights_append (entries_of ss) (entry s ∷ []) in
    let k = ap length (keys_append (slot_cells (head_or ss l) s) (chain_cells ss l)) in
    let j = length-append (keys (slot_cells (head_or ss l) s)) (keys (chain_cells ss l)) in
    let i = ap length (slot_keys (head_or ss l) s) in
    let c = h.0.count in
    let v = slot_light (length s.event.title) (length s.event.left_out) in
    omega arith

pub all_light : (b : ℕ) (os : List Owner) → Each (SoundOwner b) os → 256 * length (keys (all_cells os)) ≤ people_weight os
unfolding all_cells keys Each
all_light b [] h = zero-le
all_light b (o ∷ os) h =
    let ih = all_light b os h.1 in
    let k = ap length (keys_append (chain_cells o.chain 0) (all_cells os)) in
    let j = length-append (keys (chain_cells o.chain 0)) (keys (all_cells os)) in
    let c = chain_light o.chain 0 h.0.slots in
    omega arith
