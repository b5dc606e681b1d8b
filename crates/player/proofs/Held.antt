-- What comes onto the page of a write under way. Assumes nothing.
use Rattle.std.proofs.Common.{◌≡◌, ℕ, zero, suc, ◌≤◌, ◌≢◌, false, ◌==◌, List, [], ◌∷◌, ◌++◌, length, Some, None, Option, refl, ap, ◌∙◌, append-nil, arith}
use Rattle.std.proofs.lemmas.List.{drop_all, take_all}
use Rattle.std.proofs.lemmas.Bool.{ne_eqb}
use Rattle.pages.specs.Device.{Device, Page, Write, half, landed, landed_all, left, page_at, side_of, stopped, two, with_page}
use Rattle.pages.specs.Deeds.{side_number}
use Rattle.pages.specs.declared.side.Side.{Side}
use Rattle.pages.specs.declared.side.Side.TheVariants.{First, Second}
use Rattle.player.proofs.Cuts.{page_short}
use Rattle.player.specs.Sides.{front}
use Rattle.player.specs.Held.{Leaves, come, device_of, waiting}
use Rattle.player.specs.declared.script.Left.TheVariants.{Nothing}
use Rattle.player.specs.declared.devices.Devices.{Devices}
use Rattle.player.specs.declared.devices.Writing.{Writing}

-- a whole page leaves nothing of the one before
whole_page : (p old : Page) → length p ≡ 512 → length old ≤ 512 → front 512 p old ≡ p
whole_page p old h l = (λ i. take_all 512 p (omega arith) i ++ drop_all 512 old l i) ∙ append-nil p

-- what a device holds at a place
old_at : (d : Devices) (s : Side) (k : ℕ) → length (page_at (side_of (device_of d) (side_number s)) k) ≤ 512
old_at d First k = page_short _ _ k
old_at d Second k = page_short _ _ k

comes : (d : Devices) (w : Writing) → length w.page ≡ 512 → come 512 w (device_of d) ≡ with_page (device_of d) (side_number w.side) w.at w.page
comes d w h = ap (λ p. with_page (device_of d) (side_number w.side) w.at p) (whole_page w.page _ h (old_at d w.side w.at))

both_sides : (d : Devices) (s : Side) (k : ℕ) (p : Page) → with_page (device_of d) (side_number s) k p ≡ two (with_page (device_of d) (side_number s) k p).first (with_page (device_of d) (side_number s) k p).second
both_sides d First k p = refl
both_sides d Second k p = refl

-- a write that lands, or that a stop leaves whole or by half
pub lands : (d : Devices) (w : Writing) → length w.page ≡ 512 → d.under_way ≡ Some w → come 512 w (device_of d) ≡ landed (device_of d)
unfolding landed_all
lands d w h e = rw e (comes d w h ∙ both_sides d w.side w.at w.page)

pub all_left : (d : Devices) (w : Writing) → length w.page ≡ 512 → d.under_way ≡ Some w → come 512 w (device_of d) ≡ stopped (device_of d) 1
unfolding left
all_left d w h e = rw e (comes d w h)

pub half_left : (d : Devices) (w : Writing) → d.under_way ≡ Some w → come 256 w (device_of d) ≡ stopped (device_of d) 2
unfolding left half
half_left d w e = rw e refl

-- where nothing is under way, or nothing of it is left
pub none_lands : (d : Devices) → d.under_way ≡ None → device_of d ≡ landed (device_of d)
unfolding landed_all
none_lands d e = rw e refl

pub none_stops : (d : Devices) (c : ℕ) → d.under_way ≡ None → device_of d ≡ stopped (device_of d) c
unfolding left
none_stops d c e = rw e refl

pub none_left : (d : Devices) → two (device_of d).first (device_of d).second ≡ stopped (device_of d) 0
unfolding left
none_left d = go d.under_way
  where
    go : (u : Option Writing) → two (device_of d).first (device_of d).second ≡ stopped (record { first = (device_of d).first; second = (device_of d).second; under_way = waiting u }) 0
    go None = refl
    go (Some w) = refl

-- a number that is neither of all nor of half stands for nothing
left_none : (d : Device) (ws : List Write) (c : ℕ) → (c == 1) ≡ false → (c == 2) ≡ false → left d ws 0 ≡ left d ws c
unfolding left
left_none d [] c _ _ = refl
left_none d (w ∷ ws) c p q = rw p (rw q refl)

pub other_leaves : (n : ℕ) → n ≢ 1 → n ≢ 2 → Leaves n Nothing
other_leaves zero _ _ = (refl, λ d. refl)
other_leaves (suc zero) h _ = absurd (h refl)
other_leaves (suc (suc zero)) _ h = absurd (h refl)
other_leaves (suc (suc (suc n))) one two = (refl, λ d. left_none d d.under_way _ (ne_eqb _ _ one) (ne_eqb _ _ two))
