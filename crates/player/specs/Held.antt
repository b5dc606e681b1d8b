-- The devices that a value of the code stands for. Assumes nothing: these are definitions.
use Rattle.std.specs.Prelude.{◌≡◌, ℕ, zero, suc, List, [], ◌∷◌, Some, None, vec_items, Option}
use Rattle.pages.specs.Device.{Device, Write, page_at, side_of, stopped, with_page}
use Rattle.pages.specs.Deeds.{side_number}
use Rattle.player.specs.Sides.{front, in_pages}
use Rattle.player.specs.declared.devices.Devices.{Devices}
use Rattle.player.specs.declared.devices.Writing.{Writing}
use Rattle.player.specs.declared.script.Left.{Left}
use Rattle.player.specs.declared.script.Left.TheVariants.{Nothing, All, Half}

abbrev pub write_of : Writing → Write
write_of w = record { side = side_number w.side; at = w.at; page = w.page }

abbrev pub waiting : Option Writing → List Write
waiting None = []
waiting (Some w) = write_of w ∷ []

abbrev pub device_of : Devices → Device
device_of d = record { first = in_pages (vec_items d.first); second = in_pages (vec_items d.second); under_way = waiting d.under_way }

-- the first bytes of a write come onto its page
abbrev pub come : ℕ → Writing → Device → Device
come n w d = with_page d (side_number w.side) w.at (front n w.page (page_at (side_of d (side_number w.side)) w.at))

-- how much of the write under way a stop leaves
abbrev pub left_number : Left → ℕ
left_number Nothing = 0
left_number All = 1
left_number Half = 2

-- how much a number says that a stop leaves
abbrev pub left_of : ℕ → Left
left_of zero = Nothing
left_of (suc zero) = All
left_of (suc (suc zero)) = Half
left_of (suc (suc (suc n))) = Nothing

-- a stop with it is a stop with the number
abbrev pub Leaves : ℕ → Left → Type 0
Leaves number l = (l ≡ left_of number) × ((d : Device) → stopped d (left_number l) ≡ stopped d number)
