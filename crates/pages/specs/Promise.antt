-- What is promised of devices. Each is a statement, a type whose proof is owed. Assumes nothing.
use Rattle.std.specs.Prelude.{◌≡◌, ℕ, zero, suc, ◌<◌, false, ◌&&◌, ◌==◌}
use Rattle.pages.specs.Device.{Device, Page, landed, lost, read_page, stopped, writing}

abbrev pub Never : Type 0
Never = zero ≡ suc zero

-- 9. What has landed stays, whatever a stop leaves of a write elsewhere; and whatever becomes of the other side.
unfoldable pub LandedStays : Type 0
LandedStays =
    (d : Device) (s k t j : ℕ) (p : Page) (c : ℕ) → s < 2 → t < 2 →
    (s == t && (k == j) ≡ false → read_page (stopped (writing d t j p) c) s k ≡ read_page d s k)
    × ((s == t) ≡ false → read_page (lost (landed d) t) s k ≡ read_page d s k)
