use Rattle.std.proofs.Common.{◌≡◌, ℕ, Bool, true, false, not, ◌&&◌, ltb, List, [], ◌∷◌, sym, refl, ap, ◌∙◌}
use Rattle.pages.specs.Lists.{pick}
use Rattle.pages.specs.Run.{loses, power, power_stops, proper_so, stops, whole}
use Rattle.player.specs.Items.{item_of}
use Rattle.player.proofs.run.House.allows.Goals as goal

power_ok : (up both : Bool) → not up ≡ proper_so up both (power ∷ [])
unfolding proper_so
power_ok true both = refl
power_ok false both = refl

power_stops_ok : (up both : Bool) (n c : ℕ) → not up ≡ proper_so up both (power_stops n c ∷ [])
unfolding proper_so
power_stops_ok true both n c = refl
power_stops_ok false both n c = refl

whole_ok : (up both : Bool) (t : List ℕ) → up ≡ proper_so up both (whole t ∷ [])
unfolding proper_so
whole_ok true both t = refl
whole_ok false both t = refl

stops_ok : (up both : Bool) (t : List ℕ) (n c : ℕ) → up ≡ proper_so up both (stops t n c ∷ [])
unfolding proper_so
stops_ok true both t n c = refl
stops_ok false both t n c = refl

and_true : (b : Bool) → b ≡ (b && true)
and_true true = refl
and_true false = refl

loses_ok : (up both : Bool) (k : ℕ) → pick up false (both && ltb k 2) ≡ proper_so up both (loses k ∷ [])
unfolding proper_so
loses_ok up both k = ap (λ b. pick up false (both && b)) (and_true (ltb k 2))

pub returns-in-Power : goal.returns-in-Power
returns-in-Power c =
    power_ok _ c.args.self.now.both ∙ ap (λ k. proper_so c.args.self.now.up c.args.self.now.both (item_of k ∷ [])) (sym c.in-Power.is)

pub returns-in-PowerStops : goal.returns-in-PowerStops
returns-in-PowerStops c =
    power_stops_ok _ c.args.self.now.both _ _ ∙ ap (λ k. proper_so c.args.self.now.up c.args.self.now.both (item_of k ∷ [])) (sym c.in-PowerStops.is)

pub returns-in-Whole : goal.returns-in-Whole
returns-in-Whole c =
    whole_ok _ c.args.self.now.both _ ∙ ap (λ k. proper_so c.args.self.now.up c.args.self.now.both (item_of k ∷ [])) (sym c.in-Whole.is)

pub returns-in-Stops : goal.returns-in-Stops
returns-in-Stops c =
    stops_ok _ c.args.self.now.both _ _ _ ∙ ap (λ k. proper_so c.args.self.now.up c.args.self.now.both (item_of k ∷ [])) (sym c.in-Stops.is)

pub returns-in-Loses : goal.returns-in-Loses
returns-in-Loses c =
    c.may_lose.ensures ∙ loses_ok _ c.args.self.now.both _ ∙ ap (λ k. proper_so c.args.self.now.up c.args.self.now.both (item_of k ∷ [])) (sym c.in-Loses.is)
