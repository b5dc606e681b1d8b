-- The commands with lists of people, and zones.
use Rattle.std.proofs.Common.{◌≡◌, ℕ, ◌+◌, ◌<◌, ◌≤◌, Bool, true, false, cond, ◌&&◌, eqb, ltb, List, [], ◌∷◌, ◌++◌, length, drop, Some, None, sym, refl, ap, ◌∙◌, subst, arith}
use Rattle.std.proofs.lemmas.Bool.{lt-ltb, ltb-true, le-leb, leb-true, and_from, and_parts}
use Rattle.std.proofs.lemmas.List.{append-nil, append_assoc}
use Rattle.std.proofs.lemmas.Bool.Decides.{nat_tests}
use Rattle.pages.specs.Bytes.{all_bytes, eight}
use Rattle.dates.specs.Zone.{Zone as MeantZone}
use Rattle.dates.specs.Limits.{a_zone}
use Rattle.dates.specs.declared.zone.Sunday.{Sunday}
use Rattle.dates.specs.declared.zone.Zone.{Zone}
use Rattle.records.specs.Command.{zone, busy_times, free, spelled, fits, zone_spelled, numbers, some_people}
use Rattle.records.specs.declared.command.Command.{Command}
use Rattle.records.specs.declared.command.Command.TheVariants.{SetZone, Busy, Free}
use Rattle.records.specs.Reader.{a_place, sunday, find_zone, find_busy, find_free, zone_of}
use Rattle.records.proofs.Fields.{Spelt, onto, closed, Back, went, wide_only, wide_back, narrow_only, narrow_back, ended_only, ended_back}
use Rattle.records.proofs.Lists.{steps, steps_from, steps_rising, steps_every, row_only, row_back}
use Rattle.records.proofs.Simple.{Good, Found, stretch_only, stretch_of, stretch_back}

people_from : (ps : List ℕ) → steps 0 255 ps ≡ true → 1 ≤ length ps → length ps ≤ 16 → some_people ps ≡ true
people_from ps s l h =
    and_from _ _ (and_from _ _ (steps_rising 0 255 ps s) (steps_every (λ a. ltb a 256) 0 255 (λ n a b. lt-ltb n 256 (omega arith)) 0 (omega arith) ps s)) (and_from _ _ (le-leb _ _ l) (le-leb _ _ h))

people_steps : (ps : List ℕ) → some_people ps ≡ true → steps 0 255 ps ≡ true
people_steps ps h =
    let p = and_parts _ _ (and_parts _ _ h).0 in
    steps_from (λ a. ltb a 256) 0 255 (λ n e. omega arith) (λ n e. let l : n < 256 = ltb-true n 256 e in omega arith) ps p.0 p.1

some_is : {A : Type 0} {v z : A} → Some v ≡ Some z → v ≡ z
some_is e = cc

not_kept : {A : Type 0} (b : Bool) (v z : A) → cond b None (Some v) ≡ Some z → (b ≡ false) × (v ≡ z)
not_kept true v z h = absurd (let no : ◌≡◌ {A = ℕ} 0 1 = cc in omega arith)
not_kept false v z h = (refl, cc)

-- a month and a week of it
pub record SundayRead (t : List ℕ) (k : ℕ) (x : Sunday × ℕ) : Type 0 where
  pub spelt : Spelt (x.0.month ∷ x.0.week ∷ []) t k x.1
  pub month_low : 1 ≤ x.0.month
  pub month_high : x.0.month ≤ 12
  pub week_low : 1 ≤ x.0.week
  pub week_high : x.0.week ≤ 5

sunday_only : (t : List ℕ) (k : ℕ) (x : Sunday × ℕ) → sunday t k ≡ Some x → SundayRead t k x
unfolding sunday
sunday_only t k x e =
    let m = went _ _ _ e in
    let wm = narrow_only 1 12 t k m.got m.was in
    let w = went _ _ _ m.goes in
    let ww = narrow_only 1 5 t m.got.1 w.got w.was in
    let all : SundayRead t k (record { month = m.got.0; week = w.got.0 }, w.got.1) =
    record { spelt = onto wm.spelt ww.spelt; month_low = wm.low; month_high = wm.high; week_low = ww.low; week_high = ww.high } in
    subst (SundayRead t k) (some_is w.goes) all

sunday_back : (t r : List ℕ) (k : ℕ) (s : Sunday) → drop k t ≡ s.month ∷ s.week ∷ r → 1 ≤ s.month → s.month ≤ 12 → 1 ≤ s.week → s.week ≤ 5 → Back (sunday t k) s r t (k + 1 + 1)
unfolding sunday
sunday_back t r k s e m1 m2 w1 w2 =
    let m = narrow_back 1 12 t (s.week ∷ r) k s.month e m1 m2 in
    let w = narrow_back 1 5 t r (k + 1) s.week m.rest w1 w2 in
    record { reads = rw (m.reads, w.reads); rest = w.rest; fit = w.fit }

pub record PlaceRead (t : List ℕ) (k : ℕ) (x : Zone × ℕ) : Type 0 where
  pub spelt : Spelt (zone_spelled (zone_of x.0)) t k x.1
  pub fit : a_zone (zone_of x.0) ≡ true

pub place_only : (t : List ℕ) (k : ℕ) (x : Zone × ℕ) → all_bytes t ≡ true → a_place t k ≡ Some x → PlaceRead t k x
place_only t k x h e =
    let a = went _ _ _ e in
    let wa = wide_only 0 1560 t k a.got h a.was in
    let b = went _ _ _ a.goes in
    let wb = wide_only 0 120 t a.got.1 b.got h b.was in
    let s = went _ _ _ b.goes in
    let ws = sunday_only t b.got.1 s.got s.was in
    let u = went _ _ _ s.goes in
    let wu = sunday_only t s.got.1 u.got u.was in
    let d = went _ _ _ u.goes in
    let wd = wide_only 0 1439 t u.got.1 d.got h d.was in
    let c = not_kept _ _ _ d.goes in
    let all : PlaceRead t k (record { east = a.got.0; extra = b.got.0; begins = s.got.0; ends = u.got.0; minute = d.got.0 }, d.got.1) =
    record {
      spelt = onto (onto wa.spelt wb.spelt) (onto ws.spelt (onto wu.spelt wd.spelt));
      fit = zone_fits a.got.0 b.got.0 s.got.0.month s.got.0.week u.got.0.month u.got.0.week d.got.0 wa.high wb.high
          ws.month_low ws.month_high ws.week_low ws.week_high wu.month_low wu.month_high wu.week_low wu.week_high wd.high c.0;
    } in
    rw c.1 at all
  where
    zone_fits : (a b m w n v d : ℕ) → a ≤ 1560 → b ≤ 120 → 1 ≤ m → m ≤ 12 → 1 ≤ w → w ≤ 5 → 1 ≤ n → n ≤ 12 → 1 ≤ v → v ≤ 5 → d ≤ 1439 → (eqb m n && ltb 0 b) ≡ false →
        a_zone (record { east = a; extra = b; from_month = m; from_week = w; to_month = n; to_week = v; at = d }) ≡ true
    zone_fits a b m w n v d h1 h2 h3 h4 h5 h6 h7 h8 h9 h10 h11 h12 = grind (arith, nat_tests)

module _ (t : List ℕ) (bytes : all_bytes t ≡ true) (q : Command) where
  pub zone_only : find_zone t ≡ Some q → Good 2 t q
  unfolding spelled fits
  zone_only e =
      let a = went _ _ _ e in
      let wa = narrow_only 0 15 t 1 a.got a.was in
      let s = went _ _ _ a.goes in
      let ws = place_only t a.got.1 s.got bytes s.was in
      let z = ended_only t _ _ _ s.goes in
      let all : Good 2 t (SetZone a.got.0 s.got.0) =
      record { spelt = ap (λ u. 2 ∷ u) (closed (onto wa.spelt ws.spelt) z.0); fit = and_from _ _ (lt-ltb _ _ (omega arith)) ws.fit } in
      rw z.1 at all

  pub busy_only : find_busy t ≡ Some q → Good 8 t q
  unfolding spelled fits
  busy_only e =
      let a = went _ _ _ e in
      let wa = row_only 1 16 0 255 t 1 a.got bytes a.was in
      let s = went _ _ _ a.goes in
      let ws = stretch_only t a.got.1 s.got bytes s.was in
      let z = ended_only t _ _ _ s.goes in
      let all : Good 8 t (Busy a.got.0 s.got.0) =
      record { spelt = ap (λ u. 8 ∷ u) (closed (onto (onto wa.spelt ws.first) ws.second) z.0); fit = and_from _ _ (people_from _ wa.rise wa.few_least wa.most_at) ws.fit } in
      rw z.1 at all

  pub free_only : find_free t ≡ Some q → Good 9 t q
  unfolding spelled fits
  free_only e =
      let a = went _ _ _ e in
      let wa = row_only 1 16 0 255 t 1 a.got bytes a.was in
      let k = went _ _ _ a.goes in
      let wk = wide_only 1 10080 t a.got.1 k.got bytes k.was in
      let s = went _ _ _ k.goes in
      let ws = stretch_only t k.got.1 s.got bytes s.was in
      let z = ended_only t _ _ _ s.goes in
      let all : Good 9 t (Free a.got.0 k.got.0 s.got.0) =
      record {
        spelt = ap (λ u. 9 ∷ u) (closed (onto (onto (onto wa.spelt wk.spelt) ws.first) ws.second) z.0);
        fit = and_from _ _ (people_from _ wa.rise wa.few_least wa.most_at) (and_from _ _ ws.fit (and_from _ _ (le-leb _ _ wk.low) (le-leb _ _ wk.high)));
      } in
      rw z.1 at all

-- and back
pub regroup_3 : (a b c r : List ℕ) → a ++ b ++ c ++ r ≡ a ++ (b ++ (c ++ r))
regroup_3 a b c r = simp append_assoc

pub record ZoneBounds (z : MeantZone) : Type 0 where
  pub east : z.east ≤ 1560
  pub extra : z.extra ≤ 120
  pub m1 : 1 ≤ z.from_month
  pub m2 : z.from_month ≤ 12
  pub w1 : 1 ≤ z.from_week
  pub w2 : z.from_week ≤ 5
  pub n1 : 1 ≤ z.to_month
  pub n2 : z.to_month ≤ 12
  pub v1 : 1 ≤ z.to_week
  pub v2 : z.to_week ≤ 5
  pub at : z.at ≤ 1439
  pub turn : (eqb z.from_month z.to_month && ltb 0 z.extra) ≡ false

pub zone_bounds : (z : MeantZone) → a_zone z ≡ true → ZoneBounds z
zone_bounds z h =
    record {
      east = grind (arith, nat_tests);
      extra = grind (arith, nat_tests);
      m1 = grind (arith, nat_tests);
      m2 = grind (arith, nat_tests);
      w1 = grind (arith, nat_tests);
      w2 = grind (arith, nat_tests);
      n1 = grind (arith, nat_tests);
      n2 = grind (arith, nat_tests);
      v1 = grind (arith, nat_tests);
      v2 = grind (arith, nat_tests);
      at = grind (arith, nat_tests);
      turn = grind (arith, nat_tests);
    }

abbrev pub place_of : MeantZone → Zone
place_of z = record { east = z.east; extra = z.extra; begins = record { month = z.from_month; week = z.from_week }; ends = record { month = z.to_month; week = z.to_week }; minute = z.at }

pub place_back : (t r : List ℕ) (k : ℕ) (z : MeantZone) → drop k t ≡ zone_spelled z ++ r → a_zone z ≡ true →
    Back (a_place t k) (place_of z) r t (k + 8 + 8 + 1 + 1 + 1 + 1 + 8)
place_back t r k z e h =
    let b = zone_bounds z h in
    let e1 = e ∙ regroup_3 (eight z.east) (eight z.extra) (z.from_month ∷ z.from_week ∷ z.to_month ∷ z.to_week ∷ eight z.at) r in
    let w1 = wide_back 0 1560 t _ k z.east e1 (omega arith) b.east (omega arith) in
    let w2 = wide_back 0 120 t _ (k + 8) z.extra w1.rest (omega arith) b.extra (omega arith) in
    let w3 = sunday_back t _ (k + 8 + 8) (place_of z).begins w2.rest b.m1 b.m2 b.w1 b.w2 in
    let w4 = sunday_back t _ (k + 8 + 8 + 1 + 1) (place_of z).ends w3.rest b.n1 b.n2 b.v1 b.v2 in
    let w5 = wide_back 0 1439 t r (k + 8 + 8 + 1 + 1 + 1 + 1) z.at w4.rest (omega arith) b.at (omega arith) in
    record { reads = rw (w1.reads, w2.reads, w3.reads, w4.reads, w5.reads, b.turn); rest = w5.rest; fit = w5.fit }

pub zone_back : (t : List ℕ) (k : ℕ) (z : MeantZone) → drop 1 t ≡ k ∷ zone_spelled z → fits (zone k z) ≡ true → Found (find_zone t) t (zone k z)
unfolding fits
zone_back t k z e f =
    let p = and_parts _ _ f in
    let l : k < 16 = ltb-true _ _ p.0 in
    let w = narrow_back 0 15 t (zone_spelled z) 1 k e (omega arith) (omega arith) in
    let v = place_back t [] 2 z (w.rest ∙ sym (append-nil (zone_spelled z))) p.1 in
    record { got = SetZone k (place_of z); was = rw (w.reads, v.reads, ended_back t 30 (SetZone k (place_of z)) v.rest v.fit); means = refl }

pub busy_back : (t ps : List ℕ) (f u : ℕ) → drop 1 t ≡ numbers ps ++ eight f ++ eight u → fits (busy_times ps f u) ≡ true → Found (find_busy t) t (busy_times ps f u)
unfolding fits
busy_back t ps f u e h =
    let p = and_parts _ _ h in
    let c = and_parts _ _ (and_parts _ _ p.0).1 in
    let w = row_back 1 16 0 255 t (eight f ++ eight u) ps 1 (e ∙ append_assoc (numbers ps) (eight f) (eight u)) (leb-true _ _ c.0) (leb-true _ _ c.1) (omega arith) (omega arith) (people_steps ps p.0) in
    let s = stretch_back t [] w.next f u (w.rest ∙ ap (λ v. eight f ++ v) (sym (append-nil (eight u)))) p.1 in
    record { got = Busy w.part (stretch_of f u); was = rw (w.reads, s.reads, ended_back t (w.next + 8 + 8) (Busy w.part (stretch_of f u)) s.rest s.fit); means = ap (λ ns. busy_times ns f u) w.holds }

pub free_back : (t ps : List ℕ) (k f u : ℕ) → drop 1 t ≡ numbers ps ++ eight k ++ eight f ++ eight u → fits (free ps k f u) ≡ true → Found (find_free t) t (free ps k f u)
unfolding fits
free_back t ps k f u e h =
    let p = and_parts _ _ h in
    let c = and_parts _ _ (and_parts _ _ p.0).1 in
    let q = and_parts _ _ p.1 in
    let d = and_parts _ _ q.1 in
    let w = row_back 1 16 0 255 t (eight k ++ (eight f ++ eight u)) ps 1 (e ∙ regroup_3 (numbers ps) (eight k) (eight f) (eight u)) (leb-true _ _ c.0) (leb-true _ _ c.1) (omega arith) (omega arith) (people_steps ps p.0) in
    let v = wide_back 1 10080 t (eight f ++ eight u) w.next k w.rest (leb-true _ _ d.0) (leb-true _ _ d.1) (omega arith) in
    let s = stretch_back t [] (w.next + 8) f u (v.rest ∙ ap (λ v. eight f ++ v) (sym (append-nil (eight u)))) q.0 in
    record { got = Free w.part k (stretch_of f u); was = rw (w.reads, v.reads, s.reads, ended_back t (w.next + 8 + 8 + 8) (Free w.part k (stretch_of f u)) s.rest s.fit); means = ap (λ ns. free ns k f u) w.holds }
