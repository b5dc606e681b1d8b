-- Events.
use Rattle.std.proofs.Common.{◌≡◌, ℕ, zero, suc, ◌+◌, ◌<◌, ◌≤◌, Bool, true, false, ◌&&◌, eqb, ltb, leb, List, [], ◌∷◌, ◌++◌, length, get_or, drop, Some, sym, refl, ap, ◌∙◌, subst, arith, get_or-set_other}
use Rattle.std.proofs.lemmas.Bool.{lt-ltb, ltb-true, le-leb, leb-true, and_from, and_parts}
use Rattle.std.proofs.lemmas.List.{append-nil, append_assoc}
use Rattle.pages.specs.Bytes.{all_bytes, eight, with_length}
use Rattle.dates.specs.Limits.{a_day}
use Rattle.recurrence.specs.Event.{Repeat as MeantRepeat, Event as MeantEvent, a_repeat, an_event}
use Rattle.recurrence.specs.Value.{kind_number, kind_of, repeat_of}
use Rattle.recurrence.specs.Week.{flags, places, days_of, no_days, with_day}
use Rattle.recurrence.specs.declared.event.Weekdays.{Weekdays}
use Rattle.recurrence.specs.declared.event.Repeat.{Repeat}
use Rattle.recurrence.specs.declared.event.Event.{Event}
use Rattle.recurrence.proofs.Weeks.{flags_with, none_marked, none_days, places_set}
use Rattle.records.specs.Command.{put, change, spelled, fits, bit, numbers, repeat_spelled, event_spelled}
use Rattle.records.specs.declared.command.Part.{Part}
use Rattle.records.specs.declared.command.Draft.{Draft}
use Rattle.records.specs.declared.command.Command.{Command}
use Rattle.records.specs.declared.command.Command.TheVariants.{Put, Change}
use Rattle.records.specs.Reader.{number_at, climbs, marks, weekdays, repeating, timing, draft, any_number, find_put, find_change, event_in, numbers_from, numbers_in}
use Rattle.records.proofs.Fields.{Spelt, onto, closed, ranged, went, wide_only, wide_back, narrow_only, narrow_back, text_only, text_back, ended_only, ended_back}
use Rattle.records.proofs.Lists.{steps, steps_from, steps_rising, steps_every, steps_few, climbs_steps, row_only, row_back}
use Rattle.records.proofs.Simple.{Good, Found}

day_from : (n : ℕ) → 11 ≤ n → n ≤ 72999 → a_day n ≡ true
day_from n a b = and_from _ _ (le-leb 11 n a) (lt-ltb n 73000 (omega arith))

day_low : (n : ℕ) → a_day n ≡ true → 11 ≤ n
day_low n h = leb-true 11 n (and_parts _ _ h).0

day_high : (n : ℕ) → a_day n ≡ true → n ≤ 72999
day_high n h = let l : n < 73000 = ltb-true n 73000 (and_parts _ _ h).1 in omega arith

some_is : {A : Type 0} (v z : A) → Some v ≡ Some z → v ≡ z
some_is v z h = cc

-- weekdays that rising numbers name are those numbers
marks_days : (n lo : ℕ) (t : List ℕ) (k : ℕ) (on : Weekdays) → climbs n lo 6 t k ≡ true → ((j : ℕ) → lo ≤ j → get_or (flags on) j false ≡ false) →
    days_of (marks n t k on) ≡ days_of on ++ numbers_from n t k
unfolding climbs marks numbers_from days_of
marks_days zero lo t k on c h = sym (append-nil (days_of on))
marks_days (suc n) lo t k on c h =
    let p = and_parts _ _ c in
    let x : ℕ = number_at t k in
    let q = ranged lo 6 (number_at t k) p.0 in
    let l = q.low in
    let u = q.high in
    let d : days_of (with_day x on) ≡ days_of on ++ (x ∷ []) = ap (places 0) (flags_with x on) ∙ places_set 0 x (flags on) (omega arith) (λ j g. h j (omega arith)) ∙ ap (λ y. days_of on ++ (y ∷ [])) (omega arith) in
    let i = marks_days n (x + 1) t (k + 8) (with_day x on) p.1 (λ j g. ap (λ bs. get_or bs j false) (flags_with x on) ∙ get_or-set_other (flags on) x j true false (omega arith) ∙ h j (omega arith)) in
    i ∙ ap (λ u. u ++ numbers_from n t (k + 8)) d ∙ append_assoc (days_of on) (x ∷ []) (numbers_from n t (k + 8))

marked_days : (n : ℕ) (t : List ℕ) (k : ℕ) → climbs n 0 6 t k ≡ true → days_of (marks n t k no_days) ≡ numbers_from n t k
marked_days n t k c = marks_days n 0 t k no_days c (λ j g. none_marked j) ∙ ap (λ u. u ++ numbers_from n t k) none_days

record WeekRead (t : List ℕ) (k : ℕ) (x : Weekdays × ℕ) : Type 0 where
  pub spelt : Spelt (numbers (days_of x.0)) t k x.1
  pub rise : steps 0 6 (days_of x.0) ≡ true

week_only : (t : List ℕ) (k : ℕ) (x : Weekdays × ℕ) → all_bytes t ≡ true → weekdays t k ≡ Some x → WeekRead t k x
unfolding weekdays
week_only t k x h e =
    let a = went _ _ _ e in
    let wa = row_only 0 7 0 6 t k a.got h a.was in
    let p : Part = a.got.0 in
    let c : climbs p.count 0 6 t p.start ≡ true = climbs_steps p.count 0 6 t p.start ∙ wa.rise in
    let d : days_of (marks p.count t p.start no_days) ≡ numbers_in t p = marked_days p.count t p.start c in
    let all : WeekRead t k (marks p.count t p.start no_days, a.got.1) = record { spelt = subst (λ ns. Spelt (numbers ns) t k a.got.1) (sym d) wa.spelt; rise = ap (steps 0 6) d ∙ wa.rise } in
    rw (some_is _ _ a.goes) at all

pub kind_back : (n : ℕ) → n ≤ 6 → kind_number (kind_of n) ≡ n
kind_back zero h = refl
kind_back (suc zero) h = refl
kind_back (suc (suc zero)) h = refl
kind_back (suc (suc (suc zero))) h = refl
kind_back (suc (suc (suc (suc zero)))) h = refl
kind_back (suc (suc (suc (suc (suc zero))))) h = refl
kind_back (suc (suc (suc (suc (suc (suc zero)))))) h = refl
kind_back (suc (suc (suc (suc (suc (suc (suc n))))))) h = absurd (omega arith)

record RepeatRead (t : List ℕ) (k : ℕ) (x : Repeat × ℕ) : Type 0 where
  pub spelt : Spelt (repeat_spelled (repeat_of x.0)) t k x.1
  pub fit : a_repeat (repeat_of x.0) ≡ true

repeat_only : (t : List ℕ) (k : ℕ) (x : Repeat × ℕ) → all_bytes t ≡ true → repeating t k ≡ Some x → RepeatRead t k x
repeat_only t k x h e =
    let a = went _ _ _ e in
    let wa = narrow_only 0 6 t k a.got a.was in
    let b = went _ _ _ a.goes in
    let wb = wide_only 1 1000 t a.got.1 b.got h b.was in
    let c = went _ _ _ b.goes in
    let wc = week_only t b.got.1 c.got h c.was in
    let d = went _ _ _ c.goes in
    let wd = wide_only 0 10000 t c.got.1 d.got h d.was in
    let l = went _ _ _ d.goes in
    let wl = wide_only 11 72999 t d.got.1 l.got h l.was in
    let kb : kind_number (kind_of a.got.0) ≡ a.got.0 = kind_back a.got.0 wa.high in
    let sk : Spelt (kind_number (kind_of a.got.0) ∷ []) t k a.got.1 = rw kb wa.spelt in
    let hk : leb (kind_number (kind_of a.got.0)) 6 ≡ true = rw kb (le-leb _ _ wa.high) in
    let all : RepeatRead t k (record { kind = kind_of a.got.0; step = b.got.0; weekdays = c.got.0; times = d.got.0; last = l.got.0 }, l.got.1) =
    record {
      spelt = onto (onto (onto (onto sk wb.spelt) wc.spelt) wd.spelt) wl.spelt;
      fit = and_from _ _
          (and_from _ _ (and_from _ _ hk (and_from _ _ (le-leb _ _ wb.low) (le-leb _ _ wb.high)))
          (and_from _ _ (steps_rising 0 6 (days_of c.got.0) wc.rise) (steps_every (λ w. ltb w 7) 0 6 (λ n a b. lt-ltb n 7 (omega arith)) 0 (omega arith) (days_of c.got.0) wc.rise)))
          (and_from _ _ (le-leb _ _ wd.high) (day_from _ wl.low wl.high));
    } in
    rw (some_is _ _ l.goes) at all

bit_back : (b : ℕ) → b ≤ 1 → bit (eqb b 1) ≡ b
bit_back zero h = refl
bit_back (suc zero) h = refl
bit_back (suc (suc b)) h = absurd (omega arith)

under : (m n : ℕ) → n ≤ m → n < suc m
under m n h = omega arith

-- an event between its title and the days left out, in the four parts in which it is spelled
record TimingRead (t : List ℕ) (k : ℕ) (x : Event × ℕ) : Type 0 where
  pub at_1 : ℕ
  pub at_2 : ℕ
  pub at_3 : ℕ
  pub first : Spelt (x.0.zone ∷ eight x.0.first) t k at_1
  pub minute : Spelt (eight x.0.minute) t at_1 at_2
  pub long : Spelt (eight x.0.long) t at_2 at_3
  pub rest : Spelt (bit x.0.busy ∷ repeat_spelled (repeat_of x.0.repeat)) t at_3 x.1
  pub zone_fits : ltb x.0.zone 16 ≡ true
  pub fit : ((a_day x.0.first && ltb x.0.minute 1440) && (leb 1 x.0.long && leb x.0.long 10080)) ≡ true
  pub repeat_fits : a_repeat (repeat_of x.0.repeat) ≡ true

timing_only : (t : List ℕ) (k : ℕ) (x : Event × ℕ) → all_bytes t ≡ true → timing t k ≡ Some x → TimingRead t k x
timing_only t k x h e =
    let z = went _ _ _ e in
    let wz = narrow_only 0 15 t k z.got z.was in
    let f = went _ _ _ z.goes in
    let wf = wide_only 11 72999 t z.got.1 f.got h f.was in
    let m = went _ _ _ f.goes in
    let wm = wide_only 0 1439 t f.got.1 m.got h m.was in
    let l = went _ _ _ m.goes in
    let wl = wide_only 1 10080 t m.got.1 l.got h l.was in
    let b = went _ _ _ l.goes in
    let wb = narrow_only 0 1 t l.got.1 b.got b.was in
    let r = went _ _ _ b.goes in
    let wr = repeat_only t b.got.1 r.got h r.was in
    let y : Spelt (bit (eqb b.got.0 1) ∷ []) t l.got.1 b.got.1 = rw (bit_back b.got.0 wb.high) wb.spelt in
    let all : TimingRead t k (record { zone = z.got.0; first = f.got.0; minute = m.got.0; long = l.got.0; busy = eqb b.got.0 1; repeat = r.got.0 }, r.got.1) =
    record {
      at_1 = f.got.1;
      at_2 = m.got.1;
      at_3 = l.got.1;
      first = onto wz.spelt wf.spelt;
      minute = wm.spelt;
      long = wl.spelt;
      rest = onto y wr.spelt;
      zone_fits = lt-ltb _ _ (under 15 _ wz.high);
      fit = and_from _ _ (and_from _ _ (day_from _ wf.low wf.high) (lt-ltb _ _ (under 1439 _ wm.high))) (and_from _ _ (le-leb _ _ wl.low) (le-leb _ _ wl.high));
      repeat_fits = wr.fit;
    } in
    rw (some_is _ _ r.goes) at all

pub record DraftRead (t : List ℕ) (k : ℕ) (x : Draft × ℕ) : Type 0 where
  pub spelt : Spelt (event_spelled (event_in t x.0)) t k x.1
  pub fit : an_event (event_in t x.0) ≡ true

pub draft_only : (t : List ℕ) (k : ℕ) (x : Draft × ℕ) → all_bytes t ≡ true → draft t k ≡ Some x → DraftRead t k x
draft_only t k x h e =
    let a = went _ _ _ e in
    let wa = text_only 0 255 t k a.got h a.was in
    let v = went _ _ _ a.goes in
    let wv = timing_only t a.got.1 v.got h v.was in
    let o = went _ _ _ v.goes in
    let wo = row_only 0 1000 11 72999 t v.got.1 o.got h o.was in
    let all : DraftRead t k (record { title = a.got.0; event = v.got.0; left_out = o.got.0 }, o.got.1) =
    record {
      spelt = onto (onto (onto (onto (onto wa.spelt wv.first) wv.minute) wv.long) wv.rest) wo.spelt;
      fit = and_from _ _
          (and_from _ _ (and_from _ _ (and_from _ _ (le-leb _ _ wa.most_at) wa.bytes) wv.zone_fits) wv.fit)
          (and_from _ _ wv.repeat_fits
          (and_from _ _ (and_from _ _ (steps_rising 11 72999 (numbers_in t o.got.0) wo.rise) (steps_every a_day 11 72999 day_from 11 (omega arith) (numbers_in t o.got.0) wo.rise)) (le-leb _ _ wo.most_at)));
    } in
    rw (some_is _ _ o.goes) at all

module _ (t : List ℕ) (bytes : all_bytes t ≡ true) (q : Command) where
  pub put_only : find_put t ≡ Some q → Good 3 t q
  unfolding spelled fits
  put_only e =
      let a = went _ _ _ e in
      let wa = wide_only 0 255 t 1 a.got bytes a.was in
      let s = went _ _ _ a.goes in
      let ws = draft_only t a.got.1 s.got bytes s.was in
      let z = ended_only t _ _ _ s.goes in
      let all : Good 3 t (Put a.got.0 s.got.0) =
      record { spelt = ap (λ u. 3 ∷ u) (closed (onto wa.spelt ws.spelt) z.0); fit = and_from _ _ (lt-ltb _ _ (omega arith)) ws.fit } in
      rw z.1 at all

  pub change_only : find_change t ≡ Some q → Good 4 t q
  unfolding spelled fits
  change_only e =
      let a = went _ _ _ e in
      let wa = wide_only 0 255 t 1 a.got bytes a.was in
      let n = went _ _ _ a.goes in
      let wn = wide_only 0 any_number t a.got.1 n.got bytes n.was in
      let s = went _ _ _ n.goes in
      let ws = draft_only t n.got.1 s.got bytes s.was in
      let z = ended_only t _ _ _ s.goes in
      let all : Good 4 t (Change a.got.0 n.got.0 s.got.0) =
      record {
        spelt = ap (λ u. 4 ∷ u) (closed (onto (onto wa.spelt wn.spelt) ws.spelt) z.0);
        fit = and_from _ _ (and_from _ _ (lt-ltb a.got.0 256 (omega arith)) (lt-ltb n.got.0 18446744073709551616 (omega arith))) ws.fit;
      } in
      rw z.1 at all

-- and back
regroup_4 : (a b c d r : List ℕ) → a ++ b ++ c ++ d ++ r ≡ a ++ (b ++ (c ++ (d ++ r)))
regroup_4 a b c d r = simp append_assoc

regroup_6 : (a b c d e f r : List ℕ) → a ++ b ++ c ++ d ++ e ++ f ++ r ≡ a ++ (b ++ (c ++ (d ++ (e ++ (f ++ r)))))
regroup_6 a b c d e f r = simp append_assoc

record WeekBack (ns r t : List ℕ) (k : ℕ) : Type 0 where
  pub got : Weekdays
  pub next : ℕ
  pub reads : weekdays t k ≡ Some (got, next)
  pub rest : drop next t ≡ r
  pub fit : next ≤ length t
  pub means : days_of got ≡ ns

week_back : (t r ns : List ℕ) (k : ℕ) → drop k t ≡ numbers ns ++ r → steps 0 6 ns ≡ true → WeekBack ns r t k
unfolding weekdays
week_back t r ns k e s =
    let few : 0 + length ns ≤ 6 + 1 = steps_few 0 6 ns s (omega arith) in
    let w = row_back 0 7 0 6 t r ns k e (omega arith) (omega arith) (omega arith) (omega arith) s in
    let p : Part = w.part in
    let c : climbs p.count 0 6 t p.start ≡ true = climbs_steps p.count 0 6 t p.start ∙ ap (steps 0 6) w.holds ∙ s in
    record {
      got = marks p.count t p.start no_days;
      next = w.next;
      reads = rw w.reads;
      rest = w.rest;
      fit = w.fit;
      means = marked_days p.count t p.start c ∙ w.holds;
    }

record RepeatBack (r : MeantRepeat) (u t : List ℕ) (k : ℕ) : Type 0 where
  pub got : Repeat
  pub next : ℕ
  pub reads : repeating t k ≡ Some (got, next)
  pub rest : drop next t ≡ u
  pub fit : next ≤ length t
  pub means : repeat_of got ≡ r

repeat_back : (t u : List ℕ) (k : ℕ) (r : MeantRepeat) → drop k t ≡ repeat_spelled r ++ u → a_repeat r ≡ true → RepeatBack r u t k
repeat_back t u k r e h =
    let p = and_parts _ _ h in
    let p0 = and_parts _ _ p.0 in
    let p1 = and_parts _ _ p.1 in
    let ks = and_parts _ _ p0.0 in
    let st = and_parts _ _ ks.1 in
    let ws = and_parts _ _ p0.1 in
    let lk : r.kind ≤ 6 = leb-true _ _ ks.0 in
    let s : steps 0 6 r.weekdays ≡ true = steps_from (λ w. ltb w 7) 0 6 (λ n e. omega arith) (λ n e. let l : n < 7 = ltb-true n 7 e in omega arith) r.weekdays ws.0 ws.1 in
    let e1 = e ∙ regroup_4 (r.kind ∷ eight r.step) (numbers r.weekdays) (eight r.times) (eight r.last) u in
    let w1 = narrow_back 0 6 t _ k r.kind e1 (omega arith) lk in
    let w2 = wide_back 1 1000 t _ (k + 1) r.step w1.rest (leb-true _ _ st.0) (leb-true _ _ st.1) (omega arith) in
    let w3 = week_back t _ r.weekdays (k + 1 + 8) w2.rest s in
    let w4 = wide_back 0 10000 t _ w3.next r.times w3.rest (omega arith) (leb-true _ _ p1.0) (omega arith) in
    let w5 = wide_back 11 72999 t u (w3.next + 8) r.last w4.rest (day_low _ p1.1) (day_high _ p1.1) (omega arith) in
    record {
      got = record { kind = kind_of r.kind; step = r.step; weekdays = w3.got; times = r.times; last = r.last };
      next = w3.next + 8 + 8;
      reads = rw (w1.reads, w2.reads, w3.reads, w4.reads, w5.reads);
      rest = w5.rest;
      fit = w5.fit;
      means = λ i. record { kind = kind_back r.kind lk i; step = r.step; weekdays = w3.means i; times = r.times; last = r.last };
    }

pub record DraftBack (e : MeantEvent) (u t : List ℕ) (k : ℕ) : Type 0 where
  pub got : Draft
  pub next : ℕ
  pub reads : draft t k ≡ Some (got, next)
  pub rest : drop next t ≡ u
  pub fit : next ≤ length t
  pub means : event_in t got ≡ e

bit_low : (b : Bool) → bit b ≤ 1
bit_low true = omega arith
bit_low false = omega arith

pub bit_same : (b : Bool) → eqb (bit b) 1 ≡ b
bit_same true = refl
bit_same false = refl

pub draft_back : (t u : List ℕ) (k : ℕ) (e : MeantEvent) → drop k t ≡ event_spelled e ++ u → an_event e ≡ true → DraftBack e u t k
draft_back t u k e q h =
    let p = and_parts _ _ h in
    let p0 = and_parts _ _ p.0 in
    let tz = and_parts _ _ p0.0 in
    let ti = and_parts _ _ tz.0 in
    let fm = and_parts _ _ p0.1 in
    let fi = and_parts _ _ fm.0 in
    let lo = and_parts _ _ fm.1 in
    let p1 = and_parts _ _ p.1 in
    let ou = and_parts _ _ p1.1 in
    let ro = and_parts _ _ ou.0 in
    let s : steps 11 72999 e.left_out ≡ true = steps_from a_day 11 72999 day_low day_high e.left_out ro.0 ro.1 in
    let lz : e.zone < 16 = ltb-true _ _ tz.1 in
    let lm : e.minute < 1440 = ltb-true _ _ fi.1 in
    let q1 = q ∙ regroup_6 (with_length e.title) (e.zone ∷ eight e.first) (eight e.minute) (eight e.long) (bit e.busy ∷ repeat_spelled e.repeat) (numbers e.left_out) u
    ∙ append_assoc (eight (length e.title)) e.title _ in
    let w1 = text_back 0 255 t _ e.title k q1 (omega arith) (leb-true _ _ ti.0) (omega arith) in
    let w2 = narrow_back 0 15 t _ w1.next e.zone w1.rest (omega arith) (omega arith) in
    let w3 = wide_back 11 72999 t _ (w1.next + 1) e.first w2.rest (day_low _ fi.0) (day_high _ fi.0) (omega arith) in
    let w4 = wide_back 0 1439 t _ (w1.next + 1 + 8) e.minute w3.rest (omega arith) (omega arith) (omega arith) in
    let w5 = wide_back 1 10080 t _ (w1.next + 1 + 8 + 8) e.long w4.rest (leb-true _ _ lo.0) (leb-true _ _ lo.1) (omega arith) in
    let w6 = narrow_back 0 1 t _ (w1.next + 1 + 8 + 8 + 8) (bit e.busy) w5.rest (omega arith) (bit_low e.busy) in
    let w7 = repeat_back t (numbers e.left_out ++ u) (w1.next + 1 + 8 + 8 + 8 + 1) e.repeat w6.rest p1.0 in
    let w8 = row_back 0 1000 11 72999 t u e.left_out w7.next w7.rest (omega arith) (leb-true _ _ ou.1) (omega arith) (omega arith) s in
    record {
      got = record { title = w1.part; event = record { zone = e.zone; first = e.first; minute = e.minute; long = e.long; busy = eqb (bit e.busy) 1; repeat = w7.got }; left_out = w8.part };
      next = w8.next;
      reads = rw (w1.reads, w2.reads, w3.reads, w4.reads, w5.reads, w6.reads, w7.reads, w8.reads);
      rest = w8.rest;
      fit = w8.fit;
      means = λ i. record { title = w1.holds i; zone = e.zone; first = e.first; minute = e.minute; long = e.long; busy = bit_same e.busy i; repeat = w7.means i; left_out = w8.holds i };
    }

pub put_back : (t : List ℕ) (a : ℕ) (e : MeantEvent) → drop 1 t ≡ eight a ++ event_spelled e → fits (put a e) ≡ true → Found (find_put t) t (put a e)
unfolding fits
put_back t a e q f =
    let p = and_parts _ _ f in
    let la : a < 256 = ltb-true _ _ p.0 in
    let wa = wide_back 0 255 t (event_spelled e) 1 a q (omega arith) (omega arith) (omega arith) in
    let w = draft_back t [] 9 e (wa.rest ∙ sym (append-nil (event_spelled e))) p.1 in
    record { got = Put a w.got; was = rw (wa.reads, w.reads, ended_back t w.next (Put a w.got) w.rest w.fit); means = ap (put a) w.means }

pub change_back : (t : List ℕ) (a n : ℕ) (e : MeantEvent) → drop 1 t ≡ eight a ++ eight n ++ event_spelled e → fits (change a n e) ≡ true → Found (find_change t) t (change a n e)
unfolding fits
change_back t a n e q f =
    let p = and_parts _ _ f in
    let o = and_parts _ _ p.0 in
    let la : a < 256 = ltb-true _ _ o.0 in
    let ln : n < 18446744073709551616 = ltb-true _ _ o.1 in
    let wa = wide_back 0 255 t (eight n ++ event_spelled e) 1 a (q ∙ append_assoc (eight a) (eight n) (event_spelled e)) (omega arith) (omega arith) (omega arith) in
    let wn = wide_back 0 any_number t (event_spelled e) 9 n wa.rest (omega arith) (omega arith) (omega arith) in
    let w = draft_back t [] 17 e (wn.rest ∙ sym (append-nil (event_spelled e))) p.1 in
    record { got = Change a n w.got; was = rw (wa.reads, wn.reads, w.reads, ended_back t w.next (Change a n w.got) w.rest w.fit); means = ap (change a n) w.means }
