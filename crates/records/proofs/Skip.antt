-- A day of an event is left out.
use Rattle.std.proofs.Common.{◌≡◌, ℕ, suc, ◌-◌, ◌<◌, ◌≤◌, Bool, true, false, ◌&&◌, eqb, ltb, leb, List, [], ◌∷◌, ◌++◌, length, sym, refl, ap, ◌∙◌, subst, zero-le, arith}
use Rattle.std.proofs.lemmas.Bool.{lt-ltb, le-leb, eq-eqb, eqb-false, ltb-true, ltb-false, leb-false, and_parts, and_from}
use Rattle.pages.specs.Lists.{pick, every, each}
use Rattle.pages.specs.Device.{Page, page_at}
use Rattle.pages.specs.Cells.{times}
use Rattle.pages.specs.Bytes.{all_bytes}
use Rattle.dates.specs.Limits.{a_day}
use Rattle.recurrence.specs.Event.{an_event, Event, occurs, rising, a_repeat}
use Rattle.records.specs.House.{Plain, turn, Entry, changed, put_number, left_out_too}
use Rattle.records.specs.Layout.{Slot, Owner, Ghost, entry, entries_of, plain, image}
use Rattle.records.specs.Command.{skip, change}
use Rattle.records.specs.Does.{do_skip, do_change}
use Rattle.records.proofs.Holds.{Each, Sound, numbers_of, Holds, Result}
use Rattle.records.proofs.Chains.{owner_at, people_at, people_many}
use Rattle.records.proofs.Views.{count_is}
use Rattle.records.proofs.Find.{Where, nowhere, there, look}
use Rattle.records.proofs.Entries.{each_append, entries_append, Other, others, entry_none, changed_there, spot_none}
use Rattle.records.proofs.Edits.{refused_so}
use Rattle.records.proofs.Load.{all_from, from_zero}
use Rattle.records.proofs.There.{There, it_is}
use Rattle.records.proofs.Change.{change_right}
use Rattle.records.proofs.Bounds.{bounds}

-- A DAY MORE
put_from : (d i : ℕ) (ds : List ℕ) → i ≤ d → all_from i ds → all_from i (put_number d ds)
unfolding put_number all_from
put_from d i [] l h = (l, tt)
put_from d i (k ∷ ks) l h = go (eqb d k) (ltb d k) refl refl (λ m. put_from d (suc k) ks m h.1)
  where
    go : (t u : Bool) → eqb d k ≡ t → ltb d k ≡ u → (suc k ≤ d → all_from (suc k) (put_number d ks)) → all_from i (pick t (k ∷ ks) (pick u (d ∷ k ∷ ks) (k ∷ put_number d ks)))
    go true u p q ih = h
    go false true p q ih = (l, (ltb-true d k q, h.1))
    go false false p q ih = let e = eqb-false d k p in let m = ltb-false d k q in (h.0, ih (omega arith))

from_rising : (i : ℕ) (ds : List ℕ) → all_from i ds → rising ds ≡ true
unfolding rising all_from
from_rising i [] h = refl
from_rising i (d ∷ []) h = refl
from_rising i (d ∷ k ∷ ks) h = and_from (ltb d k) _ (lt-ltb d k h.1.0) (from_rising (suc d) (k ∷ ks) h.1)

put_days : (d : ℕ) (ds : List ℕ) → a_day d ≡ true → every a_day ds ≡ true → every a_day (put_number d ds) ≡ true
unfolding put_number
put_days d [] p h = and_from (a_day d) true p refl
put_days d (k ∷ ks) p h = go (eqb d k) (ltb d k) (put_days d ks p (and_parts (a_day k) (every a_day ks) h).1)
  where
    go : (t u : Bool) → every a_day (put_number d ks) ≡ true → every a_day (pick t (k ∷ ks) (pick u (d ∷ k ∷ ks) (k ∷ put_number d ks))) ≡ true
    go true u ih = h
    go false true ih = and_from (a_day d) _ p h
    go false false ih = and_from (a_day k) _ (and_parts (a_day k) (every a_day ks) h).0 ih

put_long : (d : ℕ) (ds : List ℕ) → length (put_number d ds) ≤ suc (length ds)
unfolding put_number
put_long d [] = omega arith
put_long d (k ∷ ks) = go (eqb d k) (ltb d k) (put_long d ks)
  where
    go : (t u : Bool) → length (put_number d ks) ≤ suc (length ks) → length (pick t (k ∷ ks) (pick u (d ∷ k ∷ ks) (k ∷ put_number d ks))) ≤ suc (suc (length ks))
    go true u ih = omega arith
    go false true ih = omega arith
    go false false ih = omega arith

-- the tests that a day left out does not touch
abbrev front : Event → Bool
front e = ((leb (length e.title) 255 && all_bytes e.title) && ltb e.zone 16) && ((a_day e.first && ltb e.minute 1440) && (leb 1 e.long && leb e.long 10080))

still_event : (d : ℕ) (e : Event) → a_day d ≡ true → an_event e ≡ true → length e.left_out < 1000 → an_event (left_out_too d e) ≡ true
still_event d e p h l =
    let b = bounds e h in
    let parts = and_parts (front e) _ h in
    let rule = and_parts (a_repeat e.repeat) _ parts.1 in
    let rises = from_rising 0 _ (put_from d 0 e.left_out zero-le (from_zero e.left_out b.days_rising)) in
    let few = le-leb (length (put_number d e.left_out)) 1000 (omega (arith, put_long d e.left_out)) in
    and_from (front e) _ parts.0 (and_from (a_repeat e.repeat) _ rule.0 (and_from _ _ (and_from _ _ rises (put_days d e.left_out p b.days_in)) few))

-- as a change
abbrev skipped : ℕ → ℕ → Entry → Entry
skipped num d x = pick (eqb x.number num) (record { number = num; event = left_out_too d x.event }) x

none_skipped : (xs : List Entry) (num d : ℕ) → Each (Other num) xs → each (skipped num d) xs ≡ xs
unfolding Each Other
none_skipped [] num d h = refl
none_skipped (x ∷ xs) num d h = rw h.0 (ap (λ z. x ∷ z) (none_skipped xs num d h.1))

skipped_there : (cs : List Slot) (s : Slot) (ss : List Slot) (num d : ℕ) → times (numbers_of cs) num ≡ 0 → times (numbers_of ss) num ≡ 0 → s.number ≡ num →
    each (skipped num d) (entries_of (cs ++ s ∷ ss)) ≡ each (changed num (left_out_too d s.event)) (entries_of (cs ++ s ∷ ss))
skipped_there cs s ss num d zc zs is =
    (ap (each (skipped num d)) (entries_append cs (s ∷ ss)) ∙ each_append (skipped num d) (entries_of ss ++ entry s ∷ []) (entries_of cs)
    ∙ ap (λ z. z ++ each (skipped num d) (entries_of cs)) (each_append (skipped num d) (entries_of ss) (entry s ∷ []))
    ∙ rw (none_skipped (entries_of ss) num d (others ss num zs), none_skipped (entries_of cs) num d (others cs num zc), eq-eqb s.number num is)
    (sym (entries_append cs (record { number = num; event = left_out_too d s.event; place = 0; more = [] } ∷ ss))))
    ∙ sym (changed_there cs s ss num zc zs is (left_out_too d s.event) 0 [])

module _ (n b : ℕ) (ps : List Page) (g : Ghost) (sd : Sound n b g) (sz : length ps ≡ n - 59) (sh : (k : ℕ) → k < length ps → page_at ps k ≡ image g k) (hb : b < 18446744073709551615)
    (a num d : ℕ) (dd : a_day d ≡ true) where
  abbrev held : Holds n b ps (plain g)
  held = record { ghost = g; is = refl; sound = sd; size = sz; shown = sh }

  module _ (q : ltb a (length g.owners) ≡ true) where
    abbrev la : a < length g.owners
    la = ltb-true a (length g.owners) q

    abbrev o : Owner
    o = owner_at g.owners a

    module _ (cs : List Slot) (s : Slot) (ss : List Slot) (ch : o.chain ≡ cs ++ s ∷ ss) (zc : times (numbers_of cs) num ≡ 0) (is : s.number ≡ num) where
      it : There n b ps g a num cs s ss
      it = it_is n b ps g sd sz sh hb a num la cs s ss ch zc is

      turn_same : occurs s.event d ≡ true → leb 1000 (length s.event.left_out) ≡ false → turn (plain g) (skip a num d) ≡ turn (plain g) (change a num (left_out_too d s.event))
      unfolding turn
      turn_same x y =
          let r = ap (λ c. each (skipped num d) (entries_of c)) ch ∙ skipped_there cs s ss num d zc it.rest_free is
          ∙ ap (λ c. each (changed num (left_out_too d s.event)) (entries_of c)) (sym ch) in
          rw (people_many g.owners, q, people_at g.owners a, it.entry_is, x, y, r)

      do_same : occurs s.event d ≡ true → leb 1000 (length s.event.left_out) ≡ false → do_skip n ps a num d ≡ do_change n ps a num (left_out_too d s.event)
      unfolding do_skip do_change
      do_same x y = rw (count_is n b ps g sd sz sh, q, it.spot_is, it.some, it.loaded, x, y)

      skip_there : (t u : Bool) → occurs s.event d ≡ t → leb 1000 (length s.event.left_out) ≡ u → Result n (suc b) ps (plain g) (turn (plain g) (skip a num d)) (do_skip n ps a num d)
      unfolding turn do_skip
      skip_there false u x y = rw (people_many g.owners, q, people_at g.owners a, it.entry_is, x, count_is n b ps g sd sz sh, q, it.spot_is, it.some, it.loaded, x) (refused_so n b 3 ps (plain g) held)
      skip_there true true x y = rw (people_many g.owners, q, people_at g.owners a, it.entry_is, x, y, count_is n b ps g sd sz sh, q, it.spot_is, it.some, it.loaded, x, y) (refused_so n b 7 ps (plain g) held)
      skip_there true false x y =
          rw (turn_same x y, do_same x y)
          (change_right n b ps (plain g) a num (left_out_too d s.event) held hb
          (still_event d s.event dd it.slot_so.fits (leb-false 1000 _ y)))

    skip_any : Where o.chain num → Result n (suc b) ps (plain g) (turn (plain g) (skip a num d)) (do_skip n ps a num d)
    unfolding turn do_skip
    skip_any (nowhere z) = rw (people_many g.owners, q, people_at g.owners a, entry_none o.chain num z, count_is n b ps g sd sz sh, q, spot_none n b ps g sd sz sh hb a num la z) (refused_so n b 3 ps (plain g) held)
    skip_any (there cs s ss ch zc is) = skip_there cs s ss ch zc is _ _ refl refl

  skip_all : (t : Bool) → ltb a (length g.owners) ≡ t → Result n (suc b) ps (plain g) (turn (plain g) (skip a num d)) (do_skip n ps a num d)
  unfolding turn do_skip
  skip_all true q = skip_any q (look (owner_at g.owners a).chain num)
  skip_all false q = rw (people_many g.owners, q, count_is n b ps g sd sz sh, q) (refused_so n b 3 ps (plain g) held)

-- SKIP is the plain house's
pub skip_right : (n b : ℕ) (ps : List Page) (w : Plain) (a num d : ℕ) → Holds n b ps w → b < 18446744073709551615 → a_day d ≡ true → Result n (suc b) ps w (turn w (skip a num d)) (do_skip n ps a num d)
skip_right n b ps w a num d h hb dd =
    subst (λ v. Result n (suc b) ps v (turn v (skip a num d)) (do_skip n ps a num d)) h.is
    (skip_all n b ps h.ghost h.sound h.size h.shown hb a num d dd (ltb a (length h.ghost.owners)) refl)
