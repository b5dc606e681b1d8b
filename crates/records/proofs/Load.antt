-- An event reads back.
use Rattle.std.proofs.Common.{◌≡◌, ℕ, zero, suc, ◌+◌, ◌-◌, ◌*◌, ◌<◌, ◌≤◌, Bool, true, false, eqb, ltb, leb, List, [], ◌∷◌, ◌++◌, length, take, drop, sym, refl, ap, ◌∙◌, ap₂, append_assoc, zero-le, arith, length-append, length-drop, take-append-drop}
use Rattle.std.proofs.lemmas.Bool.{eq-eqb, ne_eqb, eqb-true, eqb-false, ltb-true, leb-true, leb-false, and_parts}
use Rattle.std.proofs.lemmas.List.{drop-drop, drop_at, take_at, take-append-le}
use Rattle.pages.specs.Lists.{pick, every, those, flat, bit}
use Rattle.pages.specs.Bytes.{in_bytes}
use Rattle.pages.specs.Device.{Page, page_at, zeros}
use Rattle.pages.specs.Fields.{number, at, Field, fields, pad}
use Rattle.pages.specs.Cells.{Cell, cell, looked_up, times, keys}
use Rattle.pages.proofs.Fields.{field_back, drop_fields, number_back, drop_in_bytes, in_bytes_append, length_in_bytes}
use Rattle.pages.proofs.Cells.{tk, tk_append, looked_up_at, bit_small}
use Rattle.dates.specs.Limits.{a_day}
use Rattle.recurrence.specs.Event.{Event, has, rising}
use Rattle.recurrence.specs.Span.{days_from}
use Rattle.records.specs.Layout.{fours, Slot, Ghost, first_page, first_fields, further_cells, slot_cells, all_cells, image, body}
use Rattle.records.specs.Does.{title_in, days_in, more_in, read_threes, body_in, repeat_in, event_from, load}
use Rattle.records.proofs.Holds.{Sound, SoundSlot}
use Rattle.records.proofs.Fours.{Below, drop_fours}
use Rattle.records.proofs.Find.{first_title, first_days}
use Rattle.records.proofs.Views.{event_is}
use Rattle.records.proofs.Bounds.{bounds}
use Rattle.records.proofs.Events.{bit_same}

-- A BODY over pages
pad_long : (w : ℕ) (bs : List ℕ) → w ≤ length bs → pad w bs ≡ take w bs
unfolding pad
pad_long w bs h = take-append-le w bs (zeros w) h

pad_short : (w : ℕ) (bs : List ℕ) → length bs ≤ w → (z : List ℕ) × (pad w bs ≡ bs ++ z)
unfolding pad
pad_short w bs h = (take (w - length bs) (zeros w), go w bs (zeros w) h)
  where
    go : (w : ℕ) (bs r : List ℕ) → length bs ≤ w → take w (bs ++ r) ≡ bs ++ take (w - length bs) r
    go w [] r h = ap (λ k. take k r) (omega arith)
    go zero (x ∷ bs) r h = let no : ⊥ = omega arith in absurd no
    go (suc w) (x ∷ bs) r h = ap (λ z. x ∷ z) (go w bs r (omega arith) ∙ ap (λ k. bs ++ take k r) (omega arith))

unfoldable spread : List ℕ → List ℕ → List ℕ
spread [] bs = []
spread (a ∷ as₁) bs = pad 511 bs ++ spread as₁ (drop 511 bs)

-- one page, and what comes on others
on_one : (w : ℕ) (bs r z : List ℕ) → r ≡ drop w bs ++ z → (y : List ℕ) × (pad w bs ++ r ≡ bs ++ y)
on_one w bs r z e = go (leb w (length bs)) refl
  where
    go : (t : Bool) → leb w (length bs) ≡ t → (y : List ℕ) × (pad w bs ++ r ≡ bs ++ y)
    go true q = (z, ap₂ ◌++◌ (pad_long w bs (leb-true w (length bs) q)) e ∙ sym (append_assoc (take w bs) (drop w bs) z) ∙ ap (λ x. x ++ z) (take-append-drop w bs))
    go false q =
        let l = leb-false w (length bs) q in
        let p = pad_short w bs (omega arith) in
        (p.0 ++ r, ap (λ x. x ++ r) p.1 ∙ append_assoc bs p.0 r)

spread_is : (as₁ bs : List ℕ) → length bs ≤ 511 * length as₁ → (z : List ℕ) × (spread as₁ bs ≡ bs ++ z)
unfolding spread
spread_is [] [] h = ([], refl)
spread_is [] (x ∷ bs) h = let no : ⊥ = omega arith in absurd no
spread_is (a ∷ as₁) bs h =
    let ih = spread_is as₁ (drop 511 bs) (omega (arith, length-drop 511 bs)) in
    on_one 511 bs (spread as₁ (drop 511 bs)) ih.0 ih.1

-- DAYS
threes_back : (ds z : List ℕ) → Below 16777216 ds → read_threes (length ds) (flat (λ d. in_bytes 3 d []) ds ++ z) ≡ ds
unfolding Below read_threes
threes_back [] z h = refl
threes_back (d ∷ ds) z h =
    let r = flat (λ d. in_bytes 3 d []) ds ++ z in
    let e : (in_bytes 3 d [] ++ flat (λ d. in_bytes 3 d []) ds) ++ z ≡ in_bytes 3 d r = append_assoc (in_bytes 3 d []) _ z ∙ in_bytes_append 3 d [] r in
    ap₂ ◌∷◌ (ap (number 3) e ∙ number_back 3 d r h.0) (ap (λ x. read_threes (length ds) (drop 3 x)) e ∙ ap (read_threes (length ds)) (drop_in_bytes 3 d r) ∙ threes_back ds z h.1)

days_below : (ds : List ℕ) → every a_day ds ≡ true → Below 16777216 ds
unfolding Below
days_below [] h = tt
days_below (d ∷ ds) h =
    let p = (and_parts (a_day d) (every a_day ds) h).0 in
    let l = ltb-true d 73000 (and_parts (leb 11 d) (ltb d 73000) p).1 in
    (omega arith, days_below ds (and_parts (a_day d) (every a_day ds) h).1)

-- WEEKDAYS: a rising list is those that it has
unfoldable pub all_from : ℕ → List ℕ → Type 0
all_from i [] = Unit
all_from i (w ∷ ws) = (i ≤ w) × all_from (suc w) ws

pub weaker : (i j : ℕ) (ws : List ℕ) → i ≤ j → all_from j ws → all_from i ws
unfolding all_from
weaker i j [] l h = tt
weaker i j (w ∷ ws) l h = (omega (arith, h.0), h.1)

pub rises : (w : ℕ) (ws : List ℕ) → rising (w ∷ ws) ≡ true → all_from (suc w) ws
unfolding rising all_from
rises w [] h = tt
rises w (v ∷ ws) h = (ltb-true w v (and_parts (ltb w v) _ h).0, rises v ws (and_parts (ltb w v) _ h).1)

has_not : (i : ℕ) (ws : List ℕ) → all_from (suc i) ws → has ws i ≡ false
unfolding all_from
has_not i [] h = refl
has_not i (w ∷ ws) h = rw (ne_eqb i w (omega (arith, h.0))) (has_not i ws (weaker (suc i) (suc w) ws (omega (arith, h.0)) h.1))

-- from one on, one number more at the front changes nothing
those_same : (i j m : ℕ) (ws : List ℕ) → i < j → those (has (i ∷ ws)) (days_from j m) ≡ those (has ws) (days_from j m)
unfolding days_from
those_same i j zero ws l = refl
those_same i j (suc m) ws l = rw (ne_eqb j i (omega arith)) (go (has ws j) (those_same i (suc j) m ws (omega arith)))
  where
    go : (t : Bool) → those (has (i ∷ ws)) (days_from (suc j) m) ≡ those (has ws) (days_from (suc j) m) →
        pick t (j ∷ those (has (i ∷ ws)) (days_from (suc j) m)) (those (has (i ∷ ws)) (days_from (suc j) m)) ≡ pick t (j ∷ those (has ws) (days_from (suc j) m)) (those (has ws) (days_from (suc j) m))
    go true e = ap (λ z. j ∷ z) e
    go false e = e

none_has : (j m : ℕ) → those (has []) (days_from j m) ≡ []
unfolding days_from
none_has j zero = refl
none_has j (suc m) = none_has (suc j) m

weekdays_back : (m i : ℕ) (ws : List ℕ) → all_from i ws → Below (i + m) ws → those (has ws) (days_from i m) ≡ ws
unfolding days_from all_from Below
weekdays_back m i [] h b = none_has i m
weekdays_back zero i (w ∷ ws) h b = let no : ⊥ = omega (arith, h.0, b.0) in absurd no
weekdays_back (suc m) i (w ∷ ws) h b = go (eqb i w) refl (weekdays_back m (suc i) ws) (weekdays_back m (suc i) (w ∷ ws))
  where
    below_so : (xs : List ℕ) → Below (i + suc m) xs → Below (suc i + m) xs
    below_so xs k = rw (let e : suc i + m ≡ i + suc m = omega arith in e) k

    go : (t : Bool) → eqb i w ≡ t → (all_from (suc i) ws → Below (suc i + m) ws → those (has ws) (days_from (suc i) m) ≡ ws) →
        ((suc i ≤ w) × all_from (suc w) ws → (w < suc i + m) × Below (suc i + m) ws → those (has (w ∷ ws)) (days_from (suc i) m) ≡ w ∷ ws) →
        those (has (w ∷ ws)) (days_from i (suc m)) ≡ w ∷ ws
    go true q f k =
        let e = eqb-true i w q in
        rw q (ap₂ ◌∷◌ e (ap (λ x. those (has (x ∷ ws)) (days_from (suc i) m)) (sym e) ∙ those_same i (suc i) m ws (omega arith) ∙ f (rw e h.1) (below_so ws b.1)))
    go false q f k =
        let e = eqb-false i w q in
        let l : suc i ≤ w = omega (arith, h.0) in
        rw (q, has_not i ws (weaker (suc i) (suc w) ws (omega arith) h.1)) (k (l, h.1) (omega (arith, b.0), below_so ws b.1))

seven : (f h : ℕ → Bool) → f 0 ≡ h 0 → f 1 ≡ h 1 → f 2 ≡ h 2 → f 3 ≡ h 3 → f 4 ≡ h 4 → f 5 ≡ h 5 → f 6 ≡ h 6 → those f (days_from 0 7) ≡ those h (days_from 0 7)
unfolding days_from
seven f h e0 e1 e2 e3 e4 e5 e6 = rw (e0, e1, e2, e3, e4, e5, e6)

week_below_so : (ws : List ℕ) → every (λ w. ltb w 7) ws ≡ true → Below 7 ws
unfolding Below
week_below_so [] h = tt
week_below_so (w ∷ ws) h = (ltb-true w 7 (and_parts (ltb w 7) _ h).0, week_below_so ws (and_parts (ltb w 7) (every (λ w. ltb w 7) ws) h).1)

pub from_zero : (ws : List ℕ) → rising ws ≡ true → all_from 0 ws
unfolding all_from
from_zero [] h = tt
from_zero (w ∷ ws) h = (zero-le, rises w ws h)

bit_byte : (t : Bool) → bit t < 256
bit_byte t = omega (arith, bit_small t)

-- THE EVENT from its first page and its body
module _ (l : ℕ) (s : Slot) (ok : SoundSlot s) (z : List ℕ) where
  abbrev e : Event
  e = s.event

  abbrev fs : List Field
  fs = first_fields l s.number e

  abbrev rest : List ℕ
  rest = fours 22 s.more (pad 384 (body e))

  repeat_back : repeat_in (first_page l s) ≡ e.repeat
  unfolding first_page
  repeat_back =
      let b = bounds e ok.fits in
      let kind_so = field_back fs rest 10 (omega (arith, b.kind_in)) in
      let step_so = field_back fs rest 11 (omega (arith, b.step_in)) in
      let times_so = field_back fs rest 12 (omega (arith, b.times_in)) in
      let last_so = field_back fs rest 13 (omega (arith, b.last_in)) in
      let bb : (t : Bool) (x : ℕ) → x ≡ bit t → eqb x 1 ≡ t = λ t x q. ap (λ y. eqb y 1) q ∙ bit_same t in
      let ws = e.repeat.weekdays in
      let week_so : those (λ w. eqb (at (33 + w) 1 (first_page l s)) 1) (days_from 0 7) ≡ ws =
      seven (λ w. eqb (at (33 + w) 1 (first_page l s)) 1) (has ws)
      (bb (has ws 0) _ (field_back fs rest 14 (bit_byte (has ws 0)))) (bb (has ws 1) _ (field_back fs rest 15 (bit_byte (has ws 1))))
      (bb (has ws 2) _ (field_back fs rest 16 (bit_byte (has ws 2)))) (bb (has ws 3) _ (field_back fs rest 17 (bit_byte (has ws 3))))
      (bb (has ws 4) _ (field_back fs rest 18 (bit_byte (has ws 4)))) (bb (has ws 5) _ (field_back fs rest 19 (bit_byte (has ws 5))))
      (bb (has ws 6) _ (field_back fs rest 20 (bit_byte (has ws 6))))
      ∙ weekdays_back 7 0 ws (from_zero ws b.week_rising) (week_below_so ws b.week_below) in
      λ i. record { kind = kind_so i; step = step_so i; weekdays = week_so i; times = times_so i; last = last_so i }

  pub event_back : event_from (first_page l s) (body e ++ z) ≡ e
  unfolding first_page body
  event_back =
      let b = bounds e ok.fits in
      let t = first_title l s ok in
      let d = first_days l s ok in
      let days = flat (λ d. in_bytes 3 d []) e.left_out in
      let title_so : take (title_in (first_page l s)) (body e ++ z) ≡ e.title =
      ap₂ take t (append_assoc e.title days z) ∙ take_at e.title (days ++ z) (length e.title) refl in
      let left_so : read_threes (days_in (first_page l s)) (drop (title_in (first_page l s)) (body e ++ z)) ≡ e.left_out =
      ap₂ read_threes d (ap₂ drop t (append_assoc e.title days z) ∙ drop_at e.title (days ++ z) (length e.title) refl)
      ∙ threes_back e.left_out z (days_below e.left_out b.days_in) in
      let zone_so = field_back fs rest 5 (omega (arith, b.zone_in)) in
      let first_so = field_back fs rest 6 (omega (arith, b.first_in)) in
      let minute_so = field_back fs rest 7 (omega (arith, b.minute_in)) in
      let long_so = field_back fs rest 8 (omega (arith, b.long_in)) in
      let busy_so : eqb (at 24 1 (first_page l s)) 1 ≡ e.busy = ap (λ y. eqb y 1) (field_back fs rest 9 (bit_byte e.busy)) ∙ bit_same e.busy in
      λ i. record { title = title_so i; zone = zone_so i; first = first_so i; minute = minute_so i; long = long_so i; busy = busy_so i; repeat = repeat_back i; left_out = left_so i }

  -- what the first page has of the body
  pub first_body : drop 128 (first_page l s) ≡ pad 384 (body e)
  unfolding first_page
  first_body =
      sym (drop-drop 88 40 (fields fs rest)) ∙ ap (drop 88) (drop_fields fs rest) ∙ drop_fours 22 s.more (pad 384 (body e))

-- AT ITS PLACE
body_long : (e : Event) → length (body e) ≡ length e.title + 3 * length e.left_out
unfolding body
body_long e = length-append e.title _ ∙ omega (arith, go e.left_out)
  where
    go : (ds : List ℕ) → length (flat (λ d. in_bytes 3 d []) ds) ≡ 3 * length ds
    go [] = refl
    go (d ∷ ds) = length-append (in_bytes 3 d []) _ ∙ omega (arith, length_in_bytes 3 d [], go ds)

module _ (n b : ℕ) (ps : List Page) (g : Ghost) (sd : Sound n b g) (sz : length ps ≡ n - 59) (sh : (k : ℕ) → k < length ps → page_at ps k ≡ image g k) where
  pub cell_seen : (k : ℕ) (p : Page) (pre post : List Cell) → all_cells g.owners ≡ pre ++ (cell k p ∷ post) → page_at ps k ≡ p
  unfolding keys times
  cell_seen k p pre post e =
      let t = ap (λ c. tk c k) e ∙ tk_append pre (cell k p ∷ post) k in
      let own : tk (cell k p ∷ post) k ≡ 1 + tk post k = rw (eq-eqb k k refl) in
      let r = sd.range k (omega arith) in
      event_is n b ps g sd sz sh k r.0 r.1 ∙ ap (λ c. looked_up c k (zeros 512)) e ∙ looked_up_at pre post k p (zeros 512) (omega (arith, sd.once k))

  further_seen : (as₁ bs : List ℕ) (pre post : List Cell) → all_cells g.owners ≡ pre ++ (further_cells as₁ bs ++ post) → flat (λ a. drop 1 (page_at ps a)) as₁ ≡ spread as₁ bs
  unfolding further_cells spread
  further_seen [] bs pre post e = refl
  further_seen (a ∷ as₁) bs pre post e =
      ap₂ ◌++◌ (ap (drop 1) (cell_seen a (2 ∷ pad 511 bs) pre (further_cells as₁ (drop 511 bs) ++ post) e))
      (further_seen as₁ (drop 511 bs) (pre ++ cell a (2 ∷ pad 511 bs) ∷ []) post (e ∙ sym (append_assoc pre (cell a (2 ∷ pad 511 bs) ∷ []) _)))

  pub loads : (s : Slot) (l : ℕ) (pre post : List Cell) → all_cells g.owners ≡ pre ++ (slot_cells l s ++ post) → SoundSlot s → more_in (first_page l s) ≡ s.more → load ps s.place ≡ s.event
  unfolding load
  loads s l pre post e ok more_so =
      let p = cell_seen s.place (first_page l s) pre (further_cells s.more (drop 384 (body s.event)) ++ post) e in
      let f = further_seen s.more (drop 384 (body s.event)) (pre ++ cell s.place (first_page l s) ∷ []) post (e ∙ sym (append_assoc pre (cell s.place (first_page l s) ∷ []) _)) in
      let sp = spread_is s.more (drop 384 (body s.event)) (omega (arith, length-drop 384 (body s.event), body_long s.event, ok.count)) in
      let o = on_one 384 (body s.event) (spread s.more (drop 384 (body s.event))) sp.0 sp.1 in
      let bi : body_in ps s.place ≡ body s.event ++ o.0 =
      ap (λ x. drop 128 x ++ flat (λ a. drop 1 (page_at ps a)) (more_in x)) p ∙ ap₂ ◌++◌ (first_body l s ok []) (ap (flat (λ a. drop 1 (page_at ps a))) more_so ∙ f) ∙ o.1 in
      ap₂ event_from p bi ∙ event_back l s ok o.0
