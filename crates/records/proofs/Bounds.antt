-- What an event that fits is: its tests, taken apart once.
use Rattle.std.proofs.Common.{◌≡◌, ℕ, ◌<◌, ◌≤◌, true, ltb, length}
use Rattle.std.proofs.lemmas.Bool.{ltb-true, leb-true, and_parts}
use Rattle.pages.specs.Lists.{every}
use Rattle.pages.specs.Bytes.{all_bytes}
use Rattle.dates.specs.Limits.{a_day}
use Rattle.recurrence.specs.Event.{Event, an_event, rising}

pub record Bounds (e : Event) : Type 0 where
  pub title_few : length e.title ≤ 255
  pub title_bytes : all_bytes e.title ≡ true
  pub zone_in : e.zone < 16
  pub first_in : e.first < 73000
  pub minute_in : e.minute < 1440
  pub long_in : e.long ≤ 10080
  pub kind_in : e.repeat.kind ≤ 6
  pub step_in : e.repeat.step ≤ 1000
  pub times_in : e.repeat.times ≤ 10000
  pub last_in : e.repeat.last < 73000
  pub week_rising : rising e.repeat.weekdays ≡ true
  pub week_below : every (λ w. ltb w 7) e.repeat.weekdays ≡ true
  pub days_rising : rising e.left_out ≡ true
  pub days_in : every a_day e.left_out ≡ true
  pub days_few : length e.left_out ≤ 1000

pub day_in : (d : ℕ) → a_day d ≡ true → d < 73000
day_in d h = ltb-true d 73000 (and_parts _ _ h).1

pub bounds : (e : Event) → an_event e ≡ true → Bounds e
bounds e h =
    let p = and_parts _ _ h in
    let front = and_parts _ _ p.0 in
    let named = and_parts _ _ front.0 in
    let title = and_parts _ _ named.0 in
    let timed = and_parts _ _ front.1 in
    let begins = and_parts _ _ timed.0 in
    let rest = and_parts _ _ p.1 in
    let rule = and_parts _ _ rest.0 in
    let steps = and_parts _ _ rule.0 in
    let kinds = and_parts _ _ steps.0 in
    let week = and_parts _ _ steps.1 in
    let ends = and_parts _ _ rule.1 in
    let out = and_parts _ _ rest.1 in
    let days = and_parts _ _ out.0 in
    record {
      title_few = leb-true _ _ title.0;
      title_bytes = title.1;
      zone_in = ltb-true _ _ named.1;
      first_in = day_in e.first begins.0;
      minute_in = ltb-true _ _ begins.1;
      long_in = leb-true _ _ (and_parts _ _ timed.1).1;
      kind_in = leb-true _ _ kinds.0;
      step_in = leb-true _ _ (and_parts _ _ kinds.1).1;
      times_in = leb-true _ _ ends.0;
      last_in = day_in e.repeat.last ends.1;
      week_rising = week.0;
      week_below = week.1;
      days_rising = days.0;
      days_in = days.1;
      days_few = leb-true _ _ out.1;
    }

pub event_sizes : (e : Event) → an_event e ≡ true → (length e.title ≤ 255) × (length e.left_out ≤ 1000)
event_sizes e h = let b = bounds e h in (b.title_few, b.days_few)
