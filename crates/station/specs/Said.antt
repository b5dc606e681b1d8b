-- The commands that values of the code stand for. Assumes nothing: these are definitions.
use Rattle.std.specs.Prelude.{vec_items}
use Rattle.dates.specs.Zone.{Zone}
use Rattle.dates.specs.declared.zone.Zone.{Zone as CodeZone}
use Rattle.recurrence.specs.Event.{Event, Repeat}
use Rattle.recurrence.specs.Value.{kind_number}
use Rattle.records.specs.Command.{Command, busy_times, change, drop_event, free, join, list, next_one, put, shown, skip, zone}
use Rattle.station.specs.declared.command.Repeat.{Repeat as CodeRepeat}
use Rattle.station.specs.declared.command.Event.{Event as CodeEvent}
use Rattle.station.specs.declared.command.Command.{Command as CodeCommand}
use Rattle.station.specs.declared.command.Command.TheVariants.{Join, Zone as SetZone, Put, Change, DropEvent, Skip, List, Busy, Free, Next, Shown}

abbrev pub zone_of : CodeZone → Zone
zone_of z = record {
  east = z.east;
  extra = z.extra;
  from_month = z.begins.month;
  from_week = z.begins.week;
  to_month = z.ends.month;
  to_week = z.ends.week;
  at = z.minute;
}

abbrev pub repeat_of : CodeRepeat → Repeat
repeat_of r = record {
  kind = kind_number r.kind;
  step = r.step;
  weekdays = vec_items r.weekdays;
  times = r.times;
  last = r.last;
}

abbrev pub event_of : CodeEvent → Event
event_of e = record {
  title = vec_items e.title;
  zone = e.zone;
  first = e.first;
  minute = e.minute;
  long = e.long;
  busy = e.busy;
  repeat = repeat_of e.repeat;
  left_out = vec_items e.left_out;
}

abbrev pub command_of : CodeCommand → Command
command_of (Join n) = join (vec_items n)
command_of (SetZone k z) = zone k (zone_of z)
command_of (Put a e) = put a (event_of e)
command_of (Change a n e) = change a n (event_of e)
command_of (DropEvent a n) = drop_event a n
command_of (Skip a n d) = skip a n d
command_of (List a s) = list a s.from s.to
command_of (Busy ps s) = busy_times (vec_items ps) s.from s.to
command_of (Free ps k s) = free (vec_items ps) k s.from s.to
command_of (Next a t) = next_one a t
command_of (Shown a n) = shown a n
