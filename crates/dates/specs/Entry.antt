-- What the entry that tells a date answers. Assumes nothing: these are definitions.
use Rattle.std.specs.Prelude.{ℕ, ◌+◌, ◌*◌, Ok, Err, Result, nat_lt}
use Rattle.pages.specs.Lists.{pick}
use Rattle.dates.specs.Date.{date_of}
use Rattle.dates.specs.declared.NoSuchDay.{NoSuchDay}

-- there is one value of it
abbrev pub no_such_day : NoSuchDay
no_such_day = record {}

-- the number of the refusal
abbrev pub refusal : NoSuchDay → ℕ
refusal e = 1

-- a date as one number: year, month, day, two places each but the year's
unfoldable pub date_reply : ℕ → Result ℕ NoSuchDay
date_reply d = pick (nat_lt d 73000) (Ok (10000 * (date_of d).year + 100 * (date_of d).month + (date_of d).day)) (Err no_such_day)
