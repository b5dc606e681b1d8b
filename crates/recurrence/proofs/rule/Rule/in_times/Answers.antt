use Rattle.std.proofs.Common.{arith}
use Rattle.std.proofs.lemmas.Bool.Decides.{nat_tests}
use Rattle.recurrence.specs.Value.{repeat_of}
use Rattle.recurrence.proofs.Counting.{in_times_is}
use Rattle.recurrence.proofs.rule.Rule.in_times.Goals as goal

pub returns-else-self-eq0 : goal.returns-else-self-eq0
returns-else-self-eq0 c =
    let e = in_times_is (repeat_of c.args.self.repeat) c.args.self.first c.args.day in
    grind (arith, nat_tests)
