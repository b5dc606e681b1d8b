use Rattle.std.proofs.Common.{◌≡◌, ◌+◌, ◌*◌, [], drop}
use Rattle.pages.specs.Bytes.{in_bytes, placed}
use Rattle.pages.specs.Lists.{flat}
use Rattle.records.proofs.place.put_all.Given as goal

abbrev pub invariant-loop-i : goal.invariant-loop-i
invariant-loop-i l =
    placed (l.start + l.width * l.i) (flat (λ n. in_bytes l.width n []) (drop l.i l.numbers)) l.row ≡ placed l.start (flat (λ n. in_bytes l.width n []) l.numbers) l.initial.row
