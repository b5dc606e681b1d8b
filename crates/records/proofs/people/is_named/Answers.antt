use Rattle.std.proofs.Common.{◌≡◌, ◌+◌, ◌-◌, min, length, take, drop, ap, ◌∙◌, arith}
use Rattle.std.proofs.lemmas.Slice.Eq.{slice_eq-Decides}
use Rattle.pages.specs.Fields.{at}
use Rattle.pages.specs.Lists.{same}
use Rattle.records.proofs.Persons.{name_cut, same_decided}
use Rattle.records.proofs.people.is_named.Goals as goal
use Rattle.std.proofs.lemmas.Bool.Decides.{Decides-eqb}

pub returns : goal.returns
returns c =
    let r = c.args.from.now in
    let m = c.min-long.result in
    let e : 13 + m - 13 ≡ m = omega arith in
    let l : m ≡ min (at 0 1 r) (length r - 13) = c.min-long.ensures ∙ ap (λ n. min n (length r - 13)) c.number_at-long.ensures in
    let q = same_decided (take (13 + m - 13) (drop 13 r)) c.args.name.now _ (slice_eq-Decides Decides-eqb _ _ _ c.eq.ensures) in
    rw e at q ∙ ap (λ w. same w c.args.name.now) (name_cut r m l)
