use Rattle.std.proofs.Common.{ℕ, ◌≡◌, ◌+◌, ◌-◌, subst, arith}
use Rattle.dataset_load.specs.Terms.{IsTermPart}
use Rattle.dataset_load.proofs.building.build.Goals as goal

pub returns-in_ok-part_of : goal.returns-in_ok-part_of
returns-in_ok-part_of c =
    let part : ℕ = c.args.i - 3 in
    let after : c.args.i ≡ 3 + part = omega (arith, c.if-i-lt-LISTS.false) in
    let same : 0 + part ≡ part = omega arith in
    record { built = (part, after, subst (λ n. IsTermPart c.args.texts.now.texts n c.in_ok-part_of.field-0) same c.in_ok-part_of.ensures.part) }
