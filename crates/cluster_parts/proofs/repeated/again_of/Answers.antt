use Rattle.std.proofs.Common.{◌≡◌, ◌+◌, ◌-◌, ℕ, nat_eq, sym, subst, take, arith}
use Rattle.indexmap.specs.IndexSet.{contains}
use Rattle.cluster_parts.specs.Repeated.{is_repeated}
use Rattle.cluster_parts.proofs.PartSteps.{found_again, found_new, none_found}
use Rattle.cluster_parts.proofs.repeated.again_of.Goals as goal
use Rattle.cluster_parts.proofs.repeated.again_of.Goals.{then-numbers-i+in_ok-add_number, else-numbers-i}

pub loop-i-init : goal.loop-i-init
loop-i-init c = none_found c.args.numbers.now c.with_hasher-again.result c.with_hasher-again.ensures.empty

pub loop-i-preserved : goal.loop-i-preserved
loop-i-preserved c =
    let xs = c.args.numbers.now in
    let i = c.loop-i.i in
    let after : i ≡ (i - 1) + 1 = omega (arith, c.loop-i.auto.i) in
    elim c.if-numbers-i.branch [
      | then-numbers-i+in_ok-add_number w ↦
          subst (λ again. (n : ℕ) → contains nat_eq again n ≡ is_repeated (take (i + 1) xs) n) (sym w.again-is)
          (found_again xs i (i - 1) c.loop-i.again c.requires.sorted after c.loop-i-test.true c.loop-i.invariant w.add_number.new.set w.if-numbers-i.true w.in_ok-add_number.ensures.set)
      | else-numbers-i w ↦
          subst (λ again. (n : ℕ) → contains nat_eq again n ≡ is_repeated (take (i + 1) xs) n) (sym w.again-is)
          (found_new xs i (i - 1) c.loop-i.again c.requires.sorted after c.loop-i-test.true c.loop-i.invariant w.if-numbers-i.false)
    ]
