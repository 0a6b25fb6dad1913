use Rattle.std.proofs.Common.{◌≡◌, sym, ap, ◌∙◌}
use Rattle.algebra_model.specs.Algebra as algebra
use Rattle.sparql_algebra.specs.AlgebraOf.{algebra_of}
use Rattle.needed_quads.proofs.PlanSteps.{join_denotes}
use Rattle.needed_quads.proofs.RestrictedSteps.{restricted_join}
use Rattle.needed_quads.proofs.restricted.+add_restricted.Goals as goal

pub returns-in_ok-add_restricted-in-Join : goal.returns-in_ok-add_restricted-in-Join
returns-in_ok-add_restricted-in-Join t c =
    let A = algebra_of c.args.tree.now in
    let L = algebra_of c.deref.result.now in
    let R = algebra_of c.deref-in-Join.result.now in
    let last = c.add_restricted-in-Join in
    let is : A ≡ algebra.Join L R =
    ap algebra_of c.in-Join.is ∙ join_denotes c.in-Join.left c.in-Join.right ∙ (λ i. algebra.Join (algebra_of ((sym c.deref.ensures) i)) (algebra_of ((sym c.deref-in-Join.ensures) i))) in
    record {
      restricted = restricted_join last.result A L R c.args.known.now.items c.add_restricted.new.known.items last.new.known.items is c.in_ok-add_restricted-in-Join.ensures.restricted last.ensures.restricted;
    }
