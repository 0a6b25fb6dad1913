use Rattle.std.proofs.Common.{◌≡◌, ◌∙◌, false, ap, subst, sym}
use Rattle.algebra_model.specs.Bgp.{variable}
use Rattle.sparql_algebra.specs.AlgebraOf.{algebra_of}
use Rattle.query_split.specs.Condition.{is_apart}
use Rattle.query_plan.proofs.KeySteps.{any_key}
use Rattle.query_plan.proofs.planning.comes_from_parts.Goals as goal

pub returns-in-Lines-clause-none : goal.returns-in-Lines-clause-none
returns-in-Lines-clause-none c = λ fails key.
    let A = algebra_of c.args.tree.now in
    subst (λ s. is_apart s key A ≡ false) (sym c.in-Lines.is)
    (any_key key (variable 0) A ∙ ap (λ s. is_apart s (variable 0) A) (sym c.in-Lines.is) ∙ sym c.is_apart.ensures.value ∙ fails)
