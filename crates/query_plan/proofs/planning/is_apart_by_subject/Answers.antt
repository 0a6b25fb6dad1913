use Rattle.std.proofs.Common.{◌≡◌, ◌∙◌, false, ap, subst, sym}
use Rattle.algebra_model.specs.Bgp.{variable}
use Rattle.sparql_algebra.specs.AlgebraOf.{algebra_of}
use Rattle.query_split.specs.Condition.{is_apart}
use Rattle.query_plan.proofs.KeySteps.{no_other_subject, no_subject}
use Rattle.query_plan.proofs.planning.is_apart_by_subject.Goals as goal

pub returns-in-Some-clause-none : goal.returns-in-Some-clause-none
returns-in-Some-clause-none c = λ by_subject fails key.
    let A = algebra_of c.args.tree.now in
    subst (λ s. is_apart s key A ≡ false) (sym by_subject)
    (no_other_subject A c.in-Some.variable (sym c.first_subject.ensures.value ∙ c.in-Some.is)
    (ap (λ s. is_apart s (variable c.in-Some.variable) A) (sym by_subject) ∙ sym c.is_apart.ensures.value ∙ fails) key)

pub returns-in-None-clause-none : goal.returns-in-None-clause-none
returns-in-None-clause-none c = λ by_subject fails key.
    let A = algebra_of c.args.tree.now in
    subst (λ s. is_apart s key A ≡ false) (sym by_subject) (no_subject A (sym c.first_subject.ensures.value ∙ c.in-None.is) key)
