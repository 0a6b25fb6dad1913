use Rattle.std.proofs.Common.{◌≡◌, ℕ, [], ◌∷◌, Option, Some, Vec, Global, sym, subst, ◌∙◌}
use Rattle.std.specs.Option.{IfSome}
use Rattle.rdf_core.specs.declared.term.Term.{Term}
use Rattle.rdf_core.specs.Serialization.{serialization}
use Rattle.needed_quads.proofs.RestrictedSteps.{next_form}
use Rattle.needed_quads.proofs.restricted.forms_of.Goals as goal

pub loop-row-preserved : goal.loop-row-preserved
loop-row-preserved c =
    let found = subst (λ (o : Option (Vec ℕ Global)). IfSome o (λ form. (t : Term) × (c.as_slice.result.now ≡ Some t ∷ []) × (form.items ≡ serialization t))) c.in-Some.is c.in_ok-form.ensures.form in
    next_form c.args.rows.now c.loop-row.row-index c.row-item.result found.0 c.in-Some.form c.loop-row.forms.items c.push.new.self.items c.loop-row-test.true c.row-item.is
    (sym c.as_slice.ensures.value ∙ found.1) found.2 c.in_ok-push-in-Some.ensures.items c.loop-row.invariant
