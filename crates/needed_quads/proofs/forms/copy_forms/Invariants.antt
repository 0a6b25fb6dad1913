use Rattle.std.proofs.Common.{◌≡◌, ◌++◌, drop, map}
use Rattle.needed_quads.proofs.forms.copy_forms.Given as goal

abbrev pub invariant-loop-form : goal.invariant-loop-form
invariant-loop-form l = map (λ form. form.items) l.copy.items ++ map (λ form. form.items) (drop l.form-index l.forms) ≡ map (λ form. form.items) l.forms
