use Rattle.std.proofs.Common.{ℕ, map, Vec, Global, sym, ap, ◌∙◌}
use Rattle.quad_filter.specs.Filter.{is_wanted}
use Rattle.quad_filter.specs.declared.filter.Wanted.{Wanted}
use Rattle.needed_quads.proofs.RestrictedSteps.{copy_same}
use Rattle.needed_quads.proofs.forms.copy_wanted.Goals as goal

pub returns-in_ok-copy_forms-in-OneOf : goal.returns-in_ok-copy_forms-in-OneOf
returns-in_ok-copy_forms-in-OneOf c =
    let copy = c.in_ok-copy_forms-in-OneOf in
    record {
      same = λ t. copy_same copy.field-0 c.in-OneOf.forms (copy.ensures.same ∙ ap (map (λ (form : Vec ℕ Global). form.items)) c.as_slice.ensures.value) t
          ∙ ap (λ (w : Wanted). is_wanted w t) (sym c.in-OneOf.is);
    }
