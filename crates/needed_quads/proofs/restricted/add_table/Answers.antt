use Rattle.std.proofs.Common.{ℕ, List, map, get_or, Option, Vec, Global, refl, subst, arith}
use Rattle.std.specs.Option.{IfSome}
use Rattle.rdf_core.specs.declared.term.Term.{Term}
use Rattle.quad_filter.specs.declared.filter.Wanted.TheVariants.{OneOf}
use Rattle.needed_quads.specs.Building.{AreForms}
use Rattle.needed_quads.specs.declared.restricted.Restricted.{Restricted}
use Rattle.needed_quads.proofs.RestrictedSteps.{one_variable, restricted_table}
use Rattle.needed_quads.proofs.restricted.add_table.Goals as goal

pub returns-in_ok-push-in-Some : goal.returns-in_ok-push-in-Some
returns-in_ok-push-in-Some c =
    let vs = c.args.variables.now in
    let v = get_or vs 0 0 in
    let rows : List (List (Option Term)) = map (λ (row : Vec (Option Term) Global). row.items) c.args.rows.now in
    let x : Restricted = record { variable = v; terms = OneOf c.in-Some.forms } in
    let are = subst (λ (o : Option (Vec (Vec ℕ Global) Global)). IfSome o (λ forms. AreForms rows forms.items)) c.in-Some.is c.in_ok-forms.ensures.forms in
    record {
      restricted = restricted_table vs v rows c.in-Some.forms x c.args.known.now.items c.push.new.self.items (one_variable vs v (omega arith) refl) are refl refl c.in_ok-push-in-Some.ensures.items;
    }
