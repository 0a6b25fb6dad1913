use Rattle.std.proofs.Common.{◌≡◌, ℕ, List, map, length, Contains, Some, Option, option_map, sym, ap, subst, ◌∙◌}
use Rattle.std.specs.List.{flat_map}
use Rattle.std.proofs.lemmas.Simd.{map-map}
use Rattle.algebra_model.specs.Expression.{val}
use Rattle.algebra_model.specs.Operators.{extend}
use Rattle.algebra_model.specs.Renaming.{Each}
use Rattle.algebra_model.proofs.BagLaws.{same_bag}
use Rattle.dict_core.specs.Dict.{term_at}
use Rattle.expression_values.specs.ExpressionOf.{expression_of}
use Rattle.sparql_eval.specs.Computed.{IsValue}
use Rattle.sparql_eval.specs.Values.{bind_each, own_terms}
use Rattle.sparql_eval.proofs.ReadingLaws.{Known, read_by}
use Rattle.sparql_eval.proofs.ExtendSteps.{as_many, bind_extends}
use Rattle.sparql_eval.proofs.TakingLaws.{takes_more}
use Rattle.sparql_eval.proofs.extensions.extended.Goals as goal

pub extend_rows-requires-clause-each : goal.extend_rows-requires-clause-each
extend_rows-requires-clause-each g c =
    let terms = c.args.dict.now in
    let later = c.number_values.new.dict in
    let e = expression_of c.args.expression.now in
    ap length c.as_slice.ensures.value
    ∙ as_many (option_map (term_at later)) (λ μ. val e (read_by terms μ)) c.in_ok-numbers.numbers.items c.args.rows.now.rows
    (c.in_ok-numbers.ensures.read ∙ c.in_ok-pieces.ensures.values.1)

pub returns-clause-evaluated : goal.returns-clause-evaluated
returns-clause-evaluated g c =
    let terms = c.args.dict.now in
    let later = c.number_values.new.dict in
    let e = expression_of c.args.expression.now in
    let v = c.args.variable in
    let rows = c.args.rows.now.rows in
    let numbers = c.in_ok-numbers.numbers.items in
    let made = c.in_ok-made.made in
    let bound = bind_extends terms later c.in_ok-numbers.ensures.grown v (val e) numbers rows c.in_ok-numbers.ensures.known c.requires.known
    (c.in_ok-numbers.ensures.read ∙ c.in_ok-pieces.ensures.values.1) in
    let is : made.rows ≡ bind_each v numbers rows = c.in_ok-made.ensures.rows ∙ ap (λ (l : List (Option ℕ)). bind_each v l rows) c.as_slice.ensures.value in
    record {
      grown = c.in_ok-numbers.ensures.grown;
      wide = c.in_ok-made.ensures.width;
      known = subst (Each (Known later)) (sym is) bound.0;
      bag = same_bag (map (read_by later) made.rows) (extend v (val e) (map (read_by terms) rows)) (ap (map (read_by later)) is ∙ bound.1);
    }

pub returns-clause-needed : goal.returns-clause-needed
returns-clause-needed g c =
    let terms = c.args.dict.now in
    let e = expression_of c.args.expression.now in
    let rows = c.args.rows.now.rows in
    takes_more (Contains (flat_map own_terms c.in_ok-pieces.pieces.items)) (IsValue (val e) (map (read_by terms) rows)) terms c.number_values.new.dict
    (λ t h. subst (λ l. Contains l (Some t)) (sym (map-map (val e) (read_by terms) rows)) (c.in_ok-pieces.ensures.values.2 t h)) c.in_ok-numbers.ensures.needed
