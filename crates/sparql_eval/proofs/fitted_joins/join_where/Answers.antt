use Rattle.std.proofs.Common.{List, sym, subst}
use Rattle.rdf_core.proofs.TermLaws.{term_eq}
use Rattle.algebra_model.specs.Operators.{join}
use Rattle.sparql_eval.specs.Evaluated.{solutions_of}
use Rattle.sparql_eval.specs.Fitting.{Requires, fits}
use Rattle.sparql_eval.specs.declared.equalities.Equality.{Equality}
use Rattle.sparql_eval.proofs.FittingSteps.{where_any_ok, where_keys}
use Rattle.sparql_eval.proofs.fitted_joins.join_where.Goals as goal

pub returns-then-is_joined_whole-clause-evaluated : goal.returns-then-is_joined_whole-clause-evaluated
returns-then-is_joined_whole-clause-evaluated g c =
    where_any_ok c.args.pairs.now c.args.dict c.args.left.width c.join_of.result (join term_eq (solutions_of c.args.dict c.args.left) (solutions_of c.args.dict c.args.right)) c.join_of.ensures.evaluated

pub add_separated-requires-clause-wide : goal.add_separated-requires-clause-wide
add_separated-requires-clause-wide g c = c.in_ok-made.ensures.evaluated.wide

pub returns-clause-evaluated : goal.returns-clause-evaluated
returns-clause-evaluated g c =
    let A = join term_eq (solutions_of c.args.dict c.args.left) (solutions_of c.args.dict c.args.right) in
    let w = c.args.left.width in
    where_keys c.args.dict w c.args.pairs.now c.as_slice-keys.result.now (subst (λ (l : List Equality). Requires (fits c.args.pairs.now) l) (sym c.as_slice-keys.ensures.value) c.in_ok-keys.ensures.required) A c.add_separated.new.made c.args.dict
    (c.add_separated.ensures.evaluated w A c.in_ok-made.ensures.evaluated)
