use Rattle.std.proofs.Common.{◌≡◌}
use Rattle.std.proofs.Common.{map}
use Rattle.std.specs.Option.{option_map}
use Rattle.rdf_core.proofs.TermLaws.{term_eq}
use Rattle.algebra_model.specs.Bgp.{bgp}
use Rattle.algebra_model.specs.Dataset.{graph}
use Rattle.dict_core.specs.Dict.{term_at}
use Rattle.dict_core.specs.NumQuad.{quads_at}
use Rattle.sparql_algebra.specs.AlgebraOf.{triple_pattern_of}
use Rattle.row_pieces.specs.declared.fault.EvalFault.TheVariants.{Memory}
use Rattle.sparql_eval.specs.Evaluated.{IsEvaluated}
use Rattle.sparql_eval.proofs.ReturnSteps.{returned, faulted}
use Rattle.sparql_eval.proofs.patterns.pattern_with.Goals as goal

pub returns-clause-evaluated : goal.returns-clause-evaluated
returns-clause-evaluated g c =
    returned c.matches-made.result c.with_dict.result
    (λ m t. IsEvaluated c.args.dict c.args.width (bgp term_eq c.args.width c.args.labels (map triple_pattern_of c.args.triples.now) (graph (quads_at c.args.dict c.args.index.now) (option_map (term_at c.args.dict) c.args.active))) m t) c.args.dict
    c.with_dict.ensures.rows c.with_dict.ensures.same_dict c.matches-made.ensures.evaluated

pub returns-clause-one_worker : goal.returns-clause-one_worker
returns-clause-one_worker g c = λ h. faulted c.matches-made.result c.with_dict.result (λ fault. fault ≡ Memory) c.with_dict.ensures.fault (c.matches-made.ensures.one_worker h)
