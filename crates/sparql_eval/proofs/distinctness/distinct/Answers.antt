use Rattle.std.proofs.Common.{◌≡◌}
use Rattle.std.proofs.lemmas.Result.{IfOk-weaker}
use Rattle.rdf_core.proofs.TermLaws.{term_eq}
use Rattle.algebra_model.specs.Operators.{distinct}
use Rattle.row_pieces.specs.declared.fault.EvalFault.TheVariants.{Memory}
use Rattle.sparql_eval.specs.Evaluated.{IsEvaluated, solutions_of}
use Rattle.sparql_eval.proofs.DistinctSteps.{distinct_evaluated}
use Rattle.sparql_eval.proofs.ReturnSteps.{returned, faulted}
use Rattle.sparql_eval.proofs.distinctness.distinct.Goals as goal

pub returns-clause-evaluated : goal.returns-clause-evaluated
returns-clause-evaluated c =
    returned c.distinct_rows-made.result c.with_dict.result
    (λ m t. IsEvaluated c.args.dict c.args.rows.now.width (distinct term_eq (solutions_of c.args.dict c.args.rows.now)) m t) c.args.dict
    c.with_dict.ensures.rows c.with_dict.ensures.same_dict (IfOk-weaker c.distinct_rows-made.result _ (λ m. IsEvaluated c.args.dict c.args.rows.now.width (distinct term_eq (solutions_of c.args.dict c.args.rows.now)) m c.args.dict) (λ m h. distinct_evaluated c.args.dict c.len-distinct.ensures.distinct c.args.rows.now m c.requires.known h.0 h.1) c.distinct_rows-made.ensures.made)

pub returns-clause-memory : goal.returns-clause-memory
returns-clause-memory c = faulted c.distinct_rows-made.result c.with_dict.result (λ fault. fault ≡ Memory) c.with_dict.ensures.fault c.distinct_rows-made.ensures.memory
