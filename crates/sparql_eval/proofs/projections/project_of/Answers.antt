use Rattle.std.proofs.Common.{◌≡◌}
use Rattle.std.proofs.lemmas.Result.{IfOk-weaker}
use Rattle.algebra_model.specs.Operators.{project}
use Rattle.row_pieces.specs.declared.fault.EvalFault.TheVariants.{Memory}
use Rattle.sparql_eval.specs.Evaluated.{IsEvaluated, solutions_of}
use Rattle.sparql_eval.proofs.ProjectSteps.{project_evaluated}
use Rattle.sparql_eval.proofs.ReturnSteps.{returned, faulted}
use Rattle.sparql_eval.proofs.projections.project_of.Goals as goal

pub returns-clause-evaluated : goal.returns-clause-evaluated
returns-clause-evaluated c =
    let A = project c.args.variables.now (solutions_of c.args.dict c.args.rows) in
    returned c.restricted-made.result c.with_dict.result (λ m t. IsEvaluated c.args.dict c.args.rows.width A m t) c.args.dict
    c.with_dict.ensures.rows c.with_dict.ensures.same_dict
    (IfOk-weaker c.restricted-made.result _ (λ m. IsEvaluated c.args.dict c.args.rows.width A m c.args.dict) (λ m h. project_evaluated c.args.dict c.args.variables.now c.args.rows m c.requires.known h.0 h.1) c.restricted-made.ensures.made)

pub returns-clause-memory : goal.returns-clause-memory
returns-clause-memory c = faulted c.restricted-made.result c.with_dict.result (λ fault. fault ≡ Memory) c.with_dict.ensures.fault c.restricted-made.ensures.memory
