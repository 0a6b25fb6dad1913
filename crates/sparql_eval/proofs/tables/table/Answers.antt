use Rattle.std.proofs.Common.{◌≡◌}
use Rattle.std.proofs.Common.{map}
use Rattle.algebra_model.specs.Operators.{table}
use Rattle.sparql_eval.specs.Computed.{IsCell, TakesOnly}
use Rattle.sparql_eval.proofs.ReturnSteps.{on_ok_so}
use Rattle.row_pieces.specs.declared.fault.EvalFault.TheVariants.{Memory}
use Rattle.sparql_eval.specs.Evaluated.{IsEvaluated}
use Rattle.sparql_eval.proofs.ReturnSteps.{returned, faulted}
use Rattle.sparql_eval.proofs.tables.table.Goals as goal

pub returns-clause-evaluated : goal.returns-clause-evaluated
returns-clause-evaluated c =
    returned c.tabulated-made.result c.with_dict.result
    (λ m t. IsEvaluated c.args.dict c.args.width (table c.args.width c.args.variables.now (map (λ row. row.items) c.args.rows.now)) m t) c.tabulated-made.new.dict
    c.with_dict.ensures.rows c.with_dict.ensures.same_dict c.tabulated-made.ensures.evaluated

pub returns-clause-needed : goal.returns-clause-needed
returns-clause-needed c =
    returned c.tabulated-made.result c.with_dict.result (λ m t. TakesOnly (IsCell c.args.variables.now (map (λ row. row.items) c.args.rows.now)) c.args.dict t) c.tabulated-made.new.dict
    c.with_dict.ensures.rows c.with_dict.ensures.same_dict (on_ok_so _ c.tabulated-made.result c.tabulated-made.ensures.needed)

pub returns-clause-memory : goal.returns-clause-memory
returns-clause-memory c = faulted c.tabulated-made.result c.with_dict.result (λ fault. fault ≡ Memory) c.with_dict.ensures.fault c.tabulated-made.ensures.memory
