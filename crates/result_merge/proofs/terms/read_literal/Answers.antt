use Rattle.std.proofs.Common.{codes}
use Rattle.result_merge.specs.Absent.{IsNoFramed, IsNoLiteral}
use Rattle.result_merge.proofs.FaultSteps.{if_fault, on_fault}
use Rattle.result_merge.proofs.TermSteps.{no_literal_end, no_literal_start}
use Rattle.result_merge.proofs.terms.read_literal.Goals as goal

pub returns-in_err-lexical-clause-damaged : goal.returns-in_err-lexical-clause-damaged
returns-in_err-lexical-clause-damaged c =
    on_fault c.from_residual.result c.in_err-lexical.field-0.0 (IsNoLiteral c.args.bytes.now) c.from_residual.ensures.1
    (λ damaged. no_literal_start c.args.bytes.now (c.in_err-lexical.ensures.damaged damaged))

pub returns-in-None-clause-damaged : goal.returns-in-None-clause-damaged
returns-in-None-clause-damaged c =
    if_fault c.read_tagged.result (IsNoFramed (codes ",\"xml:lang\":") (codes "}") c.in_ok-lexical.rest.now) (IsNoLiteral c.args.bytes.now)
    (no_literal_end c.args.bytes.now c.in_ok-lexical.lexical c.in_ok-lexical.rest.now c.in_ok-lexical.ensures.parts c.in-None.ensures.parts) c.read_tagged.ensures.damaged
