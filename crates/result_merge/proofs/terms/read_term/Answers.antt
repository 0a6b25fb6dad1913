use Rattle.std.proofs.Common.{codes}
use Rattle.result_merge.specs.Absent.{IsNoFramed, IsNoLiteral, IsNoTerm, IsNoTyped}
use Rattle.result_merge.proofs.FaultSteps.{if_fault}
use Rattle.result_merge.proofs.TermSteps.{after_datatype, after_iri, after_literal, after_others}
use Rattle.result_merge.proofs.terms.read_term.Goals as goal

pub returns-then-begins_with-clause-damaged : goal.returns-then-begins_with-clause-damaged
returns-then-begins_with-clause-damaged c =
    if_fault c.read_literal.result (IsNoLiteral c.args.bytes.now) (IsNoTerm c.args.bytes.now) (after_literal c.args.bytes.now c.if-begins_with.ensures.parts) c.read_literal.ensures.damaged

pub returns-then-begins_with-2-clause-damaged : goal.returns-then-begins_with-2-clause-damaged
returns-then-begins_with-2-clause-damaged c =
    if_fault c.read_iri.result (IsNoFramed (codes "{\"type\":\"uri\",\"value\":") (codes "}") c.args.bytes.now) (IsNoTerm c.args.bytes.now)
    (after_iri c.args.bytes.now c.if-begins_with-2.ensures.parts) c.read_iri.ensures.damaged

pub returns-then-begins_with-3-clause-damaged : goal.returns-then-begins_with-3-clause-damaged
returns-then-begins_with-3-clause-damaged c =
    if_fault c.read_typed.result (IsNoTyped c.args.bytes.now) (IsNoTerm c.args.bytes.now) (after_datatype c.args.bytes.now c.if-begins_with-3.ensures.parts) c.read_typed.ensures.damaged

pub returns-else-begins_with-3-clause-damaged : goal.returns-else-begins_with-3-clause-damaged
returns-else-begins_with-3-clause-damaged c =
    if_fault c.read_blank.result (IsNoFramed (codes "{\"type\":\"bnode\",\"value\":") (codes "}") c.args.bytes.now) (IsNoTerm c.args.bytes.now)
    (after_others c.args.bytes.now c.if-begins_with.ensures.parts c.if-begins_with-2.ensures.parts c.if-begins_with-3.ensures.parts) c.read_blank.ensures.damaged
