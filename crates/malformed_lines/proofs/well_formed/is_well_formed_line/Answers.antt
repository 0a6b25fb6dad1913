use Rattle.std.proofs.lemmas.Bool.{eqb-true}
use Rattle.malformed_lines.proofs.WellFormedSteps.{one_statement}
use Rattle.malformed_lines.proofs.well_formed.is_well_formed_line.Goals as goal

pub returns-in-Some : goal.returns-in-Some
returns-in-Some c = record {
  well_formed = λ e. one_statement c.args.line.now c.in-Some.count c.last_byte-last.result (rw c.in-Some.is at c.in_ok-count.ensures.count) (eqb-true _ _ e) c.last_byte-last.ensures.value
      c.if-last-eq10.false c.if-last-eq13.false (rw c.in-Some.is at c.in_ok-count.ensures.statements);
}
