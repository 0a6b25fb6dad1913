use Rattle.std.proofs.Common.{Some}
use Rattle.nquads_scan.proofs.LayoutSteps.{line_less}
use Rattle.nquads_scan.proofs.statement.cut_line.Goals as goal

pub returns-then-begins_term-clause-shorter : goal.returns-then-begins_term-clause-shorter
returns-then-begins_term-clause-shorter c =
    line_less c.args.text.now (Some c.in_ok-statement.statement) c.in_ok-after_line.field-0.now
    (record { start = c.after_blanks-start.result.now; tail = c.in_ok-statement.tail.now; lead = c.after_blanks-start.ensures; layout = c.in_ok-statement.ensures; end = c.in_ok-after_line.ensures })
    c.requires

pub returns-then-begins_term-clause-line : goal.returns-then-begins_term-clause-line
returns-then-begins_term-clause-line c =
    record { start = c.after_blanks-start.result.now; tail = c.in_ok-statement.tail.now; lead = c.after_blanks-start.ensures; layout = c.in_ok-statement.ensures; end = c.in_ok-after_line.ensures }
