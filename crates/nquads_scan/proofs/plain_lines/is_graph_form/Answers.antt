use Rattle.nquads_scan.proofs.PlainLineSteps.{named_graph}
use Rattle.nquads_scan.proofs.plain_lines.is_graph_form.Goals as goal

pub returns-in-Some : goal.returns-in-Some
returns-in-Some c = λ h. named_graph c.args.raw.now c.in-Some.name c.in-Some.is (c.is_node_form.ensures h)
