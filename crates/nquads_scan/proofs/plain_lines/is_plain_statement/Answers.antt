use Rattle.std.proofs.Common.{refl}
use Rattle.nquads_scan.proofs.PlainLineSteps.{plain_quad}
use Rattle.nquads_scan.proofs.plain_lines.is_plain_statement.Goals as goal

pub returns-then-is_plain_form : goal.returns-then-is_plain_form
returns-then-is_plain_form c = λ h. plain_quad c.args.raw.now (c.if-not-is_node_form.ensures refl) (c.if-not-is_iri_form.ensures refl) (c.if-is_plain_form.ensures refl) (c.is_graph_form.ensures h)
