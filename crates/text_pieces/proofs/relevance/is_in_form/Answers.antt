use Rattle.text_pieces.proofs.RelevanceSteps.{in_form}
use Rattle.text_pieces.proofs.relevance.is_in_form.Goals as goal

pub returns : goal.returns
returns c = record {
  valid = in_form c.args.raw.now (c.in_ok-is_node.ensures.node c.if-not-branch.false) (c.in_ok-is_iri.ensures.iri c.if-not-branch-2.false) (c.in_ok-is_form.ensures.same c.if-not-branch-3.false)
      c.is_label.result c.is_label.ensures.label;
}
