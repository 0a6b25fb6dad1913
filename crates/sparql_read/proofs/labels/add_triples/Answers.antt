use Rattle.std.proofs.Common.{◌≡◌, false, subst, arith}
use Rattle.sparql_tree.specs.BlankReuse.{triple_labels}
use Rattle.sparql_read.specs.LabelSteps.{AddsLabels}
use Rattle.sparql_read.proofs.LabelLaws.{triple_clash}
use Rattle.sparql_read.proofs.labels.add_triples.Goals as goal

pub returns-then-not-branch : goal.returns-then-not-branch
returns-then-not-branch c =
    let f : c.in_ok-add_triple.field-0 ≡ false = grind (arith, c.if-not-branch.true) in
    record {
      labels = triple_clash c.args.earlier.now c.args.triples.now c.loop-triple.triple-index c.triple-item.result c.loop-triple-test.true c.triple-item.is
          (subst (λ b. AddsLabels c.args.earlier.now (triple_labels c.triple-item.result) b c.loop-triple.labels c.add_triple.new.labels) f c.in_ok-add_triple.ensures.labels);
    }
