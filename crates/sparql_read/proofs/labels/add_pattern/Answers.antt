use Rattle.std.proofs.Common.{◌≡◌, true, false, subst, arith}
use Rattle.sparql_tree.specs.BlankReuse.{labels_of}
use Rattle.sparql_read.specs.LabelSteps.{AddsLabels}
use Rattle.sparql_read.proofs.LabelLaws.{pattern_added, pattern_clash}
use Rattle.sparql_read.proofs.labels.add_pattern.Goals as goal

pub returns-then-not-branch : goal.returns-then-not-branch
returns-then-not-branch c =
    let f : c.in_ok-add_triples.field-0 ≡ false = grind (arith, c.if-not-branch.true) in
    record {
      labels = pattern_clash c.args.triples.now c.args.earlier.now
          (subst (λ b. AddsLabels c.args.earlier.now (labels_of c.args.triples.now) b c.new-labels.result c.add_triples.new.labels) f c.in_ok-add_triples.ensures.labels);
    }

pub returns : goal.returns
returns c =
    let f : c.in_ok-add_triples.field-0 ≡ true = grind (arith, c.if-not-branch.false) in
    record {
      labels = pattern_added c.args.triples.now c.args.earlier.now c.new-labels.result c.add_triples.new.labels c.absorb.new.self c.new-labels.ensures.value
          (subst (λ b. AddsLabels c.args.earlier.now (labels_of c.args.triples.now) b c.new-labels.result c.add_triples.new.labels) f c.in_ok-add_triples.ensures.labels)
          c.in_ok-absorb.ensures.names;
    }
