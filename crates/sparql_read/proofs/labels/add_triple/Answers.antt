use Rattle.std.proofs.Common.{◌≡◌, ◌++◌, true, subst, arith}
use Rattle.std.proofs.lemmas.Result.{IfOk-weaker}
use Rattle.sparql_tree.specs.BlankReuse.{place_labels}
use Rattle.sparql_read.specs.LabelSteps.{AddsLabels}
use Rattle.sparql_read.proofs.LabelLaws.{labels_then}
use Rattle.sparql_read.proofs.labels.add_triple.Goals as goal

pub returns : goal.returns
returns c =
    let t = c.args.triple.now in
    let xs = c.args.earlier.now in
    let f : c.in_ok-add_place.field-0 ≡ true = grind (arith, c.if-not-branch.false) in
    let g : c.in_ok-add_place-2.field-0 ≡ true = grind (arith, c.if-not-branch-2.false) in
    let s = subst (λ b. AddsLabels xs (place_labels t.subject) b c.args.labels.now c.add_place.new.labels) f c.in_ok-add_place.ensures.labels in
    let p = subst (λ b. AddsLabels xs (place_labels t.predicate) b c.add_place.new.labels c.add_place-2.new.labels) g c.in_ok-add_place-2.ensures.labels in
    record {
      labels = IfOk-weaker c.add_place-3.result _ _
          (λ b h. labels_then xs (place_labels t.subject) (place_labels t.predicate ++ place_labels t.object) c.args.labels.now c.add_place.new.labels _ b s
          (labels_then xs (place_labels t.predicate) (place_labels t.object) c.add_place.new.labels c.add_place-2.new.labels _ b p h))
          c.add_place-3.ensures.labels;
    }
