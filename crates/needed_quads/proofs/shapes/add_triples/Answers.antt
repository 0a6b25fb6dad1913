use Rattle.std.proofs.lemmas.List.{take_all}
use Rattle.needed_quads.proofs.BuildingLaws.{all_added, may_match_some, no_triple, none_added, triple_added}
use Rattle.needed_quads.proofs.shapes.add_triples.Goals as goal

pub loop-triple-init : goal.loop-triple-init
loop-triple-init c = none_added (may_match_some c.args.triples.now 0) c.args.graph.now c.args.known.now c.args.shapes.now.items no_triple

pub loop-triple-preserved : goal.loop-triple-preserved
loop-triple-preserved c =
    let l = c.loop-triple in
    triple_added c.args.graph.now c.args.known.now c.args.triples.now l.triple-index c.triple-item.result c.loop-triple-test.true c.triple-item.is
    c.args.shapes.now.items l.shapes.items c.push_shape.new.shapes.items c.in_ok-shape.shape c.in_ok-push_shape.ensures.pushed c.in_ok-shape.ensures.shape l.invariant

pub returns : goal.returns
returns c = record {
  added = all_added c.args.graph.now c.args.known.now _ c.args.triples.now (take_all c.loop-triple.triple-index c.args.triples.now c.loop-triple-test.false) c.args.shapes.now.items c.loop-triple.shapes.items c.loop-triple.invariant;
}
