use Rattle.std.proofs.lemmas.List.Elements.{All-more}
use Rattle.quad_index.specs.Packed.{IsSmall}
use Rattle.quad_index.proofs.PackedLaws.{all_of}
use Rattle.quad_index.proofs.packed.are_small.Goals as goal

pub loop-quad-preserved : goal.loop-quad-preserved
loop-quad-preserved c = All-more IsSmall c.args.quads.now c.loop-quad.quad-index _ c.loop-quad-test.true c.loop-quad.invariant (c.is_small.ensures.small c.if-not-is_small.false)

pub returns : goal.returns
returns c = record { small = λ _. all_of IsSmall c.args.quads.now c.loop-quad.quad-index c.loop-quad-test.false c.loop-quad.invariant }
