use Rattle.std.proofs.Common.{rules}
use Rattle.quad_index.proofs.PackedLaws.{keys_more}
use Rattle.quad_index.proofs.packed.push_keys.Goals as goal

pub key_of-requires : goal.key_of-requires
key_of-requires c = record { small = c.requires.small c.loop-quad.quad-index _ c.loop-quad-test.true }

pub loop-quad-preserved : goal.loop-quad-preserved
loop-quad-preserved c = record {
  room = search rules;
  added = keys_more c.args.order c.args.quads.now c.loop-quad.quad-index _ c.args.keys.now.items _ _ _ c.loop-quad-test.true (c.requires.small c.loop-quad.quad-index _ c.loop-quad-test.true)
      c.loop-quad.invariant.added c.key_of.ensures.key c.push_reserved.ensures.items;
}
