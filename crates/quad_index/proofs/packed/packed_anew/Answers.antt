use Rattle.std.proofs.Common.{rules, subst, sym, arith}
use Rattle.quad_index.specs.Packed.{IsSmall, quad_of}
use Rattle.quad_index.proofs.PackedLaws.{anew_more, mapped_all, small_is}
use Rattle.quad_index.proofs.packed.packed_anew.Goals as goal

pub key_of-requires : goal.key_of-requires
key_of-requires c = record { small = subst IsSmall (sym c.quad_of.ensures.quad) (small_is _ c.args.from (omega arith)) }

pub loop-key-preserved : goal.loop-key-preserved
loop-key-preserved c = record {
  room = search rules;
  count = search rules;
  same = anew_more c.args.from c.args.order c.args.keys.now c.loop-key.key-index _ _ _ c.quad_of.result c.loop-key-test.true (omega arith) c.loop-key.invariant.same c.quad_of.ensures.quad
      c.key_of.ensures.key c.push_reserved.ensures.items;
}

pub returns : goal.returns
returns c = record { same = mapped_all (quad_of c.args.from) c.args.keys.now c.loop-key.key-index _ c.loop-key-test.false c.loop-key.invariant.same }
