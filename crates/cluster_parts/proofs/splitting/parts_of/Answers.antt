use Rattle.cluster_parts.proofs.TermSteps.{check_parts_are}
use Rattle.cluster_parts.proofs.splitting.parts_of.Goals as goal

pub returns : goal.returns
returns c = record {
  parts = λ quads h. (
    c.in_ok-counting.counting.quad_hashes.items,
    c.in_ok-counting.ensures.quads quads h,
    c.in_ok-counting.ensures.ascending,
    c.in_ok-counting.ensures.fit,
    check_parts_are c.args.partitions c.args.block.now.lines quads c.args.block.now.texts.texts c.args.block.now.quads.items c.in_ok-counting.counting.names.texts
        c.in_ok-counting.counting.quad_hashes.items _ _ _ h (c.in_ok-counting.ensures.names quads h)
        c.new-out.ensures.items c.in_ok-push_sealed_number.ensures.appended c.in_ok-push_parts.ensures.appended,
  );
}
