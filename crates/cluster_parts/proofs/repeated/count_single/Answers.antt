use Rattle.std.proofs.Common.{arith, nat_eq}
use Rattle.std.proofs.lemmas.List.Filters.{dedup_is}
use Rattle.cluster_parts.proofs.PartSteps.{single_count}
use Rattle.cluster_parts.proofs.repeated.count_single.Goals as goal

pub overflow_sub-result : goal.overflow_sub-result
overflow_sub-result c =
    let both = single_count c.args.numbers.items c.dedup.new.self.items c.args.again.now c.requires.sorted c.requires.again c.len-2.ensures.unique (dedup_is nat_eq _ _ c.dedup.ensures.filtered) in
    omega (arith, both, c.len.ensures, c.len-2.ensures.len, c.dedup.new.self.ok.0)

pub returns : goal.returns
returns c = record {
  count =
      let both = single_count c.args.numbers.items c.dedup.new.self.items c.args.again.now c.requires.sorted c.requires.again c.len-2.ensures.unique (dedup_is nat_eq _ _ c.dedup.ensures.filtered) in
      omega (arith, both, c.len.ensures, c.len-2.ensures.len, c.dedup.new.self.ok.0);
}
