use Rattle.std.proofs.Common.{is_lt, is_le, rules}
use Rattle.std.proofs.lemmas.List.Sorted.{IsPartitionPoint-from_clause}
use Rattle.quad_index.specs.Indexed.{prefix_cmp}
use Rattle.quad_index.specs.Packed.{quad_of}
use Rattle.quad_index.proofs.SortOrderLaws.{prefix_total}
use Rattle.quad_index.proofs.RangeLaws.{parted_keys, parted_rest_keys, found_keys}
use Rattle.quad_index.proofs.range.packed_range.Goals as goal

pub returns : goal.returns
returns c = record {
  quads = found_keys (quad_of c.args.order) (prefix_cmp c.args.by) c.args.keys.now c.args.key.now c.partition_point-start.result c.partition_point-count.result
      (IsPartitionPoint-from_clause (λ k. is_lt (prefix_cmp c.args.by (quad_of c.args.order k) c.args.key.now)) _ _ c.partition_point-start.ensures.partitioned
      (parted_keys (quad_of c.args.order) (prefix_cmp c.args.by) (prefix_total c.args.by) c.args.keys.now c.requires.sorted c.args.key.now) (λ a r q k. search rules))
      (IsPartitionPoint-from_clause (λ k. is_le (prefix_cmp c.args.by (quad_of c.args.order k) c.args.key.now)) _ _ c.partition_point-count.ensures.partitioned
      (parted_rest_keys (quad_of c.args.order) (prefix_cmp c.args.by) (prefix_total c.args.by) c.args.keys.now c.requires.sorted c.args.key.now c.partition_point-start.result) (λ a r q k. search rules));
}
