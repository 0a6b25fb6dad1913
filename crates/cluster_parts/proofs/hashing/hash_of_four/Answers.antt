use Rattle.std.proofs.Common.{◌%◌, ◌^◌, ap, ◌∙◌}
use Rattle.core.specs.Hash.FoldHasher.{finish}
use Rattle.cluster_parts.specs.Hash.{hash_numbers, write_number}
use Rattle.cluster_parts.proofs.hashing.hash_of_four.Goals as goal

pub returns : goal.returns
unfolding hash_numbers
returns c = record {
  value = ap (λ h. h % 2 ^ 60) (c.finish.ensures ∙ ap finish (c.write_u64-4.ensures ∙ ap (λ h. write_number h c.args.g) (c.write_u64-3.ensures ∙ ap (λ h. write_number h c.args.o) (c.write_u64-2.ensures ∙ ap (λ h. write_number h c.args.p) (c.write_u64.ensures ∙ ap (λ h. write_number h c.args.s) c.default-hasher.ensures)))));
}
