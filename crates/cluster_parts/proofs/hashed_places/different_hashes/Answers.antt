use Rattle.std.proofs.Common.{ap, ◌∙◌, map, nat_eq}
use Rattle.std.specs.List.{dedup}
use Rattle.std.proofs.lemmas.List.{take_all}
use Rattle.std.proofs.lemmas.List.Filters.{dedup_is}
use Rattle.cluster_parts.proofs.hashed_places.different_hashes.Goals as goal

pub returns : goal.returns
returns c = record {
  different =
      dedup_is nat_eq _ _ c.dedup.ensures.filtered
      ∙ ap (dedup nat_eq) (c.loop-it.invariant ∙ ap (map (λ x. x.hash)) (take_all c.loop-it.it-index c.args.places.now c.loop-it-test.false));
}
