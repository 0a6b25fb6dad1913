use Rattle.std.proofs.Common.{◌<◌, ap, ◌∙◌, length, map, nat_eq, subst, IsPermutation}
use Rattle.std.specs.List.{dedup}
use Rattle.std.proofs.lemmas.List.Elements.{All-weaker}
use Rattle.std.proofs.lemmas.List.Sorted.{All-permutation, IsPermutation-map}
use Rattle.cluster_parts.specs.Numbered.{IsHashed, NeighboursAgree, quad_there}
use Rattle.cluster_parts.proofs.HashedLaws.{hashes_are_once, hashes_ascend}
use Rattle.cluster_parts.proofs.hashed_places.hashes_once.Goals as goal

pub neighbours_agree-requires : goal.neighbours_agree-requires
neighbours_agree-requires c =
    let hashed = IsHashed c.args.terms.now c.args.quads.now in
    let all = All-permutation hashed c.in_ok-places.places.items c.sort_by_hash.new.places.items c.sort_by_hash.ensures.same c.in_ok-places.ensures.hashed in
    record {
      within = rw c.as_slice.ensures.value (All-weaker hashed (λ x. x.place < length c.args.quads.now) (λ x h. h.0) c.sort_by_hash.new.places.items all);
    }

pub returns-clause-once : goal.returns-clause-once
returns-clause-once c =
    let quads = c.args.quads.now in
    let places = c.sort_by_hash.new.places.items in
    let hashed = All-permutation (IsHashed c.args.terms.now quads) c.in_ok-places.places.items places c.sort_by_hash.ensures.same c.in_ok-places.ensures.hashed in
    let agree = subst (NeighboursAgree quads) c.as_slice.ensures.value (c.neighbours_agree.ensures.agree c.if-not-neighbours_agree.false) in
    let moved = subst (λ l. IsPermutation l (map (quad_there quads) places)) c.in_ok-places.ensures.all
    (IsPermutation-map (quad_there quads) c.in_ok-places.places.items places c.sort_by_hash.ensures.same) in
    hashes_are_once c.args.terms.now quads places hashed c.sort_by_hash.ensures.sorted agree c.in_ok-hashes.hashes.items moved
    (c.in_ok-hashes.ensures.different ∙ ap (λ l. dedup nat_eq (map (λ x. x.hash) l)) c.as_slice-2.ensures.value)

pub returns-clause-ascending : goal.returns-clause-ascending
returns-clause-ascending c =
    let quads = c.args.quads.now in
    let places = c.sort_by_hash.new.places.items in
    let hashed = All-permutation (IsHashed c.args.terms.now quads) c.in_ok-places.places.items places c.sort_by_hash.ensures.same c.in_ok-places.ensures.hashed in
    let agree = subst (NeighboursAgree quads) c.as_slice.ensures.value (c.neighbours_agree.ensures.agree c.if-not-neighbours_agree.false) in
    hashes_ascend c.args.terms.now quads places hashed c.sort_by_hash.ensures.sorted agree c.in_ok-hashes.hashes.items
    (c.in_ok-hashes.ensures.different ∙ ap (λ l. dedup nat_eq (map (λ x. x.hash) l)) c.as_slice-2.ensures.value)
