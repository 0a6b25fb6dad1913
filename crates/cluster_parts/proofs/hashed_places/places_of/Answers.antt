use Rattle.std.proofs.Common.{arith}
use Rattle.cluster_parts.specs.declared.hashed_places.HashedPlace.{HashedPlace}
use Rattle.cluster_parts.proofs.HashedLaws.{place_more}
use Rattle.cluster_parts.proofs.hashed_places.places_of.Goals as goal

pub loop-place-preserved : goal.loop-place-preserved
loop-place-preserved c =
    let place : HashedPlace = record { hash = c.hash_of_quad-hash.result; place = c.loop-place.place } in
    let more = place_more c.args.terms.now c.args.quads.now place c.loop-place.places.items c.push.new.self.items (omega (arith, c.loop-place-test.true)) c.hash_of_quad-hash.ensures.value
    c.loop-place.invariant.hashed c.loop-place.invariant.all c.in_ok-push.ensures.items in
    record { hashed = more.0; all = more.1 }
