use Rattle.std.proofs.Common.{◌<◌, ◌^◌, ◌++◌, arith, length, refl, subst, sym, ◌∙◌}
use Rattle.std.proofs.lemmas.List.{take-append-drop}
use Rattle.cluster_parts.specs.Hash.{hash}
use Rattle.cluster_parts.proofs.FaultSteps.{same_checksum, too_short}
use Rattle.cluster_parts.proofs.sealing.checked_text.Goals as goal

pub returns-clause-parts : goal.returns-clause-parts
returns-clause-parts c = sym ((λ i. c.split_at.ensures.front i ++ c.split_at.ensures.back i) ∙ take-append-drop c.args.len c.args.bytes.now)

pub returns-then-len-length_of-clause-damage : goal.returns-then-len-length_of-clause-damage
returns-then-len-length_of-clause-damage c =
    let low : length c.args.bytes.now < 2 ^ 64 = omega (arith, c.length_of.ensures.value, c.length_of.type_inv) in
    (refl, too_short c.args.len c.args.checksum c.args.bytes.now c.ranges.len.fits low (omega (arith, c.length_of.ensures.value, c.if-len-length_of.true)))

pub returns-then-hash_of-checksum-clause-damage : goal.returns-then-hash_of-checksum-clause-damage
returns-then-hash_of-checksum-clause-damage c =
    let low : length c.args.bytes.now < 2 ^ 64 = omega (arith, c.length_of.ensures.value, c.length_of.type_inv) in
    let parts = sym ((λ i. c.split_at.ensures.front i ++ c.split_at.ensures.back i) ∙ take-append-drop c.args.len c.args.bytes.now) in
    let low_hash : hash c.split_at.result.0.now < 2 ^ 64 = subst (λ h. h < 2 ^ 64) c.hash_of.ensures.value c.hash_of.type_inv in (
      refl,
      λ w. c.if-hash_of-checksum.true (c.hash_of.ensures.value
          ∙ same_checksum c.args.len c.args.checksum c.args.bytes.now c.split_at.result.0.now c.split_at.result.1.now c.ranges.len.fits c.ranges.checksum.fits low low_hash parts (sym c.split_at.ensures.front_len) w),
    )
