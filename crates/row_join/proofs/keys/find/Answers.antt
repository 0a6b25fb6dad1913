use Rattle.std.proofs.Common.{◌-◌, ◌<◌, [], length, refl, sym, ◌∙◌, arith}
use Rattle.std.proofs.lemmas.Option.{get_or_from_slice_get}
use Rattle.row_core.specs.RowList.{rows_in}
use Rattle.row_core.proofs.RowSteps.{length-rows_in, row-inside}
use Rattle.row_join.specs.KeyTable.{bucket_of}
use Rattle.row_join.proofs.KeyTableLaws.{search-start, search-next, link-below, found-place, no-place}
use Rattle.row_join.proofs.keys.find.Goals as goal

pub loop-at-init : goal.loop-at-init
loop-at-init c =
    let w = c.args.width in
    let n = length c.args.earlier.now in
    search-start (bucket_of c.args.state (length c.args.buckets.now)) (rows_in w w n c.args.numbers.now) c.args.buckets.now c.args.earlier.now c.requires.table
    c.args.key.now c.bucket_of.result _ c.bucket_of.ensures.value c.bucket_of.ensures.within refl

pub key_at-requires : goal.key_at-requires
key_at-requires c =
    let w = c.args.width in
    let low = c.loop-at.invariant.low in
    record { within = row-inside w w (length c.args.earlier.now) (c.loop-at.at - 1) (length c.args.numbers.now) (omega arith) (omega arith) c.requires.long }

pub loop-at-preserved : goal.loop-at-preserved
loop-at-preserved c =
    let w = c.args.width in
    let n = length c.args.earlier.now in
    let at = c.loop-at.at in
    let low = c.loop-at.invariant.low in
    let keys = rows_in w w n c.args.numbers.now in
    search-next (bucket_of c.args.state (length c.args.buckets.now)) keys c.args.buckets.now c.args.earlier.now c.requires.table
    c.args.key.now c.key_at.result.now at _ c.loop-at-test.true c.loop-at.invariant
    (get_or_from_slice_get keys (at - 1) c.key_at.result.now [] (c.key_at.ensures.value n (omega arith)))
    (sym c.eq.ensures ∙ c.if-eq.false) refl

pub loop-at-smaller : goal.loop-at-smaller
loop-at-smaller c =
    let w = c.args.width in
    let n = length c.args.earlier.now in
    link-below (bucket_of c.args.state (length c.args.buckets.now)) (rows_in w w n c.args.numbers.now) c.args.buckets.now c.args.earlier.now c.requires.table
    c.loop-at.at c.loop-at-test.true c.loop-at.invariant.low

pub returns-then-eq : goal.returns-then-eq
returns-then-eq c =
    let w = c.args.width in
    let n = length c.args.earlier.now in
    let at = c.loop-at.at in
    let low = c.loop-at.invariant.low in
    let keys = rows_in w w n c.args.numbers.now in
    let count = length-rows_in w w n c.args.numbers.now in
    let below : at - 1 < n = omega arith in
    record {
      value = (
        found-place (bucket_of c.args.state (length c.args.buckets.now)) keys c.args.buckets.now c.args.earlier.now c.requires.table
            c.args.key.now c.key_at.result.now (at - 1) (omega arith)
            (get_or_from_slice_get keys (at - 1) c.key_at.result.now [] (c.key_at.ensures.value n below))
            (sym c.eq.ensures ∙ c.if-eq.true),
        below,
      );
    }

pub returns : goal.returns
returns c =
    let w = c.args.width in
    let n = length c.args.earlier.now in
    record {
      value = no-place (bucket_of c.args.state (length c.args.buckets.now)) (rows_in w w n c.args.numbers.now) c.args.buckets.now c.args.earlier.now c.requires.table
          c.args.key.now c.loop-at.at c.loop-at-test.false (length-rows_in w w n c.args.numbers.now) c.loop-at.invariant;
    }

pub bounds-earlier-at : goal.bounds-earlier-at
bounds-earlier-at c =
    let low = c.loop-at.invariant.low in
    let some = c.loop-at-test.true in
    omega arith
