use Rattle.std.proofs.Common.{length, refl}
use Rattle.std.proofs.lemmas.List.Sorted.{IsPermutation-trans}
use Rattle.result_json.proofs.KeyedLaws.{pieces-permuted}
use Rattle.result_json.proofs.presort.presorted.Goals as goal

pub returns-clause-permutation : goal.returns-clause-permutation
returns-clause-permutation g c =
    let all = rw c.in-All.is at c.in_ok-sorted.ensures.outcome in
    let entries = c.args.entries.now in
    IsPermutation-trans entries _ _
    (pieces-permuted c.worker_piece_size-size.result (length entries) c.div_ceil-pieces.result c.in-All.sorted.items entries c.worker_piece_size-size.ensures.some refl c.div_ceil-pieces.ensures all.count all.each)
    c.in_ok-merged-in-All.ensures.permutation
