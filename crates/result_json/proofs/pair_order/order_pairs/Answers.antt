use Rattle.std.proofs.Common.{ℕ, IsPermutation, sym, subst, arith}
use Rattle.row_core.specs.RowList.{rows_in}
use Rattle.result_json.proofs.PairLaws.{sorted_count, pairs_in_order}
use Rattle.result_json.proofs.pair_order.order_pairs.Goals as goal

pub put_pairs-requires : goal.put_pairs-requires
put_pairs-requires c =
    let of = rw c.in-Some.is at c.in_ok-keys.ensures.rows in
    let permuted = subst (IsPermutation c.in-Some.keys.items) (sym c.deref.ensures.value) c.sort_unstable.ensures.permutation in
    record { within = omega (arith, sorted_count c.args.count c.args.ranks.now c.in-Some.keys.items c.deref.result.now of permuted, c.if-count-ranks.true) }

pub returns-in-Some-clause-permutation : goal.returns-in-Some-clause-permutation
returns-in-Some-clause-permutation c =
    let of = rw c.in-Some.is at c.in_ok-keys.ensures.rows in
    let permuted = subst (IsPermutation c.in-Some.keys.items) (sym c.deref.ensures.value) c.sort_unstable.ensures.permutation in
    subst (λ (w : ℕ). IsPermutation (rows_in w w c.args.count c.args.ranks.now) (rows_in w w c.args.count c.put_pairs.new.ranks)) (sym c.if-width-eq2.true)
    (pairs_in_order c.args.count c.args.ranks.now c.in-Some.keys.items c.deref.result.now of permuted c.put_pairs.new.ranks c.put_pairs.ensures.rows)
