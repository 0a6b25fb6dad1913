use Rattle.std.proofs.Common.{◌≡◌, ◌∙◌, ℕ, ◌+◌, ◌<◌, length, get_or, set, subst, arith}
use Rattle.std.proofs.lemmas.List.{length-map, length-set, get_or-map}
use Rattle.result_json.specs.Ranks.{Entry, numbers_of, HasRank}
use Rattle.result_json.proofs.RankSteps.{table_step}
use Rattle.result_json.proofs.ranking.rank_table.Goals as goal

pub loop-i-preserved : goal.loop-i-preserved
loop-i-preserved c =
    let order = c.args.order.now in
    let i = c.loop-i.i in
    let table = c.loop-i.table.items in
    let r = c.index-order-i.result in
    let count : length (numbers_of order) ≡ length order = length-map order (λ (e : Entry). e.1) in
    let n : get_or (numbers_of order) i 0 ≡ (get_or order i r).1 = get_or-map (λ (e : Entry). e.1) order i r 0 (omega arith) in
    let b : (get_or order i r).1 < c.args.count = c.requires.below i r (omega arith) in
    record {
      wide = length-set table (get_or order i r).1 (i + 1) ∙ c.loop-i.invariant.wide;
      ranks = subst (λ (k : ℕ). (j : ℕ) → j < i + 1 → HasRank (i + 1) (numbers_of order) (set table k (i + 1)) j) n
          (table_step (numbers_of order) table i (omega arith) (omega (arith, c.loop-i.invariant.wide)) c.loop-i.invariant.ranks);
    }

pub returns-clause-ranks : goal.returns-clause-ranks
returns-clause-ranks c j l =
    let order = c.args.order.now in
    let count : length (numbers_of order) ≡ length order = length-map order (λ (e : Entry). e.1) in
    let k = c.loop-i.invariant.ranks j (omega arith) in
    (k.0, k.1, k.2, omega (arith, k.3), k.4)
