use Rattle.std.proofs.Common.{◌≡◌, ℕ, ◌+◌, ◌-◌, ◌*◌, Some, take, drop, ap, ◌∙◌, arith}
use Rattle.row_core.proofs.RowSteps.{get-rows_in}
use Rattle.row_join.proofs.keys.key_at.Goals as goal

pub returns : goal.returns
returns c =
    let w = c.args.width in
    let start = c.args.place * w in
    let long : w ≡ start + w - start = omega arith in
    record {
      value = λ count low.
          get-rows_in w w count c.args.place c.args.numbers.now low
          ∙ ap (λ (k : ℕ). Some (take k (drop start c.args.numbers.now))) long;
    }
