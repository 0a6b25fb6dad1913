use Rattle.std.proofs.Common.{ℕ, List, ◌++◌, Option, sym, ap, ◌∙◌}
use Rattle.sparql_eval.proofs.ExtendSteps.{put_open, left_bound}
use Rattle.sparql_eval.proofs.extensions.extend_row.Goals as goal

pub returns-then-is_open : goal.returns-then-is_open
returns-then-is_open c =
    let row = c.args.row.now in
    let copied = c.in_ok-extend_from_slice.ensures.items ∙ ap (λ (l : List (Option ℕ)). l ++ row) c.clear.ensures.items in
    record { bound = put_open row c.extend_from_slice.new.self.items c.args.variable c.args.number copied (sym c.is_open.ensures.value ∙ c.if-is_open.true) }

pub returns-else-is_open : goal.returns-else-is_open
returns-else-is_open c =
    let row = c.args.row.now in
    let copied = c.in_ok-extend_from_slice.ensures.items ∙ ap (λ (l : List (Option ℕ)). l ++ row) c.clear.ensures.items in
    record { bound = left_bound row c.extend_from_slice.new.self.items c.args.variable c.args.number copied (sym c.is_open.ensures.value ∙ c.if-is_open.false) }
