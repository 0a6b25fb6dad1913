use Rattle.std.proofs.Common.{◌≡◌, ◌+◌, ◌<◌, ℕ, List, get_or, length, sym, ap, subst, ◌∙◌, arith}
use Rattle.std.proofs.lemmas.List.FromFn.{get_or-range_with_len, length-range_with_len}
use Rattle.row_join.specs.Tried.{places_of}
use Rattle.row_join.specs.declared.tried.Tried.{Tried}
use Rattle.row_join.proofs.tried.Tried.place.Goals as goal

pub returns-in-All : goal.returns-in-All
returns-in-All c =
    let i = c.args.i in
    let count = c.in-All.field-0 in
    let places = ap (λ (t : Tried). places_of t) c.in-All.is in
    let low : i < count = subst (λ (n : ℕ). i < n) (ap length places ∙ length-range_with_len 0 count) c.requires.within in
    let here : 0 + i ≡ i = omega arith in
    record { value = sym (ap (λ (l : List ℕ). get_or l i 0) places ∙ get_or-range_with_len 0 count i 0 low ∙ here) }
