use Rattle.std.proofs.Common.{length, sym, ap, ◌∙◌}
use Rattle.std.proofs.lemmas.List.FromFn.{length-range_with_len}
use Rattle.row_join.specs.Tried.{places_of}
use Rattle.row_join.specs.declared.tried.Tried.{Tried}
use Rattle.row_join.proofs.tried.Tried.len.Goals as goal

pub returns-in-All : goal.returns-in-All
returns-in-All c = record { value = sym (ap (λ (t : Tried). length (places_of t)) c.in-All.is ∙ length-range_with_len 0 c.in-All.count) }
