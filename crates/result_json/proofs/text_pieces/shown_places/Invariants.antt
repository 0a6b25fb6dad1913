use Rattle.std.proofs.Common.{ℕ, ◌<◌, length, All}
use Rattle.result_json.specs.Ranks.{terms_of}
use Rattle.result_json.proofs.text_pieces.shown_places.Given as goal

abbrev pub invariant-loop-place : goal.invariant-loop-place
invariant-loop-place l = All (λ (e : ℕ × ℕ). e.1 < length (terms_of l.terms)) l.places.items
