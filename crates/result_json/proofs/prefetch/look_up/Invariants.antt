use Rattle.std.proofs.Common.{◌≡◌, ℕ, ◌<◌, [], length, get_or}
use Rattle.result_json.specs.RankedRows.{ranks_of}
use Rattle.result_json.specs.Texts.{borrowed_texts, IsAhead}
use Rattle.result_json.proofs.prefetch.look_up.Given as goal

abbrev pub invariant-loop-row : goal.invariant-loop-row
invariant-loop-row l = record {
  wide : length (borrowed_texts l.ahead.items) ≡ l.row-index;
  ahead : (i : ℕ) → i < l.row-index → IsAhead l.texts (get_or (get_or (ranks_of l.rows) i []) l.place 0) (get_or (borrowed_texts l.ahead.items) i []);
}
