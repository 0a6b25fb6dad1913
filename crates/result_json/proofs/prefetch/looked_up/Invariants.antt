use Rattle.std.proofs.Common.{◌≡◌, ℕ, ◌<◌, [], length, get_or}
use Rattle.result_json.specs.RankedRows.{ranks_of}
use Rattle.result_json.specs.Texts.{all_texts, places_of, IsColumnAhead}
use Rattle.result_json.proofs.prefetch.looked_up.Given as goal

abbrev pub invariant-loop-prefix : goal.invariant-loop-prefix
invariant-loop-prefix l = record {
  wide : length (all_texts l.ahead.items) ≡ l._prefix-index;
  ahead : (k : ℕ) → k < l._prefix-index → IsColumnAhead l.texts (get_or (places_of l.columns) k 0) (ranks_of l.rows) (get_or (all_texts l.ahead.items) k []);
}
