use Rattle.std.proofs.Common.{◌≡◌, ◌≤◌, length, take, vec_len, vec_capacity}
use Rattle.text_pieces.specs.Slices.{AreTermNumbers}
use Rattle.text_pieces.proofs.reading.number_terms.Given as goal

abbrev pub invariant-loop-n : goal.invariant-loop-n
invariant-loop-n l = record {
  room : length l.terms ≤ vec_capacity l.numbers;
  count : vec_len l.numbers ≡ l.n;
  state : l.new.state ≡ l.dict.state;
  numbers : AreTermNumbers l.dict.texts l.new.texts (take l.n l.terms) l.numbers.items;
}
