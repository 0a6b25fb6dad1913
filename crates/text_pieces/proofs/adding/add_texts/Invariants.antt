use Rattle.std.proofs.Common.{◌≡◌, ◌≤◌, length, take, vec_len, vec_capacity}
use Rattle.text_pieces.specs.Pieces.{AreAdded, AreGrown}
use Rattle.text_pieces.proofs.adding.add_texts.Given as goal

abbrev pub invariant-loop-n : goal.invariant-loop-n
invariant-loop-n l = record {
  room : length l.new.texts ≤ vec_capacity l.numbers;
  count : vec_len l.numbers ≡ l.n;
  state : l.dict.state ≡ l.fn.dict.state;
  grown : AreGrown l.fn.dict.texts l.dict.texts;
  added : AreAdded l.fn.dict.texts (take l.n l.new.texts) l.dict.texts l.numbers.items;
}
