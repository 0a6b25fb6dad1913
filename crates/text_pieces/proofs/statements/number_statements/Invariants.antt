use Rattle.std.proofs.Common.{◌≡◌, ◌≤◌, length, take, vec_len, vec_capacity}
use Rattle.std.specs.Option.{IfSome}
use Rattle.text_pieces.specs.Slices.{AreNumbersOfAll, IsKnownName, IsKnownNode}
use Rattle.text_pieces.proofs.statements.number_statements.Given as goal

abbrev pub invariant-loop-i : goal.invariant-loop-i
invariant-loop-i l = record {
  room : length l.raws ≤ vec_capacity l.quads;
  count : vec_len l.quads ≡ l.i;
  state : l.new.state ≡ l.dict.state;
  subject : IfSome l.last.subject (IsKnownNode l.dict.texts l.new.texts l.last.raw.subject.now);
  graph : IfSome l.last.graph (IsKnownName l.dict.texts l.new.texts l.last.raw.graph);
  numbered : AreNumbersOfAll l.dict.texts l.new.texts (take l.i l.raws) l.quads.items;
}
