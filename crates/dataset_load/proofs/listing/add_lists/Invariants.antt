use Rattle.std.proofs.Common.{◌+◌, ◌≤◌, ◌*◌, ◌-◌, ◌^◌, ◌++◌, List, ℕ, take}
use Rattle.malformed_lines.specs.Malformed.{IsListed}
use Rattle.dataset_load.specs.Lines.{all_lines, texts}
use Rattle.dataset_load.proofs.listing.add_lists.Given as goal

abbrev pub invariant-loop-piece : goal.invariant-loop-piece
invariant-loop-piece l = record {
  listed : (before : List (List ℕ)) → IsListed before l.fn.list → IsListed (before ++ all_lines (take l.piece-index (texts l.pieces))) l.list;
  counted : l.list.lines ≤ l.fn.list.lines + l.piece-index * (2 ^ 64 - 1);
}
