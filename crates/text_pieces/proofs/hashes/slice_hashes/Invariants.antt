use Rattle.std.proofs.Common.{◌≡◌, ◌≤◌, length, map, take, vec_len, vec_capacity}
use Rattle.text_pieces.specs.Hashes.{hashes_of}
use Rattle.text_pieces.proofs.hashes.slice_hashes.Given as goal

abbrev pub invariant-loop-raw : goal.invariant-loop-raw
invariant-loop-raw l = record {
  room : length l.raws ≤ vec_capacity l.hashes;
  count : vec_len l.hashes ≡ l.raw-index;
  hashes : l.hashes.items ≡ map (hashes_of l.state) (take l.raw-index l.raws);
}
