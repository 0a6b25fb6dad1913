use Rattle.std.proofs.Common.{◌≡◌, ◌≤◌, length, map, take, vec_len, vec_capacity}
use Rattle.keyed_hash.specs.Hashing.{hash_of}
use Rattle.text_pieces.proofs.hashes.text_hashes.Given as goal

abbrev pub invariant-loop-n : goal.invariant-loop-n
invariant-loop-n l = record {
  room : length l.texts.texts ≤ vec_capacity l.hashes;
  count : vec_len l.hashes ≡ l.n;
  hashes : l.hashes.items ≡ map (hash_of l.state) (take l.n l.texts.texts);
}
