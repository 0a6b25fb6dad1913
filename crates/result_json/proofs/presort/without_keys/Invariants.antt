use Rattle.std.proofs.Common.{◌≡◌, take}
use Rattle.result_json.specs.Keyed.{entries_of}
use Rattle.result_json.proofs.presort.without_keys.Given as goal

abbrev pub invariant-loop-key : goal.invariant-loop-key
invariant-loop-key l = l.entries.items ≡ entries_of (take l._key-index l.keyed)
