use Rattle.std.proofs.Common.{◌≡◌, take}
use Rattle.result_json.specs.Keyed.{entries_of}
use Rattle.result_json.proofs.presort.with_keys.Given as goal

abbrev pub invariant-loop-entry : goal.invariant-loop-entry
invariant-loop-entry l = entries_of l.keyed.items ≡ take l.entry-index l.entries
