use Rattle.std.proofs.Common.{◌≡◌, ◌++◌}
use Rattle.std.specs.Vec.Iter.{into_iter_items}
use Rattle.result_json.specs.Keyed.{entries_of, joined_entries}
use Rattle.result_json.proofs.presort.joined.Given as goal

abbrev pub invariant-loop-keyed : goal.invariant-loop-keyed
invariant-loop-keyed l = entries_of l.all.items ++ joined_entries (into_iter_items l.keyed-iterator) ≡ joined_entries l.fn.pieces.items
