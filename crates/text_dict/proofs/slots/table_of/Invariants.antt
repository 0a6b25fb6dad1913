use Rattle.std.proofs.Common.{take}
use Rattle.keyed_hash.specs.Hashing.{hash_of}
use Rattle.text_dict.specs.Slots.{AreReached}
use Rattle.text_dict.proofs.slots.table_of.Given as goal

abbrev pub invariant-loop-n : goal.invariant-loop-n
invariant-loop-n l = AreReached (hash_of l.state) (take l.n l.texts) l.slots.items
