use Rattle.keyed_hash.specs.Hashing.{hash_of}
use Rattle.text_dict.proofs.TruncateLaws.{table_taken}
use Rattle.text_dict.proofs.text_dict.TextDict.truncate.Goals as goal

pub invariant_of-self : goal.invariant_of-self
invariant_of-self c = table_taken (hash_of c.self.inside.state) c.self.inside.texts c.truncate.new.self c.self.inside.slots.items c.args.len c.truncate.ensures.value c.self.invariant
