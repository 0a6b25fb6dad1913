use Rattle.keyed_hash.specs.Hashing.{hash_of}
use Rattle.text_dict.proofs.MoveLaws.{reached_moved}
use Rattle.text_dict.proofs.slots.longer_table.Goals as goal

pub returns-then-len-le-TAGS : goal.returns-then-len-le-TAGS
returns-then-len-le-TAGS c = record {
  reached = reached_moved (hash_of c.args.state) c.args.texts.now c.args.slots.now c.in_ok-longer.longer.items c.requires.few c.requires.reached c.in_ok-longer.ensures.moved;
}
