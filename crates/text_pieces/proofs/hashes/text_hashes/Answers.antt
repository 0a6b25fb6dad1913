use Rattle.std.proofs.Common.{◌++◌, ◌∷◌, [], ap, ◌∙◌, arith}
use Rattle.keyed_hash.specs.Hashing.{hash_of}
use Rattle.text_pieces.proofs.HashLaws.{hashes_more}
use Rattle.text_pieces.proofs.hashes.text_hashes.Goals as goal

pub loop-n-preserved : goal.loop-n-preserved
loop-n-preserved c =
    let was = c.loop-n.invariant in record {
      room = omega (arith, was.room, c.push_reserved.ensures.capacity);
      count = omega (arith, was.count, c.push_reserved.ensures.len);
      hashes = hashes_more (hash_of c.args.state) c.args.texts.now.texts c.loop-n.n c.text.result.now c.loop-n.hashes.items c.push_reserved.new.self.items was.hashes c.text.ensures.value
          (c.push_reserved.ensures.items ∙ ap (λ h. c.loop-n.hashes.items ++ h ∷ []) c.hash_of.ensures);
    }
