use Rattle.std.proofs.Common.{take, sym, ap, ◌∙◌, subst, arith}
use Rattle.keyed_hash.specs.Hashing.{hash_of}
use Rattle.text_pieces.specs.Pieces.{AreAdded, AreGrown}
use Rattle.text_pieces.proofs.AddingLaws.{added_more, added_none, grown_more, grown_same}
use Rattle.text_pieces.proofs.HashLaws.{hash_at}
use Rattle.text_pieces.proofs.adding.add_texts.Goals as goal

pub intern_hashed-requires-clause-hashed : goal.intern_hashed-requires-clause-hashed
intern_hashed-requires-clause-hashed c =
    hash_at (hash_of c.args.dict.now.state) c.args.new.now.texts c.loop-n.n c.text.result.now c.args.hashes.now c.requires.hashed c.text.ensures.value
    ∙ ap (λ s. hash_of s c.text.result.now) (sym c.loop-n.invariant.state)

pub loop-n-init : goal.loop-n-init
loop-n-init c = record {
  room = omega (arith, c.in_ok-numbers.ensures.exact, c.len.ensures.value);
  count = c.in_ok-numbers.ensures.len;
  state = c.reserve.ensures.state;
  grown = subst (AreGrown c.args.dict.now.texts) (sym c.reserve.ensures.texts) (grown_same c.args.dict.now.texts);
  added = subst (λ texts. AreAdded c.args.dict.now.texts (take 0 c.args.new.now.texts) texts c.in_ok-numbers.numbers.items) (sym c.reserve.ensures.texts)
      (subst (AreAdded c.args.dict.now.texts (take 0 c.args.new.now.texts) c.args.dict.now.texts) (sym c.in_ok-numbers.ensures.items)
      (added_none c.args.dict.now.texts c.args.new.now.texts));
}

pub loop-n-preserved : goal.loop-n-preserved
loop-n-preserved c =
    let was = c.loop-n.invariant in
    let done = c.in_ok-intern_hashed.ensures in record {
      room = omega (arith, was.room, c.push_reserved.ensures.capacity);
      count = omega (arith, was.count, c.push_reserved.ensures.len);
      state = c.intern_hashed.ensures.state ∙ was.state;
      grown = grown_more c.args.dict.now.texts c.loop-n.dict.texts c.intern_hashed.new.self.texts c.text.result.now was.grown done.added;
      added = added_more c.args.dict.now.texts c.args.new.now.texts c.loop-n.dict.texts c.intern_hashed.new.self.texts c.loop-n.n c.in_ok-intern_hashed.field-0 c.text.result.now
          c.loop-n.numbers.items c.push_reserved.new.self.items was.added c.text.ensures.value done.added done.number c.push_reserved.ensures.items;
    }
