use Rattle.std.proofs.Common.{arith, refl}
use Rattle.rdf_core.specs.Serialization.{serialization}
use Rattle.text_pieces.proofs.AddingLaws.{occur_at, term_numbers_more}
use Rattle.text_pieces.proofs.reading.number_terms.Goals as goal

pub number_term-requires-clause-occurs : goal.number_term-requires-clause-occurs
number_term-requires-clause-occurs c = occur_at c.args.terms.now c.loop-n.n c.term.result.now c.requires.occur c.term.ensures.value

pub loop-n-preserved : goal.loop-n-preserved
loop-n-preserved c =
    let was = c.loop-n.invariant in record {
      room = omega (arith, was.room, c.push_reserved.ensures.capacity);
      count = omega (arith, was.count, c.push_reserved.ensures.len);
      state = c.number_term.ensures.state;
      numbers = term_numbers_more c.args.dict.now.texts c.loop-n.new.texts c.number_term.new.new.texts c.args.terms.now c.loop-n.n c.in_ok-number_term.field-0 c.term.result.now
          (serialization c.term.result.now) c.loop-n.numbers.items c.push_reserved.new.self.items was.numbers c.term.ensures.value
          (occur_at c.args.terms.now c.loop-n.n c.term.result.now c.requires.occur c.term.ensures.value) refl c.in_ok-number_term.ensures.number c.push_reserved.ensures.items;
    }
