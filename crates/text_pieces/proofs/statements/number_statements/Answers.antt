use Rattle.std.proofs.Common.{arith}
use Rattle.text_pieces.proofs.StatementSteps.{statements_more}
use Rattle.text_pieces.proofs.statements.number_statements.Goals as goal

pub loop-i-preserved : goal.loop-i-preserved
loop-i-preserved c =
    let was = c.loop-i.invariant in record {
      room = omega (arith, was.room, c.push_reserved.ensures.capacity);
      count = omega (arith, was.count, c.push_reserved.ensures.len);
      state = c.number_statement.ensures.state;
      subject = c.in_ok-quad.ensures.subject;
      graph = c.in_ok-quad.ensures.graph;
      numbered = statements_more c.args.dict.now.texts c.loop-i.new.texts c.number_statement.new.new.texts c.args.raws.now c.loop-i.i c.loop-i.quads.items c.push_reserved.new.self.items _
          c.in_ok-quad.quad (omega arith) was.numbered c.in_ok-quad.ensures.number c.push_reserved.ensures.items;
    }
