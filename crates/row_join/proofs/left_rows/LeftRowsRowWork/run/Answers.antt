use Rattle.std.proofs.Common.{arith, ◌∙◌}
use Rattle.row_join.proofs.TurnLaws.{row_passes, left-turn, left-piece, length-gives}
use Rattle.row_join.proofs.left_rows.LeftRowsRowWork.run.Goals as goal

pub invariant_of-row : goal.invariant_of-row
invariant_of-row g c =
    let l = c.requires.places in
    let m = length-gives (g.P.Pairing.gives c.args.self.now.pairing.now c.args.self.now.right.now.rows.now.rows) c.args.self.now.left.now.rows in
    record { inside = omega arith }

pub add-requires-clause-row_known : goal.add-requires-clause-row_known
add-requires-clause-row_known g c =
    row_passes (g.P.Pairing.knows c.args.self.now.pairing.now) c.args.self.now.left.now.rows c.loop-i.i c.args.self.now.left_known

pub loop-i-preserved : goal.loop-i-preserved
loop-i-preserved g c = record {
  width = c.in_ok-add.ensures.width ∙ c.loop-i.invariant.width;
  rows = left-turn (g.P.Pairing.gives c.args.self.now.pairing.now c.args.self.now.right.now.rows.now.rows) c.args.self.now.left.now.rows c.args.from c.loop-i.i
      c.loop-i.made.rows c.add.new.made.rows (omega arith) (let l = c.requires.places in let m = length-gives (g.P.Pairing.gives c.args.self.now.pairing.now c.args.self.now.right.now.rows.now.rows) c.args.self.now.left.now.rows in omega arith)
      c.loop-i.invariant.rows c.in_ok-add.ensures.rows;
}

pub returns : goal.returns
returns g c = record {
  rows = (
    c.loop-i.invariant.width,
    left-piece (g.P.Pairing.gives c.args.self.now.pairing.now c.args.self.now.right.now.rows.now.rows) c.args.self.now.left.now.rows c.args.from c.loop-i.i c.args.to c.loop-i.made.rows
        (omega arith) c.loop-i.invariant.rows,
  );
}
