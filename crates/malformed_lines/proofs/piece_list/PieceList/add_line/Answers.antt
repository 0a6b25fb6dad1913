use Rattle.std.proofs.Common.{refl}
use Rattle.line_diagnosis.specs.Place.{IsWellFormed}
use Rattle.malformed_lines.proofs.ListSteps.{one_well_formed}
use Rattle.malformed_lines.proofs.piece_list.PieceList.add_line.Goals as goal

pub returns-in-None-clause-listed : goal.returns-in-None-clause-listed
returns-in-None-clause-listed c = λ before h.
    let w : IsWellFormed c.args.line.now = c.in-None.ensures.well_formed in
    one_well_formed before c.args.line.now w.meaning c.args.self.now _ h w.statement refl refl refl refl

pub returns-then-branch-clause-listed : goal.returns-then-branch-clause-listed
returns-then-branch-clause-listed c = λ before h.
    let w = c.in_ok-is_well_formed_line.ensures.well_formed c.if-branch.true in
    one_well_formed before c.args.line.now w.0 c.args.self.now _ h w.1 refl refl refl refl
