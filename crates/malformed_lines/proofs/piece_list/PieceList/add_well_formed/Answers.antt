use Rattle.std.proofs.Common.{◌+◌, ℕ, refl, sym, ap}
use Rattle.malformed_lines.proofs.ListSteps.{many_well_formed}
use Rattle.malformed_lines.proofs.piece_list.PieceList.add_well_formed.Goals as goal

pub returns-clause-listed : goal.returns-clause-listed
returns-clause-listed c = λ before after quads h s e.
    many_well_formed before after quads c.args.self.now _ h s refl refl refl (ap (λ (k : ℕ). c.args.self.now.lines + k) (sym e))
