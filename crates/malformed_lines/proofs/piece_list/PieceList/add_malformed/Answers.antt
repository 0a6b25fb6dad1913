use Rattle.std.proofs.Common.{[], ◌∷◌, ◌++◌, refl}
use Rattle.malformed_lines.proofs.CountLaws.{named_still}
use Rattle.malformed_lines.proofs.ListSteps.{named_here, one_malformed}
use Rattle.malformed_lines.proofs.TallyLaws.{tally_more}
use Rattle.malformed_lines.proofs.piece_list.PieceList.add_malformed.Goals as goal

pub returns-clause-listed : goal.returns-clause-listed
returns-clause-listed c = λ before h m x.
    let one = named_here before c.args.line.now c.args.self.now c.args.diagnosis.now _ h m x refl refl refl c.summary.ensures.same in
    let names = c.in_ok-add.ensures.named 0 (before ++ c.args.line.now ∷ []) (named_still 0 before (c.args.line.now ∷ []) _ h.named) one in
    let tally = tally_more h.singles c.args.self.now.reasons.counts.items _ _ h.tally c.in_ok-add.ensures.sums c.in_ok-add.ensures.firsts c.in_ok-add.ensures.complete in
    one_malformed before c.args.line.now c.args.self.now _ _ h m c.in_ok-keep.ensures.kept names refl refl one tally refl refl
