use Rattle.std.proofs.Common.{sym, subst}
use Rattle.text_pieces.specs.Slices.{AreNumbersOfAll}
use Rattle.text_pieces.proofs.AddingLaws.{numbered_statements}
use Rattle.text_pieces.proofs.reading.number_kept.Goals as goal

pub returns-clause-numbered : goal.returns-clause-numbered
returns-clause-numbered c =
    numbered_statements c.args.dict.now.texts c.args.kept.now _ c.len.ensures.forms
    (subst (λ d. AreNumbersOfAll c.args.dict.now.texts d.texts c.args.kept.now c.in_ok-quads.quads.items) (sym c.in_ok-hashed.ensures.same) c.in_ok-quads.ensures.numbered)
    c.len.ensures.value
