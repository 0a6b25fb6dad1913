use Rattle.std.proofs.Common.{◌+◌, slice_range, refl}
use Rattle.std.proofs.lemmas.List.{take_rest}
use Rattle.nquads_core.proofs.CutLaws.{only_line, cut_lf}
use Rattle.nquads_core.proofs.piece.after_line.Goals as goal

pub returns-in-Some-clause-lines : goal.returns-in-Some-clause-lines
returns-in-Some-clause-lines c = (
  slice_range c.args.text.now 0 c.in-Some.end,
  (cut_lf c.args.text.now c.args.text.now c.in-Some.end (slice_range c.args.text.now 0 c.in-Some.end) _ refl c.requires.no_cr c.in-Some.ensures refl (take_rest c.args.text.now (c.in-Some.end + 1))).0,
)

pub returns-in-None-clause-lines : goal.returns-in-None-clause-lines
returns-in-None-clause-lines c = (c.args.text.now, (only_line c.args.text.now c.args.text.now refl c.requires.no_cr c.requires.some c.in-None.ensures).0)
