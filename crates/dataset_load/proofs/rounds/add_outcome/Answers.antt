use Rattle.std.proofs.Common.{◌+◌, sym, ◌∙◌, length-append, arith}
use Rattle.dataset_load.specs.Lines.{all_lines, texts}
use Rattle.dataset_load.proofs.ReadingSteps.{round_bad, round_numbered, round_read}
use Rattle.dataset_load.proofs.rounds.add_outcome.Goals as goal

pub returns-in-Ok-First-clause-bad_line : goal.returns-in-Ok-First-clause-bad_line
returns-in-Ok-First-clause-bad_line g c = λ before was.
    let first = rw c.in-Ok-First.field-0-is at (rw c.in-Ok-First.is at c.requires.outcome) in
    round_bad before c.args.pieces.now c.args.so_far.now.filter.now c.args.so_far.now.dict.texts c.args.so_far.now.dict.texts c.args.so_far.now.quads c.args.so_far.now.lines c.in-Ok-First.piece c.in-Ok-First.fault _
    was.numbered was.count first.below first.returned first.faulted (omega (arith, c.line_number.ensures.number))

pub returns-in-Ok-clause-numbered : goal.returns-in-Ok-clause-numbered
returns-in-Ok-clause-numbered g c = λ before was.
    let all = rw c.in-Ok-All.field-0-is at (rw c.in-Ok-All.is at c.requires.outcome) in
    let r = round_read c.args.pieces.now c.args.so_far.now.filter.now c.args.so_far.now.dict.texts c.in-Ok-All.read.items all.count all.each in
    let taken = c.in-Ok.ensures in
    record {
      numbered = round_numbered before c.args.pieces.now c.args.so_far.now.filter.now _ c.args.so_far.now.dict.texts _ c.args.so_far.now.quads _ c.in-Ok-All.read.items taken.filter was.numbered r taken.numbered;
      count = taken.lines ∙ (λ i. was.count i + r.count i) ∙ sym (length-append before (all_lines (texts c.args.pieces.now)));
    }
