use Rattle.text_pieces.proofs.AddingLaws.{read_by_slices, relevant_all}
use Rattle.text_pieces.proofs.reading.read_split.Goals as goal

pub returns-in-All : goal.returns-in-All
returns-in-All c =
    let raws = c.in-Some.split.statements.items in record {
      read = read_by_slices c.args.filter.now c.args.dict.now.texts c.args.bytes.now raws c.as_slice-raws.result.now c.in-Some.split.lines c.number_kept.result
          (rw c.in-Some.is at c.in_ok-split.ensures.statements) (rw c.as_slice-raws.ensures.value (relevant_all c.args.filter.now raws)) (rw c.in-Some.is at c.in_ok-split.ensures.lines)
          c.number_kept.ensures.numbered c.number_kept.ensures.lines;
    }

pub returns : goal.returns
returns c =
    let raws = c.in-Some.split.statements.items in record {
      read = read_by_slices c.args.filter.now c.args.dict.now.texts c.args.bytes.now raws c.as_slice.result.now c.in-Some.split.lines c.number_kept-in-AnyOf.result
          (rw c.in-Some.is at c.in_ok-split.ensures.statements) (rw c.as_slice.ensures.value (rw c.as_slice-raws.ensures.value at c.in_ok-kept-in-AnyOf.ensures.relevant))
          (rw c.in-Some.is at c.in_ok-split.ensures.lines) c.number_kept-in-AnyOf.ensures.numbered c.number_kept-in-AnyOf.ensures.lines;
    }
