use Rattle.std.proofs.Common.{◌∙◌, map, sym}
use Rattle.std.proofs.lemmas.List.{length-map}
use Rattle.result_json.specs.Packed.{rank_in, ranks_in}
use Rattle.result_json.proofs.PieceLaws.{pieces-joined}
use Rattle.result_json.proofs.row_blocks.row_blocks.Goals as goal

pub returns-clause-text : goal.returns-clause-text
returns-clause-text g c =
    let all = rw c.in-All.is at c.in_ok-blocks.ensures.outcome in
    let rows = c.args.rows.now in
    pieces-joined c.args.texts.now c.args.columns.now c.piece_size-size.result c.len-count.result c.div_ceil-pieces.result c.in-All.blocks.items (ranks_in rows) c.piece_size-size.ensures.some
    (c.len-count.ensures.value ∙ sym (length-map rows.rows (map rank_in))) c.div_ceil-pieces.ensures all.count all.each
