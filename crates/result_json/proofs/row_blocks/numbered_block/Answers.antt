use Rattle.std.proofs.Common.{◌≡◌, ◌==◌, ◌-◌, ◌∙◌, ℕ, All, List, Option, IfOk, ap, length, not, subst, sym}
use Rattle.row_core.specs.RowList.{rows_in}
use Rattle.row_pieces.specs.Pieces.{piece_of}
use Rattle.result_json.specs.Packed.{ranks_in}
use Rattle.result_json.specs.RankedRows.{ranks_of}
use Rattle.result_json.specs.Texts.{comma_texts, rank_texts}
use Rattle.result_json.proofs.PackLaws.{piece_unpacked}
use Rattle.result_json.proofs.row_blocks.numbered_block.Goals as goal

pub returns : goal.returns
returns c =
    let rows = c.args.rows.now in
    let w = c.width-width.result in
    let from = c.piece_ends-from.result.0 in
    let to = c.piece_ends-from.result.1 in
    let wide = subst (λ (x : ℕ). All (λ (r : List (Option ℕ)). length r ≡ x) rows.rows) (sym c.width-width.ensures.value) c.width-width.ensures.wide in
    let piece : ranks_of c.deref-2.result.now ≡ piece_of c.args.size c.args.number (ranks_in rows) =
    ap ranks_of c.deref-2.ensures.value ∙ c.in_ok-piece.ensures.rows ∙ ap (rows_in w w (to - from)) c.deref.ensures.value
    ∙ piece_unpacked w c.args.size c.args.number c.len.result from to rows.rows c.in_ok-ranks.ranks.items wide c.len.ensures.value c.piece_ends-from.ensures.begin c.piece_ends-from.ensures.end c.in_ok-ranks.ensures.ranks in
    record {
      text = subst (λ (rs : List (List ℕ)). IfOk c.block.result (λ block. block.items ≡ comma_texts (not (c.args.number == 0)) (rank_texts c.args.texts.now c.args.columns.now rs))) piece c.block.ensures.text;
    }
