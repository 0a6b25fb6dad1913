use Rattle.std.proofs.Common.{◌≡◌, ◌∙◌, ◌++◌, ℕ, List, IfNone, ap, arith, subst, sym}
use Rattle.result_merge.specs.Reading.{comma}
use Rattle.algebra_model.specs.Renaming.{Each}
use Rattle.result_json.specs.Texts.{begun_member, comma_texts}
use Rattle.result_merge.specs.Tags.{HasTagType}
use Rattle.result_merge.proofs.ReadSteps.{Each-set, cells_step, place_fits, row_ends}
use Rattle.result_merge.specs.Absent.{IsNoRow}
use Rattle.result_merge.proofs.FaultSteps.{on_error, on_fault}
use Rattle.result_merge.proofs.RowSteps.{row_absent, row_more, row_not_closed}
use Rattle.result_merge.proofs.rows.read_cells.Goals as goal

pub put_cell-requires : goal.put_cell-requires
put_cell-requires c =
    let fits = place_fits c.args.columns.now c.loop-k.k c.args.width c.index-columns-k.result c.requires.places (omega arith) c.index-columns-k.is in
    record { within = omega (arith, fits, c.loop-k.invariant.width) }

pub loop-k-preserved : goal.loop-k-preserved
loop-k-preserved c =
    let part = c.in_ok-cell.ensures.parts ∙ ap (λ p. comma_texts c.loop-k.later (begun_member p c.in_ok-cell.cell) ++ c.in_ok-cell.next.now) c.deref.ensures.value in
    let more = cells_step c.args.columns.now c.args.width c.loop-k.k c.index-columns-k.result c.loop-k.cells.items c.put_cell.new.cells.items c.in_ok-cell.cell c.args.bytes.now c.loop-k.rest.now c.in_ok-cell.next.now
    c.loop-k.later c.or_some-later.result c.requires.places c.loop-k.invariant.width (omega arith) c.index-columns-k.is c.loop-k.invariant.text c.loop-k.invariant.later part c.or_some-later.ensures.value c.put_cell.ensures.set in
    record {
      width = more.0;
      text = more.1;
      tagged = subst (Each HasTagType) (sym c.put_cell.ensures.set) (Each-set HasTagType c.loop-k.cells.items c.index-columns-k.result.1 c.in_ok-cell.cell c.loop-k.invariant.tagged c.in_ok-cell.ensures.tagged);
      there = row_more c.args.columns.now c.loop-k.k c.index-columns-k.result c.args.bytes.now c.loop-k.rest.now c.in_ok-cell.next.now c.loop-k.later c.or_some-later.result c.in_ok-cell.cell c.loop-k.invariant.there
          (omega arith) c.index-columns-k.is part c.in_ok-cell.ensures.tagged
          (subst (λ (p : List ℕ). IfNone c.in_ok-cell.cell ((x : List ℕ) → c.loop-k.rest.now ≡ comma c.loop-k.later ++ (p ++ x) → ⊥)) c.deref.ensures.value c.in_ok-cell.ensures.none) c.or_some-later.ensures.value;
      later = more.2;
    }

pub returns-clause-parts : goal.returns-clause-parts
returns-clause-parts c =
    row_ends c.args.columns.now c.loop-k.k c.loop-k.cells.items c.args.bytes.now c.loop-k.rest.now c.in_ok-end.end.now (omega arith) c.loop-k.invariant.text c.in_ok-end.ensures.parts

pub returns-in_err-cell-clause-damaged : goal.returns-in_err-cell-clause-damaged
returns-in_err-cell-clause-damaged c =
    on_fault c.from_residual-in_err-cell.result c.in_err-cell.field-0.0 (IsNoRow c.args.columns.now c.args.bytes.now) c.from_residual-in_err-cell.ensures.1
    (λ damaged.
    let there = c.in_err-cell.ensures.damaged damaged in
    row_absent c.args.columns.now c.loop-k.k c.index-columns-k.result c.args.bytes.now c.loop-k.rest.now c.loop-k.later c.loop-k.invariant.there (omega arith) c.index-columns-k.is
    (there.0, there.1 ∙ ap (λ p. comma c.loop-k.later ++ (p ++ there.0)) c.deref.ensures.value, there.2))

pub returns-in_err-end-clause-damaged : goal.returns-in_err-end-clause-damaged
returns-in_err-end-clause-damaged c =
    on_error c.from_residual-in_err-end.result (IsNoRow c.args.columns.now c.args.bytes.now)
    (row_not_closed c.args.columns.now c.loop-k.k c.args.bytes.now c.loop-k.rest.now c.loop-k.later c.loop-k.invariant.there (omega arith) c.in_err-end.ensures.parts)
