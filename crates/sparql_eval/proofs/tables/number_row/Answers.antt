use Rattle.std.proofs.Common.{◌≡◌, ℕ, ◌+◌, ◌-◌, ◌<◌, ◌++◌, length, get_or, take, drop, set, replicate, None, Some, Contains, sym, ap, ◌∙◌, arith}
use Rattle.std.proofs.lemmas.Option.{slice_get-get_or}
use Rattle.rdf_core.specs.declared.term.Term.{Term}
use Rattle.algebra_model.specs.Operators.{table_row}
use Rattle.sparql_eval.proofs.ReadingLaws.{grown_itself, grown_twice}
use Rattle.sparql_eval.proofs.TakingLaws.{takes_none, takes_twice, takes_more, Contains-take}
use Rattle.sparql_eval.proofs.TableSteps.{table_row-end, table_row-step, row_begins, row_more, resized, set_long, replicate_long, get_from}
use Rattle.sparql_eval.proofs.tables.number_row.Goals as goal

pub loop-i-init : goal.loop-i-init
loop-i-init c =
    let w = c.args.width in
    let e : c.resize.new.self.items ≡ replicate w None =
    c.in_ok-resize.ensures.items ∙ (λ i. take w (c.clear.ensures.items i) ++ replicate (w - c.clear.ensures.len i) None) ∙ resized w in
    let begun = row_begins c.args.dict.now w c.resize.new.self.items e in
    record {
      grown = grown_itself c.args.dict.now;
      wide = ap length e ∙ replicate_long w None;
      known = begun.0;
      read = begun.1 ∙ sym (table_row-end w c.args.variables.now c.args.cells.now c.min-count.result (λ a b. omega arith));
      needed = takes_none (λ t. Contains (take (length c.args.variables.now) c.args.cells.now) (Some t)) c.args.dict.now;
    }

pub loop-i-preserved : goal.loop-i-preserved
loop-i-preserved c =
    let was = c.loop-i.invariant in
    let w = c.args.width in
    let vs = c.args.variables.now in
    let cells = c.args.cells.now in
    let i = c.loop-i.i - 1 in
    let row = c.loop-i.row.items in
    let v = get_or vs i 0 in
    let n = c.in_ok-row.field-0 in
    let x = c.index-cells-i.result in
    let s : i + 1 ≡ c.loop-i.i = omega arith in
    let low : i < length vs = omega arith in
    let low' : i < length cells = omega arith in
    let is_needed = λ (t : Term). Contains (take (length vs) cells) (Some t) in
    let at = get_from cells i x low' c.index-cells-i.is in
    let more = row_more c.loop-i.dict c.number_cell.new.dict c.in_ok-row.ensures.grown row v n x was.known c.in_ok-row.ensures.known c.in_ok-row.ensures.read in
    record {
      grown = grown_twice c.args.dict.now c.loop-i.dict c.number_cell.new.dict was.grown c.in_ok-row.ensures.grown;
      wide = set_long row v n ∙ was.wide;
      known = more.0;
      read =
          more.1 ∙ ap (λ r. set r v x) (was.read ∙ ap (λ (k : ℕ). table_row w (drop k vs) (drop k cells)) (sym s))
          ∙ sym (table_row-step w vs cells i v x (slice_get-get_or vs i 0 low) at);
      needed =
          takes_twice is_needed c.args.dict.now c.loop-i.dict c.number_cell.new.dict was.needed
          (takes_more (λ t. x ≡ Some t) is_needed c.loop-i.dict c.number_cell.new.dict (λ t is. Contains-take (length vs) cells i (Some t) low (at ∙ ap Some is)) c.in_ok-row.ensures.needed);
    }
