use Rattle.std.proofs.Common.{ℕ, List, [], ◌∷◌, ◌++◌, length, map, take, Option, Some, Contains, sym, ap, subst, ◌∙◌, arith}
use Rattle.rdf_core.specs.declared.term.Term.{Term}
use Rattle.algebra_model.specs.Operators.{table, table_row}
use Rattle.algebra_model.specs.Renaming.{Each}
use Rattle.algebra_model.proofs.BagLaws.{same_bag}
use Rattle.row_core.specs.RowList.{RowList}
use Rattle.sparql_eval.specs.Computed.{IsCell}
use Rattle.sparql_eval.proofs.ProjectSteps.{map-take}
use Rattle.sparql_eval.proofs.ReadingLaws.{Known, all_taken, grown_itself, read_by, grown_twice}
use Rattle.sparql_eval.proofs.TableSteps.{table_more, get_from, cell_of}
use Rattle.sparql_eval.proofs.TakingLaws.{takes_none, takes_twice, takes_more}
use Rattle.sparql_eval.proofs.tables.tabulated.Goals as goal

pub loop-cells-preserved : goal.loop-cells-preserved
loop-cells-preserved c =
    let was = c.loop-cells.invariant in
    let w = c.args.width in
    let vs = c.args.variables.now in
    let rows = c.args.rows.now in
    let k = c.loop-cells.cells-index in
    let item = c.cells-item.result in
    let made = c.loop-cells.made.rows in
    let later = c.number_row.new.dict in
    let cells = c.as_slice.result.now in
    let here = c.in_ok-number_row.ensures.needed in
    let e = c.in_ok-push.ensures.added ∙ ap (λ (r : List (Option ℕ)). made ++ r ∷ []) c.as_slice-in-loop-cells.ensures.value in
    let more = table_more c.loop-cells.dict later c.in_ok-number_row.ensures.grown w vs made (map (λ row. row.items) (take k rows)) c.number_row.new.row.items item.items
    was.known was.made c.in_ok-number_row.ensures.known (c.in_ok-number_row.ensures.read ∙ ap (table_row w vs) c.as_slice.ensures.value) in
    let at = get_from rows k item (omega arith) c.cells-item.is in
    let is_needed = IsCell vs (map (λ row. row.items) rows) in
    record {
      width = c.in_ok-push.ensures.width ∙ was.width;
      grown = grown_twice c.args.dict.now c.loop-cells.dict later was.grown c.in_ok-number_row.ensures.grown;
      known = subst (Each (Known later)) (sym e) more.0;
      made = ap (map (read_by later)) e ∙ more.1 ∙ ap (table w vs) (sym (map-take (λ row. row.items) rows k item at));
      needed =
          takes_twice is_needed c.args.dict.now c.loop-cells.dict later was.needed
          (takes_more (λ t. Contains (take (length vs) cells) (Some t)) is_needed c.loop-cells.dict later
          (λ t h. cell_of (λ row. row.items) vs rows k item t at (subst (λ (l : List (Option Term)). Contains (take (length vs) l) (Some t)) c.as_slice.ensures.value h)) here);
    }

pub loop-cells-init : goal.loop-cells-init
loop-cells-init c =
    let terms = c.args.dict.now in
    let none = ap (λ (r : RowList). r.rows) c.new-made.ensures.empty in
    record {
      width = ap (λ (r : RowList). r.width) c.new-made.ensures.empty;
      grown = grown_itself terms;
      known = subst (Each (Known terms)) (sym none) tt;
      made = ap (map (read_by terms)) none;
      needed = takes_none (IsCell c.args.variables.now (map (λ row. row.items) c.args.rows.now)) terms;
    }

pub returns-clause-evaluated : goal.returns-clause-evaluated
returns-clause-evaluated c =
    let was = c.loop-cells.invariant in
    let w = c.args.width in
    let vs = c.args.variables.now in
    let rows = c.args.rows.now in
    let all = all_taken rows c.loop-cells.cells-index (omega arith) in
    record {
      grown = was.grown;
      wide = was.width;
      known = was.known;
      bag = same_bag (map (read_by c.loop-cells.dict) c.loop-cells.made.rows) (table w vs (map (λ row. row.items) rows)) (was.made ∙ (λ i. table w vs (map (λ row. row.items) (all i))));
    }
