use Rattle.std.proofs.Common.{◌≡◌, ℕ, List, [], ◌∷◌, IfOk, sym, ap, subst, ◌∙◌}
use Rattle.row_core.specs.RowList.{RowList}
use Rattle.row_join.specs.Places.{IsTableOf}
use Rattle.row_join.proofs.SlotLaws.{one_number}
use Rattle.row_join.proofs.keyed.Keyed.build.Goals as goal

pub returns-in-Some : goal.returns-in-Some
returns-in-Some c =
    let column = c.in-Some.column in
    let made = c.of_column.result in
    let rows : column.rows.now ≡ c.args.rows.now = c.in-Some.ensures.rows ∙ c.read.ensures.rows in
    let key : column.variable ∷ [] ≡ c.args.key.now =
    ap (λ (v : ℕ). v ∷ []) (c.in-Some.ensures.variable ∙ c.read.ensures.variable) ∙ sym (one_number c.args.key.now c.if-key-eq1.true) in
    record {
      table = subst (λ (r : RowList). IfOk made (λ keyed. IsTableOf c.args.key.now r.rows keyed)) rows
          (subst (λ (k : List ℕ). IfOk made (λ keyed. IsTableOf k column.rows.now.rows keyed)) key c.of_column.ensures.table);
    }
