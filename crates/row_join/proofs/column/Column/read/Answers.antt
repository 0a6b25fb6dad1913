use Rattle.std.proofs.Common.{◌≡◌, ℕ, Option, Some, sym, ap, ◌∙◌, arith, inl, inr}
use Rattle.std.specs.Option.{unwrap_or}
use Rattle.std.proofs.lemmas.Bool.Decides.{eqb_tells}
use Rattle.std.proofs.lemmas.Grind.{common_steps}
use Rattle.row_join.specs.Slots.{cell_at}
use Rattle.row_join.proofs.column.Column.read.Goals as goal

pub loop-i-preserved : goal.loop-i-preserved
loop-i-preserved c =
    let rows = c.args.rows.now.rows in
    let v = c.args.variable in
    let i = c.loop-i.i in
    let was = c.loop-i.invariant in
    record {
      count = grind (arith, common_steps);
      within = grind (arith, common_steps);
      between = λ k n low e.
          elim (eqb_tells k i) [
            | inl t ↦
                let is : c.get-cell.result ≡ Some n = c.get-cell.ensures.value ∙ ap (cell_at rows v) (sym t.1) ∙ e in
                let low : c.unwrap_or.result ≡ n = c.unwrap_or.ensures ∙ ap (λ (o : Option ℕ). unwrap_or o 18446744073709551615) is in
                let high : c.unwrap_or-in-loop-i.result ≡ n = c.unwrap_or-in-loop-i.ensures ∙ ap (λ (o : Option ℕ). unwrap_or o 0) is in
                let a = c.min-least.ensures in
                let b = c.max-greatest.ensures in
                (omega arith, omega arith)
            | inr t ↦
                let other = t.1 in
                let h = was.between k n (omega (arith, other)) e in
                let from = h.0 in
                let to = h.1 in
                let a = c.min-least.ensures in
                let b = c.max-greatest.ensures in
                (omega arith, omega arith)
          ];
    }
