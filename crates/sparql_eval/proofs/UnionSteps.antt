-- The rows of one list after those of another are the sum of their solutions.
use Rattle.std.proofs.Common.{◌≡◌, ℕ, List, ◌++◌, map, sym, ap, ◌∙◌, subst}
use Rattle.std.proofs.lemmas.List.{map-append}
use Rattle.rdf_core.specs.declared.term.Term.{Term}
use Rattle.algebra_model.specs.Renaming.{Each}
use Rattle.algebra_model.proofs.RangeLaws.{Each-append}
use Rattle.row_core.specs.RowList.{RowList}
use Rattle.sparql_eval.specs.Evaluated.{AreKnown, IsEvaluated, solutions_of}
use Rattle.sparql_eval.proofs.ReadingLaws.{Known, evaluated, read_by}

pub united : (terms : List Term) (w : ℕ) (left right made : RowList) → made.width ≡ w → AreKnown terms left → AreKnown terms right → made.rows ≡ left.rows ++ right.rows
    → IsEvaluated terms w (solutions_of terms left ++ solutions_of terms right) made terms
united terms w left right made wide l r e =
    evaluated terms w (solutions_of terms left ++ solutions_of terms right) made wide
    (subst (Each (Known terms)) (sym e) (Each-append (Known terms) left.rows right.rows l r))
    (ap (map (read_by terms)) e ∙ map-append (read_by terms) left.rows right.rows)
