-- Rows that are returned with a dictionary.
use Rattle.std.proofs.Common.{◌≡◌, List, Result, Ok, Err, IfOk, IfErr, OnOk, sym, subst}
use Rattle.rdf_core.specs.declared.term.Term.{Term}
use Rattle.row_core.specs.RowList.{RowList}

module _ {E : Type 0} (made : Result RowList E) (r : Result (RowList × List Term) E) where
  -- what is true of the rows with the dictionary is true of the result
  pub returned : (P : RowList → List Term → Type 0) (terms : List Term) → IfOk r (λ x. made ≡ Ok x.0) → IfOk r (λ x. x.1 ≡ terms) → IfOk made (λ m. P m terms) → IfOk r (λ x. P x.0 x.1)
  returned P terms rows same h = by r rows same
    where
      by : (r : Result (RowList × List Term) E) → IfOk r (λ x. made ≡ Ok x.0) → IfOk r (λ x. x.1 ≡ terms) → IfOk r (λ x. P x.0 x.1)
      by (Ok x) e f = subst (λ t. P x.0 t) (sym f) (subst (λ (m : Result RowList E). IfOk m (λ m. P m terms)) e h)
      by (Err e) f g = tt

  -- if the rows are a fault, the result is the same fault
  pub faulted : (Q : E → Type 0) → IfErr r (λ fault. made ≡ Err fault) → IfErr made Q → IfErr r Q
  faulted Q fault h = by r fault
    where
      by : (r : Result (RowList × List Term) E) → IfErr r (λ fault. made ≡ Err fault) → IfErr r Q
      by (Ok x) e = tt
      by (Err e) f = subst (λ (m : Result RowList E). IfErr m Q) f h

-- two facts about a result, combined
pub IfOk-both : {X E : Type 0} (r : Result X E) (P Q R : X → Type 0) → ((x : X) → P x → Q x → R x) → IfOk r P → IfOk r Q → IfOk r R
IfOk-both (Ok x) P Q R f p q = f x p q
IfOk-both (Err e) P Q R f p q = tt

-- a fact that does not mention the value of a result
pub on_ok_so : {X E : Type 0} (A : Type 0) (r : Result X E) → OnOk r A → IfOk r (λ _. A)
on_ok_so A (Ok x) a = a
on_ok_so A (Err e) a = tt
