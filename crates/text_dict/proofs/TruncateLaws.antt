-- A table of which the first texts are kept.
use Rattle.std.proofs.Common.{◌≡◌, ℕ, zero, suc, ◌≤◌, List, [], ◌∷◌, length, take, slice_get, Some, sym, subst, arith}
use Rattle.std.proofs.lemmas.Option.{slice_get_within}
use Rattle.text_dict.specs.Forms.{AreForms}
use Rattle.text_dict.specs.TextDict.{IsTable}

get_taken : (n i : ℕ) (t : List ℕ) (l : List (List ℕ)) → slice_get (take n l) i ≡ Some t → slice_get l i ≡ Some t
get_taken zero i t l h = let w = slice_get_within [] i t h in absurd (omega (arith, w))
get_taken (suc n) i t [] h = h
get_taken (suc n) zero t (x ∷ l) h = h
get_taken (suc n) (suc i) t (x ∷ l) h = get_taken n i t l h

forms_taken : (n : ℕ) (texts : List (List ℕ)) → AreForms texts → AreForms (take n texts)
forms_taken zero texts h = tt
forms_taken (suc n) [] h = tt
forms_taken (suc n) (t ∷ texts) h = (h.0, forms_taken n texts h.1)

taken_short : (n : ℕ) (texts : List (List ℕ)) → length (take n texts) ≤ length texts
taken_short zero texts = omega arith
taken_short (suc n) [] = omega arith
taken_short (suc n) (t ∷ texts) = let r = taken_short n texts in omega (arith, r)

pub table_taken : (hash : List ℕ → ℕ) (texts kept : List (List ℕ)) (slots : List ℕ) (n : ℕ) → kept ≡ take n texts → IsTable hash texts slots → IsTable hash kept slots
table_taken hash texts kept slots n e h =
    let short = taken_short n texts in
    subst (λ ts. IsTable hash ts slots) (sym e) (record {
      few = omega (arith, short, h.few);
      forms = forms_taken n texts h.forms;
      reached = λ i text at. h.reached i text (get_taken n i text texts at);
    })
