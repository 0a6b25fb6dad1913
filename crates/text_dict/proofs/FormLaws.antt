-- Texts that are N-Quads forms.
use Rattle.std.proofs.Common.{◌≡◌, ℕ, zero, suc, List, [], ◌∷◌, ◌++◌, Some, slice_get, arith, subst}
use Rattle.std.proofs.lemmas.Option.{slice_get_within}
use Rattle.text_dict.specs.Forms.{AreForms, IsForm}

pub forms-push : (texts : List (List ℕ)) (text : List ℕ) → AreForms texts → IsForm text → AreForms (texts ++ text ∷ [])
forms-push [] text h one = (one, tt)
forms-push (t ∷ texts) text h one = (h.0, forms-push texts text h.1 one)

-- the form with this number
pub form_at : (texts : List (List ℕ)) (n : ℕ) (text : List ℕ) → AreForms texts → slice_get texts n ≡ Some text → IsForm text
form_at [] n text h at = let w = slice_get_within [] n text at in absurd (omega (arith, w))
form_at (t ∷ texts) zero text h at = let e : t ≡ text = cc in subst IsForm e h.0
form_at (t ∷ texts) (suc n) text h at = form_at texts n text h.1 at
