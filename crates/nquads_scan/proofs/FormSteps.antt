-- A slice that is the text that was written for it.
use Rattle.std.proofs.Common.{◌≡◌, ℕ, ◌-◌, true, List, ◌++◌, length, take, drop, Option, Some, None, sym, ap, subst, ◌∙◌}
use Rattle.std.specs.Str.{bytes_eq}
use Rattle.std.proofs.Math.Seq.{take-append_seam}
use Rattle.std.proofs.lemmas.List.{drop_at, take_rest}
use Rattle.std.proofs.lemmas.Slice.Eq.{bytes_eq-Decides}
use Rattle.rdf_core.proofs.EscapeLaws.{none_some}
use Rattle.rdf_core.specs.declared.term.Term.{Term}
use Rattle.nquads_core.specs.Slices.{Denotes}
use Rattle.nquads_scan.specs.Canonical.{HasForm}

pub found_same : (raw old whole items bytes cut text : List ℕ) (start : ℕ) → HasForm raw text → whole ≡ old ++ text → start ≡ length old → items ≡ whole
    → bytes_eq (take (length items - start) (drop start items)) bytes ≡ true → bytes ≡ raw → cut ≡ take start whole → HasForm raw raw × (cut ≡ old)
found_same raw old whole items bytes cut text start h w n i e b k =
    let tail : drop start items ≡ text = ap (drop start) (i ∙ w) ∙ drop_at old text start (sym n) in
    let same : drop start items ≡ bytes = sym (take_rest items start) ∙ (bytes_eq-Decides (take (length items - start) (drop start items)) bytes).0 e in
    let front : take start whole ≡ old = ap (take start) w ∙ ap (λ (m : ℕ). take m (old ++ text)) n ∙ take-append_seam old text in
    (subst (HasForm raw) (sym tail ∙ same ∙ b) h, k ∙ front)

pub none_found : (raw : List ℕ) (found : Option Term) → ((t : Term) → Denotes raw t → found ≡ Some t) → found ≡ None → (t : Term) → Denotes raw t → ⊥
none_found raw found complete is t d = none_some t (sym is ∙ complete t d)
