-- A place is not too early: some well-formed line begins with the text before 0 in the line " x", but
-- 0 is not its place. A line has at most one place.
use Rattle.std.proofs.Common.{◌≡◌, ℕ, List, [], ◌∷◌, take, refl, inl, inr, arith, rules, None, subst, sym}
use Rattle.std.specs.Str.{IsUtf8, chars}
use Rattle.std.proofs.lemmas.Bool.{cases_order}
use Rattle.nquads_core.specs.Grammar.{IsEnd}
use Rattle.line_diagnosis.specs.Place.{IsWellFormed, IsLinePrefix, IsPlace}
use Rattle.line_diagnosis.proofs.PlaceLaws.{empty_line}

blank_end : IsEnd (32 ∷ [])
blank_end = record { blanks = 32 ∷ []; comment = []; parts = refl; all_blank = refl; hash = inl refl }

blank_utf8 : IsUtf8 (32 ∷ [])
unfolding chars
blank_utf8 = search rules

blank_chars : chars (32 ∷ []) ≡ 32 ∷ []
unfolding chars
blank_chars = refl

blank_line : IsWellFormed (32 ∷ [])
blank_line = record {
  meaning = None;
  statement = record {
    utf8 = blank_utf8;
    one_line = λ i h. search rules;
    terminals = [];
    splits = subst (λ (cs : List ℕ). IsEnd cs) (sym blank_chars) blank_end;
    derives = refl;
  };
}

-- " x": 0 is too early
pub too_early : IsLinePrefix (take 0 (32 ∷ 120 ∷ [])) × (IsPlace (32 ∷ 120 ∷ []) 0 → ⊥)
too_early = (record { rest = []; whole = empty_line }, λ p. p.longest 1 (omega arith) (omega arith) blank_utf8 (record { rest = []; whole = blank_line }))

pub one_place : (line : List ℕ) (a b : ℕ) → IsPlace line a → IsPlace line b → a ≡ b
one_place line a b p q =
    elim (cases_order a b) [
      | inl e ↦ e
      | inr (inl l) ↦ absurd (p.longest b l q.in_line q.characters q.beginning)
      | inr (inr l) ↦ absurd (q.longest a l p.in_line p.characters p.beginning)
    ]
