-- Bytes without a line end.
use Rattle.std.proofs.Common.{◌≡◌, ℕ, suc, zero, ◌+◌, ◌≤◌, ◌<◌, Bool, true, false, eqb, List, [], ◌∷◌, ◌++◌, take, get_or, refl, sym, ap, subst, ◌∙◌, arith, inl, inr}
use Rattle.std.specs.Prelude.{not, ◌||◌}
use Rattle.std.specs.List.{list_all}
use Rattle.std.proofs.lemmas.Bool.{cases_lt, eqb-true}
use Rattle.rdf_core.proofs.EscapeSteps.{which}
use Rattle.rdf_core.proofs.EscapeLaws.{and_is, and_parts}
use Rattle.nquads_core.proofs.RunLaws.{or_parts}
use Rattle.nquads_scan.specs.Ends.{is_label_byte, is_line_end, is_sought, is_tag_byte, HasNoEnd, HasNoEndIn, IsPassed}

-- the test that a byte is no line end
abbrev pub no_end : ℕ → Bool
no_end b = not (is_line_end b)

pub no_end_join : (xs ys : List ℕ) → HasNoEnd xs → HasNoEnd ys → HasNoEnd (xs ++ ys)
no_end_join [] ys h k = k
no_end_join (x ∷ xs) ys h k = let p = and_parts (no_end x) (list_all no_end xs) h in and_is (no_end x) (list_all no_end (xs ++ ys)) p.0 (no_end_join xs ys p.1 k)

pub false_true : false ≡ true → ⊥
false_true e = cc

-- what passes a test that a line end fails
pub not_end : (p : ℕ → Bool) (c : ℕ) → p 10 ≡ false → p 13 ≡ false → p c ≡ true → is_line_end c ≡ false
not_end p c a b h =
    elim (which (is_line_end c)) [
      | inl e ↦ elim (or_parts (eqb c 10) (eqb c 13) e) [
        | inl k ↦ absurd (false_true (sym a ∙ ap p (sym (eqb-true c 10 k)) ∙ h))
        | inr k ↦ absurd (false_true (sym b ∙ ap p (sym (eqb-true c 13 k)) ∙ h))
      ]
      | inr e ↦ e
    ]

or_false : (p q : Bool) → (p || q) ≡ false → q ≡ false
or_false true q e = absurd (false_true (sym e))
or_false false q e = e

-- what no search stops at
pub unsought : (a b c : ℕ) → is_sought a b c ≡ false → is_line_end c ≡ false
unsought a b c h = or_false (eqb c a || eqb c b) (is_line_end c) h

-- ---- bytes from one place up to another

pub kept_none : (bytes : List ℕ) (at : ℕ) → HasNoEndIn bytes at at
kept_none bytes at = record { each = λ k low high. absurd (omega (arith, low, high)) }

pub kept_join : (bytes : List ℕ) (from at to : ℕ) → HasNoEndIn bytes from at → HasNoEndIn bytes at to → HasNoEndIn bytes from to
kept_join bytes from at to a b = record { each = λ k low high. elim (cases_lt k at) [ inl l ↦ a.each k low l | inr l ↦ b.each k l high ] }

pub kept_one : (bytes : List ℕ) (at : ℕ) → is_line_end (get_or bytes at 0) ≡ false → HasNoEndIn bytes at (at + 1)
kept_one bytes at e = record {
  each = λ k low high.
      let same : at ≡ k = omega (arith, low, high) in
      subst (λ (i : ℕ). is_line_end (get_or bytes i 0) ≡ false) same e;
}

-- one more byte, which is this one
pub kept_byte : (bytes : List ℕ) (from at b : ℕ) → HasNoEndIn bytes from at → get_or bytes at 0 ≡ b → is_line_end b ≡ false → HasNoEndIn bytes from (at + 1)
kept_byte bytes from at b h e n = kept_join bytes from at (at + 1) h (kept_one bytes at (ap is_line_end e ∙ n))

-- one more byte, which passes a test that a line end fails
pub kept_more : (p : ℕ → Bool) (bytes : List ℕ) (from at : ℕ) → p 10 ≡ false → p 13 ≡ false → HasNoEndIn bytes from at → p (get_or bytes at 0) ≡ true → HasNoEndIn bytes from (at + 1)
kept_more p bytes from at a b h e = kept_join bytes from at (at + 1) h (kept_one bytes at (not_end p (get_or bytes at 0) a b e))

pub kept_label : (bytes : List ℕ) (from at : ℕ) → HasNoEndIn bytes from at → is_label_byte (get_or bytes at 0) ≡ true → HasNoEndIn bytes from (at + 1)
kept_label bytes from at h e = kept_more is_label_byte bytes from at refl refl h e

pub kept_tag : (bytes : List ℕ) (from at : ℕ) → HasNoEndIn bytes from at → is_tag_byte (get_or bytes at 0) ≡ true → HasNoEndIn bytes from (at + 1)
kept_tag bytes from at h e = kept_more is_tag_byte bytes from at refl refl h e

-- ---- bytes that a search passes over

module _ (a b : ℕ) (bytes : List ℕ) where
  pub passed_none : (at : ℕ) → IsPassed a b bytes at at
  passed_none at = record { each = λ k low high. absurd (omega (arith, low, high)) }

  pub passed_join : (from at to : ℕ) → IsPassed a b bytes from at → IsPassed a b bytes at to → IsPassed a b bytes from to
  passed_join from at to h g = record { each = λ k low high. elim (cases_lt k at) [ inl l ↦ h.each k low l | inr l ↦ g.each k l high ] }

  pub passed_more : (from at : ℕ) → IsPassed a b bytes from at → is_sought a b (get_or bytes at 0) ≡ false → IsPassed a b bytes from (at + 1)
  passed_more from at h e =
      passed_join from at (at + 1) h (record {
        each = λ k low high.
            let same : at ≡ k = omega (arith, low, high) in
            subst (λ (i : ℕ). is_sought a b (get_or bytes i 0) ≡ false) same e;
      })

  -- nor is one of them a line end
  pub kept_passed : (from to : ℕ) → IsPassed a b bytes from to → HasNoEndIn bytes from to
  kept_passed from to h = record { each = λ k low high. unsought a b (get_or bytes k 0) (h.each k low high) }

pub kept_two : (bytes : List ℕ) (at : ℕ) → is_line_end (get_or bytes at 0) ≡ false → is_line_end (get_or bytes (at + 1) 0) ≡ false → HasNoEndIn bytes at (at + 2)
kept_two bytes at a b =
    let next : at + 1 + 1 ≡ at + 2 = omega arith in
    subst (HasNoEndIn bytes at) next (kept_join bytes at (at + 1) (at + 1 + 1) (kept_one bytes at a) (kept_one bytes (at + 1) b))

pub kept_less : (bytes : List ℕ) (from at to : ℕ) → at ≤ to → HasNoEndIn bytes from to → HasNoEndIn bytes from at
kept_less bytes from at to l h = record { each = λ k low high. h.each k low (omega (arith, high, l)) }

take_all_kept : (bytes : List ℕ) (n : ℕ) → ((k : ℕ) → k < n → is_line_end (get_or bytes k 0) ≡ false) → HasNoEnd (take n bytes)
take_all_kept bytes zero h = refl
take_all_kept [] (suc n) h = refl
take_all_kept (b ∷ bytes) (suc n) h =
    and_is (no_end b) (list_all no_end (take n bytes)) (ap not (h 0 (omega arith))) (take_all_kept bytes n (λ k high. h (suc k) (omega (arith, high))))

pub take_kept : (bytes : List ℕ) (n : ℕ) → HasNoEndIn bytes 0 n → HasNoEnd (take n bytes)
take_kept bytes n h = take_all_kept bytes n (λ k high. h.each k (omega arith) high)
