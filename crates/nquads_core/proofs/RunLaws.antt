-- Labels and tags are read as long as they go.
use Rattle.std.proofs.Common.{◌≡◌, ℕ, suc, ◌≤◌, ◌<◌, Bool, true, false, eqb, List, [], ◌∷◌, ◌++◌, length, refl, arith, inl, inr, ◌⊎◌}
use Rattle.std.specs.Prelude.{◌||◌, ◌&&◌}
use Rattle.std.specs.Char.{is_ascii_alphabetic, is_ascii_alphanumeric}
use Rattle.std.proofs.lemmas.Bool.{eqb-true}
use Rattle.rdf_core.specs.Characters.{is_label_char}
use Rattle.rdf_core.specs.Characters.{begins}
use Rattle.rdf_core.specs.Lexical.{is_subtags, is_tag_tail}
use Rattle.nquads_core.specs.Terminal.{is_label_tail}
use Rattle.nquads_core.specs.LineParser.{take_dot, label_tail_at, subtags_at, tag_tail_at}
use Rattle.nquads_core.proofs.Runs.{take_dot_some}
use Rattle.rdf_core.proofs.EscapeSteps.{which}
use Rattle.rdf_core.proofs.EscapeLaws.{and_is, and_parts}

pub or_parts : (a b : Bool) → (a || b) ≡ true → (a ≡ true) ⊎ (b ≡ true)
or_parts true b e = inl refl
or_parts false b e = inr e

pub or_no : (a b : Bool) → (a || b) ≡ true → a ≡ false → b ≡ true
or_no true b e f = absurd cc
or_no false b e f = e

or_left : (a b : Bool) → a ≡ true → (a || b) ≡ true
or_left a b e = rw e refl

or_right : (a : Bool) → (a || true) ≡ true
or_right true = refl
or_right false = refl

-- ---- a label's tail

-- one more character in front of a tail
tail_cons : (c : ℕ) (xs : List ℕ) → is_label_char c ≡ true → is_label_tail xs ≡ true → is_label_tail (c ∷ xs) ≡ true
tail_cons c [] h t = h
tail_cons c (x ∷ xs) h t = and_is (is_label_char c || eqb c 46) (is_label_tail (x ∷ xs)) (or_left (is_label_char c) (eqb c 46) h) t

dot_cons : (c : ℕ) (cs xs r : List ℕ) → eqb c 46 ≡ true → is_label_tail xs ≡ true → is_label_tail (take_dot c cs xs r).0 ≡ true
dot_cons c cs [] r h t = refl
dot_cons c cs (x ∷ xs) r h t = and_is (is_label_char c || eqb c 46) (is_label_tail (x ∷ xs)) (rw h (or_right (is_label_char c))) t

pub label_tail_right : (cs : List ℕ) → is_label_tail (label_tail_at cs).0 ≡ true
unfolding label_tail_at
label_tail_right [] = refl
label_tail_right (c ∷ cs) =
    elim (which (is_label_char c)) [
      | inl h ↦ rw h (tail_cons c (label_tail_at cs).0 h (label_tail_right cs))
      | inr h ↦ elim (which (eqb c 46)) [
        | inl k ↦ rw (h, k) (dot_cons c cs (label_tail_at cs).0 (label_tail_at cs).1 k (label_tail_right cs))
        | inr k ↦ rw (h, k) refl
      ]
    ]

tail_char : (c : ℕ) (cs : List ℕ) → is_label_char c ≡ true → length (label_tail_at (c ∷ cs)).0 ≡ suc (length (label_tail_at cs).0)
unfolding label_tail_at
tail_char c cs h = rw h refl

tail_dot : (c : ℕ) (cs : List ℕ) → is_label_char c ≡ false → eqb c 46 ≡ true → 0 < length (label_tail_at cs).0 → length (label_tail_at (c ∷ cs)).0 ≡ suc (length (label_tail_at cs).0)
unfolding label_tail_at
tail_dot c cs h k l = rw (h, k, take_dot_some c cs (label_tail_at cs).0 (label_tail_at cs).1 l) refl

-- no longer front is a tail
pub label_tail_longest : (front remaining : List ℕ) → is_label_tail front ≡ true → length front ≤ length (label_tail_at (front ++ remaining)).0
label_tail_longest [] remaining h = omega arith
label_tail_longest (c ∷ []) remaining h = omega (arith, tail_char c remaining h)
label_tail_longest (c ∷ d ∷ front) remaining h =
    let p = and_parts (is_label_char c || eqb c 46) (is_label_tail (d ∷ front)) h in
    let ih = label_tail_longest (d ∷ front) remaining p.1 in
    elim (which (is_label_char c)) [
      | inl k ↦ omega (arith, ih, tail_char c (d ∷ front ++ remaining) k)
      | inr k ↦ omega (arith, ih, tail_dot c (d ∷ front ++ remaining) k (or_no (is_label_char c) (eqb c 46) p.0 k) (omega (arith, ih)))
    ]

-- ---- subtags

subtags_step : (c : ℕ) (cs : List ℕ) → (is_ascii_alphanumeric c || (eqb c 45 && begins is_ascii_alphanumeric cs)) ≡ true → (subtags_at (c ∷ cs)).0 ≡ c ∷ (subtags_at cs).0
unfolding subtags_at
subtags_step c cs h = rw h refl

subtags_stop : (c : ℕ) (cs : List ℕ) → (is_ascii_alphanumeric c || (eqb c 45 && begins is_ascii_alphanumeric cs)) ≡ false → (subtags_at (c ∷ cs)).0 ≡ []
unfolding subtags_at
subtags_stop c cs h = rw h refl

pub begins_more : (p : ℕ → Bool) (cs more : List ℕ) → begins p cs ≡ true → begins p (cs ++ more) ≡ true
begins_more p [] more h = absurd cc
begins_more p (c ∷ cs) more h = h

begins_read : (cs : List ℕ) → begins is_ascii_alphanumeric cs ≡ true → begins is_ascii_alphanumeric (subtags_at cs).0 ≡ true
begins_read [] h = absurd cc
begins_read (c ∷ cs) h = rw (subtags_step c cs (or_left (is_ascii_alphanumeric c) (eqb c 45 && begins is_ascii_alphanumeric cs) h)) h

and_mono : (a b c : Bool) → (b ≡ true → c ≡ true) → (a && b) ≡ true → (a && c) ≡ true
and_mono true b c f h = f h
and_mono false b c f h = h

or_mono : (a b c : Bool) → (b ≡ true → c ≡ true) → (a || b) ≡ true → (a || c) ≡ true
or_mono true b c f h = refl
or_mono false b c f h = f h

subtags_nil : is_subtags (subtags_at []).0 ≡ true
unfolding subtags_at
subtags_nil = refl

pub subtags_right : (cs : List ℕ) → is_subtags (subtags_at cs).0 ≡ true
subtags_right [] = subtags_nil
subtags_right (c ∷ cs) =
    let xs = (subtags_at cs).0 in
    elim (which (is_ascii_alphanumeric c || (eqb c 45 && begins is_ascii_alphanumeric cs))) [
      | inl h ↦ rw (subtags_step c cs h)
          (and_is (is_ascii_alphanumeric c || (eqb c 45 && begins is_ascii_alphanumeric xs)) (is_subtags xs)
          (or_mono (is_ascii_alphanumeric c) (eqb c 45 && begins is_ascii_alphanumeric cs) (eqb c 45 && begins is_ascii_alphanumeric xs)
          (and_mono (eqb c 45) (begins is_ascii_alphanumeric cs) (begins is_ascii_alphanumeric xs) (begins_read cs)) h)
          (subtags_right cs))
      | inr h ↦ rw (subtags_stop c cs h) refl
    ]

pub subtags_longest : (front remaining : List ℕ) → is_subtags front ≡ true → length front ≤ length (subtags_at (front ++ remaining)).0
subtags_longest [] remaining h = omega arith
subtags_longest (c ∷ front) remaining h =
    let p = and_parts (is_ascii_alphanumeric c || (eqb c 45 && begins is_ascii_alphanumeric front)) (is_subtags front) h in
    let ih = subtags_longest front remaining p.1 in
    let step = subtags_step c (front ++ remaining)
    (or_mono (is_ascii_alphanumeric c) (eqb c 45 && begins is_ascii_alphanumeric front) (eqb c 45 && begins is_ascii_alphanumeric (front ++ remaining))
    (and_mono (eqb c 45) (begins is_ascii_alphanumeric front) (begins is_ascii_alphanumeric (front ++ remaining)) (begins_more is_ascii_alphanumeric front remaining)) p.0) in
    rw step (omega (arith, ih))

-- ---- a whole tag

primary_alpha : (c : ℕ) (cs : List ℕ) → is_ascii_alphabetic c ≡ true → (tag_tail_at (c ∷ cs)).0 ≡ c ∷ (tag_tail_at cs).0
unfolding tag_tail_at
primary_alpha c cs h = rw h refl

primary_hyphen : (c : ℕ) (cs : List ℕ) → is_ascii_alphabetic c ≡ false → (eqb c 45 && begins is_ascii_alphanumeric cs) ≡ true → (tag_tail_at (c ∷ cs)).0 ≡ c ∷ (subtags_at cs).0
unfolding tag_tail_at
primary_hyphen c cs h k = rw (h, k) refl

primary_stop : (c : ℕ) (cs : List ℕ) → is_ascii_alphabetic c ≡ false → (eqb c 45 && begins is_ascii_alphanumeric cs) ≡ false → (tag_tail_at (c ∷ cs)).0 ≡ []
unfolding tag_tail_at
primary_stop c cs h k = rw (h, k) refl

primary_nil : is_tag_tail (tag_tail_at []).0 ≡ true
unfolding tag_tail_at
primary_nil = refl

or_true : (a b : Bool) → b ≡ true → (a || b) ≡ true
or_true true b h = refl
or_true false b h = h

pub primary_right : (cs : List ℕ) → is_tag_tail (tag_tail_at cs).0 ≡ true
primary_right [] = primary_nil
primary_right (c ∷ cs) =
    elim (which (is_ascii_alphabetic c)) [
      | inl h ↦
          let xs = (tag_tail_at cs).0 in
          rw (primary_alpha c cs h) (or_left (is_ascii_alphabetic c && is_tag_tail xs) ((eqb c 45 && begins is_ascii_alphanumeric xs) && is_subtags xs) (and_is (is_ascii_alphabetic c) (is_tag_tail xs) h (primary_right cs)))
      | inr h ↦
          let xs = (subtags_at cs).0 in
          elim (which (eqb c 45 && begins is_ascii_alphanumeric cs)) [
            | inl k ↦ rw (primary_hyphen c cs h k) (or_true (is_ascii_alphabetic c && is_tag_tail xs) ((eqb c 45 && begins is_ascii_alphanumeric xs) && is_subtags xs)
                (and_is (eqb c 45 && begins is_ascii_alphanumeric xs) (is_subtags xs) (and_mono (eqb c 45) (begins is_ascii_alphanumeric cs) (begins is_ascii_alphanumeric xs) (begins_read cs) k) (subtags_right cs)))
            | inr k ↦ rw (primary_stop c cs h k) refl
          ]
    ]

hyphen_no_letter : (c : ℕ) → eqb c 45 ≡ true → is_ascii_alphabetic c ≡ false
hyphen_no_letter c h = rw (eqb-true c 45 h) refl

pub primary_longest : (front remaining : List ℕ) → is_tag_tail front ≡ true → length front ≤ length (tag_tail_at (front ++ remaining)).0
primary_longest [] remaining h = omega arith
primary_longest (c ∷ front) remaining h =
    elim (or_parts (is_ascii_alphabetic c && is_tag_tail front) ((eqb c 45 && begins is_ascii_alphanumeric front) && is_subtags front) h) [
      | inl k ↦
          let p = and_parts (is_ascii_alphabetic c) (is_tag_tail front) k in
          rw (primary_alpha c (front ++ remaining) p.0) (omega (arith, primary_longest front remaining p.1))
      | inr k ↦
          let p = and_parts (eqb c 45 && begins is_ascii_alphanumeric front) (is_subtags front) k in
          let q = and_parts (eqb c 45) (begins is_ascii_alphanumeric front) p.0 in
          let starts = and_mono (eqb c 45) (begins is_ascii_alphanumeric front) (begins is_ascii_alphanumeric (front ++ remaining)) (begins_more is_ascii_alphanumeric front remaining) p.0 in
          rw (primary_hyphen c (front ++ remaining) (hyphen_no_letter c q.0) starts) (omega (arith, subtags_longest front remaining p.1))
    ]
