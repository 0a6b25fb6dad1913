-- A label and a tag end where a blank follows them.
use Rattle.std.proofs.Common.{◌≡◌, ℕ, Bool, true, false, eqb, List, [], ◌∷◌, ◌++◌, map, Some, refl, ap, ◌∙◌, inl, inr}
use Rattle.std.specs.Prelude.{◌&&◌, ◌||◌}
use Rattle.std.specs.Char.{is_ascii_alphabetic, is_ascii_alphanumeric, to_ascii_lowercase}
use Rattle.std.specs.Str.{encode_utf8_all}
use Rattle.std.proofs.lemmas.Bool.{eqb-true}
use Rattle.rdf_core.specs.Characters.{is_label_start, is_label_char, is_name_start, is_pn_chars_base, begins}
use Rattle.rdf_core.specs.Lexical.{is_tag, is_tag_tail, is_subtags}
use Rattle.rdf_core.proofs.EscapeSteps.{which}
use Rattle.rdf_core.proofs.EscapeLaws.{and_parts}
use Rattle.nquads_core.specs.Terminal.{is_label, is_label_tail}
use Rattle.nquads_core.specs.LineParser.{label_tail_at, label_at, subtags_at, tag_tail_at, tag_at}
use Rattle.nquads_core.proofs.RunLaws.{or_no, or_parts, begins_more}

-- ---- labels

tail_char : (c : ℕ) (cs : List ℕ) → is_label_char c ≡ true → label_tail_at (c ∷ cs) ≡ (c ∷ (label_tail_at cs).0, (label_tail_at cs).1)
unfolding label_tail_at
tail_char c cs h = rw h refl

tail_dot : (c : ℕ) (cs : List ℕ) (x : ℕ) (xs rest : List ℕ) → is_label_char c ≡ false → eqb c 46 ≡ true → label_tail_at cs ≡ (x ∷ xs, rest) → label_tail_at (c ∷ cs) ≡ (c ∷ x ∷ xs, rest)
unfolding label_tail_at
tail_dot c cs x xs rest h k e = rw (h, k, e) refl

tail_stop : (rest : List ℕ) → label_tail_at (32 ∷ rest) ≡ ([], 32 ∷ rest)
unfolding label_tail_at is_label_char is_label_start is_name_start is_pn_chars_base
tail_stop rest = refl

pair_cons : (c : ℕ) (t : List ℕ × List ℕ) (xs rest : List ℕ) → t ≡ (xs, rest) → ◌≡◌ {A = List ℕ × List ℕ} (c ∷ t.0, t.1) (c ∷ xs, rest)
pair_cons c t xs rest e = ap (λ (y : List ℕ × List ℕ). (c ∷ y.0, y.1)) e

label_tail_followed : (tail rest : List ℕ) → is_label_tail tail ≡ true → label_tail_at (tail ++ 32 ∷ rest) ≡ (tail, 32 ∷ rest)
label_tail_followed [] rest h = tail_stop rest
label_tail_followed (c ∷ []) rest h = tail_char c (32 ∷ rest) h ∙ pair_cons c (label_tail_at (32 ∷ rest)) [] (32 ∷ rest) (tail_stop rest)
label_tail_followed (c ∷ d ∷ tail) rest h =
    let p = and_parts (is_label_char c || eqb c 46) (is_label_tail (d ∷ tail)) h in
    let ih = label_tail_followed (d ∷ tail) rest p.1 in
    elim (which (is_label_char c)) [
      | inl k ↦ tail_char c (d ∷ tail ++ 32 ∷ rest) k ∙ pair_cons c (label_tail_at (d ∷ tail ++ 32 ∷ rest)) (d ∷ tail) (32 ∷ rest) ih
      | inr k ↦ tail_dot c (d ∷ tail ++ 32 ∷ rest) d tail (32 ∷ rest) k (or_no (is_label_char c) (eqb c 46) p.0 k) ih
    ]

pub label_followed : (cs rest : List ℕ) → is_label cs ≡ true → label_at (cs ++ 32 ∷ rest) ≡ Some (encode_utf8_all cs, 32 ∷ rest)
unfolding label_at
label_followed [] rest h = absurd cc
label_followed (c ∷ tail) rest h =
    let p = and_parts (is_label_start c) (is_label_tail tail) h in
    rw (p.0, label_tail_followed tail rest p.1) refl

-- ---- tags

subtags_step : (c : ℕ) (cs xs rest : List ℕ) → (is_ascii_alphanumeric c || (eqb c 45 && begins is_ascii_alphanumeric cs)) ≡ true → subtags_at cs ≡ (xs, rest) → subtags_at (c ∷ cs) ≡ (c ∷ xs, rest)
unfolding subtags_at
subtags_step c cs xs rest h e = rw (h, e) refl

subtags_stop : (rest : List ℕ) → subtags_at (32 ∷ rest) ≡ ([], 32 ∷ rest)
unfolding subtags_at
subtags_stop rest = refl

or_mono : (a b c : Bool) → (b ≡ true → c ≡ true) → (a || b) ≡ true → (a || c) ≡ true
or_mono true b c f h = refl
or_mono false b c f h = f h

and_mono : (a b c : Bool) → (b ≡ true → c ≡ true) → (a && b) ≡ true → (a && c) ≡ true
and_mono true b c f h = f h
and_mono false b c f h = h

begins_followed : (c : ℕ) (front rest : List ℕ) → (eqb c 45 && begins is_ascii_alphanumeric front) ≡ true → (eqb c 45 && begins is_ascii_alphanumeric (front ++ 32 ∷ rest)) ≡ true
begins_followed c front rest = and_mono (eqb c 45) (begins is_ascii_alphanumeric front) (begins is_ascii_alphanumeric (front ++ 32 ∷ rest)) (begins_more is_ascii_alphanumeric front (32 ∷ rest))

subtags_followed : (front rest : List ℕ) → is_subtags front ≡ true → subtags_at (front ++ 32 ∷ rest) ≡ (front, 32 ∷ rest)
subtags_followed [] rest h = subtags_stop rest
subtags_followed (c ∷ front) rest h =
    let p = and_parts (is_ascii_alphanumeric c || (eqb c 45 && begins is_ascii_alphanumeric front)) (is_subtags front) h in
    subtags_step c (front ++ 32 ∷ rest) front (32 ∷ rest)
    (or_mono (is_ascii_alphanumeric c) (eqb c 45 && begins is_ascii_alphanumeric front) (eqb c 45 && begins is_ascii_alphanumeric (front ++ 32 ∷ rest)) (begins_followed c front rest) p.0)
    (subtags_followed front rest p.1)

primary_alpha : (c : ℕ) (cs xs rest : List ℕ) → is_ascii_alphabetic c ≡ true → tag_tail_at cs ≡ (xs, rest) → tag_tail_at (c ∷ cs) ≡ (c ∷ xs, rest)
unfolding tag_tail_at
primary_alpha c cs xs rest h e = rw (h, e) refl

primary_hyphen : (c : ℕ) (cs xs rest : List ℕ) → is_ascii_alphabetic c ≡ false → (eqb c 45 && begins is_ascii_alphanumeric cs) ≡ true → subtags_at cs ≡ (xs, rest) → tag_tail_at (c ∷ cs) ≡ (c ∷ xs, rest)
unfolding tag_tail_at
primary_hyphen c cs xs rest h k e = rw (h, k, e) refl

primary_stop : (rest : List ℕ) → tag_tail_at (32 ∷ rest) ≡ ([], 32 ∷ rest)
unfolding tag_tail_at
primary_stop rest = refl

hyphen_no_letter : (c : ℕ) → eqb c 45 ≡ true → is_ascii_alphabetic c ≡ false
hyphen_no_letter c h = rw (eqb-true c 45 h) refl

pub primary_followed : (front rest : List ℕ) → is_tag_tail front ≡ true → tag_tail_at (front ++ 32 ∷ rest) ≡ (front, 32 ∷ rest)
primary_followed [] rest h = primary_stop rest
primary_followed (c ∷ front) rest h =
    elim (or_parts (is_ascii_alphabetic c && is_tag_tail front) ((eqb c 45 && begins is_ascii_alphanumeric front) && is_subtags front) h) [
      | inl k ↦ let p = and_parts (is_ascii_alphabetic c) (is_tag_tail front) k in primary_alpha c (front ++ 32 ∷ rest) front (32 ∷ rest) p.0 (primary_followed front rest p.1)
      | inr k ↦
          let p = and_parts (eqb c 45 && begins is_ascii_alphanumeric front) (is_subtags front) k in
          let q = and_parts (eqb c 45) (begins is_ascii_alphanumeric front) p.0 in
          primary_hyphen c (front ++ 32 ∷ rest) front (32 ∷ rest) (hyphen_no_letter c q.0) (begins_followed c front rest p.0) (subtags_followed front rest p.1)
    ]

pub tag_followed : (cs rest : List ℕ) → is_tag cs ≡ true → tag_at (cs ++ 32 ∷ rest) ≡ Some (map to_ascii_lowercase cs, 32 ∷ rest)
unfolding tag_at
tag_followed cs rest h =
    let p = and_parts (begins is_ascii_alphabetic cs) (is_tag_tail cs) h in
    rw (begins_more is_ascii_alphabetic cs (32 ∷ rest) p.0, primary_followed cs rest p.1) refl
