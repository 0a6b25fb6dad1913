-- A label and a tag end where they do not go on, whatever is there.
use Rattle.std.proofs.Common.{◌≡◌, ℕ, Bool, true, false, cond, eqb, List, [], ◌∷◌, ◌++◌, map, Some, refl, sym, subst, arith, inl, inr}
use Rattle.std.specs.Prelude.{◌&&◌, ◌||◌, not}
use Rattle.std.specs.Char.{is_ascii_alphabetic, is_ascii_alphanumeric, to_ascii_lowercase}
use Rattle.std.specs.Str.{encode_utf8_all}
use Rattle.std.proofs.lemmas.Bool.{eqb-true}
use Rattle.std.proofs.lemmas.Bool.Decides.{nat_tests}
use Rattle.rdf_core.specs.Characters.{is_label_start, is_label_char, is_name_start, is_pn_chars_base, begins, all_pass}
use Rattle.rdf_core.specs.Lexical.{is_tag, is_tag_tail, is_subtags}
use Rattle.rdf_core.proofs.EscapeSteps.{which}
use Rattle.rdf_core.proofs.EscapeLaws.{and_is, and_parts}
use Rattle.nquads_core.specs.Terminal.{is_label, is_label_tail}
use Rattle.nquads_core.specs.LineParser.{label_tail_at, label_at, subtags_at, tag_tail_at, tag_at}
use Rattle.nquads_core.proofs.RunLaws.{or_no, or_parts, begins_more}

-- ---- labels

-- no label goes on in these characters: dots, and then the end or a character that no label has
abbrev pub label_stops : List ℕ → Bool
label_stops [] = true
label_stops (c ∷ cs) = cond (eqb c 46) (label_stops cs) (not (is_label_char c))

not_true : (b : Bool) → not b ≡ true → b ≡ false
not_true true h = absurd cc
not_true false h = refl

dot_stop : (cs : List ℕ) → label_tail_at cs ≡ ([], cs) → label_tail_at (46 ∷ cs) ≡ ([], 46 ∷ cs)
unfolding label_tail_at is_label_char is_label_start is_name_start is_pn_chars_base
dot_stop cs e = rw e refl

char_stop : (c : ℕ) (cs : List ℕ) → is_label_char c ≡ false → eqb c 46 ≡ false → label_tail_at (c ∷ cs) ≡ ([], c ∷ cs)
unfolding label_tail_at
char_stop c cs h k = rw (h, k) refl

nil_stop : label_tail_at [] ≡ ([], [])
unfolding label_tail_at
nil_stop = refl

pub label_stop : (cs : List ℕ) → label_stops cs ≡ true → label_tail_at cs ≡ ([], cs)
label_stop [] h = nil_stop
label_stop (c ∷ cs) h =
    elim (which (eqb c 46)) [
      | inl e ↦ subst (λ (y : ℕ). label_tail_at (y ∷ cs) ≡ ([], y ∷ cs)) (sym (eqb-true c 46 e)) (dot_stop cs (label_stop cs (rw e at h)))
      | inr e ↦ char_stop c cs (not_true (is_label_char c) (rw e at h)) e
    ]

tail_char : (c : ℕ) (cs xs rest : List ℕ) → is_label_char c ≡ true → label_tail_at cs ≡ (xs, rest) → label_tail_at (c ∷ cs) ≡ (c ∷ xs, rest)
unfolding label_tail_at
tail_char c cs xs rest h e = rw (h, e) refl

tail_dot : (c : ℕ) (cs : List ℕ) (x : ℕ) (xs rest : List ℕ) → is_label_char c ≡ false → eqb c 46 ≡ true → label_tail_at cs ≡ (x ∷ xs, rest) → label_tail_at (c ∷ cs) ≡ (c ∷ x ∷ xs, rest)
unfolding label_tail_at
tail_dot c cs x xs rest h k e = rw (h, k, e) refl

tail_here : (tail rest : List ℕ) → is_label_tail tail ≡ true → label_tail_at rest ≡ ([], rest) → label_tail_at (tail ++ rest) ≡ (tail, rest)
tail_here [] rest h e = e
tail_here (c ∷ []) rest h e = tail_char c rest [] rest h e
tail_here (c ∷ d ∷ tail) rest h e =
    let p = and_parts (is_label_char c || eqb c 46) (is_label_tail (d ∷ tail)) h in
    let ih = tail_here (d ∷ tail) rest p.1 e in
    elim (which (is_label_char c)) [
      | inl k ↦ tail_char c (d ∷ tail ++ rest) (d ∷ tail) rest k ih
      | inr k ↦ tail_dot c (d ∷ tail ++ rest) d tail rest k (or_no (is_label_char c) (eqb c 46) p.0 k) ih
    ]

pub label_here : (cs rest : List ℕ) → is_label cs ≡ true → label_tail_at rest ≡ ([], rest) → label_at (cs ++ rest) ≡ Some (encode_utf8_all cs, rest)
unfolding label_at
label_here [] rest h e = absurd cc
label_here (c ∷ tail) rest h e =
    let p = and_parts (is_label_start c) (is_label_tail tail) h in
    rw (p.0, tail_here tail rest p.1 e) refl

-- ---- tags

-- no tag goes on in these characters
abbrev pub tag_stops : List ℕ → Bool
tag_stops [] = true
tag_stops (c ∷ cs) = not (is_ascii_alphanumeric c || eqb c 45)

no_alnum : (c : ℕ) → not (is_ascii_alphanumeric c || eqb c 45) ≡ true → is_ascii_alphanumeric c ≡ false
no_alnum c h = grind (arith, nat_tests)

no_alpha : (c : ℕ) → not (is_ascii_alphanumeric c || eqb c 45) ≡ true → is_ascii_alphabetic c ≡ false
no_alpha c h = grind (arith, nat_tests)

no_hyphen : (c : ℕ) → not (is_ascii_alphanumeric c || eqb c 45) ≡ true → eqb c 45 ≡ false
no_hyphen c h = grind (arith, nat_tests)

subtags_stop : (cs : List ℕ) → tag_stops cs ≡ true → subtags_at cs ≡ ([], cs)
unfolding subtags_at
subtags_stop [] h = refl
subtags_stop (c ∷ cs) h = rw (no_alnum c h, no_hyphen c h) refl

primary_stop : (cs : List ℕ) → tag_stops cs ≡ true → tag_tail_at cs ≡ ([], cs)
unfolding tag_tail_at
primary_stop [] h = refl
primary_stop (c ∷ cs) h = rw (no_alpha c h, no_hyphen c h) refl

subtags_step : (c : ℕ) (cs xs rest : List ℕ) → (is_ascii_alphanumeric c || (eqb c 45 && begins is_ascii_alphanumeric cs)) ≡ true → subtags_at cs ≡ (xs, rest) → subtags_at (c ∷ cs) ≡ (c ∷ xs, rest)
unfolding subtags_at
subtags_step c cs xs rest h e = rw (h, e) refl

or_mono : (a b c : Bool) → (b ≡ true → c ≡ true) → (a || b) ≡ true → (a || c) ≡ true
or_mono true b c f h = refl
or_mono false b c f h = f h

and_mono : (a b c : Bool) → (b ≡ true → c ≡ true) → (a && b) ≡ true → (a && c) ≡ true
and_mono true b c f h = f h
and_mono false b c f h = h

begins_here : (c : ℕ) (front rest : List ℕ) → (eqb c 45 && begins is_ascii_alphanumeric front) ≡ true → (eqb c 45 && begins is_ascii_alphanumeric (front ++ rest)) ≡ true
begins_here c front rest = and_mono (eqb c 45) (begins is_ascii_alphanumeric front) (begins is_ascii_alphanumeric (front ++ rest)) (begins_more is_ascii_alphanumeric front rest)

subtags_here : (front rest : List ℕ) → is_subtags front ≡ true → tag_stops rest ≡ true → subtags_at (front ++ rest) ≡ (front, rest)
subtags_here [] rest h e = subtags_stop rest e
subtags_here (c ∷ front) rest h e =
    let p = and_parts (is_ascii_alphanumeric c || (eqb c 45 && begins is_ascii_alphanumeric front)) (is_subtags front) h in
    subtags_step c (front ++ rest) front rest
    (or_mono (is_ascii_alphanumeric c) (eqb c 45 && begins is_ascii_alphanumeric front) (eqb c 45 && begins is_ascii_alphanumeric (front ++ rest)) (begins_here c front rest) p.0)
    (subtags_here front rest p.1 e)

primary_alpha : (c : ℕ) (cs xs rest : List ℕ) → is_ascii_alphabetic c ≡ true → tag_tail_at cs ≡ (xs, rest) → tag_tail_at (c ∷ cs) ≡ (c ∷ xs, rest)
unfolding tag_tail_at
primary_alpha c cs xs rest h e = rw (h, e) refl

primary_hyphen : (c : ℕ) (cs xs rest : List ℕ) → is_ascii_alphabetic c ≡ false → (eqb c 45 && begins is_ascii_alphanumeric cs) ≡ true → subtags_at cs ≡ (xs, rest) → tag_tail_at (c ∷ cs) ≡ (c ∷ xs, rest)
unfolding tag_tail_at
primary_hyphen c cs xs rest h k e = rw (h, k, e) refl

hyphen_no_letter : (c : ℕ) → eqb c 45 ≡ true → is_ascii_alphabetic c ≡ false
hyphen_no_letter c h = rw (eqb-true c 45 h) refl

primary_here : (front rest : List ℕ) → is_tag_tail front ≡ true → tag_stops rest ≡ true → tag_tail_at (front ++ rest) ≡ (front, rest)
primary_here [] rest h e = primary_stop rest e
primary_here (c ∷ front) rest h e =
    elim (or_parts (is_ascii_alphabetic c && is_tag_tail front) ((eqb c 45 && begins is_ascii_alphanumeric front) && is_subtags front) h) [
      | inl k ↦ let p = and_parts (is_ascii_alphabetic c) (is_tag_tail front) k in primary_alpha c (front ++ rest) front rest p.0 (primary_here front rest p.1 e)
      | inr k ↦
          let p = and_parts (eqb c 45 && begins is_ascii_alphanumeric front) (is_subtags front) k in
          let q = and_parts (eqb c 45) (begins is_ascii_alphanumeric front) p.0 in
          primary_hyphen c (front ++ rest) front rest (hyphen_no_letter c q.0) (begins_here c front rest p.0) (subtags_here front rest p.1 e)
    ]

pub tag_here : (cs rest : List ℕ) → is_tag cs ≡ true → tag_stops rest ≡ true → tag_at (cs ++ rest) ≡ Some (map to_ascii_lowercase cs, rest)
unfolding tag_at
tag_here cs rest h e =
    let p = and_parts (begins is_ascii_alphabetic cs) (is_tag_tail cs) h in
    rw (begins_more is_ascii_alphabetic cs rest p.0, primary_here cs rest p.1 e) refl

-- ---- what is not in a label or a tag

all_last : (p : ℕ → Bool) (front : List ℕ) (z : ℕ) → all_pass p (front ++ z ∷ []) ≡ true → p z ≡ true
all_last p [] z h = (and_parts (p z) true h).0
all_last p (x ∷ front) z h = all_last p front z (and_parts (p x) (all_pass p (front ++ z ∷ [])) h).1

-- the last character of a list that all passes
pub last_passes : (p : ℕ → Bool) (xs front : List ℕ) (z : ℕ) → all_pass p xs ≡ true → xs ≡ front ++ z ∷ [] → p z ≡ true
last_passes p xs front z h e = all_last p front z (subst (λ (y : List ℕ). all_pass p y ≡ true) e h)

abbrev pub is_label_part : ℕ → Bool
is_label_part c = is_label_char c || eqb c 46

or_left : (a b : Bool) → a ≡ true → (a || b) ≡ true
or_left a b e = rw e refl

start_is : (c : ℕ) → is_label_start c ≡ true → is_label_part c ≡ true
unfolding is_label_char
start_is c h = grind (arith, nat_tests)

tail_parts : (tail : List ℕ) → is_label_tail tail ≡ true → all_pass is_label_part tail ≡ true
tail_parts [] h = refl
tail_parts (c ∷ []) h = and_is (is_label_part c) true (or_left (is_label_char c) (eqb c 46) h) refl
tail_parts (c ∷ d ∷ tail) h =
    let p = and_parts (is_label_part c) (is_label_tail (d ∷ tail)) h in
    and_is (is_label_part c) (all_pass is_label_part (d ∷ tail)) p.0 (tail_parts (d ∷ tail) p.1)

pub label_parts : (cs : List ℕ) → is_label cs ≡ true → all_pass is_label_part cs ≡ true
label_parts [] h = refl
label_parts (c ∷ tail) h =
    let p = and_parts (is_label_start c) (is_label_tail tail) h in
    and_is (is_label_part c) (all_pass is_label_part tail) (start_is c p.0) (tail_parts tail p.1)

abbrev pub is_tag_part : ℕ → Bool
is_tag_part c = is_ascii_alphanumeric c || eqb c 45

subtag_is : (c : ℕ) (b : Bool) → (is_ascii_alphanumeric c || (eqb c 45 && b)) ≡ true → is_tag_part c ≡ true
subtag_is c b h = grind (arith, nat_tests)

alpha_is : (c : ℕ) → is_ascii_alphabetic c ≡ true → is_tag_part c ≡ true
alpha_is c h = grind (arith, nat_tests)

subtags_parts : (cs : List ℕ) → is_subtags cs ≡ true → all_pass is_tag_part cs ≡ true
subtags_parts [] h = refl
subtags_parts (c ∷ cs) h =
    let p = and_parts (is_ascii_alphanumeric c || (eqb c 45 && begins is_ascii_alphanumeric cs)) (is_subtags cs) h in
    and_is (is_tag_part c) (all_pass is_tag_part cs) (subtag_is c (begins is_ascii_alphanumeric cs) p.0) (subtags_parts cs p.1)

pub tag_parts : (cs : List ℕ) → is_tag_tail cs ≡ true → all_pass is_tag_part cs ≡ true
tag_parts [] h = refl
tag_parts (c ∷ cs) h =
    elim (or_parts (is_ascii_alphabetic c && is_tag_tail cs) ((eqb c 45 && begins is_ascii_alphanumeric cs) && is_subtags cs) h) [
      | inl k ↦ let p = and_parts (is_ascii_alphabetic c) (is_tag_tail cs) k in and_is (is_tag_part c) (all_pass is_tag_part cs) (alpha_is c p.0) (tag_parts cs p.1)
      | inr k ↦
          let p = and_parts (eqb c 45 && begins is_ascii_alphanumeric cs) (is_subtags cs) k in
          let q = and_parts (eqb c 45) (begins is_ascii_alphanumeric cs) p.0 in
          and_is (is_tag_part c) (all_pass is_tag_part cs) (rw (eqb-true c 45 q.0) refl) (subtags_parts cs p.1)
    ]
