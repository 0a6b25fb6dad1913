-- LANGTAG describes the texts that the test of rdf_core accepts.
use Rattle.std.proofs.Common.{◌≡◌, ℕ, List, [], ◌∷◌, ◌++◌, Bool, true, false, ◌||◌, ◌&&◌, eqb, refl, sym, ap, ◌∙◌, subst, arith, ◌⊎◌, inl, inr, nat_eq, nat_le}
use Rattle.std.proofs.lemmas.Bool.Decides.{nat_tests}
use Rattle.std.specs.Char.{is_ascii_alphabetic, is_ascii_alphanumeric}
use Rattle.rdf_core.specs.Characters.{begins}
use Rattle.rdf_core.specs.Lexical.{is_subtags, is_tag_tail, is_tag}
use Rattle.sparql_lexer.specs.Characters.{is_digit, is_letter, is_letter_or_digit}
use Rattle.sparql_lexer.specs.Names.{IsLanguageTag, language_tag, subtag}
use Rattle.sparql_lexer.specs.Pattern.{character, many, some, Matches, is_character, both, no_more, one_more}
use Rattle.sparql_lexer.proofs.PatternLaws.{or_left, and_both}

true_false : {b : Bool} → b ≡ true → b ≡ false → ⊥
true_false h k = let e = sym h ∙ k in (cc)

which : (b : Bool) → (b ≡ true) ⊎ (b ≡ false)
which true = inl refl
which false = inr refl

and_parts : (a b : Bool) → (a && b) ≡ true → (a ≡ true) × (b ≡ true)
and_parts true b e = (refl, e)
and_parts false b e = absurd (cc)

or_parts : (a b : Bool) → (a || b) ≡ true → (a ≡ true) ⊎ (b ≡ true)
or_parts true b e = inl refl
or_parts false b e = inr e

or_no : (a b : Bool) → (a || b) ≡ true → a ≡ false → b ≡ true
or_no true b e f = absurd (cc)
or_no false b e f = e

-- the classes

same_number : (n c : ℕ) → nat_eq n c ≡ true → n ≡ c
same_number n c h = grind (arith, nat_tests)

hyphen : (c : ℕ) → eqb c 45 ≡ true → 45 ≡ c
hyphen c h = grind (arith, nat_tests)

turned : (a b d : Bool) → ((a || b) || d) ≡ ((d || a) || b)
turned true b true = refl
turned true b false = refl
turned false true true = refl
turned false true false = refl
turned false false true = refl
turned false false false = refl

letter_or_digit : (c : ℕ) → is_letter_or_digit c ≡ is_ascii_alphanumeric c
letter_or_digit c = turned (nat_le 65 c && nat_le c 90) (nat_le 97 c && nat_le c 122) (is_digit c)

-- from the pattern to the definition

-- the text before rest, which is a list of subtags and a tail of a tag
record TagEnd (text rest : List ℕ) : Type 0 where
  pub front : List ℕ
  pub parts : text ≡ front ++ rest
  pub subtags : is_subtags front ≡ true
  pub tail : is_tag_tail front ≡ true

subtag_cons : (c : ℕ) (cs : List ℕ) → is_letter_or_digit c ≡ true → is_subtags cs ≡ true → is_subtags (c ∷ cs) ≡ true
subtag_cons c cs e h =
    and_both (is_ascii_alphanumeric c || (eqb c 45 && begins is_ascii_alphanumeric cs)) (is_subtags cs)
    (or_left (is_ascii_alphanumeric c) (eqb c 45 && begins is_ascii_alphanumeric cs) (sym (letter_or_digit c) ∙ e)) h

hyphen_cons : (c d : ℕ) (cs : List ℕ) → nat_eq 45 c ≡ true → is_letter_or_digit d ≡ true → is_subtags (d ∷ cs) ≡ true → (is_subtags (c ∷ d ∷ cs) ≡ true) × (is_tag_tail (c ∷ d ∷ cs) ≡ true)
hyphen_cons c d cs e f h =
    let k = and_both (is_ascii_alphanumeric d) (is_subtags (d ∷ cs)) (sym (letter_or_digit d) ∙ f) h in
    subst (λ (z : ℕ). (is_subtags (z ∷ d ∷ cs) ≡ true) × (is_tag_tail (z ∷ d ∷ cs) ≡ true)) (same_number 45 c e) (k, k)

word_end : {ts m rest : List ℕ} → Matches (many (character is_letter_or_digit)) ts m → TagEnd m rest → (front : List ℕ) × (ts ≡ front ++ rest) × (is_subtags front ≡ true)
word_end no_more t = (t.front, t.parts, t.subtags)
word_end (one_more (is_character {c = c} e) d) t = let r = word_end d t in (c ∷ r.0, ap (λ (z : List ℕ). c ∷ z) r.1, subtag_cons c r.0 e r.2)

subtags_end : {ts rest : List ℕ} → Matches (many subtag) ts rest → TagEnd ts rest
subtags_end no_more = record { front = []; parts = refl; subtags = refl; tail = refl }
subtags_end (one_more (both (is_character {c = c} e) (both (is_character {c = d} f) run)) more) =
    let r = word_end run (subtags_end more) in
    let h = hyphen_cons c d r.0 e f (subtag_cons d r.0 f r.2) in
    record { front = c ∷ d ∷ r.0; parts = ap (λ (z : List ℕ). c ∷ d ∷ z) r.1; subtags = h.0; tail = h.1 }

letter_cons : (c : ℕ) (cs : List ℕ) → is_letter c ≡ true → is_tag_tail cs ≡ true → is_tag_tail (c ∷ cs) ≡ true
letter_cons c cs e h =
    or_left (is_ascii_alphabetic c && is_tag_tail cs) ((eqb c 45 && begins is_ascii_alphanumeric cs) && is_subtags cs)
    (and_both (is_ascii_alphabetic c) (is_tag_tail cs) e h)

letters_end : {ts m rest : List ℕ} → Matches (many (character is_letter)) ts m → TagEnd m rest → (front : List ℕ) × (ts ≡ front ++ rest) × (is_tag_tail front ≡ true)
letters_end no_more t = (t.front, t.parts, t.tail)
letters_end (one_more (is_character {c = c} e) d) t = let r = letters_end d t in (c ∷ r.0, ap (λ (z : List ℕ). c ∷ z) r.1, letter_cons c r.0 e r.2)

pub is_tag_of : {ts rest : List ℕ} → Matches language_tag ts rest → IsLanguageTag ts rest
is_tag_of (both (is_character {c = s} e) (both (both (is_character {c = c} f) run) more)) =
    let r = letters_end run (subtags_end more) in
    record {
      tag = c ∷ r.0;
      parts = (let a = same_number 64 s e in let b = r.1 in cc);
      right = and_both (is_ascii_alphabetic c) (is_tag_tail (c ∷ r.0)) f (letter_cons c r.0 f r.2);
    }

-- from the definition to the pattern

-- a run of letters and digits, followed by subtags
record Cut (front rest : List ℕ) : Type 0 where
  pub mid : List ℕ
  pub run : Matches (many (character is_letter_or_digit)) (front ++ rest) mid
  pub more : Matches (many subtag) mid rest
  pub word : begins is_ascii_alphanumeric front ≡ true → Matches (some (character is_letter_or_digit)) (front ++ rest) mid

hyphen_more : (c : ℕ) (cs rest : List ℕ) → (eqb c 45 && begins is_ascii_alphanumeric cs) ≡ true → Cut cs rest → Matches (many subtag) (c ∷ (cs ++ rest)) rest
hyphen_more c cs rest h cut =
    let p = and_parts (eqb c 45) (begins is_ascii_alphanumeric cs) h in
    one_more (both (is_character (subst (λ (z : ℕ). nat_eq 45 z ≡ true) (hyphen c p.0) refl)) (cut.word p.1)) cut.more

subtags_cut : (cs rest : List ℕ) → is_subtags cs ≡ true → Cut cs rest
subtags_cut [] rest h = record { mid = rest; run = no_more; more = no_more; word = λ e. absurd (cc) }
subtags_cut (c ∷ cs) rest h =
    let p = and_parts (is_ascii_alphanumeric c || (eqb c 45 && begins is_ascii_alphanumeric cs)) (is_subtags cs) h in
    let r = subtags_cut cs rest p.1 in
    elim (which (is_ascii_alphanumeric c)) [
      | inl e ↦ (let f = letter_or_digit c ∙ e in record { mid = r.mid; run = one_more (is_character f) r.run; more = r.more; word = λ k. both (is_character f) r.run })
      | inr e ↦ record {
        mid = c ∷ (cs ++ rest);
        run = no_more;
        more = hyphen_more c cs rest (or_no (is_ascii_alphanumeric c) (eqb c 45 && begins is_ascii_alphanumeric cs) p.0 e) r;
        word = λ k. absurd (true_false k e);
      }
    ]

tail_cut : (cs rest : List ℕ) → is_tag_tail cs ≡ true → (mid : List ℕ) × Matches (many (character is_letter)) (cs ++ rest) mid × Matches (many subtag) mid rest
tail_cut [] rest h = (rest, no_more, no_more)
tail_cut (c ∷ cs) rest h =
    elim (or_parts (is_ascii_alphabetic c && is_tag_tail cs) ((eqb c 45 && begins is_ascii_alphanumeric cs) && is_subtags cs) h) [
      | inl k ↦ (let p = and_parts (is_ascii_alphabetic c) (is_tag_tail cs) k in let r = tail_cut cs rest p.1 in (r.0, one_more (is_character p.0) r.1, r.2))
      | inr k ↦ (let p = and_parts (eqb c 45 && begins is_ascii_alphanumeric cs) (is_subtags cs) k in (c ∷ (cs ++ rest), no_more, hyphen_more c cs rest p.0 (subtags_cut cs rest p.1)))
    ]

hyphen_no_letter : (c : ℕ) → eqb c 45 ≡ true → is_ascii_alphabetic c ≡ false
hyphen_no_letter c h = subst (λ (z : ℕ). is_ascii_alphabetic z ≡ false) (hyphen c h) refl

-- the text after the first letter of a tag is a tail of a tag
after_letter : (c : ℕ) (cs : List ℕ) → is_ascii_alphabetic c ≡ true → is_tag_tail (c ∷ cs) ≡ true → is_tag_tail cs ≡ true
after_letter c cs e h =
    elim (or_parts (is_ascii_alphabetic c && is_tag_tail cs) ((eqb c 45 && begins is_ascii_alphanumeric cs) && is_subtags cs) h) [
      | inl k ↦ (and_parts (is_ascii_alphabetic c) (is_tag_tail cs) k).1
      | inr k ↦ (let p = and_parts (eqb c 45 && begins is_ascii_alphanumeric cs) (is_subtags cs) k in
          let q = and_parts (eqb c 45) (begins is_ascii_alphanumeric cs) p.0 in
          absurd (true_false e (hyphen_no_letter c q.0)))
    ]

tag_cut : (tag rest : List ℕ) → is_tag tag ≡ true → Matches language_tag (64 ∷ (tag ++ rest)) rest
tag_cut [] rest h = absurd (cc)
tag_cut (c ∷ cs) rest h =
    let p = and_parts (is_ascii_alphabetic c) (is_tag_tail (c ∷ cs)) h in
    let r = tail_cut cs rest (after_letter c cs p.0 p.1) in
    both (is_character refl) (both (both (is_character p.0) r.1) r.2)

pub tag_matches : {ts rest : List ℕ} → IsLanguageTag ts rest → Matches language_tag ts rest
tag_matches {rest = rest} t = subst (λ (z : List ℕ). Matches language_tag z rest) (sym t.parts) (tag_cut t.tag rest t.right)
