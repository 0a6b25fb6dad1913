-- Labels, and tags in lower case, checked from left to right.
use Rattle.std.proofs.Common.{◌≡◌, ℕ, Bool, true, false, cond, eqb, List, [], ◌∷◌, map, refl, sym, ap, subst, ◌∙◌, arith, inl, inr}
use Rattle.std.specs.Prelude.{◌&&◌, ◌||◌, not}
use Rattle.std.specs.Char.{is_ascii_alphabetic, is_ascii_alphanumeric, is_ascii_digit, is_ascii_lowercase, to_ascii_lowercase}
use Rattle.std.proofs.lemmas.Bool.{eqb-true}
use Rattle.std.proofs.lemmas.Bool.Decides.{nat_tests}
use Rattle.rdf_core.specs.Characters.{begins, is_label_char, is_label_start}
use Rattle.rdf_core.specs.Lexical.{is_subtags, is_tag, is_tag_tail}
use Rattle.rdf_core.proofs.EscapeSteps.{which}
use Rattle.rdf_core.proofs.EscapeLaws.{and_is, and_parts}
use Rattle.nquads_core.specs.Terminal.{is_label, is_label_tail}
use Rattle.nquads_scan.specs.Plain.{tag_left}
use Rattle.nquads_core.proofs.GoodTerms.{GoodTag}
use Rattle.nquads_core.proofs.RunLaws.{or_no}

false_true : false ≡ true → ⊥
false_true e = cc

-- ---- labels

-- the characters end a label well; the first argument says whether a dot is before them
abbrev pub label_left : Bool → List ℕ → Bool
label_left dot [] = not dot
label_left dot (c ∷ cs) = cond (eqb c 46) (label_left true cs) (is_label_char c && label_left false cs)

or_left : (a b : Bool) → a ≡ true → (a || b) ≡ true
or_left a b e = rw e refl

or_right : (a b : Bool) → b ≡ true → (a || b) ≡ true
or_right true b h = refl
or_right false b h = h

pub left_tail : (cs : List ℕ) → label_left false cs ≡ true → is_label_tail cs ≡ true
left_tail [] h = refl
left_tail (c ∷ []) h =
    elim (which (eqb c 46)) [
      | inl e ↦ absurd (false_true (rw e at h))
      | inr e ↦ let k : (is_label_char c && true) ≡ true = rw e at h in (and_parts (is_label_char c) true k).0
    ]
left_tail (c ∷ d ∷ cs) h =
    elim (which (eqb c 46)) [
      | inl e ↦
          let k : label_left false (d ∷ cs) ≡ true = rw e at h in
          and_is (is_label_char c || eqb c 46) (is_label_tail (d ∷ cs)) (or_right (is_label_char c) (eqb c 46) e) (left_tail (d ∷ cs) k)
      | inr e ↦
          let k : (is_label_char c && label_left false (d ∷ cs)) ≡ true = rw e at h in
          let p = and_parts (is_label_char c) (label_left false (d ∷ cs)) k in
          and_is (is_label_char c || eqb c 46) (is_label_tail (d ∷ cs)) (or_left (is_label_char c) (eqb c 46) p.0) (left_tail (d ∷ cs) p.1)
    ]

step_here : (dot : Bool) (c : ℕ) (after : List ℕ) → (eqb c 46 || is_label_char c) ≡ true → label_left (eqb c 46) after ≡ true → label_left dot (c ∷ after) ≡ true
step_here dot c after k h =
    elim (which (eqb c 46)) [
      | inl e ↦ rw e (rw e at h)
      | inr e ↦ rw e (and_is (is_label_char c) (label_left false after) (or_no (eqb c 46) (is_label_char c) k e) (rw e at h))
    ]

pub left_step : (dot : Bool) (c : ℕ) (cs after : List ℕ) → cs ≡ c ∷ after → (eqb c 46 || is_label_char c) ≡ true → label_left (eqb c 46) after ≡ true → label_left dot cs ≡ true
left_step dot c cs after e k h = subst (λ (y : List ℕ). label_left dot y ≡ true) (sym e) (step_here dot c after k h)

pub left_end : (dot : Bool) (cs : List ℕ) → cs ≡ [] → not dot ≡ true → label_left dot cs ≡ true
left_end dot cs e h = rw e h

pub label_from : (c : ℕ) (cs after : List ℕ) → cs ≡ c ∷ after → is_label_start c ≡ true → is_label_tail after ≡ true → is_label cs ≡ true
label_from c cs after e h k = rw e (and_is (is_label_start c) (is_label_tail after) h k)

-- ---- tags

alnum_is : (c : ℕ) (b : Bool) → (is_ascii_lowercase c || (is_ascii_digit c && b)) ≡ true → is_ascii_alphanumeric c ≡ true
alnum_is c b h = grind (arith, nat_tests)

alpha_is : (c : ℕ) → (is_ascii_lowercase c || (is_ascii_digit c && false)) ≡ true → is_ascii_alphabetic c ≡ true
alpha_is c h = grind (arith, nat_tests)

sub_left : (fresh : Bool) (cs : List ℕ) → tag_left false fresh cs ≡ true → (is_subtags cs ≡ true) × (fresh ≡ true → begins is_ascii_alphanumeric cs ≡ true)
sub_left fresh [] h = (refl, λ e. absurd (false_true (sym (ap not e) ∙ h)))
sub_left fresh (c ∷ cs) h =
    elim (which (eqb c 45)) [
      | inl e ↦
          let k : (not fresh && tag_left false true cs) ≡ true = rw e at h in
          let p = and_parts (not fresh) (tag_left false true cs) k in
          let more = sub_left true cs p.1 in
          let hyphen = and_is (eqb c 45) (begins is_ascii_alphanumeric cs) e (more.1 refl) in (
            and_is (is_ascii_alphanumeric c || (eqb c 45 && begins is_ascii_alphanumeric cs)) (is_subtags cs) (or_right (is_ascii_alphanumeric c) (eqb c 45 && begins is_ascii_alphanumeric cs) hyphen) more.0,
            λ f. absurd (false_true (sym (ap not f) ∙ p.0)),
          )
      | inr e ↦
          let k : ((is_ascii_lowercase c || (is_ascii_digit c && true)) && tag_left false false cs) ≡ true = rw e at h in
          let p = and_parts (is_ascii_lowercase c || (is_ascii_digit c && true)) (tag_left false false cs) k in
          let here = alnum_is c true p.0 in (
            and_is (is_ascii_alphanumeric c || (eqb c 45 && begins is_ascii_alphanumeric cs)) (is_subtags cs) (or_left (is_ascii_alphanumeric c) (eqb c 45 && begins is_ascii_alphanumeric cs) here) (sub_left false cs p.1).0,
            λ f. here,
          )
    ]

primary_left : (cs : List ℕ) → tag_left true false cs ≡ true → is_tag_tail cs ≡ true
primary_left [] h = refl
primary_left (c ∷ cs) h =
    elim (which (eqb c 45)) [
      | inl e ↦
          let more = sub_left true cs (rw e at h) in
          or_right (is_ascii_alphabetic c && is_tag_tail cs) (eqb c 45 && begins is_ascii_alphanumeric cs && is_subtags cs)
          (and_is (eqb c 45 && begins is_ascii_alphanumeric cs) (is_subtags cs) (and_is (eqb c 45) (begins is_ascii_alphanumeric cs) e (more.1 refl)) more.0)
      | inr e ↦
          let k : ((is_ascii_lowercase c || (is_ascii_digit c && false)) && tag_left true false cs) ≡ true = rw e at h in
          let p = and_parts (is_ascii_lowercase c || (is_ascii_digit c && false)) (tag_left true false cs) k in
          or_left (is_ascii_alphabetic c && is_tag_tail cs) (eqb c 45 && begins is_ascii_alphanumeric cs && is_subtags cs)
          (and_is (is_ascii_alphabetic c) (is_tag_tail cs) (alpha_is c p.0) (primary_left cs p.1))
    ]

pub tag_is : (cs : List ℕ) → tag_left true true cs ≡ true → is_tag cs ≡ true
tag_is [] h = absurd (false_true h)
tag_is (c ∷ cs) h =
    elim (which (eqb c 45)) [
      | inl e ↦ absurd (false_true (rw e at h))
      | inr e ↦
          let k : ((is_ascii_lowercase c || (is_ascii_digit c && false)) && tag_left true false cs) ≡ true = rw e at h in
          let p = and_parts (is_ascii_lowercase c || (is_ascii_digit c && false)) (tag_left true false cs) k in
          let alpha = alpha_is c p.0 in
          and_is (is_ascii_alphabetic c) (is_tag_tail (c ∷ cs)) alpha
          (or_left (is_ascii_alphabetic c && is_tag_tail cs) (eqb c 45 && begins is_ascii_alphanumeric cs && is_subtags cs) (and_is (is_ascii_alphabetic c) (is_tag_tail cs) alpha (primary_left cs p.1)))
    ]

hyphen_low : (c : ℕ) → eqb c 45 ≡ true → to_ascii_lowercase c ≡ c
hyphen_low c e = rw (eqb-true c 45 e) refl

low_char : (c : ℕ) (b : Bool) → (is_ascii_lowercase c || (is_ascii_digit c && b)) ≡ true → to_ascii_lowercase c ≡ c
low_char c b h = grind (arith, nat_tests)

pub tag_lower : (primary fresh : Bool) (cs : List ℕ) → tag_left primary fresh cs ≡ true → map to_ascii_lowercase cs ≡ cs
tag_lower primary fresh [] h = refl
tag_lower primary fresh (c ∷ cs) h =
    elim (which (eqb c 45)) [
      | inl e ↦
          let p = and_parts (not fresh) (tag_left false true cs) (rw e at h) in
          rw (hyphen_low c e, tag_lower false true cs p.1) refl
      | inr e ↦
          let p = and_parts (is_ascii_lowercase c || (is_ascii_digit c && not primary)) (tag_left primary false cs) (rw e at h) in
          rw (low_char c (not primary) p.0, tag_lower primary false cs p.1) refl
    ]

pub good_tag : (cs : List ℕ) → tag_left true true cs ≡ true → GoodTag cs
good_tag cs h = record { tag = cs; right = tag_is cs h; lower = sym (tag_lower true true cs h) }
