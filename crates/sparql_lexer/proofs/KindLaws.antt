-- No text is a terminal of two kinds.
use Rattle.std.proofs.Common.{◌≡◌, ℕ, ◌<◌, ◌≤◌, List, [], ◌∷◌, length, Bool, true, false, ◌||◌, ◌&&◌, refl, sym, ap, ◌∙◌, subst, arith, Option, Some, None, ◌⊎◌, inl, inr, nat_eq, nat_le, if◌then◌else◌}
use Rattle.std.proofs.lemmas.Bool.Decides.{nat_tests}
use Rattle.sparql_lexer.specs.declared.token.Keyword.{Keyword}
use Rattle.sparql_lexer.specs.declared.token.Kind.{Kind}
use Rattle.sparql_lexer.specs.declared.token.Kind.TheVariants as kind
use Rattle.sparql_lexer.specs.declared.token.Sign.{Sign}
use Rattle.rdf_core.specs.Characters.{is_pn_chars_base}
use Rattle.sparql_lexer.specs.Characters.{is_digit, is_letter, is_base}
use Rattle.sparql_lexer.specs.Enclosed.{iri, iri_piece, short_piece, short_string, long_string, long_piece, three}
use Rattle.sparql_lexer.specs.Names.{variable, namespace, prefixed_name, local, word}
use Rattle.sparql_lexer.specs.Numbers.{digit, integer, decimal, double, exponent, signed, is_plus_or_minus, is_exponent_letter}
use Rattle.sparql_lexer.specs.Colonless.{HasSuffix, here, next}
use Rattle.sparql_lexer.specs.Pattern.{Pattern, character, ◌▸◌, ◌or◌, many, is, some, Matches, is_character, both, left, right, no_more, one_more}
use Rattle.sparql_lexer.specs.Scan.{Reads, Longest, Scans, stops, reads}
use Rattle.sparql_lexer.specs.Signs.{IsSign, one, two, sign_of_one, sign_of_two}
use Rattle.sparql_lexer.specs.Terminal.{Terminal, terminal}
use Rattle.sparql_lexer.specs.Words.{IsWord, taken}
use Rattle.sparql_lexer.proofs.PatternLaws.{rest_suffix, suffix_of_suffix, same_suffix, suffix_shorter, Begins, begins, takes_nothing, takes_some, first, nullable, not_here, or_left, or_right, strictly, shorter, but, many_append, moved}
use Rattle.sparql_lexer.proofs.ProductionLaws.{digit_inside, namespace_sure}
use Rattle.sparql_lexer.proofs.ScanLaws.{reads_suffix, reads_shorter}

true_false : {b : Bool} → b ≡ true → b ≡ false → ⊥
true_false h k = let e = sym h ∙ k in (cc)

unless : {A : Type 0} (b : Bool) (x y z : A) → b ≡ false → y ≡ z → (if b then x else y) ≡ z
unless b x y z e k = ap (λ v. if v then x else y) e ∙ k

neither : (a b : Bool) → a ≡ false → b ≡ false → (a || b) ≡ false
neither a b e k = ap (λ z. z || b) e ∙ k

away : (n c : ℕ) → n < c → nat_eq n c ≡ false
away n c h = grind (arith, nat_tests)

same_number : (n c : ℕ) → nat_eq n c ≡ true → n ≡ c
same_number n c h = grind (arith, nat_tests)

-- the first character

first_true : {a : Pattern} {c : ℕ} {ts r : List ℕ} → nullable a ≡ false → Matches a (c ∷ ts) r → first a c ≡ true
first_true n d = go n (begins d)
  where
    go : {a : Pattern} {c : ℕ} {ts r : List ℕ} → nullable a ≡ false → Begins a (c ∷ ts) r → first a c ≡ true
    go n (takes_nothing m) = absurd (true_false m n)
    go n (takes_some f h) = f

or_either : (a b : Bool) → (a || b) ≡ true → (a ≡ true) ⊎ (b ≡ true)
or_either true b h = inl refl
or_either false b h = inr h

alone : (a : Bool) → (a || false) ≡ true → a ≡ true
alone true h = refl
alone false h = h

twice : (a : Bool) → ((a || false) || false) ≡ true → a ≡ true
twice true h = refl
twice false h = h

-- letters of names are not ASCII signs or digits

low : (a b c : ℕ) → c ≤ 64 → 65 ≤ a → (nat_le a c && nat_le c b) ≡ false
low a b c h k = let e : nat_le a c ≡ false = grind (arith, nat_tests) in ap (λ z. z && nat_le c b) e

base_low : (c : ℕ) → c ≤ 64 → is_base c ≡ false
unfolding is_pn_chars_base
base_low c h =
    neither _ _ (low 65 90 c h (omega arith)) (neither _ _ (low 97 122 c h (omega arith)) (neither _ _ (low 0xC0 0xD6 c h (omega arith)) (neither _ _ (low 0xD8 0xF6 c h (omega arith))
    (neither _ _ (low 0xF8 0x2FF c h (omega arith)) (neither _ _ (low 0x370 0x37D c h (omega arith)) (neither _ _ (low 0x37F 0x1FFF c h (omega arith)) (neither _ _ (low 0x200C 0x200D c h (omega arith))
    (neither _ _ (low 0x2070 0x218F c h (omega arith)) (neither _ _ (low 0x2C00 0x2FEF c h (omega arith)) (neither _ _ (low 0x3001 0xD7FF c h (omega arith)) (neither _ _ (low 0xF900 0xFDCF c h (omega arith))
    (neither _ _ (low 0xFDF0 0xFFFD c h (omega arith)) (neither _ _ (low 0x10000 0xEFFFF c h (omega arith)) refl)))))))))))))

base_91 : is_base 91 ≡ false
unfolding is_pn_chars_base
base_91 = refl

base_94 : is_base 94 ≡ false
unfolding is_pn_chars_base
base_94 = refl

base_95 : is_base 95 ≡ false
unfolding is_pn_chars_base
base_95 = refl

base_123 : is_base 123 ≡ false
unfolding is_pn_chars_base
base_123 = refl

base_124 : is_base 124 ≡ false
unfolding is_pn_chars_base
base_124 = refl

base_125 : is_base 125 ≡ false
unfolding is_pn_chars_base
base_125 = refl

base_digit : (c : ℕ) → is_base c ≡ true → is_digit c ≡ false
base_digit c h = go (is_digit c) refl
  where
    go : (b : Bool) → is_digit c ≡ b → b ≡ false
    go true e = let k : c ≤ 64 = grind (arith, nat_tests) in absurd (true_false h (base_low c k))
    go false e = refl

not_base : (n c : ℕ) → is_base c ≡ true → is_base n ≡ false → nat_eq n c ≡ false
not_base n c h e = but is_base n e c h

-- a group number for each first character, by the terminals that may begin with it
abbrev pub lead : ℕ → ℕ
lead c =
    if nat_eq 60 c then 1 else if nat_eq 63 c || nat_eq 36 c then 2 else if nat_eq 95 c then 4 else if nat_eq 91 c then 5
    else if nat_eq 64 c then 6 else if is_digit c || nat_eq 46 c then 7 else if nat_eq 43 c || nat_eq 45 c then 8
    else if nat_eq 39 c || nat_eq 34 c then 9 else if is_base c || nat_eq 58 c then 3 else 0

lead_digit : (c : ℕ) → is_digit c ≡ true → lead c ≡ 7
lead_digit c h =
    unless _ _ _ _ (but is_digit 60 refl c h) (unless _ _ _ _ (neither _ _ (but is_digit 63 refl c h) (but is_digit 36 refl c h)) (unless _ _ _ _ (but is_digit 95 refl c h)
    (unless _ _ _ _ (but is_digit 91 refl c h) (unless _ _ _ _ (but is_digit 64 refl c h) (ap (λ b. if b || nat_eq 46 c then 7 else (if nat_eq 43 c || nat_eq 45 c then 8 else if nat_eq 39 c || nat_eq 34 c then 9 else if is_base c || nat_eq 58 c then 3 else 0)) h)))))

lead_base : (c : ℕ) → is_base c ≡ true → lead c ≡ 3
lead_base c h =
    unless _ _ _ _ (not_base 60 c h (base_low 60 (omega arith))) (unless _ _ _ _ (neither _ _ (not_base 63 c h (base_low 63 (omega arith))) (not_base 36 c h (base_low 36 (omega arith))))
    (unless _ _ _ _ (not_base 95 c h base_95) (unless _ _ _ _ (not_base 91 c h base_91) (unless _ _ _ _ (not_base 64 c h (base_low 64 (omega arith)))
    (unless _ _ _ _ (neither _ _ (base_digit c h) (not_base 46 c h (base_low 46 (omega arith)))) (unless _ _ _ _ (neither _ _ (not_base 43 c h (base_low 43 (omega arith))) (not_base 45 c h (base_low 45 (omega arith))))
    (unless _ _ _ _ (neither _ _ (not_base 39 c h (base_low 39 (omega arith))) (not_base 34 c h (base_low 34 (omega arith)))) (ap (λ b. if b || nat_eq 58 c then 3 else 0) h))))))))

letter_base : (c : ℕ) → is_letter c ≡ true → is_base c ≡ true
unfolding is_pn_chars_base
letter_base c h = joined (nat_le 65 c && nat_le c 90) (nat_le 97 c && nat_le c 122) _ h
  where
    joined : (x y z : Bool) → (x || y) ≡ true → (x || (y || z)) ≡ true
    joined true y z h = refl
    joined false true z h = refl
    joined false false z h = absurd (cc)

lead_58 : lead 58 ≡ 3
lead_58 = let e : is_base 58 ≡ false = base_low 58 (omega arith) in ap (λ b. if b || true then 3 else 0) e

lead_at : (n c m : ℕ) → lead n ≡ m → (nat_eq n c || false) ≡ true → lead c ≡ m
lead_at n c m e h = subst (λ x. lead x ≡ m) (same_number n c (alone (nat_eq n c) h)) e

lead_two : (n k c m : ℕ) → lead n ≡ m → lead k ≡ m → ((nat_eq n c || nat_eq k c) || false) ≡ true → lead c ≡ m
lead_two n k c m e f h = elim (or_either (nat_eq n c) (nat_eq k c) (alone (nat_eq n c || nat_eq k c) h)) [ inl x ↦ subst (λ x. lead x ≡ m) (same_number n c x) e | inr y ↦ subst (λ x. lead x ≡ m) (same_number k c y) f ]

-- the group of a kind, which its first character determines; 0 for signs
abbrev pub group : Kind → ℕ
group kind.IriRef = 1
group kind.Variable = 2
group kind.PrefixedNamespace = 3
group kind.PrefixedName = 3
group kind.BlankLabel = 4
group kind.Anonymous = 5
group kind.LanguageTag = 6
group kind.Integer = 7
group kind.Decimal = 7
group kind.Double = 7
group kind.SignedInteger = 8
group kind.SignedDecimal = 8
group kind.SignedDouble = 8
group kind.ShortString = 9
group kind.LongString = 9
group (kind.Keyword k) = 3
group kind.Word = 3
group (kind.Sign s) = 0

lead_name : (c : ℕ) → is_base c ≡ true ⊎ (58 ≡ c) → lead c ≡ 3
lead_name c (inl h) = lead_base c h
lead_name c (inr e) = subst (λ x. lead x ≡ 3) e lead_58

lead_number : (c : ℕ) → is_digit c ≡ true ⊎ (46 ≡ c) → lead c ≡ 7
lead_number c (inl h) = lead_digit c h
lead_number c (inr e) = subst (λ x. lead x ≡ 7) e refl

-- the first characters of a namespace, a number and a word
begins_name : {c : ℕ} {ts r : List ℕ} → Matches namespace (c ∷ ts) r → is_base c ≡ true ⊎ (58 ≡ c)
begins_name {c = c} d = go (or_either (is_base c || false) (nat_eq 58 c) (first_true {a = namespace} refl d))
  where
    go : ((is_base c || false) ≡ true) ⊎ (nat_eq 58 c ≡ true) → is_base c ≡ true ⊎ (58 ≡ c)
    go (inl h) = inl (alone (is_base c) h)
    go (inr h) = inr (same_number 58 c h)

begins_word : {c : ℕ} {ts r : List ℕ} → Matches word (c ∷ ts) r → is_base c ≡ true
begins_word {c = c} d = letter_base c (alone (is_letter c) (first_true {a = word} refl d))

begins_integer : {c : ℕ} {ts r : List ℕ} → Matches integer (c ∷ ts) r → is_digit c ≡ true
begins_integer {c = c} d = alone (is_digit c) (first_true {a = integer} refl d)

begins_decimal : {c : ℕ} {ts r : List ℕ} → Matches decimal (c ∷ ts) r → is_digit c ≡ true ⊎ (46 ≡ c)
begins_decimal {c = c} d = elim (or_either (is_digit c) (nat_eq 46 c || false) (first_true {a = decimal} refl d)) [ inl h ↦ inl h | inr h ↦ inr (same_number 46 c (alone (nat_eq 46 c) h)) ]

begins_double : {c : ℕ} {ts r : List ℕ} → Matches double (c ∷ ts) r → is_digit c ≡ true ⊎ (46 ≡ c)
begins_double {c = c} (left d) = inl (twice (is_digit c) (first_true {a = some digit ▸ is 46 ▸ many digit ▸ exponent} refl d))
begins_double {c = c} (right (left d)) = inr (same_number 46 c (alone (nat_eq 46 c) (first_true {a = is 46 ▸ some digit ▸ exponent} refl d)))
begins_double {c = c} (right (right d)) = inl (twice (is_digit c) (first_true {a = some digit ▸ exponent} refl d))

begins_signed : {a : Pattern} {c : ℕ} {ts r : List ℕ} → Matches (signed a) (c ∷ ts) r → is_plus_or_minus c ≡ true
begins_signed (both (is_character e) d) = e

begins_quote : (a b : Pattern) {c : ℕ} {ts r : List ℕ} → Matches ((is 39 ▸ a) or (is 34 ▸ b)) (c ∷ ts) r → (39 ≡ c) ⊎ (34 ≡ c)
begins_quote a b {c = c} (left (both (is_character e) d)) = inl (same_number 39 c e)
begins_quote a b {c = c} (right (both (is_character e) d)) = inr (same_number 34 c e)

either_sign : (m n c : ℕ) → (nat_eq m c || nat_eq n c) ≡ true → (m ≡ c) ⊎ (n ≡ c)
either_sign m n c h = elim (or_either (nat_eq m c) (nat_eq n c) h) [ inl x ↦ inl (same_number m c x) | inr y ↦ inr (same_number n c y) ]

begins_with : (n : ℕ) {a : Pattern} {c : ℕ} {ts r : List ℕ} → Matches (is n ▸ a) (c ∷ ts) r → n ≡ c
begins_with n {c = c} (both (is_character e) d) = same_number n c e

begins_variable : {c : ℕ} {ts r : List ℕ} → Matches variable (c ∷ ts) r → (63 ≡ c) ⊎ (36 ≡ c)
begins_variable {c = c} (both (is_character e) d) = either_sign 63 36 c e

led : (n c m : ℕ) → lead n ≡ m → n ≡ c → lead c ≡ m
led n c m e h = subst (λ x. lead x ≡ m) h e

led_two : (n k c m : ℕ) → lead n ≡ m → lead k ≡ m → (n ≡ c) ⊎ (k ≡ c) → lead c ≡ m
led_two n k c m e f (inl h) = led n c m e h
led_two n k c m e f (inr h) = led k c m f h

begins_name_of : {c : ℕ} {ts r : List ℕ} → Matches namespace (c ∷ ts) r → is_base c ≡ true ⊎ (58 ≡ c)
begins_name_of d = begins_name d

begins_three : {q : ℕ} {a : Pattern} {c : ℕ} {ts r : List ℕ} → Matches (three q ▸ a) (c ∷ ts) r → q ≡ c
begins_three {q = q} {c = c} (both (both (is_character e) x) d) = same_number q c e

begins_long : {c : ℕ} {ts r : List ℕ} → Matches (long_string 39 or long_string 34) (c ∷ ts) r → (39 ≡ c) ⊎ (34 ≡ c)
begins_long (left d) = inl (begins_three d)
begins_long (right d) = inr (begins_three d)

leads : (k : Kind) (c : ℕ) (ts r : List ℕ) → Reads k (c ∷ ts) r → (group k ≡ 0) ⊎ (lead c ≡ group k)
leads kind.IriRef c ts r d = inr (led 60 c 1 refl (begins_with 60 d))
leads kind.Variable c ts r d = inr (led_two 63 36 c 2 refl refl (begins_variable d))
leads kind.PrefixedNamespace c ts r d = inr (lead_name c (begins_name d))
leads kind.PrefixedName c ts r (both d e) = inr (lead_name c (begins_name_of d))
leads kind.BlankLabel c ts r d = inr (led 95 c 4 refl (begins_with 95 d))
leads kind.Anonymous c ts r d = inr (led 91 c 5 refl (begins_with 91 d))
leads kind.LanguageTag c ts r d = inr (led 64 c 6 refl (begins_with 64 d))
leads kind.Integer c ts r d = inr (lead_number c (inl (begins_integer d)))
leads kind.Decimal c ts r d = inr (lead_number c (begins_decimal d))
leads kind.Double c ts r d = inr (lead_number c (begins_double d))
leads kind.SignedInteger c ts r d = inr (led_two 43 45 c 8 refl refl (either_sign 43 45 c (begins_signed d)))
leads kind.SignedDecimal c ts r d = inr (led_two 43 45 c 8 refl refl (either_sign 43 45 c (begins_signed d)))
leads kind.SignedDouble c ts r d = inr (led_two 43 45 c 8 refl refl (either_sign 43 45 c (begins_signed d)))
leads kind.ShortString c ts r d = inr (led_two 39 34 c 9 refl refl (begins_quote (many (short_piece 39) ▸ is 39) (many (short_piece 34) ▸ is 34) d))
leads kind.LongString c ts r d = inr (led_two 39 34 c 9 refl refl (begins_long d))
leads (kind.Keyword k) c ts r d = inr (lead_name c (inl (begins_word d.letters)))
leads kind.Word c ts r d = inr (lead_name c (inl (begins_word d.letters)))
leads (kind.Sign s) c ts r d = inl refl

-- signs and other terminals

no_sign : {s : Sign} {c : ℕ} {ts r : List ℕ} → (sign_of_one c ≡ None) × ((d : ℕ) → sign_of_two c d ≡ None) → IsSign s (c ∷ ts) r → ⊥
no_sign h (one e) = let k = h.0 in cc
no_sign h (two {d = d} e) = let k = h.1 d in cc

away_two : (n c d m : ℕ) → nat_eq n c ≡ false → (nat_eq n c && nat_eq m d) ≡ false
away_two n c d m h = ap (λ z. z && nat_eq m d) h

signless : (c : ℕ) → nat_eq 123 c ≡ false → nat_eq 125 c ≡ false → nat_eq 40 c ≡ false → nat_eq 41 c ≡ false → nat_eq 46 c ≡ false → nat_eq 59 c ≡ false → nat_eq 44 c ≡ false → nat_eq 42 c ≡ false → nat_eq 61 c ≡ false → nat_eq 60 c ≡ false → nat_eq 62 c ≡ false → nat_eq 33 c ≡ false
    → nat_eq 38 c ≡ false → nat_eq 124 c ≡ false → nat_eq 94 c ≡ false → (sign_of_one c ≡ None) × ((d : ℕ) → sign_of_two c d ≡ None)
signless c a b e f g h i j k l m n o p q = (
  unless _ _ _ _ a (unless _ _ _ _ b (unless _ _ _ _ e (unless _ _ _ _ f (unless _ _ _ _ g (unless _ _ _ _ h (unless _ _ _ _ i (unless _ _ _ _ j (unless _ _ _ _ k (unless _ _ _ _ l (unless _ _ _ _ m (unless _ _ _ _ n refl))))))))))),
  λ d. unless _ _ _ _ (away_two 33 c d 61 n) (unless _ _ _ _ (away_two 60 c d 61 l) (unless _ _ _ _ (away_two 62 c d 61 m) (unless _ _ _ _ (away_two 38 c d 38 o) (unless _ _ _ _ (away_two 124 c d 124 p) (unless _ _ _ _ (away_two 94 c d 94 q) refl))))),
)

digit_signless : (c : ℕ) → is_digit c ≡ true → (sign_of_one c ≡ None) × ((d : ℕ) → sign_of_two c d ≡ None)
digit_signless c h = let b = λ (n : ℕ) (e : is_digit n ≡ false). but is_digit n e c h in
    signless c (b 123 refl) (b 125 refl) (b 40 refl) (b 41 refl) (b 46 refl) (b 59 refl) (b 44 refl) (b 42 refl) (b 61 refl) (b 60 refl) (b 62 refl) (b 33 refl) (b 38 refl) (b 124 refl) (b 94 refl)

base_signless : (c : ℕ) → is_base c ≡ true → (sign_of_one c ≡ None) × ((d : ℕ) → sign_of_two c d ≡ None)
base_signless c h = let b = λ (n : ℕ) (e : n ≤ 64). not_base n c h (base_low n e) in
    signless c (not_base 123 c h base_123) (not_base 125 c h base_125) (b 40 (omega arith)) (b 41 (omega arith)) (b 46 (omega arith)) (b 59 (omega arith)) (b 44 (omega arith)) (b 42 (omega arith)) (b 61 (omega arith)) (b 60 (omega arith))
    (b 62 (omega arith)) (b 33 (omega arith)) (b 38 (omega arith)) (not_base 124 c h base_124) (not_base 94 c h base_94)

signless_at : (n c : ℕ) → (sign_of_one n ≡ None) × ((d : ℕ) → sign_of_two n d ≡ None) → n ≡ c → (sign_of_one c ≡ None) × ((d : ℕ) → sign_of_two c d ≡ None)
signless_at n c h e = subst (λ x. (sign_of_one x ≡ None) × ((d : ℕ) → sign_of_two x d ≡ None)) e h

signless_two : (n k c : ℕ) → (sign_of_one n ≡ None) × ((d : ℕ) → sign_of_two n d ≡ None) → (sign_of_one k ≡ None) × ((d : ℕ) → sign_of_two k d ≡ None) → (n ≡ c) ⊎ (k ≡ c) → (sign_of_one c ≡ None) × ((d : ℕ) → sign_of_two c d ≡ None)
signless_two n k c g h (inl e) = signless_at n c g e
signless_two n k c g h (inr e) = signless_at k c h e

name_signless : (c : ℕ) → is_base c ≡ true ⊎ (58 ≡ c) → (sign_of_one c ≡ None) × ((d : ℕ) → sign_of_two c d ≡ None)
name_signless c (inl h) = base_signless c h
name_signless c (inr e) = signless_at 58 c (refl, λ d. refl) e

-- an IRI is longer than its first character as a sign
iri_sign : {s : Sign} {ts r : List ℕ} → Matches iri ts r → IsSign s ts r → ⊥
iri_sign (both (is_character e) d) (one f) = let k = strictly {a = many iri_piece ▸ is 62} refl d in absurd (omega arith)
iri_sign (both (is_character {c = c} e) (both {mid = m} p (is_character {c = b} q))) (two {d = x} f) =
    let h = same_suffix (rest_suffix p) here (let k = shorter p in omega arith) in go (same_number 60 c e) (same_number 62 b q) h f
  where
    go : {s : Sign} {c b x : ℕ} {r : List ℕ} → 60 ≡ c → 62 ≡ b → b ∷ r ≡ x ∷ r → sign_of_two c x ≡ Some s → ⊥
    go {s = s} {x = x} u v w f = let e : 62 ≡ x = cc in let k = subst (λ z. sign_of_two 60 z ≡ Some s) (sym e) (subst (λ z. sign_of_two z x ≡ Some s) (sym u) f) in (cc)

-- a number that begins with a dot is longer than the dot
dot_longer : {a : Pattern} {c : ℕ} {ts r : List ℕ} → nullable a ≡ false → Matches (is 46 ▸ a) (c ∷ ts) r → length r < length ts
dot_longer n (both (is_character e) d) = strictly n d

number_sign : {s : Sign} {c : ℕ} {ts r : List ℕ} → (is_digit c ≡ true) ⊎ ((46 ≡ c) × (length r < length ts)) → IsSign s (c ∷ ts) r → ⊥
number_sign {c = c} (inl h) d = no_sign (digit_signless c h) d
number_sign (inr h) (one e) = let k = h.1 in absurd (omega arith)
number_sign {s = s} (inr h) (two {d = d} e) = let k = subst (λ z. sign_of_two z d ≡ Some s) (sym h.0) e in (cc)

decimal_front : {c : ℕ} {ts r : List ℕ} → Matches decimal (c ∷ ts) r → (is_digit c ≡ true) ⊎ ((46 ≡ c) × (length r < length ts))
decimal_front {c = c} (both no_more d) = inr (begins_with 46 d, dot_longer {a = some digit} refl d)
decimal_front (both (one_more (is_character e) x) d) = inl e

double_front : {c : ℕ} {ts r : List ℕ} → Matches double (c ∷ ts) r → (is_digit c ≡ true) ⊎ ((46 ≡ c) × (length r < length ts))
double_front {c = c} (left d) = inl (twice (is_digit c) (first_true {a = some digit ▸ is 46 ▸ many digit ▸ exponent} refl d))
double_front (right (left d)) = inr (begins_with 46 d, dot_longer {a = some digit ▸ exponent} refl d)
double_front {c = c} (right (right d)) = inl (twice (is_digit c) (first_true {a = some digit ▸ exponent} refl d))

sign_or : (k : Kind) (s : Sign) (c : ℕ) (ts r : List ℕ) → Reads k (c ∷ ts) r → IsSign s (c ∷ ts) r → group k ≡ 0
sign_or kind.IriRef s c ts r d e = absurd (iri_sign d e)
sign_or kind.Variable s c ts r d e = absurd (no_sign (signless_two 63 36 c (refl, λ d. refl) (refl, λ d. refl) (begins_variable d)) e)
sign_or kind.PrefixedNamespace s c ts r d e = absurd (no_sign (name_signless c (begins_name d)) e)
sign_or kind.PrefixedName s c ts r (both x y) e = absurd (no_sign (name_signless c (begins_name x)) e)
sign_or kind.BlankLabel s c ts r d e = absurd (no_sign (signless_at 95 c (refl, λ d. refl) (begins_with 95 d)) e)
sign_or kind.Anonymous s c ts r d e = absurd (no_sign (signless_at 91 c (refl, λ d. refl) (begins_with 91 d)) e)
sign_or kind.LanguageTag s c ts r d e = absurd (no_sign (signless_at 64 c (refl, λ d. refl) (begins_with 64 d)) e)
sign_or kind.Integer s c ts r d e = absurd (number_sign (inl (begins_integer d)) e)
sign_or kind.Decimal s c ts r d e = absurd (number_sign (decimal_front d) e)
sign_or kind.Double s c ts r d e = absurd (number_sign (double_front d) e)
sign_or kind.SignedInteger s c ts r d e = absurd (no_sign (signless_two 43 45 c (refl, λ d. refl) (refl, λ d. refl) (either_sign 43 45 c (begins_signed d))) e)
sign_or kind.SignedDecimal s c ts r d e = absurd (no_sign (signless_two 43 45 c (refl, λ d. refl) (refl, λ d. refl) (either_sign 43 45 c (begins_signed d))) e)
sign_or kind.SignedDouble s c ts r d e = absurd (no_sign (signless_two 43 45 c (refl, λ d. refl) (refl, λ d. refl) (either_sign 43 45 c (begins_signed d))) e)
sign_or kind.ShortString s c ts r d e = absurd (no_sign (signless_two 39 34 c (refl, λ d. refl) (refl, λ d. refl) (begins_quote (many (short_piece 39) ▸ is 39) (many (short_piece 34) ▸ is 34) d)) e)
sign_or kind.LongString s c ts r d e = absurd (no_sign (signless_two 39 34 c (refl, λ d. refl) (refl, λ d. refl) (begins_long d)) e)
sign_or (kind.Keyword k) s c ts r d e = absurd (no_sign (base_signless c (begins_word d.letters)) e)
sign_or kind.Word s c ts r d e = absurd (no_sign (base_signless c (begins_word d.letters)) e)
sign_or (kind.Sign t) s c ts r d e = refl

sign_same : {s t : Sign} {ts us r q : List ℕ} → IsSign s ts r → IsSign t us q → ts ≡ us → r ≡ q → s ≡ t
sign_same (one e) (one f) h k = cc
sign_same (one e) (two f) h k = absurd (let l = ap length h in let m = ap length k in omega arith)
sign_same (two e) (one f) h k = absurd (let l = ap length h in let m = ap length k in omega arith)
sign_same (two e) (two f) h k = cc

-- within a group

covers : (p : ℕ → Bool) {ts r m : List ℕ} {c : ℕ} → Matches (many (character p)) ts r → HasSuffix ts (c ∷ m) → HasSuffix m r → p c ≡ true
covers p no_more b m = absurd (let k = suffix_shorter b in let l = suffix_shorter m in omega arith)
covers p (one_more (is_character e) d) here m = e
covers p (one_more (is_character e) d) (next b) m = covers p d b m

renamed : {ts r : List ℕ} (n c : ℕ) → nat_eq n c ≡ true → HasSuffix ts (c ∷ r) → HasSuffix ts (n ∷ r)
renamed {ts = ts} {r = r} n c e b = subst (λ z. HasSuffix ts (z ∷ r)) (sym (same_number n c e)) b

namespace_colon : {ts r : List ℕ} → Matches namespace ts r → HasSuffix ts (58 ∷ r)
namespace_colon (both {mid = m} x (is_character {c = c} e)) = renamed 58 c e (rest_suffix x)

word_inside : {ts r : List ℕ} → Matches word ts r → Matches (many (character is_letter)) ts r
word_inside (both d e) = one_more d e

namespace_name : {ts r : List ℕ} → Matches namespace ts r → Matches prefixed_name ts r → ⊥
namespace_name {ts = ts} {r = r} d (both {mid = m} n l) = let e = ap length (namespace_sure.same ts r m d n) in let k = strictly {a = local} refl l in absurd (omega arith)

namespace_word : {ts r : List ℕ} → Matches namespace ts r → Matches word ts r → ⊥
namespace_word d w = let e = covers is_letter (word_inside w) (namespace_colon d) here in (cc)

name_word : {ts r : List ℕ} → Matches prefixed_name ts r → Matches word ts r → ⊥
name_word (both n l) w = let e = covers is_letter (word_inside w) (namespace_colon n) (rest_suffix l) in (cc)

-- numbers

decimal_dot : {ts r : List ℕ} → Matches decimal ts r → (m : List ℕ) × HasSuffix ts (46 ∷ m) × HasSuffix m r
decimal_dot (both d (both {mid = m} (is_character {c = c} e) x)) = (m, renamed 46 c e (rest_suffix d), rest_suffix x)

exponent_letter : {ts r : List ℕ} → Matches exponent ts r → (c : ℕ) × (m : List ℕ) × HasSuffix ts (c ∷ m) × HasSuffix m r × (is_exponent_letter c ≡ true)
exponent_letter (both {mid = m} (is_character {c = c} e) x) = (c, m, here, rest_suffix x, e)

double_letter : {ts r : List ℕ} → Matches double ts r → (c : ℕ) × (m : List ℕ) × HasSuffix ts (c ∷ m) × HasSuffix m r × (is_exponent_letter c ≡ true)
double_letter (left (both a (both b (both d e)))) = let y = exponent_letter e in (y.0, y.1, suffix_of_suffix (rest_suffix a) (suffix_of_suffix (rest_suffix b) (suffix_of_suffix (rest_suffix d) y.2)), y.3, y.4)
double_letter (right (left (both a (both b e)))) = let y = exponent_letter e in (y.0, y.1, suffix_of_suffix (rest_suffix a) (suffix_of_suffix (rest_suffix b) y.2), y.3, y.4)
double_letter (right (right (both a e))) = let y = exponent_letter e in (y.0, y.1, suffix_of_suffix (rest_suffix a) y.2, y.3, y.4)

letter_digit : (c : ℕ) → is_exponent_letter c ≡ true → is_digit c ≡ false
letter_digit c h = grind (arith, nat_tests)

abbrev pub is_plain : ℕ → Bool
is_plain c = is_digit c || nat_eq 46 c

digits_plain : {ts r : List ℕ} → Matches (many digit) ts r → Matches (many (character is_plain)) ts r
digits_plain no_more = no_more
digits_plain (one_more (is_character {c = c} e) d) = one_more (is_character (or_left (is_digit c) (nat_eq 46 c) e)) (digits_plain d)

decimal_plain : {ts r : List ℕ} → Matches decimal ts r → Matches (many (character is_plain)) ts r
decimal_plain {r = r} (both d (both {mid = m} (is_character {c = c} e) x)) = many_append (digits_plain d) (one_more (is_character (or_right (is_digit c) (nat_eq 46 c) e)) (digits_plain (digit_inside m r x)))

integer_decimal : {ts r : List ℕ} → Matches integer ts r → Matches decimal ts r → ⊥
integer_decimal {ts = ts} {r = r} d e = let x = decimal_dot e in let h = covers is_digit (digit_inside ts r d) x.1 x.2 in (cc)

integer_double : {ts r : List ℕ} → Matches integer ts r → Matches double ts r → ⊥
integer_double {ts = ts} {r = r} d e = let x = double_letter e in true_false (covers is_digit (digit_inside ts r d) x.2 x.3) (letter_digit x.0 x.4)

decimal_double : {ts r : List ℕ} → Matches decimal ts r → Matches double ts r → ⊥
decimal_double d e = let x = double_letter e in true_false (covers is_plain (decimal_plain d) x.2 x.3) (neither (is_digit x.0) (nat_eq 46 x.0) (letter_digit x.0 x.4) (but is_exponent_letter 46 refl x.0 x.4))

signed_apart : {a b : Pattern} {ts r : List ℕ} → ((us s : List ℕ) → Matches a us s → Matches b us s → ⊥) → Matches (signed a) ts r → Matches (signed b) ts r → ⊥
signed_apart {r = r} f (both {mid = m} (is_character e) d) (both (is_character e') d') = f m r d d'

-- strings

is_first : (n : ℕ) {ts r : List ℕ} → Matches (is n) ts r → ts ≡ n ∷ r
is_first n {r = r} (is_character {c = c} e) = ap (λ z. z ∷ r) (sym (same_number n c e))

short_starts : (q : ℕ) {ts r : List ℕ} → Matches (short_string q) ts r → (u : List ℕ) × (ts ≡ q ∷ u) × Matches (many (short_piece q) ▸ is q) u r
short_starts q (both {mid = u} a d) = (u, is_first q a, d)

long_starts : (q : ℕ) {ts r : List ℕ} → Matches (long_string q) ts r → (m : List ℕ) × (ts ≡ q ∷ q ∷ q ∷ m) × (length r < length m)
long_starts q (both {mid = m} (both {mid = k} a (both {mid = l} b x)) d) =
    (m, (let e = is_first q a in let f = is_first q b in let g = is_first q x in cc), strictly {a = many (long_piece q) ▸ three q} refl d)

short_ends : (q : ℕ) {us r : List ℕ} → first (short_piece q) q ≡ false → Matches (many (short_piece q) ▸ is q) (q ∷ us) r → length us ≤ length r
short_ends q h (both no_more (is_character e)) = omega arith
short_ends q h (both (one_more x xs) y) = absurd (not_here {a = short_piece q} refl h x)

short_long : (q : ℕ) {ts r : List ℕ} → first (short_piece q) q ≡ false → Matches (short_string q) ts r → Matches (long_string q) ts r → ⊥
short_long q {r = r} h d e =
    let x = short_starts q d in
    let y = long_starts q e in
    let same : x.0 ≡ q ∷ q ∷ y.0 = (let a = x.1 in let b = y.1 in cc) in
    let k = short_ends q {us = q ∷ y.0} h (moved same x.2) in
    let l = y.2 in
    absurd (omega arith)

quotes_differ : {ts r : List ℕ} {q p : ℕ} → (q ≡ p → ⊥) → Matches (short_string q) ts r → Matches (long_string p) ts r → ⊥
quotes_differ {q = q} {p = p} h d e = let x = short_starts q d in let y = long_starts p e in h (let a = x.1 in let b = y.1 in cc)

string_kinds : {ts r : List ℕ} → Matches (short_string 39 or short_string 34) ts r → Matches (long_string 39 or long_string 34) ts r → ⊥
string_kinds (left d) (left e) = short_long 39 refl d e
string_kinds (left d) (right e) = quotes_differ (λ h. absurd (omega arith)) d e
string_kinds (right d) (left e) = quotes_differ (λ h. absurd (omega arith)) d e
string_kinds (right d) (right e) = short_long 34 refl d e

-- all kinds

same_word : {k l : Option Keyword} {ts r : List ℕ} → IsWord k ts r → IsWord l ts r → k ≡ l
same_word d e = sym d.meaning ∙ e.meaning

same_group : (k l : Kind) (ts r : List ℕ) → group k ≡ group l → Reads k ts r → Reads l ts r → k ≡ l
same_group kind.IriRef kind.IriRef ts r h d e = refl
same_group kind.Variable kind.Variable ts r h d e = refl
same_group kind.BlankLabel kind.BlankLabel ts r h d e = refl
same_group kind.Anonymous kind.Anonymous ts r h d e = refl
same_group kind.LanguageTag kind.LanguageTag ts r h d e = refl
same_group kind.PrefixedNamespace kind.PrefixedNamespace ts r h d e = refl
same_group kind.PrefixedNamespace kind.PrefixedName ts r h d e = absurd (namespace_name d e)
same_group kind.PrefixedNamespace (kind.Keyword k) ts r h d e = absurd (namespace_word d e.letters)
same_group kind.PrefixedNamespace kind.Word ts r h d e = absurd (namespace_word d e.letters)
same_group kind.PrefixedName kind.PrefixedNamespace ts r h d e = absurd (namespace_name e d)
same_group kind.PrefixedName kind.PrefixedName ts r h d e = refl
same_group kind.PrefixedName (kind.Keyword k) ts r h d e = absurd (name_word d e.letters)
same_group kind.PrefixedName kind.Word ts r h d e = absurd (name_word d e.letters)
same_group (kind.Keyword k) kind.PrefixedNamespace ts r h d e = absurd (namespace_word e d.letters)
same_group (kind.Keyword k) kind.PrefixedName ts r h d e = absurd (name_word e d.letters)
same_group (kind.Keyword k) (kind.Keyword l) ts r h d e = let w = same_word d e in let x : k ≡ l = cc in ap kind.Keyword x
same_group (kind.Keyword k) kind.Word ts r h d e = absurd (let w = same_word d e in cc)
same_group kind.Word kind.PrefixedNamespace ts r h d e = absurd (namespace_word e d.letters)
same_group kind.Word kind.PrefixedName ts r h d e = absurd (name_word e d.letters)
same_group kind.Word (kind.Keyword k) ts r h d e = absurd (let w = same_word d e in cc)
same_group kind.Word kind.Word ts r h d e = refl
same_group kind.Integer kind.Integer ts r h d e = refl
same_group kind.Integer kind.Decimal ts r h d e = absurd (integer_decimal d e)
same_group kind.Integer kind.Double ts r h d e = absurd (integer_double d e)
same_group kind.Decimal kind.Integer ts r h d e = absurd (integer_decimal e d)
same_group kind.Decimal kind.Decimal ts r h d e = refl
same_group kind.Decimal kind.Double ts r h d e = absurd (decimal_double d e)
same_group kind.Double kind.Integer ts r h d e = absurd (integer_double e d)
same_group kind.Double kind.Decimal ts r h d e = absurd (decimal_double e d)
same_group kind.Double kind.Double ts r h d e = refl
same_group kind.SignedInteger kind.SignedInteger ts r h d e = refl
same_group kind.SignedInteger kind.SignedDecimal ts r h d e = absurd (signed_apart (λ us s x y. integer_decimal x y) d e)
same_group kind.SignedInteger kind.SignedDouble ts r h d e = absurd (signed_apart (λ us s x y. integer_double x y) d e)
same_group kind.SignedDecimal kind.SignedInteger ts r h d e = absurd (signed_apart (λ us s x y. integer_decimal x y) e d)
same_group kind.SignedDecimal kind.SignedDecimal ts r h d e = refl
same_group kind.SignedDecimal kind.SignedDouble ts r h d e = absurd (signed_apart (λ us s x y. decimal_double x y) d e)
same_group kind.SignedDouble kind.SignedInteger ts r h d e = absurd (signed_apart (λ us s x y. integer_double x y) e d)
same_group kind.SignedDouble kind.SignedDecimal ts r h d e = absurd (signed_apart (λ us s x y. decimal_double x y) e d)
same_group kind.SignedDouble kind.SignedDouble ts r h d e = refl
same_group kind.ShortString kind.ShortString ts r h d e = refl
same_group kind.ShortString kind.LongString ts r h d e = absurd (string_kinds d e)
same_group kind.LongString kind.ShortString ts r h d e = absurd (string_kinds e d)
same_group kind.LongString kind.LongString ts r h d e = refl
same_group (kind.Sign s) (kind.Sign t) ts r h d e = ap kind.Sign (sign_same d e refl refl)
same_group _ _ ts r h d e = absurd (omega arith)

zero_sign : (k : Kind) (ts r : List ℕ) → group k ≡ 0 → Reads k ts r → (s : Sign) × IsSign s ts r
zero_sign (kind.Sign s) ts r h d = (s, d)
zero_sign _ ts r h d = absurd (omega arith)

pub one_kind : (k l : Kind) (ts r : List ℕ) → Reads k ts r → Reads l ts r → k ≡ l
one_kind k l [] r d e = absurd (let h = reads_shorter k [] r d in omega arith)
one_kind k l (c ∷ cs) r d e = go (leads k c cs r d) (leads l c cs r e)
  where
    go : (group k ≡ 0) ⊎ (lead c ≡ group k) → (group l ≡ 0) ⊎ (lead c ≡ group l) → k ≡ l
    go (inl g) (inl h) = same_group k l (c ∷ cs) r (g ∙ sym h) d e
    go (inl g) (inr h) = let s = zero_sign k (c ∷ cs) r g d in same_group k l (c ∷ cs) r (g ∙ sym (sign_or l s.0 c cs r e s.1)) d e
    go (inr g) (inl h) = let s = zero_sign l (c ∷ cs) r h e in same_group k l (c ∷ cs) r (sign_or k s.0 c cs r d s.1 ∙ sym h) d e
    go (inr g) (inr h) = same_group k l (c ∷ cs) r (sym g ∙ h) d e

-- one list of terminals

longest_same : (ts : List ℕ) (k l : Kind) (r s : List ℕ) → Longest k ts r → Longest l ts s → (k ≡ l) × (r ≡ s)
longest_same ts k l r s a b =
    let h : length r ≡ length s = (let x = a.longest l s b.reads in let y = b.longest k r a.reads in omega arith) in
    let e = same_suffix (reads_suffix k ts r a.reads) (reads_suffix l ts s b.reads) h in
    (one_kind k l ts s (subst (Reads k ts) e a.reads) b.reads, e)

joined : (k l : Kind) (r s p p' : List ℕ) (ts ts' : List Terminal) → k ≡ l → r ≡ s → p ≡ p' → ts ≡ ts' → (terminal k (taken p r) ∷ ts) ≡ (terminal l (taken p' s) ∷ ts')
joined k l r s p p' ts ts' a b c d = cc

pub one_scan : {text end end' : List ℕ} {ts ts' : List Terminal} → Scans text ts end → Scans text ts' end' → (ts ≡ ts') × (end ≡ end')
one_scan (stops e none) (stops e' none') = (refl, sym e ∙ e')
one_scan (stops e none) (reads {rest = rest} {k = k} e' longest d) = absurd (none k rest (subst (λ p. Reads k p rest) (sym e' ∙ e) longest.reads))
one_scan (reads {rest = rest} {k = k} e longest d) (stops e' none') = absurd (none' k rest (subst (λ p. Reads k p rest) (sym e ∙ e') longest.reads))
one_scan (reads {place = place} {rest = rest} {end = end} {k = k} {ts = ts} e longest d) (reads {place = place'} {rest = rest'} {end = end'} {k = l} {ts = ts'} e' longest' d') =
    let p = sym e' ∙ e in
    let q = longest_same place k l rest rest' longest (subst (λ p. Longest l p rest') p longest') in
    let m = one_scan d (subst (λ r. Scans r ts' end') (sym q.1) d') in
    (joined k l rest rest' place place' ts ts' q.0 q.1 (sym p) m.0, m.1)
