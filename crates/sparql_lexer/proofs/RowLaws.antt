-- The kinds of each row, and all rows together.
use Rattle.std.proofs.Common.{◌≡◌, ℕ, ◌≤◌, List, [], ◌∷◌, length, true, refl, sym, subst, arith, Option, Some, None, nat_eq}
use Rattle.std.specs.Borrow.{Bor}
use Rattle.sparql_lexer.specs.declared.token.Keyword.{Keyword}
use Rattle.sparql_lexer.specs.declared.token.Kind.{Kind}
use Rattle.sparql_lexer.specs.declared.token.Kind.TheVariants as kind
use Rattle.sparql_lexer.specs.declared.token.Sign.{Sign}
use Rattle.sparql_lexer.specs.Candidates.{row, IsRow, BestOf, NoneOf, LongestOf, IsLongestTerminal, every_row}
use Rattle.sparql_lexer.specs.Enclosed.{iri, anonymous, short_string, long_string}
use Rattle.sparql_lexer.specs.Names.{variable, namespace, prefixed_name, blank_label, language_tag, word}
use Rattle.sparql_lexer.specs.Numbers.{integer, decimal, double, signed}
use Rattle.sparql_lexer.specs.Pattern.{Matches, EndsAt, Nowhere, ◌or◌}
use Rattle.sparql_lexer.specs.Scan.{Reads}
use Rattle.sparql_lexer.specs.Signs.{IsSign, one, two, sign_of_one, sign_of_two}
use Rattle.sparql_lexer.specs.Words.{keyword_of, taken}

only-iri_ref : (l : Kind) (ts r : List ℕ) → nat_eq 0 (row l) ≡ true → Reads l ts r → Matches iri ts r
only-iri_ref kind.IriRef ts r e d = d
only-iri_ref _ ts r e d = absurd (cc)

pub row-iri_ref : IsRow kind.IriRef iri
row-iri_ref = record { reads = λ ts r d. d; only = only-iri_ref }

only-variable : (l : Kind) (ts r : List ℕ) → nat_eq 1 (row l) ≡ true → Reads l ts r → Matches variable ts r
only-variable kind.Variable ts r e d = d
only-variable _ ts r e d = absurd (cc)

pub row-variable : IsRow kind.Variable variable
row-variable = record { reads = λ ts r d. d; only = only-variable }

only-prefixed_namespace : (l : Kind) (ts r : List ℕ) → nat_eq 2 (row l) ≡ true → Reads l ts r → Matches namespace ts r
only-prefixed_namespace kind.PrefixedNamespace ts r e d = d
only-prefixed_namespace _ ts r e d = absurd (cc)

pub row-prefixed_namespace : IsRow kind.PrefixedNamespace namespace
row-prefixed_namespace = record { reads = λ ts r d. d; only = only-prefixed_namespace }

only-prefixed_name : (l : Kind) (ts r : List ℕ) → nat_eq 3 (row l) ≡ true → Reads l ts r → Matches prefixed_name ts r
only-prefixed_name kind.PrefixedName ts r e d = d
only-prefixed_name _ ts r e d = absurd (cc)

pub row-prefixed_name : IsRow kind.PrefixedName prefixed_name
row-prefixed_name = record { reads = λ ts r d. d; only = only-prefixed_name }

only-blank_label : (l : Kind) (ts r : List ℕ) → nat_eq 4 (row l) ≡ true → Reads l ts r → Matches blank_label ts r
only-blank_label kind.BlankLabel ts r e d = d
only-blank_label _ ts r e d = absurd (cc)

pub row-blank_label : IsRow kind.BlankLabel blank_label
row-blank_label = record { reads = λ ts r d. d; only = only-blank_label }

only-anonymous : (l : Kind) (ts r : List ℕ) → nat_eq 5 (row l) ≡ true → Reads l ts r → Matches anonymous ts r
only-anonymous kind.Anonymous ts r e d = d
only-anonymous _ ts r e d = absurd (cc)

pub row-anonymous : IsRow kind.Anonymous anonymous
row-anonymous = record { reads = λ ts r d. d; only = only-anonymous }

only-language_tag : (l : Kind) (ts r : List ℕ) → nat_eq 6 (row l) ≡ true → Reads l ts r → Matches language_tag ts r
only-language_tag kind.LanguageTag ts r e d = d
only-language_tag _ ts r e d = absurd (cc)

pub row-language_tag : IsRow kind.LanguageTag language_tag
row-language_tag = record { reads = λ ts r d. d; only = only-language_tag }

only-integer : (l : Kind) (ts r : List ℕ) → nat_eq 7 (row l) ≡ true → Reads l ts r → Matches integer ts r
only-integer kind.Integer ts r e d = d
only-integer _ ts r e d = absurd (cc)

pub row-integer : IsRow kind.Integer integer
row-integer = record { reads = λ ts r d. d; only = only-integer }

only-decimal : (l : Kind) (ts r : List ℕ) → nat_eq 8 (row l) ≡ true → Reads l ts r → Matches decimal ts r
only-decimal kind.Decimal ts r e d = d
only-decimal _ ts r e d = absurd (cc)

pub row-decimal : IsRow kind.Decimal decimal
row-decimal = record { reads = λ ts r d. d; only = only-decimal }

only-double : (l : Kind) (ts r : List ℕ) → nat_eq 9 (row l) ≡ true → Reads l ts r → Matches double ts r
only-double kind.Double ts r e d = d
only-double _ ts r e d = absurd (cc)

pub row-double : IsRow kind.Double double
row-double = record { reads = λ ts r d. d; only = only-double }

only-signed_integer : (l : Kind) (ts r : List ℕ) → nat_eq 10 (row l) ≡ true → Reads l ts r → Matches (signed integer) ts r
only-signed_integer kind.SignedInteger ts r e d = d
only-signed_integer _ ts r e d = absurd (cc)

pub row-signed_integer : IsRow kind.SignedInteger (signed integer)
row-signed_integer = record { reads = λ ts r d. d; only = only-signed_integer }

only-signed_decimal : (l : Kind) (ts r : List ℕ) → nat_eq 11 (row l) ≡ true → Reads l ts r → Matches (signed decimal) ts r
only-signed_decimal kind.SignedDecimal ts r e d = d
only-signed_decimal _ ts r e d = absurd (cc)

pub row-signed_decimal : IsRow kind.SignedDecimal (signed decimal)
row-signed_decimal = record { reads = λ ts r d. d; only = only-signed_decimal }

only-signed_double : (l : Kind) (ts r : List ℕ) → nat_eq 12 (row l) ≡ true → Reads l ts r → Matches (signed double) ts r
only-signed_double kind.SignedDouble ts r e d = d
only-signed_double _ ts r e d = absurd (cc)

pub row-signed_double : IsRow kind.SignedDouble (signed double)
row-signed_double = record { reads = λ ts r d. d; only = only-signed_double }

only-short_string : (l : Kind) (ts r : List ℕ) → nat_eq 13 (row l) ≡ true → Reads l ts r → Matches (short_string 39 or short_string 34) ts r
only-short_string kind.ShortString ts r e d = d
only-short_string _ ts r e d = absurd (cc)

pub row-short_string : IsRow kind.ShortString (short_string 39 or short_string 34)
row-short_string = record { reads = λ ts r d. d; only = only-short_string }

only-long_string : (l : Kind) (ts r : List ℕ) → nat_eq 14 (row l) ≡ true → Reads l ts r → Matches (long_string 39 or long_string 34) ts r
only-long_string kind.LongString ts r e d = d
only-long_string _ ts r e d = absurd (cc)

pub row-long_string : IsRow kind.LongString (long_string 39 or long_string 34)
row-long_string = record { reads = λ ts r d. d; only = only-long_string }

-- words

any_word : (l : Kind) (ts r : List ℕ) → nat_eq 15 (row l) ≡ true → Reads l ts r → Matches word ts r
any_word (kind.Keyword k) ts r e d = d.letters
any_word kind.Word ts r e d = d.letters
any_word _ ts r e d = absurd (cc)

pub word_keyword : (ts r : List ℕ) (k : Keyword) → EndsAt word ts r → keyword_of (taken ts r) ≡ Some k → BestOf (nat_eq 15) ts (kind.Keyword k) r
word_keyword ts r k h e = record { reads = record { letters = h.matches; meaning = e }; longest = λ l other q d. h.longest other (any_word l ts other q d) }

pub word_other : (ts r : List ℕ) → EndsAt word ts r → keyword_of (taken ts r) ≡ None → BestOf (nat_eq 15) ts kind.Word r
word_other ts r h e = record { reads = record { letters = h.matches; meaning = e }; longest = λ l other q d. h.longest other (any_word l ts other q d) }

pub word_none : (ts : List ℕ) → Nowhere word ts → NoneOf (nat_eq 15) ts
word_none ts h = record { none = λ l other q d. h.none other (any_word l ts other q d) }

-- signs

any_sign : (l : Kind) (ts r : List ℕ) → nat_eq 16 (row l) ≡ true → Reads l ts r → (s : Sign) × IsSign s ts r
any_sign (kind.Sign s) ts r e d = (s, d)
any_sign _ ts r e d = absurd (cc)

pub sign_pair : (ts after remaining : List ℕ) (c d : ℕ) (s : Sign) → ts ≡ c ∷ after → after ≡ d ∷ remaining → sign_of_two c d ≡ Some s → BestOf (nat_eq 16) ts (kind.Sign s) remaining
sign_pair ts after remaining c d s is then e =
    let whole : ts ≡ c ∷ d ∷ remaining = cc in
    subst (λ t. BestOf (nat_eq 16) t (kind.Sign s) remaining) (sym whole) (record { reads = two e; longest = λ l other q x. go other (any_sign l (c ∷ d ∷ remaining) other q x).1 })
  where
    go : {t : Sign} (other : List ℕ) → IsSign t (c ∷ d ∷ remaining) other → length remaining ≤ length other
    go other (one f) = omega arith
    go other (two f) = omega arith

pub sign_single : (ts after : List ℕ) (c : ℕ) (s : Sign) → ts ≡ c ∷ after → ((d : ℕ) (rest : List ℕ) → after ≡ d ∷ rest → sign_of_two c d ≡ None) → sign_of_one c ≡ Some s → BestOf (nat_eq 16) ts (kind.Sign s) after
sign_single ts after c s is none e =
    subst (λ t. BestOf (nat_eq 16) t (kind.Sign s) after) (sym is) (record { reads = one e; longest = λ l other q x. go after none other (any_sign l (c ∷ after) other q x).1 })
  where
    go : {t : Sign} (after : List ℕ) → ((d : ℕ) (rest : List ℕ) → after ≡ d ∷ rest → sign_of_two c d ≡ None) → (other : List ℕ) → IsSign t (c ∷ after) other → length after ≤ length other
    go after none other (one f) = omega arith
    go after none other (two {d = d} f) = absurd (let x = none d other refl in cc)

pub sign_none : (ts after : List ℕ) (c : ℕ) → ts ≡ c ∷ after → ((d : ℕ) (rest : List ℕ) → after ≡ d ∷ rest → sign_of_two c d ≡ None) → sign_of_one c ≡ None → NoneOf (nat_eq 16) ts
sign_none ts after c is none e =
    subst (NoneOf (nat_eq 16)) (sym is) (record { none = λ l other q x. go after none other (any_sign l (c ∷ after) other q x).1 })
  where
    go : {t : Sign} (after : List ℕ) → ((d : ℕ) (rest : List ℕ) → after ≡ d ∷ rest → sign_of_two c d ≡ None) → (other : List ℕ) → IsSign t (c ∷ after) other → ⊥
    go after none other (one f) = cc
    go after none other (two {d = d} f) = let x = none d other refl in cc

pub sign_end : (ts : List ℕ) → ts ≡ [] → NoneOf (nat_eq 16) ts
sign_end ts is = subst (NoneOf (nat_eq 16)) (sym is) (record { none = λ l other q x. go (any_sign l [] other q x).1 })
  where
    go : {t : Sign} {other : List ℕ} → IsSign t [] other → ⊥
    go h = elim h [ ]

-- all rows

in_every_row : (l : Kind) → every_row (row l) ≡ true
in_every_row kind.IriRef = refl
in_every_row kind.Variable = refl
in_every_row kind.PrefixedNamespace = refl
in_every_row kind.PrefixedName = refl
in_every_row kind.BlankLabel = refl
in_every_row kind.Anonymous = refl
in_every_row kind.LanguageTag = refl
in_every_row kind.Integer = refl
in_every_row kind.Decimal = refl
in_every_row kind.Double = refl
in_every_row kind.SignedInteger = refl
in_every_row kind.SignedDecimal = refl
in_every_row kind.SignedDouble = refl
in_every_row kind.ShortString = refl
in_every_row kind.LongString = refl
in_every_row (kind.Keyword k) = refl
in_every_row kind.Word = refl
in_every_row (kind.Sign s) = refl

pub of_all : (ts : List ℕ) (res : Option (Kind × Bor (List ℕ))) → LongestOf every_row ts res → IsLongestTerminal ts res
of_all ts None h = λ k r d. h.none k r (in_every_row k) d
of_all ts (Some p) h = record { reads = h.reads; longest = λ l other d. h.longest l other (in_every_row l) d }
