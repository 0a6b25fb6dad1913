-- The values of prefixed names, prefixes and counts (SPARQL 1.1 Query Language, sections 4.1.1 and
-- 19.8).
use Rattle.std.specs.Prelude.{ℕ, ◌+◌, ◌-◌, ◌*◌, List, [], ◌∷◌, ◌++◌, Bool, true, false, not, if◌then◌else◌, nat_eq, min, decimal, Option, Some, None, take, drop}
use Rattle.std.specs.List.{list_any, position_or_len, find, filter}
use lib.Utf8.{encodes}
use Rattle.std.specs.Cmp.Lexicographic.{pointwise}
use Rattle.sparql_grammar.specs.declared.declarations.Declaration.{Declaration}

-- the declarations of a text, the last one first
abbrev pub Names : Type 0
Names = List Declaration

-- the place of the first colon of a prefixed name
abbrev pub colon_at : List ℕ → ℕ
colon_at = position_or_len (λ c. nat_eq c 58)

-- [168] PN_PREFIX of a prefixed name, or nothing
abbrev pub prefix_of : List ℕ → List ℕ
prefix_of x = take (colon_at x) x

-- [169] PN_LOCAL of a prefixed name, or nothing
abbrev pub local_of : List ℕ → List ℕ
local_of x = drop (colon_at x + 1) x

-- the value of a local name: each backslash is removed, and the character after it is kept
abbrev pub unescaped : List ℕ → List ℕ
unescaped = filter (λ c. not (nat_eq c 92))

-- the declaration of a prefix
abbrev pub declaration_of : Names → List ℕ → Option Declaration
declaration_of ns prefix = find (λ d. pointwise nat_eq d.prefix prefix) ns

-- The IRI of a prefixed name: the IRI of its prefix, followed by the local name. If the prefix has
-- no declaration, it is the name as written.
abbrev pub expanded : Names → List ℕ → List ℕ
expanded ns x = elim (declaration_of ns (encodes (prefix_of x))) [ None ↦ encodes x | Some d ↦ d.iri ++ encodes (unescaped (local_of x)) ]

-- The label of an [163] ANON, from the number of the terminals after it. This number is different
-- for each ANON of a text, and no written label begins with a bracket.
abbrev pub anonymous_label : ℕ → List ℕ
anonymous_label n = 91 ∷ decimal n

-- the number whose digits are those of n, followed by these
abbrev pub number_of_digits : ℕ → List ℕ → ℕ
number_of_digits n [] = n
number_of_digits n (c ∷ cs) = number_of_digits (10 * n + (c - 48)) cs

-- a number that does not fit in 64 bits is replaced by the greatest one that fits
abbrev pub capped : List ℕ → ℕ
capped x = min (number_of_digits 0 x) 18446744073709551615

-- no name occurs twice
abbrev pub is_distinct : List (List ℕ) → Bool
is_distinct [] = true
is_distinct (x ∷ xs) = if list_any (λ y. pointwise nat_eq y x) xs then false else is_distinct xs
