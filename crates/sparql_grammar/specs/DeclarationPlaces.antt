-- The places of the declarations of a text, in the order of the text.
use Rattle.std.specs.Prelude.{◌≡◌, ℕ, ◌<◌, String, List, length, reverse, Option, None, MatchOption, slice_get}
use Rattle.std.specs.BTreeMap.{BTreeMap, get_by_text}
use Rattle.sparql_grammar.specs.Values.{declaration_of}
use Rattle.sparql_grammar.specs.declared.declarations.Declaration.{Declaration}

-- the place of the declaration that was found, or None if none was found
abbrev pub IsDeclarationPlace : List Declaration → Option Declaration → Option ℕ → Type 0
IsDeclarationPlace ds found place = MatchOption place (found ≡ None) (λ i. (i < length ds) × (found ≡ slice_get ds i))

-- the map has the place of the last declaration of each prefix
abbrev pub AreDeclarationPlaces : {Z : Type 0} → List Declaration → BTreeMap (String Z) ℕ → Type 0
AreDeclarationPlaces ds places = (prefix : List ℕ) → IsDeclarationPlace ds (declaration_of (reverse ds) prefix) (get_by_text places prefix)
