-- The keywords (SPARQL 1.1 Query Language, section 19.8, note 1). Their case does not matter,
-- except that `a` is lower case.
use Rattle.std.specs.Prelude.{◌≡◌, ℕ, ◌-◌, ◌&&◌, List, [], ◌∷◌, length, take, Option, Some, None, Bool, true, false, nat_eq, codes, if◌then◌else◌}
use Rattle.std.specs.Char.{to_ascii_uppercase}
use Rattle.sparql_lexer.specs.declared.token.Keyword.{Keyword}
use Rattle.sparql_lexer.specs.declared.token.Keyword.TheVariants as keyword
use Rattle.sparql_lexer.specs.Pattern.{Matches}
use Rattle.sparql_lexer.specs.Names.{word}

-- the word has the letters of the keyword, which is given in upper case
abbrev pub has_letters : List ℕ → List ℕ → Bool
has_letters [] [] = true
has_letters [] (k ∷ ks) = false
has_letters (c ∷ cs) [] = false
has_letters (c ∷ cs) (k ∷ ks) = nat_eq (to_ascii_uppercase c) k && has_letters cs ks

-- the keyword as the grammar of section 19.8 writes it, in upper case
abbrev pub capitals_of : Keyword → List ℕ
capitals_of keyword.A = codes "A"
capitals_of keyword.As = codes "AS"
capitals_of keyword.Bind = codes "BIND"
capitals_of keyword.Bound = codes "BOUND"
capitals_of keyword.Datatype = codes "DATATYPE"
capitals_of keyword.Distinct = codes "DISTINCT"
capitals_of keyword.False = codes "FALSE"
capitals_of keyword.Filter = codes "FILTER"
capitals_of keyword.Graph = codes "GRAPH"
capitals_of keyword.In = codes "IN"
capitals_of keyword.IsBlank = codes "ISBLANK"
capitals_of keyword.IsIri = codes "ISIRI"
capitals_of keyword.IsLiteral = codes "ISLITERAL"
capitals_of keyword.Lang = codes "LANG"
capitals_of keyword.Limit = codes "LIMIT"
capitals_of keyword.Minus = codes "MINUS"
capitals_of keyword.Not = codes "NOT"
capitals_of keyword.Offset = codes "OFFSET"
capitals_of keyword.Optional = codes "OPTIONAL"
capitals_of keyword.Prefix = codes "PREFIX"
capitals_of keyword.SameTerm = codes "SAMETERM"
capitals_of keyword.Select = codes "SELECT"
capitals_of keyword.Str = codes "STR"
capitals_of keyword.True = codes "TRUE"
capitals_of keyword.Undef = codes "UNDEF"
capitals_of keyword.Union = codes "UNION"
capitals_of keyword.Values = codes "VALUES"
capitals_of keyword.Where = codes "WHERE"

-- the keyword of the list that the word is, in any case
abbrev pub keyword_among : List Keyword → List ℕ → Option Keyword
keyword_among [] w = None
keyword_among (k ∷ ks) w = if has_letters w (capitals_of k) then Some k else keyword_among ks w

-- the keywords whose case does not matter
abbrev pub in_any_case : List Keyword
in_any_case =
    keyword.As ∷ keyword.Bind ∷ keyword.Bound ∷ keyword.Datatype ∷ keyword.Distinct ∷ keyword.False ∷ keyword.Filter
    ∷ keyword.Graph ∷ keyword.In ∷ keyword.IsBlank ∷ keyword.IsIri ∷ keyword.IsLiteral ∷ keyword.Lang ∷ keyword.Limit
    ∷ keyword.Minus ∷ keyword.Not ∷ keyword.Offset ∷ keyword.Optional ∷ keyword.Prefix ∷ keyword.SameTerm ∷ keyword.Select
    ∷ keyword.Str ∷ keyword.True ∷ keyword.Undef ∷ keyword.Union ∷ keyword.Values ∷ keyword.Where ∷ []

-- the word is `a`
abbrev pub is_small_a : List ℕ → Bool
is_small_a [] = false
is_small_a (c ∷ []) = nat_eq 97 c
is_small_a (c ∷ d ∷ cs) = false

-- the keyword of a word, or None if it is another word, which no production has
unfoldable pub keyword_of : List ℕ → Option Keyword
keyword_of w = if is_small_a w then Some keyword.A else keyword_among in_any_case w

-- the part of the text before `rest`
abbrev pub taken : List ℕ → List ℕ → List ℕ
taken text rest = take (length text - length rest) text

-- a word, and the keyword that it is
pub record IsWord (k : Option Keyword) (text rest : List ℕ) : Type 0 where
  pub letters : Matches word text rest
  pub meaning : keyword_of (taken text rest) ≡ k
