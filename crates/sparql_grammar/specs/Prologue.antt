-- The prefix declarations of a query, and its prefixed names without a declaration (SPARQL 1.1
-- Query Language, sections 4.1.1 and 19.8, [6] PrefixDecl). A text is given by its terminals.
use Rattle.std.specs.Prelude.{ℕ, List, [], ◌∷◌, ◌&&◌, Bool, true, false, is_none, Option, Some, None, if◌then◌else◌}
use Rattle.std.specs.List.{list_any}
use lib.Utf8.{encodes}
use Rattle.sparql_lexer.specs.declared.token.Kind.{Kind}
use Rattle.sparql_lexer.specs.declared.token.Kind.TheVariants as kind
use Rattle.sparql_lexer.specs.declared.token.Keyword.TheVariants as word
use Rattle.sparql_lexer.specs.Terminal.{Terminal, terminal}
use Rattle.sparql_lexer.specs.Values.{iri_value}
use Rattle.sparql_grammar.specs.Values.{Names, prefix_of, declaration_of}
use Rattle.sparql_grammar.specs.declared.declarations.Declaration.{Declaration}

-- 'PREFIX'
abbrev pub is_prefix_word : Kind → Bool
is_prefix_word (kind.Keyword word.Prefix) = true
is_prefix_word _ = false

-- [140] PNAME_NS
abbrev pub is_namespace : Kind → Bool
is_namespace kind.PrefixedNamespace = true
is_namespace _ = false

-- [139] IRIREF
abbrev pub is_reference : Kind → Bool
is_reference kind.IriRef = true
is_reference _ = false

-- [140] PNAME_NS, as `e:`, or [141] PNAME_LN, as `e:a`
abbrev pub is_prefixed : Kind → Bool
is_prefixed kind.PrefixedNamespace = true
is_prefixed kind.PrefixedName = true
is_prefixed _ = false

-- `PREFIX e: <iri>` of these three terminals, or None if an escape of the IRI denotes no character
abbrev pub declared : List ℕ → Option (List ℕ) → Option Declaration
declared x None = None
declared x (Some i) = Some (record { prefix = encodes (prefix_of x); iri = i })

-- the declaration at the start of the terminals
abbrev pub declaration_at : List Terminal → Option Declaration
declaration_at (terminal k w ∷ (terminal l x ∷ (terminal m i ∷ ts))) =
    if is_prefix_word k && (is_namespace l && is_reference m) then declared x (iri_value i) else None
declaration_at _ = None

-- the declaration, if there is one, before the others
abbrev pub and_declared : Option Declaration → Names → Names
and_declared None ns = ns
and_declared (Some d) ns = d ∷ ns

-- The declarations among the terminals, the last one first, followed by others. (In a query PREFIX
-- occurs only in the prologue.)
abbrev pub declared_onto : Names → List Terminal → Names
declared_onto ns [] = ns
declared_onto ns (t ∷ ts) = declared_onto (and_declared (declaration_at (t ∷ ts)) ns) ts

-- the declarations among the terminals, the last one first
abbrev pub declarations : List Terminal → Names
declarations ts = declared_onto [] ts

-- a prefixed name without a declaration
abbrev pub is_undefined : Names → Terminal → Bool
is_undefined ns (terminal k x) = is_prefixed k && is_none (declaration_of ns (encodes (prefix_of x)))

-- some prefixed name among the terminals has no declaration among these
abbrev pub lacks_declaration : Names → List Terminal → Bool
lacks_declaration ns ts = list_any (is_undefined ns) ts

-- the same with the declarations of the terminals themselves
abbrev pub has_undefined_prefix : List Terminal → Bool
has_undefined_prefix ts = lacks_declaration (declarations ts) ts
