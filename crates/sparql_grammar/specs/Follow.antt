-- The productions that a terminal can continue, and the terminals that a production may begin with.
-- The contracts of the readers in sparql_expression use `reach` and `next_level` (through `Parses`),
-- `heads` and `is_call`. Only private clauses use the other definitions. The grammar itself does
-- not look ahead.
use Rattle.std.specs.Prelude.{ℕ, List, [], ◌∷◌, Bool, true, false}
use Rattle.sparql_lexer.specs.declared.token.Kind.{Kind}
use Rattle.sparql_lexer.specs.declared.token.Kind.TheVariants as kind
use Rattle.sparql_lexer.specs.declared.token.Keyword.TheVariants as word
use Rattle.sparql_lexer.specs.declared.token.Sign.TheVariants as sign
use Rattle.sparql_lexer.specs.Terminal.{Terminal, terminal}
use Rattle.sparql_grammar.specs.Symbol.{Symbol}
use Rattle.sparql_grammar.specs.Symbol as the

-- The widest production that the terminal can continue:
--
-- 1  a literal, or a union
-- 2  a relational expression
-- 3  a conjunction
-- 4  a disjunction
-- 5  a list of objects
-- 6  the triples of one subject
-- 7  a block of triples
-- 8  a whole query
-- 9  none
abbrev pub level : Kind → ℕ
level kind.LanguageTag = 1
level (kind.Sign sign.Carets) = 1
level (kind.Keyword word.Union) = 1
level (kind.Sign sign.Equal) = 2
level (kind.Sign sign.NotEqual) = 2
level (kind.Sign sign.Less) = 2
level (kind.Sign sign.Greater) = 2
level (kind.Sign sign.LessOrEqual) = 2
level (kind.Sign sign.GreaterOrEqual) = 2
level (kind.Keyword word.In) = 2
level (kind.Keyword word.Not) = 2
level (kind.Sign sign.And) = 3
level (kind.Sign sign.Or) = 4
level (kind.Sign sign.Comma) = 5
level (kind.Sign sign.Semicolon) = 6
level kind.Variable = 6
level kind.IriRef = 6
level kind.PrefixedName = 6
level kind.PrefixedNamespace = 6
level (kind.Keyword word.A) = 6
level (kind.Sign sign.Dot) = 7
level kind.BlankLabel = 7
level kind.Anonymous = 7
level kind.Integer = 7
level kind.Decimal = 7
level kind.Double = 7
level kind.SignedInteger = 7
level kind.SignedDecimal = 7
level kind.SignedDouble = 7
level kind.ShortString = 7
level kind.LongString = 7
level (kind.Keyword word.True) = 7
level (kind.Keyword word.False) = 7
level (kind.Keyword word.Limit) = 8
level (kind.Keyword word.Offset) = 8
level _ = 9

-- the level of the first terminal
abbrev pub next_level : List Terminal → ℕ
next_level [] = 9
next_level (terminal k x ∷ ts) = level k

-- the level up to which terminals can continue the text of a symbol
abbrev pub reach : Symbol → ℕ
reach the.disjunction = 4
reach (the.more_or e) = 4
reach the.conjunction = 3
reach (the.more_and e) = 3
reach the.relation = 2
reach the.unary = 1
reach the.primary = 1
reach the.term = 1
reach (the.literal v) = 1
reach the.pattern_term = 1
reach (the.objects a b ts) = 5
reach (the.more_objects a b ts) = 5
reach (the.property a ts) = 5
reach (the.after_semicolon a ts) = 6
reach (the.more_properties a ts) = 6
reach (the.same_subject ts) = 6
reach (the.triples ts) = 7
reach (the.after_subject ts) = 7
reach (the.more_triples ts) = 7
reach the.other = 1
reach the.unions = 1
reach (the.more_union e) = 1
reach the.cell = 1
reach the.query = 8
reach the.declared = 8
reach the.select_query = 8
reach (the.select d) = 8
reach (the.selected d vs) = 8
reach (the.pattern d vs) = 8
reach (the.pattern_group d vs) = 8
reach the.modifiers = 8
reach (the.after_limit n) = 8
reach (the.after_offset n) = 8
reach _ = 0

-- the terminals that a call, a verb, and a term or variable of a triple may begin with
abbrev pub is_call : Kind → Bool
is_call (kind.Keyword word.Str) = true
is_call (kind.Keyword word.Lang) = true
is_call (kind.Keyword word.Datatype) = true
is_call (kind.Keyword word.IsIri) = true
is_call (kind.Keyword word.IsBlank) = true
is_call (kind.Keyword word.IsLiteral) = true
is_call (kind.Keyword word.Bound) = true
is_call (kind.Keyword word.SameTerm) = true
is_call _ = false

-- the terminals that a [78] Verb may begin with
abbrev pub is_verb : Kind → Bool
is_verb kind.Variable = true
is_verb kind.IriRef = true
is_verb kind.PrefixedName = true
is_verb kind.PrefixedNamespace = true
is_verb (kind.Keyword word.A) = true
is_verb _ = false

-- the terminals that a [106] VarOrTerm may begin with
abbrev pub is_place : Kind → Bool
is_place kind.IriRef = true
is_place kind.Variable = true
is_place kind.PrefixedNamespace = true
is_place kind.PrefixedName = true
is_place kind.BlankLabel = true
is_place kind.Anonymous = true
is_place kind.Integer = true
is_place kind.Decimal = true
is_place kind.Double = true
is_place kind.SignedInteger = true
is_place kind.SignedDecimal = true
is_place kind.SignedDouble = true
is_place kind.ShortString = true
is_place kind.LongString = true
is_place (kind.Keyword word.True) = true
is_place (kind.Keyword word.False) = true
is_place _ = false

-- whether the next terminal is one of these
abbrev pub heads : (Kind → Bool) → List Terminal → Bool
heads p [] = false
heads p (terminal k x ∷ ts) = p k
