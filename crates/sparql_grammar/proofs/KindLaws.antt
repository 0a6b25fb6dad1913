-- The list of all kinds of terminals, so that the prover can compute a test of all kinds.
use Rattle.std.proofs.Common.{◌≡◌, ℕ, zero, suc, List, [], ◌∷◌, Option, Some, None, Bool, true, false, if◌then◌else◌, refl, sym, ap, ◌∙◌, nat_eq}
use Rattle.sparql_lexer.specs.declared.token.Kind.{Kind}
use Rattle.sparql_lexer.specs.declared.token.Kind.TheVariants as kind
use Rattle.sparql_lexer.specs.declared.token.Keyword.TheVariants as word
use Rattle.sparql_lexer.specs.declared.token.Sign.TheVariants as sign

abbrev pub kinds : List Kind
kinds = kind.IriRef ∷ kind.Variable ∷ kind.PrefixedNamespace ∷ kind.PrefixedName ∷ kind.BlankLabel ∷ kind.Anonymous ∷ kind.LanguageTag ∷ kind.Integer ∷ kind.Decimal ∷ kind.Double ∷ kind.SignedInteger ∷ kind.SignedDecimal ∷ kind.SignedDouble ∷ kind.ShortString ∷ kind.LongString ∷ (kind.Keyword word.A) ∷ (kind.Keyword word.As) ∷ (kind.Keyword word.Bind) ∷ (kind.Keyword word.Bound) ∷ (kind.Keyword word.Datatype) ∷ (kind.Keyword word.Distinct) ∷ (kind.Keyword word.False) ∷ (kind.Keyword word.Filter) ∷ (kind.Keyword word.Graph) ∷ (kind.Keyword word.In) ∷ (kind.Keyword word.IsBlank) ∷ (kind.Keyword word.IsIri) ∷ (kind.Keyword word.IsLiteral) ∷ (kind.Keyword word.Lang) ∷ (kind.Keyword word.Limit) ∷ (kind.Keyword word.Minus) ∷ (kind.Keyword word.Not) ∷ (kind.Keyword word.Offset) ∷ (kind.Keyword word.Optional) ∷ (kind.Keyword word.Prefix) ∷ (kind.Keyword word.SameTerm) ∷ (kind.Keyword word.Select) ∷ (kind.Keyword word.Str) ∷ (kind.Keyword word.True) ∷ (kind.Keyword word.Undef) ∷ (kind.Keyword word.Union) ∷ (kind.Keyword word.Values) ∷ (kind.Keyword word.Where) ∷ kind.Word ∷ (kind.Sign sign.OpenBrace) ∷ (kind.Sign sign.CloseBrace) ∷ (kind.Sign sign.OpenParenthesis) ∷ (kind.Sign sign.CloseParenthesis) ∷ (kind.Sign sign.Dot) ∷ (kind.Sign sign.Semicolon) ∷ (kind.Sign sign.Comma) ∷ (kind.Sign sign.Star) ∷ (kind.Sign sign.Equal) ∷ (kind.Sign sign.NotEqual) ∷ (kind.Sign sign.Less) ∷ (kind.Sign sign.Greater) ∷ (kind.Sign sign.LessOrEqual) ∷ (kind.Sign sign.GreaterOrEqual) ∷ (kind.Sign sign.Not) ∷ (kind.Sign sign.And) ∷ (kind.Sign sign.Or) ∷ (kind.Sign sign.Carets) ∷ []

-- the place of a kind in that list
abbrev pub place : Kind → ℕ
place kind.IriRef = 0
place kind.Variable = 1
place kind.PrefixedNamespace = 2
place kind.PrefixedName = 3
place kind.BlankLabel = 4
place kind.Anonymous = 5
place kind.LanguageTag = 6
place kind.Integer = 7
place kind.Decimal = 8
place kind.Double = 9
place kind.SignedInteger = 10
place kind.SignedDecimal = 11
place kind.SignedDouble = 12
place kind.ShortString = 13
place kind.LongString = 14
place (kind.Keyword word.A) = 15
place (kind.Keyword word.As) = 16
place (kind.Keyword word.Bind) = 17
place (kind.Keyword word.Bound) = 18
place (kind.Keyword word.Datatype) = 19
place (kind.Keyword word.Distinct) = 20
place (kind.Keyword word.False) = 21
place (kind.Keyword word.Filter) = 22
place (kind.Keyword word.Graph) = 23
place (kind.Keyword word.In) = 24
place (kind.Keyword word.IsBlank) = 25
place (kind.Keyword word.IsIri) = 26
place (kind.Keyword word.IsLiteral) = 27
place (kind.Keyword word.Lang) = 28
place (kind.Keyword word.Limit) = 29
place (kind.Keyword word.Minus) = 30
place (kind.Keyword word.Not) = 31
place (kind.Keyword word.Offset) = 32
place (kind.Keyword word.Optional) = 33
place (kind.Keyword word.Prefix) = 34
place (kind.Keyword word.SameTerm) = 35
place (kind.Keyword word.Select) = 36
place (kind.Keyword word.Str) = 37
place (kind.Keyword word.True) = 38
place (kind.Keyword word.Undef) = 39
place (kind.Keyword word.Union) = 40
place (kind.Keyword word.Values) = 41
place (kind.Keyword word.Where) = 42
place kind.Word = 43
place (kind.Sign sign.OpenBrace) = 44
place (kind.Sign sign.CloseBrace) = 45
place (kind.Sign sign.OpenParenthesis) = 46
place (kind.Sign sign.CloseParenthesis) = 47
place (kind.Sign sign.Dot) = 48
place (kind.Sign sign.Semicolon) = 49
place (kind.Sign sign.Comma) = 50
place (kind.Sign sign.Star) = 51
place (kind.Sign sign.Equal) = 52
place (kind.Sign sign.NotEqual) = 53
place (kind.Sign sign.Less) = 54
place (kind.Sign sign.Greater) = 55
place (kind.Sign sign.LessOrEqual) = 56
place (kind.Sign sign.GreaterOrEqual) = 57
place (kind.Sign sign.Not) = 58
place (kind.Sign sign.And) = 59
place (kind.Sign sign.Or) = 60
place (kind.Sign sign.Carets) = 61

abbrev pub nth : {A : Type 0} → List A → ℕ → Option A
nth [] n = None
nth (x ∷ xs) zero = Some x
nth (x ∷ xs) (suc n) = nth xs n

pub kind_at : (k : Kind) → nth kinds (place k) ≡ Some k
kind_at kind.IriRef = refl
kind_at kind.Variable = refl
kind_at kind.PrefixedNamespace = refl
kind_at kind.PrefixedName = refl
kind_at kind.BlankLabel = refl
kind_at kind.Anonymous = refl
kind_at kind.LanguageTag = refl
kind_at kind.Integer = refl
kind_at kind.Decimal = refl
kind_at kind.Double = refl
kind_at kind.SignedInteger = refl
kind_at kind.SignedDecimal = refl
kind_at kind.SignedDouble = refl
kind_at kind.ShortString = refl
kind_at kind.LongString = refl
kind_at (kind.Keyword word.A) = refl
kind_at (kind.Keyword word.As) = refl
kind_at (kind.Keyword word.Bind) = refl
kind_at (kind.Keyword word.Bound) = refl
kind_at (kind.Keyword word.Datatype) = refl
kind_at (kind.Keyword word.Distinct) = refl
kind_at (kind.Keyword word.False) = refl
kind_at (kind.Keyword word.Filter) = refl
kind_at (kind.Keyword word.Graph) = refl
kind_at (kind.Keyword word.In) = refl
kind_at (kind.Keyword word.IsBlank) = refl
kind_at (kind.Keyword word.IsIri) = refl
kind_at (kind.Keyword word.IsLiteral) = refl
kind_at (kind.Keyword word.Lang) = refl
kind_at (kind.Keyword word.Limit) = refl
kind_at (kind.Keyword word.Minus) = refl
kind_at (kind.Keyword word.Not) = refl
kind_at (kind.Keyword word.Offset) = refl
kind_at (kind.Keyword word.Optional) = refl
kind_at (kind.Keyword word.Prefix) = refl
kind_at (kind.Keyword word.SameTerm) = refl
kind_at (kind.Keyword word.Select) = refl
kind_at (kind.Keyword word.Str) = refl
kind_at (kind.Keyword word.True) = refl
kind_at (kind.Keyword word.Undef) = refl
kind_at (kind.Keyword word.Union) = refl
kind_at (kind.Keyword word.Values) = refl
kind_at (kind.Keyword word.Where) = refl
kind_at kind.Word = refl
kind_at (kind.Sign sign.OpenBrace) = refl
kind_at (kind.Sign sign.CloseBrace) = refl
kind_at (kind.Sign sign.OpenParenthesis) = refl
kind_at (kind.Sign sign.CloseParenthesis) = refl
kind_at (kind.Sign sign.Dot) = refl
kind_at (kind.Sign sign.Semicolon) = refl
kind_at (kind.Sign sign.Comma) = refl
kind_at (kind.Sign sign.Star) = refl
kind_at (kind.Sign sign.Equal) = refl
kind_at (kind.Sign sign.NotEqual) = refl
kind_at (kind.Sign sign.Less) = refl
kind_at (kind.Sign sign.Greater) = refl
kind_at (kind.Sign sign.LessOrEqual) = refl
kind_at (kind.Sign sign.GreaterOrEqual) = refl
kind_at (kind.Sign sign.Not) = refl
kind_at (kind.Sign sign.And) = refl
kind_at (kind.Sign sign.Or) = refl
kind_at (kind.Sign sign.Carets) = refl

pub one_place : (k l : Kind) → place k ≡ place l → k ≡ l
one_place k l h = let a = kind_at k in let b = kind_at l in let c = ap (nth kinds) h in (cc)

abbrev pub all : {A : Type 0} → (A → Bool) → List A → Bool
all p [] = true
all p (x ∷ xs) = if p x then all p xs else false

abbrev pub every : (Kind → Bool) → Bool
every p = all p kinds

holds : (a b : Bool) → (if a then b else false) ≡ true → true ≡ a
holds true b h = refl
holds false b h = absurd (cc)

rest : (a b : Bool) → (if a then b else false) ≡ true → b ≡ true
rest true b h = h
rest false b h = absurd (cc)

same : {A : Type 0} {x y : A} → Some x ≡ Some y → x ≡ y
same h = (cc)

none_some : {A : Type 0} {x : A} → None ≡ Some x → ⊥
none_some e = (cc)

all_nth : {A : Type 0} (p : A → Bool) (xs : List A) (n : ℕ) (x : A) → all p xs ≡ true → nth xs n ≡ Some x → p x ≡ true
all_nth p [] n x h e = absurd (none_some e)
all_nth p (y ∷ ys) zero x h e = ap p (sym (same e)) ∙ sym (holds (p y) (all p ys) h)
all_nth p (y ∷ ys) (suc n) x h e = all_nth p ys n x (rest (p y) (all p ys) h) e

pub every_at : (p : Kind → Bool) → every p ≡ true → (k : Kind) → p k ≡ true
every_at p h k = all_nth p kinds (place k) k h (kind_at k)
