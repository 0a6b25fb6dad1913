-- The depth of nested brackets in a list of terminals. (The limit is a choice of this project, not
-- fixed by the standard.)
use Rattle.std.specs.Prelude.{ℕ, ◌+◌, ◌-◌, List, [], ◌∷◌, Bool, true, false, ◌||◌, nat_lt}
use Rattle.sparql_lexer.specs.declared.token.Kind.{Kind}
use Rattle.sparql_lexer.specs.declared.token.Kind.TheVariants as kind
use Rattle.sparql_lexer.specs.declared.token.Sign.TheVariants as sign
use Rattle.sparql_lexer.specs.Terminal.{Terminal, terminal}

-- The number of open brackets after a terminal, with n open brackets before it. A closing bracket
-- changes nothing if no bracket is open. Braces and parentheses count alike.
abbrev pub open_after : Kind → ℕ → ℕ
open_after (kind.Sign sign.OpenBrace) n = n + 1
open_after (kind.Sign sign.OpenParenthesis) n = n + 1
open_after (kind.Sign sign.CloseBrace) n = n - 1
open_after (kind.Sign sign.CloseParenthesis) n = n - 1
open_after _ n = n

-- the maximum number of brackets that may be open at once
abbrev pub max_depth : ℕ
max_depth = 100

-- more brackets are open at some place, with n open brackets before the terminals
abbrev pub goes_over : ℕ → List Terminal → Bool
goes_over n [] = false
goes_over n (terminal k x ∷ ts) = nat_lt max_depth (open_after k n) || goes_over (open_after k n) ts

-- more brackets are open at some place of the text
abbrev pub is_too_deep : List Terminal → Bool
is_too_deep ts = goes_over 0 ts
