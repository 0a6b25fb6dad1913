-- The signs of one and two characters.
use Rattle.std.specs.Prelude.{◌≡◌, ℕ, List, ◌∷◌, Option, Some, None, nat_eq, ◌&&◌, if◌then◌else◌}
use Rattle.sparql_lexer.specs.declared.token.Sign.{Sign}
use Rattle.sparql_lexer.specs.declared.token.Sign.TheVariants as sign

-- { } ( ) . ; , * = < > !
abbrev pub sign_of_one : ℕ → Option Sign
sign_of_one c =
    if nat_eq 123 c then Some sign.OpenBrace else if nat_eq 125 c then Some sign.CloseBrace
    else if nat_eq 40 c then Some sign.OpenParenthesis else if nat_eq 41 c then Some sign.CloseParenthesis
    else if nat_eq 46 c then Some sign.Dot else if nat_eq 59 c then Some sign.Semicolon
    else if nat_eq 44 c then Some sign.Comma else if nat_eq 42 c then Some sign.Star
    else if nat_eq 61 c then Some sign.Equal else if nat_eq 60 c then Some sign.Less
    else if nat_eq 62 c then Some sign.Greater else if nat_eq 33 c then Some sign.Not else None

-- != <= >= && || ^^
abbrev pub sign_of_two : ℕ → ℕ → Option Sign
sign_of_two c d =
    if nat_eq 33 c && nat_eq 61 d then Some sign.NotEqual else if nat_eq 60 c && nat_eq 61 d then Some sign.LessOrEqual
    else if nat_eq 62 c && nat_eq 61 d then Some sign.GreaterOrEqual else if nat_eq 38 c && nat_eq 38 d then Some sign.And
    else if nat_eq 124 c && nat_eq 124 d then Some sign.Or else if nat_eq 94 c && nat_eq 94 d then Some sign.Carets else None

-- the text is the sign followed by `rest`
pub data IsSign (s : Sign) : List ℕ → List ℕ → Type 0 where
  one : {c : ℕ} {rest : List ℕ} → sign_of_one c ≡ Some s → IsSign s (c ∷ rest) rest
  two : {c d : ℕ} {rest : List ℕ} → sign_of_two c d ≡ Some s → IsSign s (c ∷ d ∷ rest) rest
