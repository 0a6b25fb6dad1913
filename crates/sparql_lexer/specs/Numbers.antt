-- Numbers (SPARQL 1.1 Query Language, section 19.8, productions [146] INTEGER to [155] EXPONENT).
use Rattle.std.specs.Prelude.{ℕ, Bool, ◌||◌, nat_eq}
use Rattle.sparql_lexer.specs.Pattern.{Pattern, character, is, some, many, perhaps, ◌▸◌, ◌or◌}
use Rattle.sparql_lexer.specs.Characters.{is_digit}

-- [+-]
abbrev pub is_plus_or_minus : ℕ → Bool
is_plus_or_minus c = nat_eq 43 c || nat_eq 45 c

-- [eE]
abbrev pub is_exponent_letter : ℕ → Bool
is_exponent_letter c = nat_eq 101 c || nat_eq 69 c

-- [0-9]
abbrev pub digit : Pattern
digit = character is_digit

-- [146] INTEGER ::= [0-9]+
abbrev pub integer : Pattern
integer = some digit

-- [147] DECIMAL ::= [0-9]* '.' [0-9]+
abbrev pub decimal : Pattern
decimal = many digit ▸ is 46 ▸ some digit

-- [155] EXPONENT ::= [eE] [+-]? [0-9]+
abbrev pub exponent : Pattern
exponent = character is_exponent_letter ▸ perhaps (character is_plus_or_minus) ▸ some digit

-- [148] DOUBLE ::= [0-9]+ '.' [0-9]* EXPONENT | '.' ([0-9])+ EXPONENT | ([0-9])+ EXPONENT
abbrev pub double : Pattern
double = (some digit ▸ is 46 ▸ many digit ▸ exponent) or (is 46 ▸ some digit ▸ exponent) or (some digit ▸ exponent)

-- a number after a plus or minus sign: [149] INTEGER_POSITIVE to [154] DOUBLE_NEGATIVE
abbrev pub signed : Pattern → Pattern
signed number = character is_plus_or_minus ▸ number
