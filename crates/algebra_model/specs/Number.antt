-- Numbers of any length (XML Schema 1.1 Part 2, sections 3.3.3 and 3.4.13), with an exact order
-- (SPARQL 1.1 Query Language, section 17.3). A lexical form is digits with an optional sign and
-- dot. Its value is a signed whole number over a power of ten.
use Rattle.std.specs.Prelude.{ℕ, ◌+◌, ◌*◌, ◌^◌, Bool, false, ◌||◌, ◌==◌, ℤ, pos, neg_ℤ, List, [], ◌∷◌, ◌++◌, length, drop, Option, Some, None, if◌then◌else◌}
use Rattle.std.specs.Char.{is_ascii_digit}
use Rattle.std.specs.List.{list_all, position_or_len, before_first}
use Rattle.std.specs.Ordering.{int_cmp}
use Rattle.std.specs.Str.Parse.{digits_value}
use Rattle.std.specs.declared.cmp.Ordering.{Ordering}

-- the plus sign, #x2B
abbrev pub plus : ℕ
plus = 43

-- the minus sign, #x2D
abbrev pub minus : ℕ
minus = 45

-- the decimal point, #x2E
abbrev pub dot : ℕ
dot = 46

-- all the digits as one whole number, and how many of them follow the dot
pub record Number : Type 0 where
  pub negative : Bool
  pub digits : ℕ
  pub places : ℕ

-- [+-]?
abbrev pub is_negative : List ℕ → Bool
is_negative [] = false
is_negative (c ∷ cs) = c == minus

-- the text without its sign
abbrev pub unsigned : List ℕ → List ℕ
unsigned [] = []
unsigned (c ∷ cs) = if c == plus || c == minus then cs else c ∷ cs

-- [0-9]+
abbrev pub is_numeral : List ℕ → Bool
is_numeral [] = false
is_numeral (c ∷ cs) = list_all is_ascii_digit (c ∷ cs)

-- what precedes the first dot, and what follows it
abbrev pub is_dot : ℕ → Bool
is_dot c = c == dot

-- the text before the first dot, or the whole text if it has none
abbrev pub whole_part : List ℕ → List ℕ
whole_part text = before_first is_dot text

-- the text after the first dot
abbrev pub fraction_part : List ℕ → List ℕ
fraction_part text = drop (position_or_len is_dot text + 1) text

-- the number with this sign, these whole digits and these fraction digits, if there is a digit and
-- nothing but digits
abbrev pub number_of_parts : Bool → List ℕ → List ℕ → Option Number
number_of_parts negative whole fraction =
    if is_numeral (whole ++ fraction)
    then Some (record {
      negative = negative;
      digits = digits_value 10 (whole ++ fraction);
      places = length fraction;
    })
    else None

-- [+-]?[0-9]+
abbrev pub integer_number : List ℕ → Option Number
integer_number form = number_of_parts (is_negative form) (unsigned form) []

-- [+-]?([0-9]+(\.[0-9]*)?|\.[0-9]+)
abbrev pub decimal_number : List ℕ → Option Number
decimal_number form =
    number_of_parts (is_negative form) (whole_part (unsigned form)) (fraction_part (unsigned form))

-- the value 0, in any form and with any sign
abbrev pub is_zero : Number → Bool
is_zero x = x.digits == 0

-- the number times ten to the power of its places plus n
abbrev pub raised : Number → ℕ → ℤ
raised x n = if x.negative then neg_ℤ (pos (x.digits * 10 ^ n)) else pos (x.digits * 10 ^ n)

-- a over 10^k is less than b over 10^m if a*10^m is less than b*10^k, and they are equal if neither
-- is less
abbrev pub number_cmp : Number → Number → Ordering
number_cmp x y = int_cmp (raised x y.places) (raised y x.places)
