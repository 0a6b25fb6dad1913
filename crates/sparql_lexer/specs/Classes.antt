-- The characters of each `Class` of the code. Only private clauses use these definitions.
use Rattle.std.specs.Prelude.{ℕ, Bool, not, nat_eq}
use Rattle.sparql_lexer.specs.declared.classes.Class.{Class}
use Rattle.sparql_lexer.specs.declared.classes.Class.TheVariants as class
use Rattle.rdf_core.specs.Characters.{is_hex}
use Rattle.sparql_lexer.specs.Characters.{is_base, is_digit, is_letter, is_letter_or_digit, is_label_start, is_variable_part, is_name_part, is_local_start, is_local_part, is_local_escape, is_iri_character, is_short_character, is_long_character, is_escape_letter, is_space, is_line_end}
use Rattle.sparql_lexer.specs.Colonless.{is_name_or_dot}
use Rattle.sparql_lexer.specs.Numbers.{is_plus_or_minus, is_exponent_letter}
use Rattle.sparql_lexer.specs.Names.{is_variable_sign}

-- the characters of the class
abbrev pub members : Class → ℕ → Bool
members class.Digit = is_digit
members class.Dot = nat_eq 46
members class.NameOrDot = is_name_or_dot
members class.Letter = is_letter
members class.LetterOrDigit = is_letter_or_digit
members class.Hex = is_hex
members class.Base = is_base
members class.LabelStart = is_label_start
members class.VariablePart = is_variable_part
members class.NamePart = is_name_part
members class.LocalStart = is_local_start
members class.LocalPart = is_local_part
members class.LocalEscape = is_local_escape
members class.VariableSign = is_variable_sign
members class.PlusOrMinus = is_plus_or_minus
members class.ExponentLetter = is_exponent_letter
members class.InIri = is_iri_character
members class.InSingle = is_short_character 39
members class.InDouble = is_short_character 34
members class.InLongSingle = is_long_character 39
members class.InLongDouble = is_long_character 34
members class.EscapeLetter = is_escape_letter
members class.Space = is_space
members class.LineEnd = is_line_end
members class.InComment = λ c. not (is_line_end c)
