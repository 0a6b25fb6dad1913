-- The patterns of the code's enums. Only private clauses use these definitions.
use Rattle.sparql_lexer.specs.declared.numbers.NumberForm.{NumberForm}
use Rattle.sparql_lexer.specs.declared.numbers.NumberForm.TheVariants as number
use Rattle.sparql_lexer.specs.declared.enclosed.Enclosure.{Enclosure}
use Rattle.sparql_lexer.specs.declared.enclosed.Enclosure.TheVariants as enclosure
use Rattle.sparql_lexer.specs.declared.names.Part.{Part}
use Rattle.sparql_lexer.specs.declared.names.Part.TheVariants as part
use Rattle.sparql_lexer.specs.Characters.{is_space, is_name_part}
use Rattle.sparql_lexer.specs.Pattern.{Pattern, character, is, many, ◌▸◌, ◌or◌}
use Rattle.sparql_lexer.specs.Numbers.{integer, decimal, double}
use Rattle.sparql_lexer.specs.Names.{local_part}
use Rattle.sparql_lexer.specs.Enclosed.{iri_piece, short_piece, long_piece, three, comment}

-- the production of an unsigned number
abbrev pub number_of : NumberForm → Pattern
number_of number.Integer = integer
number_of number.Decimal = decimal
number_of number.Double = double

-- the opening delimiter
abbrev pub open_of : Enclosure → Pattern
open_of enclosure.Iri = is 60
open_of enclosure.Single = is 39
open_of enclosure.Double = is 34
open_of enclosure.LongSingle = three 39
open_of enclosure.LongDouble = three 34
open_of enclosure.Anonymous = is 91

-- the closing delimiter
abbrev pub close_of : Enclosure → Pattern
close_of enclosure.Iri = is 62
close_of enclosure.Single = is 39
close_of enclosure.Double = is 34
close_of enclosure.LongSingle = three 39
close_of enclosure.LongDouble = three 34
close_of enclosure.Anonymous = is 93

-- one piece between the delimiters
abbrev pub piece_of : Enclosure → Pattern
piece_of enclosure.Iri = iri_piece
piece_of enclosure.Single = short_piece 39
piece_of enclosure.Double = short_piece 34
piece_of enclosure.LongSingle = long_piece 39
piece_of enclosure.LongDouble = long_piece 34
piece_of enclosure.Anonymous = character is_space or comment

-- the text after the opening delimiter
abbrev pub inside_of : Enclosure → Pattern
inside_of e = many (piece_of e) ▸ close_of e

-- the part that may end a name: PN_CHARS, or PN_CHARS | ':' | PLX
abbrev pub part_of : Part → Pattern
part_of part.Name = character is_name_part
part_of part.Local = local_part
