-- The number whose sign and digits a value of the program holds.
use Rattle.std.specs.Prelude.{◌++◌, length}
use Rattle.std.specs.Str.Parse.{digits_value}
use Rattle.algebra_model.specs.Number.{Number}
use Rattle.term_values.specs.declared.digits.Digits.{Digits}

-- its sign, its digits, and how many of them follow the decimal point
abbrev pub number_shown : Digits → Number
number_shown d = record {
  negative = d.negative;
  digits = digits_value 10 (d.whole.now ++ d.fraction.now);
  places = length d.fraction.now;
}
