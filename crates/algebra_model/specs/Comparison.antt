-- Comparisons of terms (SPARQL 1.1 Query Language, sections 17.3 and 17.4.1.7). `None` is an error.
use Rattle.std.specs.Prelude.{Bool, true, false, not, ◌&&◌, Option, Some, None, option_map, if◌then◌else◌}
use Rattle.std.specs.Ordering.{nat_cmp, bool_cmp, is_eq, is_lt, is_gt, is_le, is_ge}
use Rattle.std.specs.Cmp.Lexicographic.{slice_cmp}
use Rattle.std.specs.declared.cmp.Ordering.{Ordering}
use Rattle.rdf_core.specs.declared.term.Term.{Term}
use Rattle.rdf_core.specs.declared.term.Term.TheVariants.{Blank, Iri, Literal}
use Rattle.rdf_core.specs.Equality.{term_eq}
use Rattle.algebra_model.specs.Number.{number_cmp}
use Rattle.algebra_model.specs.LiteralValue.{LiteralValue, number, boolean, string, other, literal_value}

-- = != < > <= >=, of [114] RelationalExpression
pub data Comparison : Type 0 where
  equal : Comparison
  not_equal : Comparison
  less : Comparison
  greater : Comparison
  less_or_equal : Comparison
  greater_or_equal : Comparison

-- the value of a term; only literals without a language tag have one
abbrev pub value_of : Term → LiteralValue
value_of (Blank label) = other
value_of (Iri text) = other
value_of (Literal form datatype None) = literal_value form datatype
value_of (Literal form datatype (Some tag)) = other

-- two numbers, two strings (by code points, whose order is that of their UTF-8 bytes) and two
-- booleans (false before true) have an order (section 17.3)
abbrev pub value_cmp : LiteralValue → LiteralValue → Option Ordering
value_cmp (number x) (number y) = Some (number_cmp x y)
value_cmp (string x) (string y) = Some (slice_cmp nat_cmp x y)
value_cmp (boolean x) (boolean y) = Some (bool_cmp x y)
value_cmp _ _ = None

-- a literal of any datatype
abbrev pub is_literal : Term → Bool
is_literal (Blank label) = false
is_literal (Iri text) = false
is_literal (Literal form datatype tag) = true

-- two terms without an order by value (section 17.4.1.7, RDFterm-equal): a term is equal to itself,
-- the comparison of two different literals is an error, and any other two terms are different
abbrev pub terms_equal : Term → Term → Option Bool
terms_equal a b =
    if term_eq a b then Some true else if is_literal a && is_literal b then None else Some false

-- equality by value if both terms have an order, and RDFterm-equal otherwise
abbrev pub equal_by : Option Ordering → Term → Term → Option Bool
equal_by (Some order) a b = Some (is_eq order)
equal_by None a b = terms_equal a b

-- `=` on two terms (section 17.3)
abbrev pub equals : Term → Term → Option Bool
equals a b = equal_by (value_cmp (value_of a) (value_of b)) a b

-- the operators of section 17.3; an order exists only between two values of one kind
abbrev pub compares : Comparison → Term → Term → Option Bool
compares equal a b = equals a b
compares not_equal a b = option_map not (equals a b)
compares less a b = option_map is_lt (value_cmp (value_of a) (value_of b))
compares greater a b = option_map is_gt (value_cmp (value_of a) (value_of b))
compares less_or_equal a b = option_map is_le (value_cmp (value_of a) (value_of b))
compares greater_or_equal a b = option_map is_ge (value_cmp (value_of a) (value_of b))
