-- The expressions whose evaluation allocates nothing, because it makes no term. The terms of
-- variables and constants are borrowed. STR, LANG and DATATYPE make the term that they return. A
-- truth value becomes a literal if it is compared or is the argument of a function.
use Rattle.std.specs.Prelude.{Bool, true, false, ◌&&◌, List, [], ◌∷◌, map}
use Rattle.algebra_model.specs.Call.{Function, str, lang, datatype, is_iri, is_blank, is_literal}
use Rattle.expression_values.specs.ExpressionOf.{function_of}
use Rattle.expression_values.specs.declared.expression.Expr.{Expr, fold-Expr}
use Rattle.expression_values.specs.declared.expression.Expr.TheOpen.{Expr-F}

-- isIRI, isBlank and isLiteral return a truth value
abbrev pub is_test : Function → Bool
is_test str = false
is_test lang = false
is_test datatype = false
is_test is_iri = true
is_test is_blank = true
is_test is_literal = true

-- of an expression: whether it is a variable or a constant, and whether its evaluation allocates
-- nothing
pub record Need : Type 0 where
  pub is_borrowed : Bool
  pub takes_none : Bool

abbrev pub borrowed : Need
borrowed = record { is_borrowed = true; takes_none = true }

abbrev pub none_where : Bool → Need
none_where b = record { is_borrowed = false; takes_none = b }

abbrev pub all_borrowed : List Need → Bool
all_borrowed [] = true
all_borrowed (n ∷ ns) = n.is_borrowed && all_borrowed ns

-- one level of the tree, with each operand replaced by its needs
abbrev pub need_step : Expr-F Need → Need
need_step (Expr-F.Variable v) = borrowed
need_step (Expr-F.Constant t) = borrowed
need_step (Expr-F.Or a b) = none_where (a.value.takes_none && b.value.takes_none)
need_step (Expr-F.And a b) = none_where (a.value.takes_none && b.value.takes_none)
need_step (Expr-F.Not a) = none_where a.value.takes_none
need_step (Expr-F.Compare op a b) = none_where (a.value.is_borrowed && b.value.is_borrowed)
need_step (Expr-F.In x es) = none_where (x.value.is_borrowed && all_borrowed es.items)
need_step (Expr-F.Call f a) = none_where (a.value.is_borrowed && is_test (function_of f))
need_step (Expr-F.Bound v) = none_where true
need_step (Expr-F.SameTerm a b) = none_where (a.value.is_borrowed && b.value.is_borrowed)

abbrev pub need : Expr → Need
need = fold-Expr Need need_step

abbrev pub is_borrowed : Expr → Bool
is_borrowed e = (need e).is_borrowed

abbrev pub are_borrowed : List Expr → Bool
are_borrowed es = all_borrowed (map need es)

abbrev pub takes_none : Expr → Bool
takes_none e = (need e).takes_none
