-- Expressions and their values (SPARQL 1.1 Query Language, section 17). `None` is an error. An
-- unbound variable is an error, and so is an operation on an error, except as the tables of section
-- 17.2 say.
use Rattle.std.specs.Prelude.{ℕ, Bool, false, List, [], ◌∷◌, Option, Some, None, option_map, is_some, get_or}
use Rattle.rdf_core.specs.declared.term.Term.{Term}
use Rattle.rdf_core.specs.Equality.{term_eq}
use Rattle.algebra_model.specs.Solution.{Solution}
use Rattle.algebra_model.specs.BooleanValue.{ebv, logical_and, logical_or, logical_not}
use Rattle.algebra_model.specs.Call.{Function, call_value, boolean_term}
use Rattle.algebra_model.specs.Comparison.{Comparison, equal, compares}

-- the expressions of [110] Expression that this project evaluates
pub data Expression : Type 0 where
  -- a variable by its number, and a term
  variable : ℕ → Expression
  constant : Term → Expression
  -- `||`, `&&` and `!`
  either : Expression → Expression → Expression
  both : Expression → Expression → Expression
  negation : Expression → Expression
  comparison : Comparison → Expression → Expression → Expression
  -- STR, LANG, DATATYPE, isIRI, isBlank, isLiteral
  call : Function → Expression → Expression
  -- BOUND and sameTerm
  bound : ℕ → Expression
  same_term : Expression → Expression → Expression

-- x IN (e1, .., en) is x = e1 or .. or x = en, and false for the empty list, whatever x is (section
-- 17.4.1.9)
abbrev pub member : Expression → List Expression → Expression
member x [] = constant (boolean_term false)
member x (e ∷ es) = either (comparison equal x e) (member x es)

-- the value of a test of one term, or of two, whose operands may be errors
abbrev pub with_value : {X : Type 0} → Option Term → (Term → Option X) → Option X
with_value None f = None
with_value (Some t) f = f t

-- the same of two terms
abbrev pub with_values : {X : Type 0} → Option Term → Option Term → (Term → Term → Option X) → Option X
with_values None t f = None
with_values (Some s) None f = None
with_values (Some s) (Some t) f = f s t

-- the effective boolean value of an operand, which may be an error
abbrev pub truth_of : Option Term → Option Bool
truth_of value = with_value value ebv

-- a truth value as a term
abbrev pub boolean_result : Option Bool → Option Term
boolean_result = option_map boolean_term

-- the value of an expression under a solution (section 17.2)
abbrev pub val : Expression → Solution Term → Option Term
val (variable v) μ = get_or μ v None
val (constant t) μ = Some t
val (either a b) μ = boolean_result (logical_or (truth_of (val a μ)) (truth_of (val b μ)))
val (both a b) μ = boolean_result (logical_and (truth_of (val a μ)) (truth_of (val b μ)))
val (negation a) μ = boolean_result (logical_not (truth_of (val a μ)))
val (comparison op a b) μ = boolean_result (with_values (val a μ) (val b μ) (compares op))
val (call f a) μ = with_value (val a μ) (call_value f)
val (bound v) μ = Some (boolean_term (is_some (get_or μ v None)))
val (same_term a b) μ = boolean_result (with_values (val a μ) (val b μ) (λ s t. Some (term_eq s t)))

-- a solution passes a filter exactly if the effective boolean value is true (section 18.5, Filter)
abbrev pub is_true : Option Bool → Bool
is_true (Some b) = b
is_true None = false

-- the solution passes a filter with this expression
abbrev pub holds : Expression → Solution Term → Bool
holds e μ = is_true (truth_of (val e μ))
