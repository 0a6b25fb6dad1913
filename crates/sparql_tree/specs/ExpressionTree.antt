-- The tree of an expression, without its representation in memory (SPARQL 1.1 Query Language,
-- section 19.8, from [110] `Expression` on).
use Rattle.std.specs.Prelude.{ℕ, List, [], ◌∷◌, map}
use Rattle.rdf_core.specs.declared.term.Term.{Term}
use Rattle.sparql_tree.specs.declared.expression.Comparison.{Comparison}
use Rattle.sparql_tree.specs.declared.expression.Function.{Function}
use Rattle.sparql_tree.specs.declared.expression.Expression.{Expression}
use Rattle.sparql_tree.specs.declared.expression.Expression.TheFolds.{fold-Expression}
use Rattle.sparql_tree.specs.declared.expression.Expression.TheOpen.{Expression-F}

mutual
  pub data ExpressionTree : Type 0 where
    either : ExpressionTree → ExpressionTree → ExpressionTree
    both : ExpressionTree → ExpressionTree → ExpressionTree
    negation : ExpressionTree → ExpressionTree
    comparison : Comparison → ExpressionTree → ExpressionTree → ExpressionTree
    member : ExpressionTree → Expressions → ExpressionTree
    call : Function → ExpressionTree → ExpressionTree
    -- variables by their names
    bound : List ℕ → ExpressionTree
    same_term : ExpressionTree → ExpressionTree → ExpressionTree
    variable : List ℕ → ExpressionTree
    constant : Term → ExpressionTree

  -- a list of expressions: the last one is outermost
  pub data Expressions : Type 0 where
    none : Expressions
    then : Expressions → ExpressionTree → Expressions

-- a list of expressions appended to others
abbrev pub onto : Expressions → List ExpressionTree → Expressions
onto es [] = es
onto es (x ∷ xs) = onto (then es x) xs

-- one node whose inner expressions are translated already
abbrev pub expression_step : Expression-F ExpressionTree → ExpressionTree
expression_step (Expression-F.Or a b) = either a.value b.value
expression_step (Expression-F.And a b) = both a.value b.value
expression_step (Expression-F.Not a) = negation a.value
expression_step (Expression-F.Compare op a b) = comparison op a.value b.value
expression_step (Expression-F.In a es) = member a.value (onto none es.items)
expression_step (Expression-F.Call f a) = call f a.value
expression_step (Expression-F.Bound x) = bound x
expression_step (Expression-F.SameTerm a b) = same_term a.value b.value
expression_step (Expression-F.Variable x) = variable x
expression_step (Expression-F.Constant t) = constant t

-- the tree of an expression in the code, and of a list of expressions
abbrev pub expression_of : Expression → ExpressionTree
expression_of = fold-Expression ExpressionTree expression_step

-- the same for a list of expressions
abbrev pub expressions_of : List Expression → Expressions
expressions_of es = onto none (map expression_of es)
