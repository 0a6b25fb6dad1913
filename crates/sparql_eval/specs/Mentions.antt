-- The variables that an expression mentions, and those that the solutions of a tree may bind. Only
-- private clauses use these definitions.
use Rattle.std.specs.Prelude.{ℕ, Bool, false, ◌||◌, nat_eq}
use Rattle.std.specs.List.{list_any}
use Rattle.algebra_model.specs.Algebra.{Algebra, Pattern, Join, LeftJoin, Union, Minus, Graph, Filter, Extend, Project, Distinct, Table, GraphName, each_graph, one_graph}
use Rattle.algebra_model.specs.Bgp.{occurs}
use Rattle.algebra_model.specs.Expression.{Expression, variable, constant, either, both, negation, comparison, call, bound, same_term}

-- the variable occurs in the expression
abbrev pub mentions : Expression → ℕ → Bool
mentions (variable u) v = nat_eq u v
mentions (constant t) v = false
mentions (either a b) v = mentions a v || mentions b v
mentions (both a b) v = mentions a v || mentions b v
mentions (negation a) v = mentions a v
mentions (comparison op a b) v = mentions a v || mentions b v
mentions (call f a) v = mentions a v
mentions (bound u) v = nat_eq u v
mentions (same_term a b) v = mentions a v || mentions b v

-- the name after GRAPH is this variable
abbrev pub names_by : GraphName → ℕ → Bool
names_by (each_graph u) v = nat_eq u v
names_by (one_graph i) v = false

-- The variable is one that the solutions of the tree may bind (SPARQL 1.1 Query Language, section
-- 18.2.1, variable scope). The w variables are before the labels. The left out variables of a
-- Project are not left out here.
abbrev pub may_bind : ℕ → Algebra → ℕ → Bool
may_bind w (Pattern labels P) v = occurs w P v
may_bind w (Join A B) v = may_bind w A v || may_bind w B v
may_bind w (LeftJoin A B e) v = may_bind w A v || may_bind w B v
may_bind w (Union A B) v = may_bind w A v || may_bind w B v
may_bind w (Minus A B) v = may_bind w A v
may_bind w (Graph i A) v = names_by i v || may_bind w A v
may_bind w (Filter e A) v = may_bind w A v
may_bind w (Extend u e A) v = nat_eq u v || may_bind w A v
may_bind w (Project vs A) v = may_bind w A v
may_bind w (Distinct A) v = may_bind w A v
may_bind w (Table vs rows) v = list_any (λ u. nat_eq u v) vs
