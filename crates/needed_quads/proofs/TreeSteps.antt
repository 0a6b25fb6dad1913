-- What is added for a tree, from what the calls for its inputs return.
use Rattle.std.proofs.Common.{◌≡◌, Bool, true, false, ◌||◌, List, [], All, Result, OnOk, subst}
use Rattle.std.proofs.lemmas.Result.{on_ok_weaker}
use Rattle.rdf_core.specs.QuadParts.{QuadParts}
use Rattle.quad_filter.specs.declared.filter.Shape.{Shape}
use Rattle.quad_filter.specs.declared.filter.WantedGraph.{WantedGraph}
use Rattle.algebra_model.specs.Algebra.{Algebra, GraphName, Join, Union, Graph}
use Rattle.sparql_algebra.specs.AlgebraOf.{algebra_of}
use Rattle.sparql_algebra.specs.declared.operator.Operator.{Operator}
use Rattle.needed_quads.specs.Needed.{is_needed, needs_triples}
use Rattle.needed_quads.specs.Restriction.{Restriction, restrictions}
use Rattle.needed_quads.specs.declared.restricted.Restricted.{Restricted}
use Rattle.needed_quads.specs.Building.{AllowsOnly, AreAdded, AreNamesWanted, AreRestricted, Covers, HasGraph, are_some}
use Rattle.needed_quads.proofs.BuildingLaws.{free_added, graph_added, join_added, known_added, left_added, needs_of, open_added, as_needed, tree_added, union_added}

-- ---- a Join

pub join_on : (graph : WantedGraph) (known inner next more : List Restricted) (A L R : Algebra) (old mid new : List Shape) → A ≡ Join L R
    → AreRestricted (restrictions A) known inner
    → AreAdded (needs_of L) graph inner old mid → next ≡ inner
    → AreRestricted (restrictions L) next more → AreAdded (needs_of R) graph more mid new
    → AreAdded (needs_of A) graph known old new
join_on graph known inner next more A L R old mid new is entered a same later b =
    tree_added graph known A (Join L R) old new is
    (join_added graph known inner more L R old mid new (subst (λ X. AreRestricted (restrictions X) known inner) is entered)
    (subst (λ l. AreRestricted (restrictions L) l more) same later) a b)

-- ---- the same for an input of an operator as for the tree in its box

pub added_as : (graph : WantedGraph) (known : List Restricted) (a b : Operator) (old new : List Shape) → a ≡ b
    → AreAdded (needs_of (algebra_of a)) graph known old new → AreAdded (needs_of (algebra_of b)) graph known old new
added_as graph known a b old new e h = subst (λ x. AreAdded (needs_of (algebra_of x)) graph known old new) e h

pub on_ok_as : {E : Type 0} (r : Result (Unit {0}) E) (graph : WantedGraph) (known : List Restricted) (a b : Operator) (old new : List Shape) → a ≡ b
    → OnOk r (AreAdded (needs_of (algebra_of a)) graph known old new) → OnOk r (AreAdded (needs_of (algebra_of b)) graph known old new)
on_ok_as r graph known a b old new e h = on_ok_weaker r (added_as graph known a b old new e) h

pub restricted_as : (known inner : List Restricted) (a b : Operator) → a ≡ b
    → AreRestricted (restrictions (algebra_of a)) known inner → AreRestricted (restrictions (algebra_of b)) known inner
restricted_as known inner a b e h = subst (λ x. AreRestricted (restrictions (algebra_of x)) known inner) e h

pub covered_as : (inner : List Restricted) (a b : Operator) → a ≡ b
    → ((X : List Restriction) → AllowsOnly (restrictions (algebra_of a)) X → All (Covers X) inner)
    → (X : List Restriction) → AllowsOnly (restrictions (algebra_of b)) X → All (Covers X) inner
covered_as inner a b e h = subst (λ x. (X : List Restriction) → AllowsOnly (restrictions (algebra_of x)) X → All (Covers X) inner) e h

pub whole_as : (graph : WantedGraph) (shapes : List Shape) (a b : Operator) → a ≡ b
    → (needs_triples (algebra_of a) ≡ false → HasGraph graph shapes) → needs_triples (algebra_of b) ≡ false → HasGraph graph shapes
whole_as graph shapes a b e h = subst (λ x. needs_triples (algebra_of x) ≡ false → HasGraph graph shapes) e h

-- ---- operators

module _ {E : Type 0} (r : Result (Unit {0}) E) (graph : WantedGraph) (known : List Restricted) where
  -- the same for an expression that needs the same
  pub inner_on : (A B : Algebra) (old new : List Shape) → ((q : QuadParts) (here : Bool) (X : List Restriction) → is_needed q here X A ≡ is_needed q here X B)
      → OnOk r (AreAdded (needs_of B) graph known old new) → OnOk r (AreAdded (needs_of A) graph known old new)
  inner_on A B old new same h = on_ok_weaker r (λ b. as_needed (needs_of A) (needs_of B) graph known old new same b) h

  -- the restrictions of the first input, for the second
  pub left_on : (inner : List Restricted) (A L R : Algebra) (old mid new : List Shape)
      → ((q : QuadParts) (here : Bool) (X : List Restriction) → is_needed q here X A ≡ (is_needed q here X L || is_needed q here (restrictions L) R))
      → ((X : List Restriction) → AllowsOnly (restrictions L) X → All (Covers X) inner)
      → AreAdded (needs_of L) graph known old mid → OnOk r (AreAdded (needs_of R) graph inner mid new) → OnOk r (AreAdded (needs_of A) graph known old new)
  left_on inner A L R old mid new same covered a h =
      on_ok_weaker r (λ b. as_needed (needs_of A) (λ q here X. is_needed q here X L || is_needed q here (restrictions L) R) graph known old new same (left_added graph known inner L R old mid new covered a b)) h

  -- no restrictions for the input
  pub open_on : (none : List Restricted) (A B : Algebra) (old new : List Shape) → ((q : QuadParts) (here : Bool) (X : List Restriction) → is_needed q here X A ≡ is_needed q here [] B) → none ≡ []
      → OnOk r (AreAdded (needs_of B) graph none old new) → OnOk r (AreAdded (needs_of A) graph known old new)
  open_on none A B old new same empty h =
      on_ok_weaker r (λ b. as_needed (needs_of A) (λ q here X. is_needed q here [] B) graph known old new same (open_added graph known none B old new empty b)) h

  pub union_on : (next : List Restricted) (A L R : Algebra) (old mid new : List Shape) → A ≡ Union L R
      → AreAdded (needs_of L) graph known old mid → next ≡ known → OnOk r (AreAdded (needs_of R) graph next mid new) → OnOk r (AreAdded (needs_of A) graph known old new)
  union_on next A L R old mid new is a same h =
      on_ok_weaker r (λ b. tree_added graph known A (Union L R) old new is (union_added graph known L R old mid new a (known_added (needs_of R) graph known next mid new same b))) h

  pub graph_on : (now : List Restricted) (names : WantedGraph) (A : Algebra) (i : GraphName) (B : Algebra) (old mid new : List Shape) → A ≡ Graph i B → now ≡ known
      → AreNamesWanted now i names
      → ((q : QuadParts) → are_some old q ≡ true → are_some mid q ≡ true)
      → (needs_triples B ≡ false → HasGraph names mid)
      → OnOk r (AreAdded (needs_of B) names known mid new) → OnOk r (AreAdded (needs_of A) graph known old new)
  graph_on now names A i B old mid new is same named kept whole h =
      on_ok_weaker r (λ b. tree_added graph known A (Graph i B) old new is (graph_added graph names known i B old mid new (subst (λ l. AreNamesWanted l i names) same named) kept whole b)) h

  -- the same for an input of which nothing is known
  pub free_on : (none : List Restricted) (B : Algebra) (old new : List Shape) → none ≡ []
      → OnOk r (AreAdded (needs_of B) graph none old new) → OnOk r (AreAdded (needs_of B) graph known old new)
  free_on none B old new empty h = on_ok_weaker r (λ b. free_added (needs_of B) graph known none old new empty b) h
