-- The result of a query depends on which quads the dataset has, and not on their order or repeats.
use Rattle.std.proofs.Common.{◌≡◌, ℕ, Bool, true, false, List, [], filter, filter_map, flat_map, Option, Some, IsPermutation, if◌then◌else◌, sym, ◌∙◌, subst}
use Rattle.std.specs.Option.{option_eq}
use Rattle.std.specs.List.{list_any}
use Rattle.std.proofs.lemmas.List.Sorted.{IsPermutation-refl, IsPermutation-trans}
use Rattle.rdf_core.specs.declared.term.Term.{Term}
use Rattle.rdf_core.specs.QuadParts.{QuadParts}
use Rattle.rdf_core.proofs.TermLaws.{term_eq, term_decides}
use Rattle.algebra_model.specs.Bag.{IsSameBag, IsSameSet}
use Rattle.algebra_model.specs.Solution.{Solution, same_solution}
use Rattle.algebra_model.specs.Operators.{join, table}
use Rattle.algebra_model.specs.Dataset.{triple_of, graph, names}
use Rattle.algebra_model.specs.Expression.{val, holds}
use Rattle.algebra_model.specs.Algebra.{Algebra, Pattern, Join, LeftJoin, Union, Minus, Graph, Filter, Extend, Project, Distinct, Table, GraphName, each_graph, one_graph}
use Rattle.algebra_model.specs.Eval.{named, in_graphs, eval}
use Rattle.algebra_model.proofs.BagLaws.{IsPermutation-flat_map, IsPermutation-flat_map_each}
use Rattle.algebra_model.proofs.RepeatLaws.{any-without_repeats_is}
use Rattle.algebra_model.proofs.BgpLaws.{solution_decides}
use Rattle.algebra_model.proofs.SetLaws.{AreAlike, alike_from_set, alike-filter, alike-map, alike-filter_map, without_repeats-alike, bgp-alike, set_from_permutation}
use Rattle.algebra_model.proofs.CongruenceLaws as bags

module _ (D E : List QuadParts) (alike : AreAlike D E) where
  pub graph-alike : (g : Option Term) → AreAlike (graph D g) (graph E g)
  graph-alike g =
      let mine = λ (q : QuadParts). option_eq term_eq q.g g in
      alike-map triple_of (filter mine D) (filter mine E) (alike-filter mine D E alike)

  name-alike : AreAlike (filter_map (λ (q : QuadParts). q.g) D) (filter_map (λ (q : QuadParts). q.g) E)
  name-alike = alike-filter_map (λ (q : QuadParts). q.g) D E alike

  -- the names of the graphs are the same multiset
  pub names-IsSameBag : IsSameBag (names D) (names E)
  names-IsSameBag = without_repeats-alike term_eq term_decides (filter_map (λ (q : QuadParts). q.g) D) (filter_map (λ (q : QuadParts). q.g) E) name-alike

  pub is_name-alike : (i : Term) → list_any (term_eq i) (names D) ≡ list_any (term_eq i) (names E)
  is_name-alike i =
      any-without_repeats_is term_eq term_decides i (filter_map (λ (q : QuadParts). q.g) D) ∙ name-alike (term_eq i) ∙ sym (any-without_repeats_is term_eq term_decides i (filter_map (λ (q : QuadParts). q.g) E))

  module _ (w : ℕ) where
    in_graphs-alike : (i : GraphName) (P Q : Option Term → List (Solution Term)) → ((h : Option Term) → IsSameBag (P h) (Q h)) → IsSameBag (in_graphs w D i P) (in_graphs w E i Q)
    in_graphs-alike (each_graph v) P Q k =
        let f = λ (P : Option Term → List (Solution Term)) (i : Term). join term_eq (P (Some i)) (named w v i) in
        IsPermutation-trans (flat_map (f P) (names D)) (flat_map (f P) (names E)) (flat_map (f Q) (names E))
        (IsPermutation-flat_map (same_solution term_eq) (solution_decides term_eq term_decides) (f P) (names D) (names E) names-IsSameBag)
        (IsPermutation-flat_map_each (f P) (f Q) (λ i. bags.join-IsSameBag term_eq term_decides (P (Some i)) (Q (Some i)) (named w v i) (named w v i) (k (Some i)) (IsPermutation-refl (named w v i))) (names E))
    in_graphs-alike (one_graph i) P Q k =
        subst (λ (b : Bool). IsSameBag (if list_any (term_eq i) (names D) then P (Some i) else []) (if b then Q (Some i) else [])) (is_name-alike i) (by (list_any (term_eq i) (names D)))
      where
        by : (b : Bool) → IsSameBag (if b then P (Some i) else []) (if b then Q (Some i) else [])
        by true = k (Some i)
        by false = IsPermutation-refl []

    pub eval-alike : (g : Option Term) (A : Algebra) → IsSameBag (eval w D g A) (eval w E g A)
    eval-alike g (Pattern labels P) = bgp-alike term_eq term_decides w labels P (graph D g) (graph E g) (graph-alike g)
    eval-alike g (Join A B) = bags.join-IsSameBag term_eq term_decides (eval w D g A) (eval w E g A) (eval w D g B) (eval w E g B) (eval-alike g A) (eval-alike g B)
    eval-alike g (LeftJoin A B e) = bags.left_join-IsSameBag term_eq term_decides (holds e) (eval w D g A) (eval w E g A) (eval w D g B) (eval w E g B) (eval-alike g A) (eval-alike g B)
    eval-alike g (Union A B) = bags.union-IsSameBag term_eq term_decides (eval w D g A) (eval w E g A) (eval w D g B) (eval w E g B) (eval-alike g A) (eval-alike g B)
    eval-alike g (Minus A B) = bags.minus-IsSameBag term_eq term_decides (eval w D g A) (eval w E g A) (eval w D g B) (eval w E g B) (eval-alike g A) (eval-alike g B)
    eval-alike g (Graph i A) = in_graphs-alike i (λ h. eval w D h A) (λ h. eval w E h A) (λ h. eval-alike h A)
    eval-alike g (Filter e A) = bags.filter-IsSameBag term_eq term_decides (holds e) (eval w D g A) (eval w E g A) (eval-alike g A)
    eval-alike g (Extend v e A) = bags.extend-IsSameBag v (val e) (eval w D g A) (eval w E g A) (eval-alike g A)
    eval-alike g (Project vs A) = bags.project-IsSameBag vs (eval w D g A) (eval w E g A) (eval-alike g A)
    eval-alike g (Distinct A) = bags.distinct-IsSameBag term_eq term_decides (eval w D g A) (eval w E g A) (eval-alike g A)
    eval-alike g (Table vs rows) = IsPermutation-refl (table w vs rows)

-- a dataset is read as a set
pub eval-IsSameSet : (w : ℕ) (D E : List QuadParts) → IsSameSet D E → (g : Option Term) (A : Algebra) → IsSameBag (eval w D g A) (eval w E g A)
eval-IsSameSet w D E h = eval-alike D E (alike_from_set D E h) w

pub eval-IsPermutation : (w : ℕ) (D E : List QuadParts) → IsPermutation D E → (g : Option Term) (A : Algebra) → IsSameBag (eval w D g A) (eval w E g A)
eval-IsPermutation w D E h = eval-IsSameSet w D E (set_from_permutation D E h)
