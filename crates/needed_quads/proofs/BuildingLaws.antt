-- The shapes that are added for a tree, from those that are added for its inputs.
use Rattle.std.proofs.Common.{◌≡◌, ℕ, ◌+◌, ◌<◌, ◌==◌, Bool, true, false, ◌&&◌, ◌||◌, not, List, [], ◌∷◌, ◌++◌, length, map, take, get_or, Option, None, Some, All, refl, sym, ap, ◌∙◌, subst, ⊎_elim}
use Rattle.std.specs.List.{list_any}
use Rattle.std.specs.Option.{option_eq}
use Rattle.std.proofs.lemmas.Bool.{and_parts, and_from, or_cases, or_left, or_right, false≢true, not-true}
use Rattle.std.proofs.lemmas.List.{map_more}
use Rattle.std.proofs.lemmas.List.Elements.{All-nil, All-weaker}
use Rattle.std.proofs.lemmas.List.Folds.{list_any-append, list_all-append}
use Rattle.rdf_core.specs.declared.term.Term.{Term}
use Rattle.rdf_core.specs.QuadParts.{QuadParts}
use Rattle.rdf_core.proofs.TermLaws.{term_eq}
use Rattle.quad_filter.specs.Filter.{has_shape, is_wanted_graph}
use Rattle.quad_filter.specs.declared.filter.Shape.{Shape}
use Rattle.quad_filter.specs.declared.filter.WantedGraph.{WantedGraph}
use Rattle.quad_filter.specs.declared.filter.WantedGraph.TheVariants.{Default}
use Rattle.algebra_model.specs.Algebra.{Algebra, GraphName, Join, Graph}
use Rattle.sparql_algebra.specs.AlgebraOf.{triple_pattern_of}
use Rattle.sparql_algebra.specs.declared.operator.TriplePattern.{TriplePattern}
use Rattle.needed_quads.specs.Needed.{is_needed, may_match, may_name, needs_triples}
use Rattle.needed_quads.specs.Restriction.{Restriction, allows, restrictions}
use Rattle.needed_quads.specs.declared.restricted.Restricted.{Restricted}
use Rattle.needed_quads.specs.Building.{AllowsOnly, AreAdded, AreNamesWanted, AreRestricted, Covers, HasGraph, IsShapeOf, are_some}

-- ---- one more shape

pub some_kept : (mid : List Shape) (s : Shape) (q : QuadParts) → are_some mid q ≡ true → are_some (mid ++ s ∷ []) q ≡ true
some_kept mid s q h = list_any-append (has_shape q) mid (s ∷ []) ∙ or_left (list_any (has_shape q) mid) (list_any (has_shape q) (s ∷ [])) h

pub some_new : (mid : List Shape) (s : Shape) (q : QuadParts) → has_shape q s ≡ true → are_some (mid ++ s ∷ []) q ≡ true
some_new mid s q h =
    list_any-append (has_shape q) mid (s ∷ [])
    ∙ or_right (list_any (has_shape q) mid) (list_any (has_shape q) (s ∷ [])) (or_left (has_shape q s) false h)

-- ---- restrictions

-- the restriction allows the term for the variable
abbrev one_allows : ℕ → Term → Restriction → Bool
one_allows v t r = not (r.variable == v) || list_any (term_eq t) r.terms

pub allows_left : (X Y : List Restriction) (v : ℕ) (t : Term) → allows (X ++ Y) v t ≡ true → allows X v t ≡ true
allows_left X Y v t h = (and_parts (allows X v t) (allows Y v t) (sym (list_all-append (one_allows v t) X Y) ∙ h)).0

pub allows_right : (X Y : List Restriction) (v : ℕ) (t : Term) → allows (X ++ Y) v t ≡ true → allows Y v t ≡ true
allows_right X Y v t h = (and_parts (allows X v t) (allows Y v t) (sym (list_all-append (one_allows v t) X Y) ∙ h)).1

-- more restrictions allow less
pub covers_more : (R X : List Restriction) (known : List Restricted) → All (Covers R) known → All (Covers (R ++ X)) known
covers_more R X known h = All-weaker (Covers R) (Covers (R ++ X)) (λ x c t a. c t (allows_left R X x.variable t a)) known h

-- ---- nothing is added

pub none_added : (needs : QuadParts → Bool → List Restriction → Bool) (graph : WantedGraph) (known : List Restricted) (old : List Shape)
    → ((q : QuadParts) (here : Bool) (R : List Restriction) → needs q here R ≡ true → ⊥) → AreAdded needs graph known old old
none_added needs graph known old none = record { kept = λ q h. h; needed = λ R c q here w n. absurd (none q here R n) }

-- ---- triple patterns

-- no triple pattern matches
pub no_triple : (q : QuadParts) (here : Bool) (R : List Restriction) → (here && list_any (may_match R q) []) ≡ true → ⊥
no_triple q true R h = false≢true h
no_triple q false R h = false≢true h

only_one : (b : Bool) → (b || false) ≡ true → b ≡ true
only_one true h = refl
only_one false h = h

-- one of the first i triple patterns can match the quad
abbrev pub may_match_some : List TriplePattern → ℕ → QuadParts → Bool → List Restriction → Bool
may_match_some ts i q here R = here && list_any (may_match R q) (map triple_pattern_of (take i ts))

pub triple_added : (graph : WantedGraph) (known : List Restricted) (ts : List TriplePattern) (i : ℕ) (t : TriplePattern) → i < length ts → t ≡ get_or ts i t
    → (old mid new : List Shape) (shape : Shape) → new ≡ mid ++ shape ∷ [] → IsShapeOf graph known t shape
    → AreAdded (may_match_some ts i) graph known old mid → AreAdded (may_match_some ts (i + 1)) graph known old new
triple_added graph known ts i t lt at old mid new shape pushed is was = record {
  kept = λ q h. ap (λ l. are_some l q) pushed ∙ some_kept mid shape q (was.kept q h);
  needed = λ R c q here w n.
      let matches = may_match R q in
      let p = and_parts here (list_any matches (map triple_pattern_of (take (i + 1) ts))) n in
      let e : list_any matches (map triple_pattern_of (take (i + 1) ts)) ≡ (list_any matches (map triple_pattern_of (take i ts)) || list_any matches (triple_pattern_of (get_or ts i t) ∷ [])) =
      ap (list_any matches) (map_more triple_pattern_of ts i t lt) ∙ list_any-append matches (map triple_pattern_of (take i ts)) (triple_pattern_of (get_or ts i t) ∷ []) in
      ap (λ l. are_some l q) pushed
      ∙ ⊎_elim
      (λ (x : list_any matches (map triple_pattern_of (take i ts)) ≡ true).
      some_kept mid shape q (was.needed R c q here w (and_from here (list_any matches (map triple_pattern_of (take i ts))) p.0 x)))
      (λ (y : list_any matches (triple_pattern_of (get_or ts i t) ∷ []) ≡ true).
      some_new mid shape q (is R c q (w p.0)
      (ap (λ u. matches (triple_pattern_of u)) at ∙ only_one (matches (triple_pattern_of (get_or ts i t))) y)))
      (or_cases (list_any matches (map triple_pattern_of (take i ts))) (list_any matches (triple_pattern_of (get_or ts i t) ∷ [])) (sym e ∙ p.1));
}

-- all triple patterns
pub all_added : (graph : WantedGraph) (known : List Restricted) (ts all : List TriplePattern) → ts ≡ all → (old new : List Shape)
    → AreAdded (λ q here R. here && list_any (may_match R q) (map triple_pattern_of ts)) graph known old new
    → AreAdded (λ q here R. here && list_any (may_match R q) (map triple_pattern_of all)) graph known old new
all_added graph known ts all e old new h = subst (λ l. AreAdded (λ q here R. here && list_any (may_match R q) (map triple_pattern_of l)) graph known old new) e h

-- ---- operators

-- whether the quad is needed for the expression
abbrev pub needs_of : Algebra → QuadParts → Bool → List Restriction → Bool
needs_of A q here R = is_needed q here R A

-- the same restrictions for both
pub union_added : (graph : WantedGraph) (known : List Restricted) (A B : Algebra) (old mid new : List Shape)
    → AreAdded (needs_of A) graph known old mid → AreAdded (needs_of B) graph known mid new
    → AreAdded (λ q here R. is_needed q here R A || is_needed q here R B) graph known old new
union_added graph known A B old mid new a b = record {
  kept = λ q h. b.kept q (a.kept q h);
  needed = λ R c q here w n.
      ⊎_elim
      (λ (x : is_needed q here R A ≡ true). b.kept q (a.needed R c q here w x))
      (λ (y : is_needed q here R B ≡ true). b.needed R c q here w y)
      (or_cases (is_needed q here R A) (is_needed q here R B) n);
}

-- restrictions of both inputs, and more of the first one for the second
pub join_added : (graph : WantedGraph) (known inner more : List Restricted) (A B : Algebra) (old mid new : List Shape)
    → AreRestricted (restrictions A ++ restrictions B) known inner
    → AreRestricted (restrictions A) inner more
    → AreAdded (needs_of A) graph inner old mid → AreAdded (needs_of B) graph more mid new
    → AreAdded (needs_of (Join A B)) graph known old new
join_added graph known inner more A B old mid new entered later a b = record {
  kept = λ q h. b.kept q (a.kept q h);
  needed = λ R c q here w n.
      let X = restrictions A ++ restrictions B in
      let first : All (Covers (R ++ X)) inner = entered.covered (R ++ X) (λ v t h. allows_right R X v t h) (covers_more R X known c) in
      let second : All (Covers (R ++ X)) more = later.covered (R ++ X) (λ v t h. allows_left (restrictions A) (restrictions B) v t (allows_right R X v t h)) first in
      ⊎_elim
      (λ (x : is_needed q here (R ++ X) A ≡ true). b.kept q (a.needed (R ++ X) first q here w x))
      (λ (y : is_needed q here (R ++ X) B ≡ true). b.needed (R ++ X) second q here w y)
      (or_cases (is_needed q here (R ++ X) A) (is_needed q here (R ++ X) B) n);
}

-- the restrictions of the first input alone, for the second
pub left_added : (graph : WantedGraph) (known inner : List Restricted) (A B : Algebra) (old mid new : List Shape)
    → ((R : List Restriction) → AllowsOnly (restrictions A) R → All (Covers R) inner)
    → AreAdded (needs_of A) graph known old mid → AreAdded (needs_of B) graph inner mid new
    → AreAdded (λ q here R. is_needed q here R A || is_needed q here (restrictions A) B) graph known old new
left_added graph known inner A B old mid new covered a b = record {
  kept = λ q h. b.kept q (a.kept q h);
  needed = λ R c q here w n.
      ⊎_elim
      (λ (x : is_needed q here R A ≡ true). b.kept q (a.needed R c q here w x))
      (λ (y : is_needed q here (restrictions A) B ≡ true). b.needed (restrictions A) (covered (restrictions A) (λ v t h. h)) q here w y)
      (or_cases (is_needed q here R A) (is_needed q here (restrictions A) B) n);
}

-- the triples of the graphs with a name, all of their quads if a graph without triples may have a solution, and the quads of
-- graphs that are named further inside
pub graph_added : (graph names : WantedGraph) (known : List Restricted) (i : GraphName) (A : Algebra) (old mid new : List Shape)
    → AreNamesWanted known i names
    → ((q : QuadParts) → are_some old q ≡ true → are_some mid q ≡ true)
    → (needs_triples A ≡ false → HasGraph names mid)
    → AreAdded (needs_of A) names known mid new
    → AreAdded (needs_of (Graph i A)) graph known old new
graph_added graph names known i A old mid new named kept whole a = record {
  kept = λ q h. a.kept q (kept q h);
  needed = λ R c q here w n.
      ⊎_elim
      (λ (h : (may_name R i q.g && (is_needed q true R A || not (needs_triples A))) ≡ true).
      let p = and_parts (may_name R i q.g) (is_needed q true R A || not (needs_triples A)) h in
      let g : is_wanted_graph names q.g ≡ true = named R c q.g p.0 in
      ⊎_elim
      (λ (x : is_needed q true R A ≡ true). a.needed R c q true (λ _. g) x)
      (λ (y : not (needs_triples A) ≡ true). a.kept q (whole (not-true (needs_triples A) y) q g))
      (or_cases (is_needed q true R A) (not (needs_triples A)) p.1))
      (λ (h : is_needed q false R A ≡ true). a.needed R c q false (λ f. absurd (false≢true f)) h)
      (or_cases (may_name R i q.g && (is_needed q true R A || not (needs_triples A))) (is_needed q false R A) n);
}

-- no restrictions
pub open_added : (graph : WantedGraph) (known none : List Restricted) (A : Algebra) (old new : List Shape) → none ≡ []
    → AreAdded (needs_of A) graph none old new → AreAdded (λ q here R. is_needed q here [] A) graph known old new
open_added graph known none A old new empty a = record {
  kept = a.kept;
  needed = λ R c q here w n. a.needed [] (subst (All (Covers [])) (sym empty) (All-nil (Covers []))) q here w n;
}

-- the same without restrictions
pub free_added : (needs : QuadParts → Bool → List Restriction → Bool) (graph : WantedGraph) (known none : List Restricted) (old new : List Shape) → none ≡ []
    → AreAdded needs graph none old new → AreAdded needs graph known old new
free_added needs graph known none old new empty a = record {
  kept = a.kept;
  needed = λ R c q here w n. a.needed R (subst (All (Covers R)) (sym empty) (All-nil (Covers R))) q here w n;
}

-- the same for what is needed as well
pub as_needed : (needs made : QuadParts → Bool → List Restriction → Bool) (graph : WantedGraph) (known : List Restricted) (old new : List Shape)
    → ((q : QuadParts) (here : Bool) (R : List Restriction) → needs q here R ≡ made q here R) → AreAdded made graph known old new → AreAdded needs graph known old new
as_needed needs made graph known old new same a = record { kept = a.kept; needed = λ R c q here w n. a.needed R c q here w (sym (same q here R) ∙ n) }

-- the same for equal restrictions
pub known_added : (needs : QuadParts → Bool → List Restriction → Bool) (graph : WantedGraph) (known now : List Restricted) (old new : List Shape) → now ≡ known
    → AreAdded needs graph now old new → AreAdded needs graph known old new
known_added needs graph known now old new e a = subst (λ l. AreAdded needs graph l old new) e a

-- the same for equal expressions
pub tree_added : (graph : WantedGraph) (known : List Restricted) (A B : Algebra) (old new : List Shape) → A ≡ B
    → AreAdded (needs_of B) graph known old new → AreAdded (needs_of A) graph known old new
tree_added graph known A B old new e a = subst (λ X. AreAdded (needs_of X) graph known old new) (sym e) a

-- ---- a whole plan

-- a quad of the default graph
pub in_default : (g : Option Term) → option_eq term_eq g None ≡ true → is_wanted_graph Default g ≡ true
in_default None h = refl
in_default (Some name) h = absurd (false≢true h)

pub plan_added : (known : List Restricted) (A : Algebra) (old new : List Shape) → known ≡ [] → AreAdded (needs_of A) Default known old new
    → (q : QuadParts) → is_needed q (option_eq term_eq q.g None) [] A ≡ true → are_some new q ≡ true
plan_added known A old new empty a q n =
    a.needed [] (subst (All (Covers [])) (sym empty) (All-nil (Covers []))) q (option_eq term_eq q.g None) (λ h. in_default q.g h) n
