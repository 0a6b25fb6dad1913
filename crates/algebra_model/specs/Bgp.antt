-- Basic graph patterns (SPARQL 1.1 Query Language, section 18.3): every map from the variables and
-- the blank node labels of the pattern to terms of the graph is tried.
use Rattle.std.specs.Prelude.{ℕ, zero, suc, ◌+◌, Bool, false, ◌&&◌, ◌||◌, ◌==◌, List, [], ◌∷◌, Option, None, Some, map, filter, take, flat_map, get_or, if◌then◌else◌}
use Rattle.std.specs.List.{list_any, list_all}
use Rattle.std.specs.Option.{option_eq}
use Rattle.algebra_model.specs.Bag.{without_repeats}
use Rattle.algebra_model.specs.Solution.{Solution}

-- a triple: subject, predicate, object
pub record Triple (A : Type 0) : Type 0 where
  pub s : A
  pub p : A
  pub o : A

-- equal in each position
abbrev pub same_triple_by : {A : Type 0} → (A → A → Bool) → Triple A → Triple A → Bool
same_triple_by same g h = same g.s h.s && same g.p h.p && same g.o h.o

-- one position of a triple pattern: a variable or a blank node label by its number, or a term
pub data PatternTerm (T : Type 0) : Type 0 where
  variable : ℕ → PatternTerm T
  label : ℕ → PatternTerm T
  constant : T → PatternTerm T

-- a triple pattern (section 18.1.5), with blank node labels apart from variables
abbrev pub TriplePattern : Type 0 → Type 0
TriplePattern T = Triple (PatternTerm T)

-- A map of a pattern has the w variables first, and then the blank node labels.
module _ {T : Type 0} (w : ℕ) where
  -- this position has the variable or label of place k in a map
  abbrev pub is_at : PatternTerm T → ℕ → Bool
  is_at (variable v) k = v == k
  is_at (label l) k = (w + l) == k
  is_at (constant t) k = false

  -- the triple pattern has the variable or label of place k
  abbrev pub mentions : TriplePattern T → ℕ → Bool
  mentions t k = is_at t.s k || is_at t.p k || is_at t.o k

  -- the variable or label at place k occurs in the pattern
  abbrev pub occurs : List (TriplePattern T) → ℕ → Bool
  occurs P k = list_any (λ t. mentions t k) P

  -- the term to which a map takes one position of a pattern
  abbrev pub image : Solution T → PatternTerm T → Option T
  image μ (variable v) = get_or μ v None
  image μ (label l) = get_or μ (w + l) None
  image μ (constant t) = Some t

-- Every map of n places. A place for which `uses` is true is mapped to each term of the list, and
-- any other place to none.
abbrev pub every_map : {T : Type 0} → (ℕ → Bool) → List T → ℕ → List (Solution T)
every_map uses ts zero = [] ∷ []
every_map uses ts (suc n) =
    flat_map (λ x. map (λ μ. x ∷ μ) (every_map (λ k. uses (suc k)) ts n))
    (if uses 0 then map Some ts else (None ∷ []))

-- the terms in the triples of the graph, with repeats
abbrev pub occurring : {T : Type 0} → List (Triple T) → List T
occurring G = flat_map (λ g. g.s ∷ g.p ∷ g.o ∷ []) G

module _ {T : Type 0} (same : T → T → Bool) where
  -- the terms that occur in the graph, each once
  abbrev pub terms : List (Triple T) → List T
  terms G = without_repeats same (occurring G)

  -- the map takes the triple pattern to the triple g
  abbrev pub takes_to : ℕ → Solution T → TriplePattern T → Triple T → Bool
  takes_to w μ t g =
      option_eq same (image w μ t.s) (Some g.s)
      && option_eq same (image w μ t.p) (Some g.p)
      && option_eq same (image w μ t.o) (Some g.o)

  -- the map takes each triple pattern of P to a triple of the graph
  abbrev pub is_in : ℕ → List (TriplePattern T) → List (Triple T) → Solution T → Bool
  is_in w P G μ = list_all (λ t. list_any (takes_to w μ t) G) P

  -- The solutions of the pattern P with w variables and l blank node labels over the graph G: every
  -- map that makes P a subgraph of G, without its labels. Maps that differ in labels only give
  -- equal solutions, and all of these are kept. The empty pattern has the one solution that binds
  -- nothing.
  abbrev pub bgp : ℕ → ℕ → List (TriplePattern T) → List (Triple T) → List (Solution T)
  bgp w l P G = map (take w) (filter (is_in w P G) (every_map (occurs w P) (terms G) (w + l)))
