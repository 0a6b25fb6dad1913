-- A pattern solved triple pattern by triple pattern under a partial map, and LeftJoin evaluated
-- solution by solution, as the evaluator does. Only proofs, laws and private clauses use these
-- definitions; the definitions of the algebra do not.
use Rattle.std.specs.Prelude.{ℕ, ◌+◌, ◌<◌, Bool, List, [], ◌∷◌, get_or, set, Option, None, Some, flat_map, filter_map, if◌then◌else◌, filter, not, ◌&&◌, ◌++◌}
use Rattle.std.specs.List.{list_all}
use Rattle.algebra_model.specs.Solution.{Solution, agree, is_compatible, merge}
use Rattle.algebra_model.specs.Operators.{merges}
use Rattle.algebra_model.specs.Bgp.{Triple, PatternTerm, TriplePattern, variable, label, constant, image}

module _ {T : Type 0} (same : T → T → Bool) where
  -- binds place k to x if it is unbound, and otherwise compares
  abbrev pub bind_by : Option T → Solution T → ℕ → T → Option (Solution T)
  bind_by None m k x = Some (set m k (Some x))
  bind_by (Some y) m k x = if same y x then Some m else None

  abbrev pub bind_slot : Solution T → ℕ → T → Option (Solution T)
  bind_slot m k x = bind_by (get_or m k None) m k x

  -- the map after one position of a pattern is taken to x
  abbrev pub bind_pattern_term : ℕ → Solution T → PatternTerm T → T → Option (Solution T)
  bind_pattern_term w m (variable v) x = bind_slot m v x
  bind_pattern_term w m (label l) x = bind_slot m (w + l) x
  bind_pattern_term w m (constant c) x = if same c x then Some m else None

  abbrev pub then_bind : ℕ → Option (Solution T) → PatternTerm T → T → Option (Solution T)
  then_bind w None n x = None
  then_bind w (Some m) n x = bind_pattern_term w m n x

  -- the map after the triple pattern is taken to g
  abbrev pub extend_by : ℕ → TriplePattern T → Solution T → Triple T → Option (Solution T)
  extend_by w t m g = then_bind w (then_bind w (then_bind w (Some m) t.s g.s) t.p g.p) t.o g.o

  -- the triple agrees with the map in each position where the pattern or the map has a term; a scan
  -- selects these triples
  abbrev pub agrees_with : ℕ → TriplePattern T → Solution T → Triple T → Bool
  agrees_with w t m g =
      agree same (image w m t.s) (Some g.s)
      && agree same (image w m t.p) (Some g.p)
      && agree same (image w m t.o) (Some g.o)

  -- the maps that extend m, one triple pattern after another
  abbrev pub solve : ℕ → List (TriplePattern T) → List (Triple T) → Solution T → List (Solution T)
  solve w [] G m = m ∷ []
  solve w (t ∷ ts) G m = flat_map (solve w ts G) (filter_map (extend_by w t m) G)

module _ {T : Type 0} where
  -- the variable or label has a place below n
  abbrev pub IsBelow : ℕ → ℕ → PatternTerm T → Type 0
  IsBelow w n (variable v) = v < n
  IsBelow w n (label l) = w + l < n
  IsBelow w n (constant c) = Unit {0}

  abbrev pub IsTripleBelow : ℕ → ℕ → TriplePattern T → Type 0
  IsTripleBelow w n t = IsBelow w n t.s × IsBelow w n t.p × IsBelow w n t.o

  abbrev pub AreBelow : ℕ → ℕ → List (TriplePattern T) → Type 0
  AreBelow w n [] = Unit {0}
  AreBelow w n (t ∷ ts) = IsTripleBelow w n t × AreBelow w n ts

-- LeftJoin, solution by solution: the merges that pass, or the solution itself if none does
module _ {T : Type 0}
    (same : T → T → Bool) (keeps : Solution T → Bool) (B : List (Solution T)) where
  abbrev pub alone : Solution T → Bool
  alone μ = list_all (λ ν. not (is_compatible same μ ν && keeps (merge μ ν))) B

  abbrev pub left_row : Solution T → List (Solution T)
  left_row μ = filter keeps (merges same μ B) ++ (if alone μ then μ ∷ [] else [])
