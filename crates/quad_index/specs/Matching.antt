-- The quads that a scan returns, by the active graph and the constants of a triple pattern (SPARQL 1.1 Query
-- Language, section 18).
use Rattle.std.specs.Prelude.{ℕ, Bool, true, ◌&&◌, Option, None, Some, List, nat_eq, filter_map}
use Rattle.std.specs.Option.{option_eq}
use Rattle.dict_core.specs.declared.num_quad.NumQuad.{NumQuad}

-- the place has the given number, where one is given
abbrev pub is_at : Option ℕ → ℕ → Bool
is_at None n = true
is_at (Some m) n = nat_eq n m

-- the quad is of the graph g, or of the default graph where g is None, and has the given numbers
abbrev pub agrees : Option ℕ → Option ℕ → Option ℕ → Option ℕ → NumQuad → Bool
agrees g s p o q = option_eq nat_eq q.g g && (is_at s q.s && (is_at p q.p && is_at o q.o))

-- the graph names of the quads, as often as they occur
abbrev pub graph_names : List NumQuad → List ℕ
graph_names quads = filter_map (λ q. q.g) quads
