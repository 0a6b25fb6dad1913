-- A quad whose numbers are small as one number: four places of 32 bits, the graph name in the highest,
-- so that the order of the numbers is the order of the quads. Only private clauses use these definitions.
use Rattle.std.specs.Prelude.{ℕ, zero, suc, ◌+◌, ◌*◌, ◌/◌, ◌%◌, ◌^◌, ◌<◌, Option, None, Some, List, All}
use Rattle.std.specs.Option.{ForSome}
use Rattle.dict_core.specs.declared.num_quad.NumQuad.{NumQuad}
use Rattle.quad_index.specs.declared.sort_order.SortOrder.{SortOrder}
use Rattle.quad_index.specs.declared.sort_order.SortOrder.TheVariants.{Gspo, Gpos, Gosp}

-- each number has a place
pub record IsSmall (q : NumQuad) : Type 0 where
  pub g : ForSome q.g (λ g. g + 1 < 2 ^ 32)
  pub s : q.s < 2 ^ 32
  pub p : q.p < 2 ^ 32
  pub o : q.o < 2 ^ 32

-- no graph name is 0
abbrev pub graph_key : Option ℕ → ℕ
graph_key None = 0
graph_key (Some g) = g + 1

-- the graph name that this number represents
abbrev pub graph_of : ℕ → Option ℕ
graph_of zero = None
graph_of (suc g) = Some g

-- the place of the graph name in a key
abbrev pub graph_key_of : ℕ → ℕ
graph_key_of key = key / 2 ^ 32 / 2 ^ 32 / 2 ^ 32

-- one more place after the others
abbrev pub with_place : ℕ → ℕ → ℕ
with_place front place = front * 2 ^ 32 + place

-- four places, the first one highest
abbrev pub key_of_places : ℕ → ℕ → ℕ → ℕ → ℕ
key_of_places g a b c = with_place (with_place (with_place g a) b) c

-- the places in the order
abbrev pub key_of : SortOrder → NumQuad → ℕ
key_of Gspo q = key_of_places (graph_key q.g) q.s q.p q.o
key_of Gpos q = key_of_places (graph_key q.g) q.p q.o q.s
key_of Gosp q = key_of_places (graph_key q.g) q.o q.s q.p

-- the quad of these places in the order
abbrev pub quad_of_places : SortOrder → Option ℕ → ℕ → ℕ → ℕ → NumQuad
quad_of_places Gspo g a b c = record { g = g; s = a; p = b; o = c }
quad_of_places Gpos g a b c = record { g = g; s = c; p = a; o = b }
quad_of_places Gosp g a b c = record { g = g; s = b; p = c; o = a }

-- the quad that has this key
abbrev pub quad_of : SortOrder → ℕ → NumQuad
quad_of order key =
    quad_of_places order (graph_of (graph_key_of key)) (key / 2 ^ 32 / 2 ^ 32 % 2 ^ 32)
    (key / 2 ^ 32 % 2 ^ 32) (key % 2 ^ 32)

-- the numbers are keys: they have 128 bits
abbrev pub AreKeys : List ℕ → Type 0
AreKeys keys = All (λ key. key < 2 ^ 128) keys
