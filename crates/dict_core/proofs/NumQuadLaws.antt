-- The derived equality of numbered quads decides whether they are the same.
use Rattle.std.proofs.Common.{◌≡◌, Decides, rules}
use Rattle.std.specs.Cmp.{IsEquivalence}
use Rattle.dict_core.specs.declared.num_quad.NumQuad.{NumQuad}
pub use Rattle.dict_core.specs.Equality.{quad_eq}
use Rattle.dict_core.specs.contracts.num_quad.NumQuadEq.TheImpl.Laws.{laws-law}

pub quad_decides : (a b : NumQuad) → Decides (quad_eq a b) (a ≡ b)
quad_decides a b = Prim.search rules

pub quad_eq_laws : IsEquivalence quad_eq
quad_eq_laws = laws-law
