-- The equality of quads of numbers that `==` computes, as `NumQuad` derives it. The law
-- `equality_is_identity` says what it means.
use Rattle.std.specs.Prelude.{Bool}
use Rattle.dict_core.specs.declared.num_quad.NumQuad.{NumQuad}
use Rattle.dict_core.specs.contracts.num_quad.NumQuadPartialEq.TheImpl as equalities

-- what `==` on quads of numbers computes
abbrev pub quad_eq : NumQuad → NumQuad → Bool
quad_eq = (equalities.ghosts).eq
