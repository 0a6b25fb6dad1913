-- The quads of a list, which are held as packed keys or as they are. Only the models of the two types cite it.
use Rattle.std.specs.Prelude.{List, map}
use Rattle.dict_core.specs.declared.num_quad.NumQuad.{NumQuad}
use Rattle.quad_index.specs.declared.quad_list.Stored.{Stored}
use Rattle.quad_index.specs.declared.quad_list.Stored.TheVariants.{Packed, Plain}
use Rattle.quad_index.specs.declared.quads.Held.{Held}
use Rattle.quad_index.specs.declared.quads.Held.TheVariants.{Packed as HeldPacked, Plain as HeldPlain}
use Rattle.quad_index.specs.Packed.{quad_of}

-- the quads of a list
abbrev pub stored_quads : Stored → List NumQuad
stored_quads (Packed keys order) = map (quad_of order) keys.items
stored_quads (Plain quads) = quads.items

-- the quads of a part of a list
abbrev pub held_quads : Held → List NumQuad
held_quads (HeldPacked keys order) = map (quad_of order) keys.now
held_quads (HeldPlain quads) = quads.now
