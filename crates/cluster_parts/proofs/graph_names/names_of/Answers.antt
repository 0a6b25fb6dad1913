use Rattle.std.proofs.Common.{length, refl, subst, sym}
use Rattle.dict_core.specs.NumQuad.{AreBelow}
use Rattle.text_pieces.specs.Forms.{AreNumberedBy}
use Rattle.cluster_parts.proofs.PartSteps.{numbers_below}
use Rattle.cluster_parts.proofs.graph_names.names_of.Goals as goal

pub add_names-requires : goal.add_names-requires
add_names-requires c = record {
  below = subst (AreBelow (length c.args.block.now.texts.texts)) (sym c.as_slice.ensures.value)
      (numbers_below c.requires.read.0 c.args.block.now.texts.texts _ _ c.requires.read.1 refl);
  none = c.new-found.ensures.empty;
}

pub returns : goal.returns
returns c = record {
  names = λ quads h. c.in_ok-add_names.ensures.names quads (subst (AreNumberedBy quads c.args.block.now.texts.texts) (sym c.as_slice.ensures.value) h);
}
