use Rattle.std.proofs.Common.{length, sym, ap, ◌∙◌, subst}
use Rattle.dict_core.specs.NumQuad.{AreBelow}
use Rattle.dict_core.proofs.MergingSteps.{merged_piece, length_zipped, appended}
use Rattle.dict_core.proofs.merging.merge_piece.Goals as goal

pub append_renamed-requires-clause-below : goal.append_renamed-requires-clause-below
append_renamed-requires-clause-below c =
    subst (λ n. AreBelow n c.piece.inside.quads.items) (length_zipped _ _ _ c.in_ok-numbers.ensures.numbers ∙ ap length (sym c.as_slice.ensures.value)) c.piece.invariant.1

pub returns : goal.returns
returns c = record {
  numbered = λ done h. merged_piece done _ _ _ _ _ _ _ _ _ _ c.piece.invariant c.piece.view_is c.in_ok-numbers.ensures.terms c.in_ok-numbers.ensures.numbers
      c.as_slice.ensures.value (appended _ _ _ _ c.append_renamed.ensures.quads c.in_ok-reserve.ensures.items) h;
}
