use Rattle.std.proofs.Common.{length, rules}
use Rattle.std.proofs.lemmas.List.Elements.{All-rest}
use Rattle.dict_core.specs.NumQuad.{IsBelow}
use Rattle.dict_core.specs.Numbered.{renamed}
use Rattle.dict_core.proofs.MergingSteps.{moved_one}
use Rattle.dict_core.proofs.merging.append_renamed.Goals as goal

pub loop-quad-preserved : goal.loop-quad-preserved
loop-quad-preserved c =
    let steps = c.in-Some.ensures.steps in
    let was = c.loop-quad.invariant in record {
      room = search rules;
      below = All-rest (IsBelow (length c.args.numbers.now)) c.in-Some.quad _ _ steps.0 was.below;
      quads = moved_one (renamed c.args.numbers.now) c.loop-quad.all.items _ _ _ c.in-Some.quad _ _ c.push_reserved.ensures.items c.rename_quad.ensures.renamed steps.0 was.quads;
    }
