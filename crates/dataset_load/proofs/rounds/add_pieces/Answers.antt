use Rattle.std.proofs.Common.{List, ◌++◌, ◌≡◌, ◌∙◌, ap, length, arith}
use Rattle.std.specs.Vec.Iter.{into_iter_items}
use Rattle.dict_core.specs.declared.num_quad.NumQuad.{NumQuad}
use Rattle.dict_core.specs.Numbered.{joined}
use Rattle.dataset_load.proofs.ReadingSteps.{grown_more, take_step, all_taken}
use Rattle.dataset_load.proofs.rounds.add_pieces.Goals as goal

pub loop-piece-preserved : goal.loop-piece-preserved
loop-piece-preserved c =
    let was = c.loop-piece.invariant in record {
      grown = grown_more c.args.dict.now.texts c.loop-piece.dict.texts c.add_piece.new.dict.texts was.grown c.add_piece.ensures.grown;
      taken = λ done each n z. take_step c.args.dict.now.texts c.loop-piece.dict.texts c.add_piece.new.dict.texts _ _ _ c.in-Some.piece _ _ (done ++ joined each)
          was.grown (was.taken done each n z) c.in-Some.ensures.steps.0 c.in_ok-added.ensures.numbered
          (c.in_ok-extend.ensures.added ∙ ap (λ (qs : List NumQuad). c.loop-piece.quads ++ qs) c.as_slice.ensures.value);
    }

pub returns : goal.returns
returns c =
    let left = into_iter_items c.loop-piece.piece-iterator in
    let none : length left ≡ 0 = omega (arith, c.loop-piece.piece-iterator.rest.ok.0, c.in-None.ensures.steps.0) in
    record {
      numbered = λ done each n z. all_taken c.args.dict.now.texts c.loop-piece.dict.texts c.loop-piece.quads left (done ++ joined each)
          (c.loop-piece.invariant.taken done each n z) none;
    }
