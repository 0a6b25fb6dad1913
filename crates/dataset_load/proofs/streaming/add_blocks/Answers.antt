use Rattle.std.proofs.Common.{◌≡◌, ◌++◌, List, ℕ, IfErr, OnOk, ap, ◌∙◌, subst}
use Rattle.nquads_core.specs.Pieces.{IsBadLine}
use Rattle.dataset_load.specs.Fault.{IfBadLine}
use Rattle.dataset_load.specs.Lines.{all_lines, block_texts, texts}
use Rattle.dataset_load.specs.Rounds.{HasRead}
use Rattle.dataset_load.proofs.streaming.add_blocks.Goals as goal

pub returns-clause-numbered : goal.returns-clause-numbered
returns-clause-numbered g c =
    let same : texts c.as_slice.result.now ≡ block_texts c.args.blocks.now = ap texts c.as_slice.ensures.value ∙ c.in-Ok.ensures.texts in
    subst (λ (ps : List (List ℕ)). OnOk c.add_round.result.0 ((before : List (List ℕ)) → HasRead c.args.so_far.now before → HasRead c.add_round.new.so_far (before ++ all_lines ps)))
    same c.add_round.ensures.numbered

pub returns-clause-bad_line : goal.returns-clause-bad_line
returns-clause-bad_line g c =
    let same : texts c.as_slice.result.now ≡ block_texts c.args.blocks.now = ap texts c.as_slice.ensures.value ∙ c.in-Ok.ensures.texts in
    subst (λ (ps : List (List ℕ)). IfErr c.add_round.result.0 (IfBadLine (λ n. (before : List (List ℕ)) → HasRead c.args.so_far.now before → IsBadLine (before ++ all_lines ps) n)))
    same c.add_round.ensures.bad_line
