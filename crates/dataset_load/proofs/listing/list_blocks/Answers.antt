use Rattle.std.proofs.Common.{◌≡◌, ◌++◌, List, ℕ, OnOk, ap, ◌∙◌, subst}
use Rattle.malformed_lines.specs.Malformed.{IsListed}
use Rattle.dataset_load.specs.Lines.{all_lines, block_texts, texts}
use Rattle.dataset_load.proofs.listing.list_blocks.Goals as goal

pub returns-clause-listed : goal.returns-clause-listed
returns-clause-listed g c =
    let same : texts c.as_slice-pieces.result.now ≡ block_texts c.args.blocks.now = ap texts c.as_slice-pieces.ensures.value ∙ c.in-Ok.ensures.texts in
    subst (λ (ps : List (List ℕ)). OnOk c.add_outcome.result ((before : List (List ℕ)) → IsListed before c.args.list.now → IsListed (before ++ all_lines ps) c.add_outcome.new.list))
    same c.add_outcome.ensures.listed
