use Rattle.std.proofs.Common.{◌++◌, ap, ◌∙◌, arith, codes, if◌then◌else◌, []}
use Rattle.std.proofs.lemmas.Option.{slice_get-get_or}
use Rattle.cluster_parts.specs.Hash.{hash}
use Rattle.cluster_parts.specs.Numbered.{text_at}
use Rattle.cluster_parts.specs.Parts.{is_in}
use Rattle.cluster_parts.proofs.PartSteps.{kept_more}
use Rattle.cluster_parts.proofs.RemainderLaws.{text_partition}
use Rattle.cluster_parts.proofs.term_lists.lines_of_part.Goals as goal

pub loop-n-preserved : goal.loop-n-preserved
loop-n-preserved c =
    let texts = c.args.texts.now.texts in
    let t = text_at texts c.loop-n.n in
    let at = slice_get-get_or texts c.loop-n.n [] (omega (arith, c.loop-n-test.true)) in
    kept_more (λ text. text ++ codes "\n") (λ text. is_in c.args.partitions c.args.number (hash text)) texts c.loop-n.n t c.loop-n.list.items c.push_if_in.new.out.items
    at c.loop-n.invariant
    (c.in_ok-push_if_in.ensures.appended
    ∙ ap (λ b. c.loop-n.list.items ++ (if b then t ++ codes "\n" else []))
    (text_partition c.args.partitions c.requires.some c.args.number texts c.args.parts.now c.loop-n.n t at c.requires.hashed))
