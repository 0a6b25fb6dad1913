use Rattle.std.proofs.Common.{refl, arith}
use Rattle.text_pieces.proofs.RelevanceSteps.{relevant_kept, relevant_left, relevant_none}
use Rattle.text_pieces.proofs.relevance.relevant_statements.Goals as goal
use Rattle.text_pieces.proofs.relevance.relevant_statements.Goals.{then-branch, else-branch+in_ok-push}

pub loop-raw-init : goal.loop-raw-init
loop-raw-init c = record { last = tt; relevant = relevant_none c.args.filter.now c.args.raws.now c.new-kept.result.items c.new-kept.ensures.items }

pub loop-raw-preserved : goal.loop-raw-preserved
loop-raw-preserved c =
    let was = c.loop-raw.invariant in
    let filter = c.args.filter.now in
    let raws = c.args.raws.now in
    let kept = c.loop-raw.kept.items in
    let i = c.loop-raw.raw-index in
    elim c.if-branch.branch [
      | then-branch w ↦
          let left = c.in_ok-is_unneeded.ensures.unneeded w.if-branch.true in
          record {
            last = rw w.last-is left.valid;
            relevant = rw w.kept-is (relevant_left filter raws kept i _ _ (omega arith) refl left was.relevant);
          }
      | else-branch+in_ok-push w ↦ record {
        last = rw w.last-is was.last;
        relevant = rw w.kept-is (relevant_kept filter raws kept i _ _ (omega arith) refl w.push.new.self.items was.relevant w.in_ok-push.ensures.items);
      }
    ]
