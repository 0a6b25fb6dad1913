use Rattle.spq_core.proofs.ListingSteps.{text_more}
use Rattle.spq_core.proofs.listing.terms_text.Goals as goal

pub loop-n-preserved : goal.loop-n-preserved
loop-n-preserved c =
    text_more c.args.dict.now.texts c.loop-n.n c.text.result.now c.loop-n.text.items c.extend_from_slice.new.self.items c.push.new.self.items
    c.text.ensures.value c.loop-n.invariant c.in_ok-extend_from_slice.ensures.items c.in_ok-push.ensures.items
