use Rattle.std.proofs.Common.{ap, arith, refl, subst, sym}
use Rattle.malformed_lines.specs.Counts.{IsTally, NameLinesFrom, total_of}
use Rattle.malformed_lines.proofs.AddingSteps.{doc_join}
use Rattle.malformed_lines.proofs.CountLaws.{named_still, named_within}
use Rattle.malformed_lines.proofs.TallyLaws.{tally_join}
use Rattle.malformed_lines.proofs.document_list.MalformedLines.add.Goals as goal

pub add_all-requires : goal.add_all-requires
add_all-requires c = record {
  countable = omega (arith, ap total_of c.as_slice.ensures.value, c.args.self.now.counted, c.args.piece.now.counted, c.args.self.now.few, c.requires.countable);
}

pub returns-clause-copied : goal.returns-clause-copied
returns-clause-copied c = c.in_ok-keep_all.ensures.kept

pub returns-clause-listed : goal.returns-clause-listed
returns-clause-listed c = λ before after h p.
    let names = c.in_ok-add_all.ensures.named before after h.count (omega (arith, h.count, p.count, c.requires.countable)) (named_still 1 before after _ h.named) (subst (NameLinesFrom 0 after) (sym c.as_slice.ensures.value) p.named) in
    let more = subst (NameLinesFrom 0 after) (sym c.as_slice.ensures.value) p.named in
    let tally = tally_join c.args.self.now.lines h.singles p.singles c.args.self.now.reasons.counts.items c.as_slice.result.now _ h.tally (subst (IsTally p.singles) (sym c.as_slice.ensures.value) p.tally)
    c.in_ok-add_all.ensures.sums (λ x a b. c.in_ok-add_all.ensures.firsts x (λ k d l. omega (arith, named_within after _ (more k d l), h.count, p.count, c.requires.countable)) a b) c.in_ok-add_all.ensures.complete in
    doc_join before after c.args.self.now _ c.args.piece.now h p c.in_ok-keep_all.ensures.kept names tally refl refl
