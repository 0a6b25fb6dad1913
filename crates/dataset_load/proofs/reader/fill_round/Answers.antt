use Rattle.std.proofs.Common.{ℕ, List, ◌++◌, length, length-append, true≢false, refl, ap, sym, ◌∙◌, subst, arith}
use Rattle.nquads_core.proofs.TransferSteps.{Stays-stays}
use Rattle.piece_cuts.specs.Laws.{EndsWithLineFeed}
use Rattle.dataset_load.specs.Lines.{AreWholeLines, EachEnds, block_texts, joined}
use Rattle.dataset_load.proofs.ReaderSteps.{at_the_end, ends_more, fault_counts, joined_more, last_of_whole, none_at_end, pushed_length, texts_more, whole_all, whole_but_last}
use Rattle.dataset_load.proofs.StreamingSteps.{part_of_round, part_then, rest_last, rest_none, round_step}
use Rattle.dataset_load.proofs.reader.fill_round.Goals as goal

pub returns-in-Err-clause-taken : goal.returns-in-Err-clause-taken
returns-in-Err-clause-taken g c =
    let was = c.loop-len.invariant in
    part_then _ _ _ _ _ _ was.bytes (c.in-Err.ensures.taken was.state)

pub returns-in_default-clause-taken : goal.returns-in_default-clause-taken
returns-in_default-clause-taken g c =
    let was = c.loop-len.invariant in
    let done = joined (block_texts c.loop-len.round.items) in
    let given = rw c.in-Ok-Some.field-0-is at (c.in-Ok-Some.ensures.block was.state) in
    part_of_round _ _ c.args.blocks.now.kept c.next.new.self.kept (done ++ c.in-Ok-Some.block.items)
    (round_step _ _ _ c.args.blocks.now.kept c.loop-len.blocks.kept c.next.new.self.kept done (done ++ c.in-Ok-Some.block.items) c.loop-len.blocks.size c.in-Ok-Some.block was.bytes given refl)

pub returns-then-not-is_whole-clause-whole_lines : goal.returns-then-not-is_whole-clause-whole_lines
returns-then-not-is_whole-clause-whole_lines g c =
    let t = texts_more c.loop-len.round.items c.push.new.self.items c.in-Ok-Some.block c.in-Ok.ensures.items in
    subst (λ (ps : List (List ℕ)). AreWholeLines ps) (sym t) (whole_but_last (block_texts c.loop-len.round.items) c.in-Ok-Some.block.items c.loop-len.invariant.ends)

pub loop-len-preserved : goal.loop-len-preserved
loop-len-preserved g c =
    let was = c.loop-len.invariant in
    let t = texts_more c.loop-len.round.items c.push.new.self.items c.in-Ok-Some.block c.in-Ok.ensures.items in
    let e = ap joined t ∙ joined_more (block_texts c.loop-len.round.items) c.in-Ok-Some.block.items in
    let given = rw c.in-Ok-Some.field-0-is at (c.in-Ok-Some.ensures.block was.state) in
    let whole = subst (λ (bs : List ℕ). EndsWithLineFeed bs) c.as_slice.ensures.value (c.ends_with_line_feed-is_whole.ensures.yes c.if-not-is_whole.false) in
    let more = ap length e ∙ length-append (joined (block_texts c.loop-len.round.items)) c.in-Ok-Some.block.items in
    let long = pushed_length c.loop-len.round.items c.push.new.self.items c.in-Ok-Some.block c.in-Ok.ensures.items in
    record {
      few = omega (arith, long, was.few);
      pieces = omega (arith, was.pieces, more, (last_of_whole c.in-Ok-Some.block.items whole).0);
      counted = omega (arith, was.counted, more, c.saturating_add-bytes.ensures, c.len.ensures);
      state = rw c.in-Ok-Some.field-0-is at (c.in-Ok-Some.ensures.state was.state);
      ends = subst (λ (ps : List (List ℕ)). EachEnds ps) (sym t) (ends_more (block_texts c.loop-len.round.items) c.in-Ok-Some.block.items was.ends whole);
      bytes = round_step _ _ _ c.args.blocks.now.kept c.loop-len.blocks.kept c.next.new.self.kept (joined (block_texts c.loop-len.round.items)) _ c.loop-len.blocks.size c.in-Ok-Some.block was.bytes given e;
      failures = Stays-stays _ _ _ was.failures (c.in-Ok-Some.ensures.count was.state);
    }

pub returns-then-is_full-clause-whole_lines : goal.returns-then-is_full-clause-whole_lines
returns-then-is_full-clause-whole_lines g c = whole_all _ c.loop-len.invariant.ends

pub returns-clause-whole_lines : goal.returns-clause-whole_lines
returns-clause-whole_lines g c = whole_all _ c.loop-len.invariant.ends

pub returns-in-Ok-None-clause-whole_lines : goal.returns-in-Ok-None-clause-whole_lines
returns-in-Ok-None-clause-whole_lines g c = whole_all _ c.loop-len.invariant.ends

pub returns-then-is_full-clause-count : goal.returns-then-is_full-clause-count
returns-then-is_full-clause-count g c = c.loop-len.invariant.failures

pub returns-clause-count : goal.returns-clause-count
returns-clause-count g c = c.loop-len.invariant.failures

pub returns-in-Ok-None-clause-count : goal.returns-in-Ok-None-clause-count
returns-in-Ok-None-clause-count g c = Stays-stays _ _ _ c.loop-len.invariant.failures (c.in-Ok-None.ensures.count c.loop-len.invariant.state)

pub returns-in-Err-clause-count : goal.returns-in-Err-clause-count
returns-in-Err-clause-count g c = fault_counts _ _ _ c.in-Err.fault c.loop-len.invariant.failures (c.in-Err.ensures.count c.loop-len.invariant.state)

pub returns-in_default-clause-count : goal.returns-in_default-clause-count
returns-in_default-clause-count g c = Stays-stays _ _ _ c.loop-len.invariant.failures (c.in-Ok-Some.ensures.count c.loop-len.invariant.state)

pub returns-then-not-is_whole-clause-count : goal.returns-then-not-is_whole-clause-count
returns-then-not-is_whole-clause-count g c = Stays-stays _ _ _ c.loop-len.invariant.failures (c.in-Ok-Some.ensures.count c.loop-len.invariant.state)

pub returns-then-is_full-clause-reading : goal.returns-then-is_full-clause-reading
returns-then-is_full-clause-reading g c = λ _. c.loop-len.invariant.state

pub returns-then-is_full-clause-more : goal.returns-then-is_full-clause-more
returns-then-is_full-clause-more g c = λ _. (c.loop-len.invariant.ends, c.loop-len.invariant.bytes)

pub returns-then-is_full-clause-last : goal.returns-then-is_full-clause-last
returns-then-is_full-clause-last g c = λ is. absurd (true≢false (sym is))

pub returns-clause-reading : goal.returns-clause-reading
returns-clause-reading g c = λ _. c.loop-len.invariant.state

pub returns-clause-more : goal.returns-clause-more
returns-clause-more g c = λ _. (c.loop-len.invariant.ends, c.loop-len.invariant.bytes)

pub returns-clause-last : goal.returns-clause-last
returns-clause-last g c = λ is. absurd (true≢false (sym is))

pub returns-in-Ok-None-clause-reading : goal.returns-in-Ok-None-clause-reading
returns-in-Ok-None-clause-reading g c = λ is. absurd (true≢false is)

pub returns-in-Ok-None-clause-more : goal.returns-in-Ok-None-clause-more
returns-in-Ok-None-clause-more g c = λ is. absurd (true≢false is)

pub returns-then-not-is_whole-clause-reading : goal.returns-then-not-is_whole-clause-reading
returns-then-not-is_whole-clause-reading g c = λ is. absurd (true≢false is)

pub returns-then-not-is_whole-clause-more : goal.returns-then-not-is_whole-clause-more
returns-then-not-is_whole-clause-more g c = λ is. absurd (true≢false is)

pub returns-in-Ok-None-clause-last : goal.returns-in-Ok-None-clause-last
returns-in-Ok-None-clause-last g c = λ _.
    let was = c.loop-len.invariant in
    let given = rw c.in-Ok-None.field-0-is at (c.in-Ok-None.ensures.block was.state) in
    let end = none_at_end _ (rw c.in-Ok-None.field-0-is at (c.in-Ok-None.ensures.last was.state)) in
    (rest_none _ _ _ c.args.blocks.now.kept c.loop-len.blocks.kept c.next.new.self.kept (joined (block_texts c.loop-len.round.items)) c.loop-len.blocks.size was.bytes given end, end)

pub returns-then-not-is_whole-clause-last : goal.returns-then-not-is_whole-clause-last
returns-then-not-is_whole-clause-last g c = λ _.
    let was = c.loop-len.invariant in
    let t = texts_more c.loop-len.round.items c.push.new.self.items c.in-Ok-Some.block c.in-Ok.ensures.items in
    let e = ap joined t ∙ joined_more (block_texts c.loop-len.round.items) c.in-Ok-Some.block.items in
    let given = rw c.in-Ok-Some.field-0-is at (c.in-Ok-Some.ensures.block was.state) in
    let last = rw c.in-Ok-Some.field-0-is at (c.in-Ok-Some.ensures.last was.state) in
    let unended = λ (h : EndsWithLineFeed c.in-Ok-Some.block.items).
    true≢false (sym (c.ends_with_line_feed-is_whole.ensures.no (subst (λ (bs : List ℕ). EndsWithLineFeed bs) (sym c.as_slice.ensures.value) h)) ∙ c.if-not-is_whole.true) in
    let end = at_the_end _ c.in-Ok-Some.block last unended in (
      rest_last _ _ _ c.args.blocks.now.kept c.loop-len.blocks.kept c.next.new.self.kept (joined (block_texts c.loop-len.round.items)) _ c.loop-len.blocks.size c.in-Ok-Some.block was.bytes given e end unended,
      end,
    )

pub returns-then-is_full-clause-long : goal.returns-then-is_full-clause-long
returns-then-is_full-clause-long g c = λ _. omega (arith, c.loop-len.invariant.counted, c.is_full.ensures.bytes c.if-is_full.true)

pub returns-clause-long : goal.returns-clause-long
returns-clause-long g c = λ _. omega (arith, c.loop-len.invariant.pieces)

pub returns-in-Ok-None-clause-long : goal.returns-in-Ok-None-clause-long
returns-in-Ok-None-clause-long g c = λ is. absurd (true≢false is)

pub returns-then-not-is_whole-clause-long : goal.returns-then-not-is_whole-clause-long
returns-then-not-is_whole-clause-long g c = λ is. absurd (true≢false is)
