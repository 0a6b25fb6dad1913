use Rattle.std.proofs.Common.{ℕ, List, ◌++◌, true≢false, refl, ap, sym, ◌∙◌, subst}
use Rattle.nquads_core.proofs.TransferSteps.{Stays-stays, in-part-more}
use Rattle.piece_cuts.specs.Laws.{EndsWithLineFeed}
use Rattle.dataset_load.specs.Lines.{AreWholeLines, EachEnds, block_texts, joined}
use Rattle.dataset_load.proofs.ReaderSteps.{at_the_end, cut_all, cut_last, cut_step, ends_more, fault_counts, joined_more, none_at_end, read_all, read_front, read_last, read_step, texts_more, whole_all, whole_but_last}
use Rattle.dataset_load.proofs.reader.append_blocks.Goals as goal

pub returns-then-not-is_whole-clause-whole_lines : goal.returns-then-not-is_whole-clause-whole_lines
returns-then-not-is_whole-clause-whole_lines g c =
    let t = texts_more c.reading.read.items c.push.new.self.items c.in-Ok-Some.block c.in-Ok.ensures.items in
    subst (λ (ps : List (List ℕ)). AreWholeLines ps) (sym t) (whole_but_last (block_texts c.reading.read.items) c.in-Ok-Some.block.items c.reading.invariant.ends)

pub returns-then-not-is_whole-clause-bytes : goal.returns-then-not-is_whole-clause-bytes
returns-then-not-is_whole-clause-bytes g c =
    let was = c.reading.invariant in
    let t = texts_more c.reading.read.items c.push.new.self.items c.in-Ok-Some.block c.in-Ok.ensures.items in
    let e = ap joined t ∙ joined_more (block_texts c.reading.read.items) c.in-Ok-Some.block.items in
    let given = rw c.in-Ok-Some.field-0-is at (c.in-Ok-Some.ensures.block was.state) in
    let last = rw c.in-Ok-Some.field-0-is at (c.in-Ok-Some.ensures.last was.state) in
    let unended = λ (h : EndsWithLineFeed c.in-Ok-Some.block.items).
    true≢false (sym (c.ends_with_line_feed-is_whole.ensures.no (subst (λ (bs : List ℕ). EndsWithLineFeed bs) (sym c.as_slice.ensures.value) h)) ∙ c.if-not-is_whole.true) in
    read_last _ _ _ (joined (block_texts c.reading.read.items)) _ c.reading.blocks.kept c.next.new.self.kept c.reading.blocks.size c.in-Ok-Some.block was.bytes given e
    (at_the_end _ c.in-Ok-Some.block last unended) unended

pub returns-then-not-is_whole-clause-pieces : goal.returns-then-not-is_whole-clause-pieces
returns-then-not-is_whole-clause-pieces g c =
    let was = c.reading.invariant in
    let t = texts_more c.reading.read.items c.push.new.self.items c.in-Ok-Some.block c.in-Ok.ensures.items in
    let given = rw c.in-Ok-Some.field-0-is at (c.in-Ok-Some.ensures.block was.state) in
    let last = rw c.in-Ok-Some.field-0-is at (c.in-Ok-Some.ensures.last was.state) in
    let unended = λ (h : EndsWithLineFeed c.in-Ok-Some.block.items).
    true≢false (sym (c.ends_with_line_feed-is_whole.ensures.no (subst (λ (bs : List ℕ). EndsWithLineFeed bs) (sym c.as_slice.ensures.value) h)) ∙ c.if-not-is_whole.true) in
    cut_last c.first_piece_then_the_rest.ensures.law _ _ _ (block_texts c.reading.read.items) _ c.reading.blocks.kept c.next.new.self.kept c.args.blocks.now.size c.in-Ok-Some.block
    c.requires.some was.cut (rw was.size at given) t (at_the_end _ c.in-Ok-Some.block last unended) unended

pub returns-in-Ok-None-clause-pieces : goal.returns-in-Ok-None-clause-pieces
returns-in-Ok-None-clause-pieces g c =
    let was = c.reading.invariant in
    let given = rw c.in-Ok-None.field-0-is at (c.in-Ok-None.ensures.block was.state) in
    cut_all _ _ _ (block_texts c.reading.read.items) c.reading.blocks.kept c.next.new.self.kept c.args.blocks.now.size was.cut given

pub reading-preserved : goal.reading-preserved
reading-preserved g c =
    let was = c.reading.invariant in
    let t = texts_more c.reading.read.items c.push.new.self.items c.in-Ok-Some.block c.in-Ok.ensures.items in
    let e = ap joined t ∙ joined_more (block_texts c.reading.read.items) c.in-Ok-Some.block.items in
    let given = rw c.in-Ok-Some.field-0-is at (c.in-Ok-Some.ensures.block was.state) in
    let whole = subst (λ (bs : List ℕ). EndsWithLineFeed bs) c.as_slice.ensures.value (c.ends_with_line_feed-is_whole.ensures.yes c.if-not-is_whole.false) in
    record {
      state = rw c.in-Ok-Some.field-0-is at (c.in-Ok-Some.ensures.state was.state);
      size = c.in-Ok-Some.ensures.size ∙ was.size;
      ends = subst (λ (ps : List (List ℕ)). EachEnds ps) (sym t) (ends_more (block_texts c.reading.read.items) c.in-Ok-Some.block.items was.ends whole);
      bytes = read_step _ _ _ (joined (block_texts c.reading.read.items)) _ c.reading.blocks.kept c.next.new.self.kept c.reading.blocks.size c.in-Ok-Some.block was.bytes given e;
      cut = cut_step c.first_piece_then_the_rest.ensures.law _ _ _ (block_texts c.reading.read.items) _ c.reading.blocks.kept c.next.new.self.kept c.args.blocks.now.size c.in-Ok-Some.block
          c.requires.some was.cut (rw was.size at given) t;
      count = Stays-stays _ _ _ was.count (c.in-Ok-Some.ensures.count was.state);
    }

pub returns-in-Err-clause-taken : goal.returns-in-Err-clause-taken
returns-in-Err-clause-taken g c =
    let was = c.reading.invariant in
    in-part-more _ _ _ _ (read_front _ _ (joined (block_texts c.reading.read.items)) c.reading.blocks.kept was.bytes) (c.in-Err.ensures.taken was.state)

pub returns-in_default-clause-taken : goal.returns-in_default-clause-taken
returns-in_default-clause-taken g c =
    let was = c.reading.invariant in
    let given = rw c.in-Ok-Some.field-0-is at (c.in-Ok-Some.ensures.block was.state) in
    let done = joined (block_texts c.reading.read.items) in
    let read = read_step _ _ _ done (done ++ c.in-Ok-Some.block.items) c.reading.blocks.kept c.next.new.self.kept c.reading.blocks.size c.in-Ok-Some.block was.bytes given refl in
    record { taken = (done ++ c.in-Ok-Some.block.items) ++ c.next.new.self.kept; consumed = read_front _ _ (done ++ c.in-Ok-Some.block.items) c.next.new.self.kept read }

pub returns-in-Ok-None-clause-whole_lines : goal.returns-in-Ok-None-clause-whole_lines
returns-in-Ok-None-clause-whole_lines g c = whole_all _ c.reading.invariant.ends

pub returns-in-Ok-None-clause-bytes : goal.returns-in-Ok-None-clause-bytes
returns-in-Ok-None-clause-bytes g c =
    let was = c.reading.invariant in
    let given = rw c.in-Ok-None.field-0-is at (c.in-Ok-None.ensures.block was.state) in
    let last = rw c.in-Ok-None.field-0-is at (c.in-Ok-None.ensures.last was.state) in
    read_all _ _ _ (joined (block_texts c.reading.read.items)) c.reading.blocks.kept c.next.new.self.kept c.reading.blocks.size was.bytes given (none_at_end _ last)

pub returns-in-Ok-None-clause-at_end : goal.returns-in-Ok-None-clause-at_end
returns-in-Ok-None-clause-at_end g c = none_at_end _ (rw c.in-Ok-None.field-0-is at (c.in-Ok-None.ensures.last c.reading.invariant.state))

pub returns-in-Ok-None-clause-count : goal.returns-in-Ok-None-clause-count
returns-in-Ok-None-clause-count g c = Stays-stays _ _ _ c.reading.invariant.count (c.in-Ok-None.ensures.count c.reading.invariant.state)

pub returns-in-Err-clause-count : goal.returns-in-Err-clause-count
returns-in-Err-clause-count g c = fault_counts _ _ _ c.in-Err.fault c.reading.invariant.count (c.in-Err.ensures.count c.reading.invariant.state)

pub returns-in_default-clause-count : goal.returns-in_default-clause-count
returns-in_default-clause-count g c = Stays-stays _ _ _ c.reading.invariant.count (c.in-Ok-Some.ensures.count c.reading.invariant.state)

pub returns-then-not-is_whole-clause-count : goal.returns-then-not-is_whole-clause-count
returns-then-not-is_whole-clause-count g c = Stays-stays _ _ _ c.reading.invariant.count (c.in-Ok-Some.ensures.count c.reading.invariant.state)

pub returns-then-not-is_whole-clause-at_end : goal.returns-then-not-is_whole-clause-at_end
returns-then-not-is_whole-clause-at_end g c =
    let last = rw c.in-Ok-Some.field-0-is at (c.in-Ok-Some.ensures.last c.reading.invariant.state) in
    at_the_end _ c.in-Ok-Some.block last
    (λ (h : EndsWithLineFeed c.in-Ok-Some.block.items).
    true≢false (sym (c.ends_with_line_feed-is_whole.ensures.no (subst (λ (bs : List ℕ). EndsWithLineFeed bs) (sym c.as_slice.ensures.value) h)) ∙ c.if-not-is_whole.true))
