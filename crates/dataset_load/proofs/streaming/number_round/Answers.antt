use Rattle.std.proofs.Common.{◌≡◌, true, false, Ok, None, IfOk, IfSome, IsSomeAnd, rules, of_calls}
use Rattle.nquads_core.specs.Transfer.{CountsRead}
use Rattle.piece_cuts.specs.declared.blocks.BlockState.TheVariants.{Reading}
use Rattle.dataset_load.specs.Ahead.{IsNextRound}
use Rattle.dataset_load.specs.Rounds.{HasRead}
use Rattle.dataset_load.proofs.StreamingSteps.{TakesPart, bad_done, both_ok, part_done, round_done, spent_next, taken_ok}
use Rattle.dataset_load.proofs.streaming.number_round.Given.{Over}
use Rattle.dataset_load.proofs.streaming.number_round.Goals as goal

-- what the closure did
pub ended : (g : Over) (c : goal.After-end_round g) → c.args.round.is_last ≡ true → (c.add_blocks-added.result.1 ≡ Ok None) × (g.S.Source.left c.reader-1.given.0 ≡ g.S.Source.left c.args.reader.now)
ended g c = search (rules, of_calls)

pub filled : (g : Over) (c : goal.After-end_round g) → c.args.round.is_last ≡ false
    → IfOk c.add_blocks-added.result.1 (λ next. IsSomeAnd next (IsNextRound (g.S.Source.left c.args.reader.now) (g.S.Source.left c.reader-1.given.0) c.args.blocks.now.kept c.end_round.new.blocks.kept))
filled g c = search (rules, of_calls)

pub taken : (g : Over) (c : goal.After-end_round g) → c.args.round.is_last ≡ false → TakesPart (g.S.Source.left c.args.reader.now) (g.S.Source.left c.reader-1.given.0) c.args.blocks.now.kept
taken g c = search (rules, of_calls)

pub reading : (g : Over) (c : goal.After-end_round g) → IfOk c.add_blocks-added.result.1 (λ next. IfSome next (λ round. round.is_last ≡ false → c.end_round.new.blocks.state ≡ Reading))
reading g c = search (rules, of_calls)

pub count : (g : Over) (c : goal.After-end_round g) → CountsRead (g.S.Source.failures c.args.reader.now) (g.S.Source.failures c.reader-1.given.0) c.add_blocks-added.result.1
count g c = search (rules, of_calls)

pub returns-clause-count : goal.returns-clause-count
returns-clause-count g c = c.end_round.ensures.count _ _ (count g c)

pub returns-clause-reading : goal.returns-clause-reading
returns-clause-reading g c = taken_ok c.end_round.result c.add_blocks-added.result.1 _ c.end_round.ensures.next (reading g c)

pub returns-clause-counted : goal.returns-clause-counted
returns-clause-counted g c = both_ok c.end_round.result c.add_blocks-added.result.0 _ c.end_round.ensures.added c.add_blocks-added.ensures.counted

pub returns-clause-one_worker : goal.returns-clause-one_worker
returns-clause-one_worker g c = λ one. c.end_round.ensures.one_worker (c.add_blocks-added.ensures.one_worker one)

pub returns-clause-read : goal.returns-clause-read
returns-clause-read g c =
    round_done (HasRead c.args.so_far.now) (HasRead c.add_blocks-added.new.so_far) _ _ c.args.blocks.now.kept c.end_round.new.blocks.kept c.args.round c.add_blocks-added.result.0 c.add_blocks-added.result.1 c.end_round.result
    (ended g c) (filled g c) (rw c.as_slice.ensures.value at c.add_blocks-added.ensures.numbered) c.end_round.ensures.next c.end_round.ensures.added

pub returns-clause-taken : goal.returns-clause-taken
returns-clause-taken g c = part_done _ _ c.args.blocks.now.kept c.args.so_far.now c.args.round c.end_round.result (λ last. (ended g c last).1) (taken g c)

pub returns-clause-bad_round : goal.returns-clause-bad_round
returns-clause-bad_round g c =
    bad_done _ _ c.args.blocks.now.kept c.end_round.new.blocks.kept c.args.so_far.now c.args.round c.add_blocks-added.result.1 (ended g c) (filled g c) (taken g c)
    c.end_round.new.blocks c.add_blocks-added.result.0 c.end_round.result c.end_round.new.reading.bad c.requires.countable c.requires.few (reading g c)
    (rw c.as_slice.ensures.value at c.add_blocks-added.ensures.bad_line) c.end_round.ensures.bad_line c.end_round.ensures.bad_round

pub returns-clause-spent : goal.returns-clause-spent
returns-clause-spent g c =
    spent_next _ _ c.args.blocks.now.kept c.end_round.new.blocks.kept c.args.round c.add_blocks-added.result.1 c.end_round.result (ended g c) (filled g c) c.end_round.ensures.next
