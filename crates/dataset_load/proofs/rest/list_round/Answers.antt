use Rattle.std.proofs.Common.{◌≡◌, true, false, Ok, None, IfOk, IfSome, IsSomeAnd, OnOk, rules, of_calls}
use Rattle.nquads_core.specs.Transfer.{CountsRead}
use Rattle.piece_cuts.specs.declared.blocks.BlockState.TheVariants.{Reading}
use Rattle.dataset_load.specs.Ahead.{IsNextRound}
use Rattle.dataset_load.specs.BadRounds.{IsBadList}
use Rattle.dataset_load.proofs.StreamingSteps.{TakesPart, both_ok, round_done, spent_next, taken_ok}
use Rattle.dataset_load.proofs.RestSteps.{ListsRound, adds_list, few_next, stopped_round}
use Rattle.dataset_load.proofs.rest.list_round.Given.{Over}
use Rattle.dataset_load.proofs.rest.list_round.Goals as goal

-- what the closure did
pub ended : (g : Over) (c : goal.After-next_if_listed g) → c.args.round.is_last ≡ true → (c.list_blocks-listed.result.1 ≡ Ok None) × (g.S.Source.left c.reader-1.given.0 ≡ g.S.Source.left c.args.reader.now)
ended g c = search (rules, of_calls)

pub filled : (g : Over) (c : goal.After-next_if_listed g) → c.args.round.is_last ≡ false
    → IfOk c.list_blocks-listed.result.1 (λ next. IsSomeAnd next (IsNextRound (g.S.Source.left c.args.reader.now) (g.S.Source.left c.reader-1.given.0) c.args.blocks.now.kept c.reuse.new.self.kept))
filled g c = search (rules, of_calls)

pub taken : (g : Over) (c : goal.After-next_if_listed g) → c.args.round.is_last ≡ false → TakesPart (g.S.Source.left c.args.reader.now) (g.S.Source.left c.reader-1.given.0) c.args.blocks.now.kept
taken g c = search (rules, of_calls)

pub reading : (g : Over) (c : goal.After-next_if_listed g) → IfOk c.list_blocks-listed.result.1 (λ next. IfSome next (λ round. round.is_last ≡ false → c.reuse.new.self.state ≡ Reading))
reading g c = search (rules, of_calls)

pub count : (g : Over) (c : goal.After-next_if_listed g) → CountsRead (g.S.Source.failures c.args.reader.now) (g.S.Source.failures c.reader-1.given.0) c.list_blocks-listed.result.1
count g c = search (rules, of_calls)

lists : (g : Over) (c : goal.After-next_if_listed g) → OnOk c.list_blocks-listed.result.0 (ListsRound c.args.list.now c.list_blocks-listed.new.list c.args.round)
lists g c = rw c.as_slice.ensures.value at c.list_blocks-listed.ensures.listed

pub returns-clause-count : goal.returns-clause-count
returns-clause-count g c = c.next_if_listed.ensures.count _ _ (count g c)

pub returns-clause-reading : goal.returns-clause-reading
returns-clause-reading g c = taken_ok c.next_if_listed.result c.list_blocks-listed.result.1 _ c.next_if_listed.ensures.next (reading g c)

pub returns-clause-few : goal.returns-clause-few
returns-clause-few g c = few_next _ _ c.args.blocks.now.kept c.reuse.new.self.kept c.args.round c.list_blocks-listed.result.1 c.next_if_listed.result (ended g c) (filled g c) c.next_if_listed.ensures.next

pub returns-clause-counted : goal.returns-clause-counted
returns-clause-counted g c = both_ok c.next_if_listed.result c.list_blocks-listed.result.0 _ c.next_if_listed.ensures.listed c.list_blocks-listed.ensures.counted

pub returns-clause-listed : goal.returns-clause-listed
returns-clause-listed g c = λ n.
    round_done (IsBadList n c.args.list.now) (IsBadList n c.list_blocks-listed.new.list) _ _ c.args.blocks.now.kept c.reuse.new.self.kept c.args.round c.list_blocks-listed.result.0 c.list_blocks-listed.result.1 c.next_if_listed.result
    (ended g c) (filled g c) (adds_list n _ _ c.args.round c.list_blocks-listed.result.0 (lists g c)) c.next_if_listed.ensures.next c.next_if_listed.ensures.listed

pub returns-clause-stopped : goal.returns-clause-stopped
returns-clause-stopped g c = λ n. stopped_round n _ _ c.args.blocks.now.kept c.args.list.now c.args.round c.next_if_listed.result (λ last. (ended g c last).1) (taken g c)

pub returns-clause-spent : goal.returns-clause-spent
returns-clause-spent g c =
    spent_next _ _ c.args.blocks.now.kept c.reuse.new.self.kept c.args.round c.list_blocks-listed.result.1 c.next_if_listed.result (ended g c) (filled g c) c.next_if_listed.ensures.next
