use Rattle.std.proofs.Common.{ap}
use Rattle.piece_cuts.specs.Blocks.{BlocksView}
use Rattle.nquads_core.proofs.TransferSteps.{Stays-start, in-part-none}
use Rattle.dataset_load.proofs.StreamingSteps.{up_to_start}
use Rattle.dataset_load.proofs.RestSteps.{counts_then, some_and}
use Rattle.dataset_load.proofs.streaming.read_reader.Goals as goal

pub number_rounds-requires-clause-start : goal.number_rounds-requires-clause-start
number_rounds-requires-clause-start g c = λ _ _. up_to_start (g.S.Source.left c.args.reader.now) _ _ (ap (λ (b : BlocksView). b.kept) c.in-Ok.ensures.blocks) c.in-Ok.ensures.none

pub returns-in_default-clause-count : goal.returns-in_default-clause-count
returns-in_default-clause-count g c = Stays-start (g.S.Source.failures c.args.reader.now)

pub returns-in_default-clause-taken : goal.returns-in_default-clause-taken
returns-in_default-clause-taken g c = in-part-none (g.S.Source.left c.args.reader.now)

pub list_malformed-requires : goal.list_malformed-requires
list_malformed-requires g c = record {
  ready = rw c.in-Some.is (some_and _ _ c.in-Some.bad c.in-Some.is (rw c.in-Err-BadLine.field-0-is at c.in-Err-BadLine.ensures.bad_round)).0;
}

pub returns-in-Err-BadLine-clause-bad_line : goal.returns-in-Err-BadLine-clause-bad_line
returns-in-Err-BadLine-clause-bad_line g c = (c.list_malformed.ensures.outcome (g.S.Source.left c.args.reader.now) (rw c.in-Some.is (some_and _ _ c.in-Some.bad c.in-Some.is (rw c.in-Err-BadLine.field-0-is at c.in-Err-BadLine.ensures.bad_round)).1)).bad_line

pub returns-in-Err-BadLine-clause-listed : goal.returns-in-Err-BadLine-clause-listed
returns-in-Err-BadLine-clause-listed g c = (c.list_malformed.ensures.outcome (g.S.Source.left c.args.reader.now) (rw c.in-Some.is (some_and _ _ c.in-Some.bad c.in-Some.is (rw c.in-Err-BadLine.field-0-is at c.in-Err-BadLine.ensures.bad_round)).1)).listed

pub returns-in-Err-BadLine-clause-stopped : goal.returns-in-Err-BadLine-clause-stopped
returns-in-Err-BadLine-clause-stopped g c = (c.list_malformed.ensures.outcome (g.S.Source.left c.args.reader.now) (rw c.in-Some.is (some_and _ _ c.in-Some.bad c.in-Some.is (rw c.in-Err-BadLine.field-0-is at c.in-Err-BadLine.ensures.bad_round)).1)).stopped

pub returns-in-Err-BadLine-clause-taken : goal.returns-in-Err-BadLine-clause-taken
returns-in-Err-BadLine-clause-taken g c = (c.list_malformed.ensures.outcome (g.S.Source.left c.args.reader.now) (rw c.in-Some.is (some_and _ _ c.in-Some.bad c.in-Some.is (rw c.in-Err-BadLine.field-0-is at c.in-Err-BadLine.ensures.bad_round)).1)).taken

pub returns-in-Err-BadLine-clause-cause : goal.returns-in-Err-BadLine-clause-cause
returns-in-Err-BadLine-clause-cause g c = (c.list_malformed.ensures.outcome (g.S.Source.left c.args.reader.now) (rw c.in-Some.is (some_and _ _ c.in-Some.bad c.in-Some.is (rw c.in-Err-BadLine.field-0-is at c.in-Err-BadLine.ensures.bad_round)).1)).cause

pub returns-in-Err-BadLine-clause-count : goal.returns-in-Err-BadLine-clause-count
returns-in-Err-BadLine-clause-count g c = counts_then _ _ _ c.list_malformed.result (rw c.in-Err-BadLine.field-0-is at c.in-Err-BadLine.ensures.count) c.list_malformed.ensures.count
