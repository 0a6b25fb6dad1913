use Rattle.result_merge.proofs.LoopSteps.{name_read}
use Rattle.std.proofs.Common.{IsUtf8}
use Rattle.result_merge.proofs.ListSteps.{list_more, name_follows, no_comma, no_more, no_name}
use Rattle.result_merge.proofs.ReadSteps.{shorter, string_long}
use Rattle.result_json.specs.Results.{string_text}
use Rattle.result_merge.specs.Absent.{AreNoNames}
use Rattle.result_merge.specs.Reading.{comma}
use Rattle.result_merge.proofs.FaultSteps.{on_error, on_fault}
use Rattle.result_merge.proofs.documents.read_names.Goals as goal

pub reading-preserved : goal.reading-preserved
reading-preserved c = record {
  read = name_read c.args.bytes.now c.reading.rest.now c.in_ok-next.next.now c.in_ok-name.end.now c.in_ok-name.name c.reading.names.items c.push_name.new.names.items c.reading.later
      c.reading.invariant.read.0 c.reading.invariant.read.1 c.in_ok-next.ensures.parts c.in_ok-name.ensures.parts c.in_ok-push_name.ensures.pushed;
  there = list_more string_text IsUtf8 c.args.bytes.now c.reading.rest.now c.in_ok-next.next.now c.in_ok-name.end.now c.reading.later c.reading.invariant.there
      c.reading-test.ensures.parts c.in_ok-next.ensures.parts (name_follows c.in_ok-next.next.now c.in_ok-name.name c.in_ok-name.end.now c.in_ok-name.ensures.parts);
}

pub reading-smaller : goal.reading-smaller
reading-smaller c =
    shorter c.reading.rest.now (comma c.reading.later) c.in_ok-next.next.now (string_text c.in_ok-name.name) c.in_ok-name.end.now c.in_ok-next.ensures.parts c.in_ok-name.ensures.parts (string_long c.in_ok-name.name)

pub returns-in_err-next-clause-damaged : goal.returns-in_err-next-clause-damaged
returns-in_err-next-clause-damaged c =
    on_error c.from_residual.result (AreNoNames c.args.bytes.now)
    (no_comma string_text IsUtf8 c.args.bytes.now c.reading.rest.now c.reading.later c.reading.invariant.there c.reading-test.ensures.parts c.in_err-next.ensures.parts)

pub returns-in_err-name-clause-damaged : goal.returns-in_err-name-clause-damaged
returns-in_err-name-clause-damaged c =
    on_fault c.from_residual-in_err-name.result c.in_err-name.field-0.0 (AreNoNames c.args.bytes.now) c.from_residual-in_err-name.ensures.1
    (λ damaged. no_more string_text IsUtf8 c.args.bytes.now c.reading.rest.now c.in_ok-next.next.now c.reading.later c.reading.invariant.there c.reading-test.ensures.parts c.in_ok-next.ensures.parts
    (no_name c.in_ok-next.next.now (c.in_err-name.ensures.damaged damaged)))
