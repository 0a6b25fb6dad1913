use Rattle.std.proofs.Common.{◌≡◌, take}
use Rattle.result_json.specs.Results.{joined_blocks}
use Rattle.spq_core.proofs.answering.joined.Given as goal

abbrev pub invariant-loop-block : goal.invariant-loop-block
invariant-loop-block l = l.bytes.items ≡ joined_blocks (take l.block-index l.blocks)
