use Rattle.std.proofs.Common.{◌≡◌, ◌-◌, ◌^◌, length, min, take}
use Rattle.result_json.specs.Results.{joined_blocks}
use Rattle.spq_core.proofs.answering.count_bytes.Given as goal

abbrev pub invariant-loop-block : goal.invariant-loop-block
invariant-loop-block l = l.count ≡ min (length (joined_blocks (take l.block-index l.blocks))) (2 ^ 64 - 1)
