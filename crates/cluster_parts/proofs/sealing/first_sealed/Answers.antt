use Rattle.std.proofs.Common.{◌++◌, ap, ◌∙◌}
use Rattle.cluster_parts.specs.Known.{BeginsSealed}
use Rattle.cluster_parts.proofs.FaultSteps.{checked_next, damaged_at, handed_on, no_checksum, no_head, no_length}
use Rattle.cluster_parts.proofs.NumberListSteps.{eight_bytes}
use Rattle.cluster_parts.proofs.PartSteps.{sealed_first}
use Rattle.cluster_parts.proofs.sealing.first_sealed.Goals as goal

pub returns-in_err-first-clause-fault : goal.returns-in_err-first-clause-fault
returns-in_err-first-clause-fault c =
    handed_on c.from_residual.result c.in_err-first.field-0.0 _ c.from_residual.ensures.1 (no_head c.args.bytes.now _ c.in_err-first.ensures.other.0 c.in_err-first.ensures.other.1)

pub returns-in_err-len-clause-fault : goal.returns-in_err-len-clause-fault
returns-in_err-len-clause-fault c =
    handed_on c.from_residual-in_err-len.result c.in_err-len.field-0.0 _ c.from_residual-in_err-len.ensures.1
    (damaged_at (BeginsSealed c.args.bytes.now) c.args.bytes.now _ c.in_err-len.ensures.short.0
    (no_length c.args.bytes.now c.in_ok-first.first.now c.in_ok-first.ensures.parts c.in_err-len.ensures.short.1))

pub returns-in_err-checksum-clause-fault : goal.returns-in_err-checksum-clause-fault
returns-in_err-checksum-clause-fault c =
    handed_on c.from_residual-in_err-checksum.result c.in_err-checksum.field-0.0 _ c.from_residual-in_err-checksum.ensures.1
    (damaged_at (BeginsSealed c.args.bytes.now) c.args.bytes.now _ c.in_err-checksum.ensures.short.0
    (no_checksum c.args.bytes.now c.in_ok-first.first.now c.in_ok-len.second.now c.in_ok-len.len c.in_ok-first.ensures.parts
    (c.in_ok-len.ensures.parts ∙ ap (λ bs. bs ++ c.in_ok-len.second.now) (eight_bytes c.in_ok-len.len)) c.in_err-checksum.ensures.short.1))

pub returns-in_err-text-clause-fault : goal.returns-in_err-text-clause-fault
returns-in_err-text-clause-fault c =
    handed_on c.from_residual-in_err-text.result c.in_err-text.field-0.0 _ c.from_residual-in_err-text.ensures.1
    (damaged_at (BeginsSealed c.args.bytes.now) c.args.bytes.now _ c.in_err-text.ensures.damage.0
    (λ w. c.in_err-text.ensures.damage.1
    (checked_next c.args.bytes.now c.in_ok-first.first.now c.in_ok-len.second.now c.in_ok-checksum.third.now c.in_ok-len.len c.in_ok-checksum.checksum c.in_ok-first.ensures.parts
    (c.in_ok-len.ensures.parts ∙ ap (λ bs. bs ++ c.in_ok-len.second.now) (eight_bytes c.in_ok-len.len))
    (c.in_ok-checksum.ensures.parts ∙ ap (λ bs. bs ++ c.in_ok-checksum.third.now) (eight_bytes c.in_ok-checksum.checksum)) w)))

pub returns-clause-parts : goal.returns-clause-parts
returns-clause-parts c =
    sealed_first c.args.bytes.now c.in_ok-first.first.now c.in_ok-len.second.now c.in_ok-checksum.third.now c.in_ok-text.text.now c.in_ok-text.after.now c.in_ok-len.len c.in_ok-checksum.checksum
    c.in_ok-first.ensures.parts (c.in_ok-len.ensures.parts ∙ ap (λ bs. bs ++ c.in_ok-len.second.now) (eight_bytes c.in_ok-len.len))
    (c.in_ok-checksum.ensures.parts ∙ ap (λ bs. bs ++ c.in_ok-checksum.third.now) (eight_bytes c.in_ok-checksum.checksum)) c.in_ok-text.ensures.parts c.in_ok-text.ensures.len c.in_ok-text.ensures.checksum
