use Rattle.std.proofs.Common.{refl, true≢false}
use Rattle.dataset_load.proofs.LimitSteps.{long_before}
use Rattle.dataset_load.proofs.StreamingSteps.{bad_from, part_both}
use Rattle.dataset_load.proofs.RestSteps.{bad_line_of_list, err_if, listed_from, on_ok, part_of_bad}
use Rattle.dataset_load.proofs.rest.list_rest.Goals as goal

pub returns-in-Ok-clause-bad_line : goal.returns-in-Ok-clause-bad_line
returns-in-Ok-clause-bad_line g c = λ start n was. bad_line_of_list _ _ n _ (c.in-Ok.ensures.listed start n was)

pub returns-in-Ok-clause-listed : goal.returns-in-Ok-clause-listed
returns-in-Ok-clause-listed g c = λ start n was _. listed_from _ _ n _ (c.in-Ok.ensures.listed start n was)

pub returns-in-Err-Memory-clause-bad_line : goal.returns-in-Err-Memory-clause-bad_line
returns-in-Err-Memory-clause-bad_line g c =
    on_ok c.skip_rest.result c.skip_rest.ensures.at_end (λ end start n was. bad_from start _ _ n (c.in-Err-Memory.ensures.stopped start n was) c.skip_rest.ensures.part end)

pub returns-in-Err-Memory-clause-taken : goal.returns-in-Err-Memory-clause-taken
returns-in-Err-Memory-clause-taken g c =
    err_if c.skip_rest.result (λ start n was. part_both start _ _ (part_of_bad start _ n (c.in-Err-Memory.ensures.stopped start n was)) c.skip_rest.ensures.part)

pub returns-in-Err-Read-clause-taken : goal.returns-in-Err-Read-clause-taken
returns-in-Err-Read-clause-taken g c = λ start n was. part_of_bad start _ n (c.in-Err-Read.ensures.stopped start n was)

pub returns-in-Ok-clause-stopped : goal.returns-in-Ok-clause-stopped
returns-in-Ok-clause-stopped g c = λ start n was is. absurd (true≢false is)

pub returns-in-Err-Memory-clause-stopped : goal.returns-in-Err-Memory-clause-stopped
returns-in-Err-Memory-clause-stopped g c =
    on_ok c.skip_rest.result c.skip_rest.ensures.at_end (λ end start n was is. (rw c.in-Err-Memory.field-0-is at c.in-Err-Memory.ensures.cause) refl start n was)

pub returns-in-Err-Memory-clause-limit : goal.returns-in-Err-Memory-clause-limit
returns-in-Err-Memory-clause-limit g c = λ is start n was.
    long_before start _ (part_of_bad start _ n (c.in-Err-Memory.ensures.stopped start n was)) (c.skip_rest.ensures.limit is)
