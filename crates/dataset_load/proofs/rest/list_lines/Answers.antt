use Rattle.std.proofs.Common.{OnOk, Ok, Result, ◌≡◌, subst}
use Rattle.dataset_load.proofs.RestSteps.{first_list, none_of, on_err, on_ok, some_of}
use Rattle.dataset_load.proofs.rest.list_lines.Goals as goal

-- what a success promises
ok_of : {T E : Type 0} (A : Type 0) (r : Result T E) (x : T) → r ≡ Ok x → OnOk r A → A
ok_of {T = T} {E = E} A r x is h = subst (λ (s : Result T E). OnOk s A) is h

pub returns-clause-stopped : goal.returns-clause-stopped
returns-clause-stopped g c = λ start n was. was.so_far

pub returns-in-Ok-clause-listed : goal.returns-in-Ok-clause-listed
returns-in-Ok-clause-listed g c = λ start n was.
    none_of _ _ _ c.in-None.is
    (first_list start _ _ n c.args.bad c.args.list.now c.list_blocks-listed.new.list c.requires.before
    (rw c.as_slice.ensures.value at (ok_of _ c.list_blocks-listed.result.0 c.in-Ok.field-0 c.in-Ok.is c.list_blocks-listed.ensures.listed)) was)

pub returns-in-Some-clause-listed : goal.returns-in-Some-clause-listed
returns-in-Some-clause-listed g c =
    on_ok c.list_rounds.result c.list_rounds.ensures.listed
    (λ all start n was.
    all start n (some_of _ _ _ c.in-Some.next c.in-Some.is
    (first_list start _ _ n c.args.bad c.args.list.now c.list_blocks-listed.new.list c.requires.before
    (rw c.as_slice.ensures.value at (ok_of _ c.list_blocks-listed.result.0 c.in-Ok.field-0 c.in-Ok.is c.list_blocks-listed.ensures.listed)) was)))

pub returns-in-Some-clause-stopped : goal.returns-in-Some-clause-stopped
returns-in-Some-clause-stopped g c =
    on_err c.list_rounds.result c.list_rounds.ensures.stopped
    (λ all start n was.
    all start n (some_of _ _ _ c.in-Some.next c.in-Some.is
    (first_list start _ _ n c.args.bad c.args.list.now c.list_blocks-listed.new.list c.requires.before
    (rw c.as_slice.ensures.value at (ok_of _ c.list_blocks-listed.result.0 c.in-Ok.field-0 c.in-Ok.is c.list_blocks-listed.ensures.listed)) was)))
