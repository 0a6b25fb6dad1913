use Rattle.std.proofs.Common.{◌∙◌, arith}
use Rattle.clap.specs.Words.{found_of, one_of, rows_of}
use Rattle.clap.proofs.WalkLemmas.{one_text-rows}
use Rattle.spq_command.proofs.NumberSteps.{given, not_given, outside, unread}
use Rattle.spq_command.proofs.command_line.number_of.Goals as goal
use Rattle.spq_command.proofs.command_line.number_of.Goals.{then-n-lt1-via-then-n-lt1, then-n-lt1-via-else-n-lt1+then-most-n}

pub returns-in-Ok-None-clause-ok : goal.returns-in-Ok-None-clause-ok
returns-in-Ok-None-clause-ok c =
    let found = found_of c.args.found.now in
    let name = c.args.name.now in
    let reads = rw c.in-Ok-None.field-0-is at c.in-Ok-None.ensures.value in
    not_given (one_of name (rows_of found)) c.args.default c.args.most (λ t e. reads t (one_text-rows found name ∙ e))

pub returns-else-most-n-clause-ok : goal.returns-else-most-n-clause-ok
returns-else-most-n-clause-ok c =
    let found = found_of c.args.found.now in
    let name = c.args.name.now in
    let is = c.in-Ok-Some.field-0-is in
    let reads = rw c.in-Ok-Some.field-0-is at c.in-Ok-Some.ensures.value in
    given (one_of name (rows_of found)) c.args.default c.args.most c.in-Ok-Some.n
    (λ e. let bad = c.in-Ok-Some.ensures.none (one_text-rows found name ∙ e) in cc)
    (λ t e. (reads t (one_text-rows found name ∙ e)).0)
    (omega arith) (omega arith)

pub returns-then-n-lt1-clause-line : goal.returns-then-n-lt1-clause-line
returns-then-n-lt1-clause-line c =
    let found = found_of c.args.found.now in
    let name = c.args.name.now in
    let is = c.in-Ok-Some.field-0-is in
    let reads = rw c.in-Ok-Some.field-0-is at c.in-Ok-Some.ensures.value in
    outside (one_of name (rows_of found)) c.args.default c.args.most c.in-Ok-Some.n
    (λ e. let bad = c.in-Ok-Some.ensures.none (one_text-rows found name ∙ e) in cc)
    (λ t e. (reads t (one_text-rows found name ∙ e)).0)
    (λ low high. elim c.then-n-lt1.branch [
      | then-n-lt1-via-then-n-lt1 w ↦ omega arith
      | then-n-lt1-via-else-n-lt1+then-most-n w ↦ omega arith
    ])

pub returns-in-Err-clause-line : goal.returns-in-Err-clause-line
returns-in-Err-clause-line c =
    let found = found_of c.args.found.now in
    let name = c.args.name.now in
    unread _ (one_of name (rows_of found)) c.args.default c.args.most c.in-Err.field-0
    (λ e. let bad = c.in-Err.ensures.none (one_text-rows found name ∙ e) in cc)
    (λ t e. (c.in-Err.ensures.value t (one_text-rows found name ∙ e)).0)
