use Rattle.std.proofs.Common.{◌∙◌, map, string_bytes}
use Rattle.std.proofs.lemmas.Result.{IfErr-weaker, IfOk-weaker}
use Rattle.clap.specs.Words.{app_of}
use Rattle.spq_command.specs.Program.{IsCommandLine}
use Rattle.spq_command.specs.declared.command.Command.{Command}
use Rattle.spq_command.proofs.CommandSteps.{line_meets, line_met, line_rejected}
use Rattle.spq_command.proofs.TakenSteps.{not_taken}
use Rattle.spq_command.proofs.command_line.read_command.Goals as goal

pub returns-in-Ok-clause-ok : goal.returns-in-Ok-clause-ok
returns-in-Ok-clause-ok c =
    let words = map (λ s. string_bytes s) c.args.words.now in
    IfOk-weaker c.command_of.result _ _ (λ command h. line_meets (app_of c.in_ok-line.line) words c.in-Ok.matches command
    c.in_ok-line.ensures.app c.in-Ok.ensures.kinds c.in-Ok.ensures.matches h)
    c.command_of.ensures.ok

pub returns-in-Ok-clause-line : goal.returns-in-Ok-clause-line
returns-in-Ok-clause-line c =
    let words = map (λ s. string_bytes s) c.args.words.now in
    IfErr-weaker c.command_of.result _ _ (λ fault h is command line. h is command
    (line_met (app_of c.in_ok-line.line) words c.in-Ok.matches command c.in_ok-line.ensures.app c.in-Ok.ensures.matches line))
    c.command_of.ensures.line

pub returns-in-Ok-clause-rejected : goal.returns-in-Ok-clause-rejected
returns-in-Ok-clause-rejected c =
    let words = map (λ s. string_bytes s) c.args.words.now in
    IfErr-weaker c.command_of.result _ _ (λ fault h is. not_taken words (λ command line. h is command
    (line_met (app_of c.in_ok-line.line) words c.in-Ok.matches command c.in_ok-line.ensures.app c.in-Ok.ensures.matches line)))
    c.command_of.ensures.line

pub returns : goal.returns
returns c =
    let words = map (λ s. string_bytes s) c.args.words.now in
    let no_command : (command : Command) → IsCommandLine words command → ⊥ = λ command line. line_rejected (app_of c.in_ok-line.line) words c.in-Err.error command
    c.in_ok-line.ensures.app c.in-Err.ensures.kinds (λ e. c.in_default.not-OutOfMemory (c.kind.ensures ∙ e)) line in
    record { ok = tt; line = λ is. no_command; rejected = λ is. not_taken words no_command }
