use Rattle.std.proofs.Common.{◌≡◌, true, ap, ◌∙◌, codes}
use Rattle.std.proofs.lemmas.Result.{IfOk-weaker}
use Rattle.clap.specs.Simple.{app_of_fields}
use Rattle.clap.specs.Words.{App, app_of, new_app, shape_of, with_subcommand}
use Rattle.spq_command.specs.Program.{reading_options, with_options}
use Rattle.spq_command.proofs.program.program_line.Goals as goal

-- the command line requires one of its subcommands
abbrev required : App → App
required a = record a { top = record a.top { subcommand_required = true } }

pub returns : goal.returns
returns c =
    let start : app_of c.subcommand_required.result ≡ required (new_app (codes "spq")) = ap app_of_fields c.subcommand_required.ensures ∙ ap required c.new.ensures.app in
    let with_select = c.in_ok-line.ensures.shape c.in_ok-select.ensures.local
    ∙ ap (λ (a : App). with_subcommand a (shape_of c.in_ok-select.select)) start
    ∙ ap (λ (a : App). with_subcommand (required (new_app (codes "spq"))) a.top) c.in_ok-select.ensures.app in
    let with_check = c.in_ok-line-2.ensures.app ∙ ap (λ (a : App). with_subcommand a (with_options (codes "check") reading_options).top) with_select in
    record {
      app = IfOk-weaker c.add_reading-2.result _ _
          (λ line e. e ∙ ap (λ (a : App). with_subcommand a (with_options (codes "terms") reading_options).top) with_check)
          c.add_reading-2.ensures.app;
    }
