use Rattle.std.proofs.Common.{◌≡◌, Bool, ◌||◌, ap, ◌∙◌, codes}
use Rattle.std.proofs.lemmas.Result.{IfOk-weaker}
use Rattle.clap.specs.Words.{App, Rule, app_of, rule_of, with_rule}
use Rattle.spq_command.specs.Program.{query_option, reading_options, rows_option, with_options}
use Rattle.spq_command.proofs.program.select_line.Goals as goal

pub returns : goal.returns
returns c =
    let with_query = c.in_ok-arg.ensures.shape c.query.ensures.local
    ∙ ap (λ (a : App). with_rule a (rule_of c.query.result)) c.in_ok-reading_line.ensures.app
    ∙ ap (λ (r : Rule). with_rule (with_options (codes "select") reading_options) r) c.query.ensures.rule in
    let local = c.in_ok-arg.ensures.globals ∙ ap (λ (b : Bool). b || c.query.result.global) c.in_ok-reading_line.ensures.local ∙ c.query.ensures.local in
    record {
      app = IfOk-weaker c.arg-2.result _ _
          (λ line h. h.shape c.number.ensures.local ∙ ap (λ (r : Rule). with_rule (app_of c.in_ok-arg.field-0) r) c.number.ensures.rule ∙ ap (λ (a : App). with_rule a rows_option) with_query)
          c.arg-2.ensures;
      local = IfOk-weaker c.arg-2.result _ _
          (λ line h. h.globals ∙ ap (λ (b : Bool). b || c.number.result.global) local ∙ c.number.ensures.local)
          c.arg-2.ensures;
    }
