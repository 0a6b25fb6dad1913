use Rattle.std.proofs.Common.{◌∙◌, sym}
use Rattle.line_diagnosis.specs.Rest.{Accepts}
use Rattle.line_diagnosis.specs.declared.state.State.TheVariants as state
use Rattle.line_diagnosis.proofs.IriSteps.{iri_backslash, iri_closes_at, iri_goes_at, iri_stops}
use Rattle.line_diagnosis.proofs.LabelSteps.{at_char}
use Rattle.line_diagnosis.proofs.iris.step_iri.Goals as goal
use Rattle.line_diagnosis.proofs.iris.step_iri.Goals.{else-c-eq62-via-then-c-eq62+else-matches, in-Read, in_default, else-c-eq62-via-else-c-eq62}

pub returns-then-c-eq92-clause-steps : goal.returns-then-c-eq92-clause-steps
returns-then-c-eq92-clause-steps c = at_char (Accepts (state.Iri c.args.part c.args.scheme)) c.args.c 92 _ c.if-c-eq92.true (iri_backslash c.args.part c.args.scheme)

pub returns-then-matches-clause-steps : goal.returns-then-matches-clause-steps
returns-then-matches-clause-steps c = elim c.match-matches.branch [
  | in-Read w ↦ iri_closes_at c.args.part c.args.scheme c.args.c c.after.result w.in-Read.is c.if-c-eq62.true c.after.ensures
  | in_default w ↦ absurd cc
]

pub returns-then-may_come-clause-steps : goal.returns-then-may_come-clause-steps
returns-then-may_come-clause-steps c =
    iri_goes_at c.args.part c.args.scheme c.scheme_after.result c.args.c c.from-code.result c.from-code.ensures (sym c.may_come.ensures ∙ c.if-may_come.true) c.scheme_after.ensures

pub returns-clause-steps : goal.returns-clause-steps
returns-clause-steps c =
    iri_stops c.args.part c.args.scheme c.args.c c.if-c-eq92.false
    (λ e k. elim c.else-c-eq62.branch [
      | else-c-eq62-via-then-c-eq62+else-matches w ↦ elim w.match-matches.branch [
        | in-Read x ↦ cc
        | in_default x ↦ x.in_default.not-Read k
      ]
      | else-c-eq62-via-else-c-eq62 w ↦ w.if-c-eq62.false e
    ])
    c.ranges.c.0 (sym c.may_come.ensures ∙ c.if-may_come.false)

pub returns-clause-says : goal.returns-clause-says
returns-clause-says c = c.reason_of.ensures c.args.part
