use Rattle.std.proofs.Common.{refl, subst}
use Rattle.nquads_scan.specs.Layout.{IsLineThen}
use Rattle.nquads_scan.proofs.PlainLineSteps.{plain_blank, plain_statement}
use Rattle.nquads_scan.proofs.plain_lines.after_plain_line.Goals as goal

pub returns-in_default-clause-line : goal.returns-in_default-clause-line
returns-in_default-clause-line c =
    let rest = c.in_ok-statement.rest.now in
    plain_blank c.args.text.now rest c.utf8.text c.requires.some (subst (λ s. IsLineThen c.args.text.now s rest) c.in_default.is c.in_ok-statement.ensures.line)

pub returns-clause-line : goal.returns-clause-line
returns-clause-line c =
    let rest = c.in_ok-statement.rest.now in
    plain_statement c.args.text.now rest c.in-Some.raw c.utf8.text c.requires.some
    (subst (λ s. IsLineThen c.args.text.now s rest) c.in-Some.is c.in_ok-statement.ensures.line) (c.if-not-is_plain_statement.ensures refl)
