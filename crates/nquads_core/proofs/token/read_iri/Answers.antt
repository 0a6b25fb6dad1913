use Rattle.std.proofs.Common.{◌∙◌, sym, ap}
use Rattle.std.specs.Str.{chars}
use Rattle.rdf_core.specs.Lexical.{has_scheme}
use Rattle.nquads_core.proofs.TokenSteps.{iri_read, iri_relative, iri_missing, match_some, match_none}
use Rattle.nquads_core.proofs.token.read_iri.Goals as goal

pub returns-then-has_scheme : goal.returns-then-has_scheme
returns-then-has_scheme c =
    record { value = iri_read (chars c.args.text.now) _ _ (match_some _ _ c.in_ok-iri.field-0 _ c.in-Some.is c.in_ok-iri.ensures.found) (ap has_scheme (sym c.as_str.ensures.value) ∙ sym c.has_scheme.ensures.value ∙ c.if-has_scheme.true) }

pub returns-in-Some : goal.returns-in-Some
returns-in-Some c =
    record { value = iri_relative (chars c.args.text.now) _ _ (match_some _ _ c.in_ok-iri.field-0 _ c.in-Some.is c.in_ok-iri.ensures.found) (ap has_scheme (sym c.as_str.ensures.value) ∙ sym c.has_scheme.ensures.value ∙ c.if-has_scheme.false) }

pub returns : goal.returns
returns c = record { value = iri_missing (chars c.args.text.now) (match_none _ _ c.in_ok-iri.field-0 c.in-None.is c.in_ok-iri.ensures.found) }
