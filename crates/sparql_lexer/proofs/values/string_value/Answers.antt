use Rattle.std.proofs.Common.{◌∙◌, ap}
use Rattle.std.proofs.lemmas.Result.{IfOk-weaker}
use lib.Utf8.{encodes}
use Rattle.rdf_core.specs.declared.lexical.escapes.Inside.TheVariants as inside
use Rattle.sparql_lexer.specs.Values.{between, quotes_of}
use Rattle.sparql_lexer.proofs.ValueLaws.{value_from}
use Rattle.sparql_lexer.proofs.values.string_value.Goals as goal

pub returns : goal.returns
returns c = IfOk-weaker c.unescape_string.result _ _
    (λ found h. value_from inside.Any (between (quotes_of c.args.kind) c.args.text.now) c.as_str.result.now found c.as_str.utf8
    (c.as_str.ensures.value ∙ (c.in_ok-inside.ensures ∙ ap encodes (c.between.ensures ∙ ap (λ n. between n c.args.text.now) c.quotes_of.ensures))) h)
    c.unescape_string.ensures.written
