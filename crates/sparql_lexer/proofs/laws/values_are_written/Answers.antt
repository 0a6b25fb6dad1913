use Rattle.std.proofs.Common.{[], ◌∷◌, refl}
use Rattle.rdf_core.specs.declared.lexical.escapes.Inside.TheVariants as inside
use Rattle.sparql_lexer.proofs.ValueLaws.{between_is_written}
use Rattle.sparql_lexer.proofs.laws.values_are_written.Goals as goal

pub returns : goal.returns
returns c = record {
  law = record {
    iri = λ body bytes. between_is_written inside.Iri 1 (60 ∷ []) body (62 ∷ []) bytes refl refl;
    short_string = λ quote body bytes. between_is_written inside.Any 1 (quote ∷ []) body (quote ∷ []) bytes refl refl;
    long_string = λ quote body bytes. between_is_written inside.Any 3 (quote ∷ quote ∷ quote ∷ []) body (quote ∷ quote ∷ quote ∷ []) bytes refl refl;
  };
}
