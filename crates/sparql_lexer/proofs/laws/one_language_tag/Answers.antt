use Rattle.sparql_lexer.proofs.TagLaws.{is_tag_of, tag_matches}
use Rattle.sparql_lexer.proofs.laws.one_language_tag.Goals as goal

pub returns : goal.returns
returns c = record { law = λ text rest. (λ m. is_tag_of m, λ t. tag_matches t) }
