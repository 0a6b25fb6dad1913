use Rattle.line_diagnosis.proofs.hint.hint_of_text.Goals as goal

pub returns-in-Unexpected-default-Char-clause-safe : goal.returns-in-Unexpected-default-Char-clause-safe
returns-in-Unexpected-default-Char-clause-safe c = λ line front. c.hint_of_char.ensures.safe c.args.context.now line front

pub returns-in-IriChar-clause-safe : goal.returns-in-IriChar-clause-safe
returns-in-IriChar-clause-safe c = λ line front. c.hint_in_iri.ensures.safe c.args.context.now line front

pub returns-in-Unexpected : goal.returns-in-Unexpected
returns-in-Unexpected c = record {
  safe = λ line front. c.hint_of_term.ensures.safe c.args.context.now line front;
  suits = rw c.in-Unexpected.is c.hint_of_term.ensures.suits;
}
