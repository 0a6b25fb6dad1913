use Rattle.std.proofs.Common.{ap, sym, ◌∙◌}
use Rattle.std.specs.Str.{chars}
use Rattle.std.proofs.lemmas.Str.{chars_past_char, chars-nil}
use Rattle.std.proofs.lemmas.List.{nil_from_length}
use Rattle.rdf_core.proofs.lexical.characters.first_char.Goals as goal

pub returns-in-Some : goal.returns-in-Some
returns-in-Some c =
    (rw c.as_str.ensures (chars_past_char c.args.text.now c.next.new.self.rest.now c.in-Some.c c.utf8.text (sym c.chars-rest.ensures.rest ∙ c.in-Some.ensures.steps.0)), c.as_str.utf8)

pub returns-in-None : goal.returns-in-None
returns-in-None c =
    ap chars (sym c.chars-rest.ensures.rest ∙ nil_from_length c.chars-rest.result.rest.now c.in-None.ensures.steps.0.0) ∙ chars-nil
