use Rattle.std.proofs.Common.{◌++◌, List, ℕ, ap, ◌∙◌, subst}
use Rattle.std.specs.Prelude.{IfOk}
use Rattle.rdf_core.specs.Serialization.{serialization}
use Rattle.text_pieces.specs.Slices.{IsPlaced}
use Rattle.text_pieces.proofs.reading.number_term.Goals as goal

pub number_text-requires-clause-form : goal.number_text-requires-clause-form
number_text-requires-clause-form c =
    let t = c.args.term.now in record {
      term = t;
      occurs = c.requires.occurs;
      form = c.as_slice.ensures.value ∙ c.in_ok-write_term.ensures.appended ∙ ap (λ l. l ++ serialization t) c.clear.ensures.items;
    }

pub returns-clause-number : goal.returns-clause-number
returns-clause-number c =
    subst (λ (text : List ℕ). IfOk c.number_text.result (IsPlaced c.args.dict.now.texts c.args.new.now.texts c.number_text.new.new.texts text))
    (c.as_slice.ensures.value ∙ c.in_ok-write_term.ensures.appended ∙ ap (λ l. l ++ serialization c.args.term.now) c.clear.ensures.items)
    c.number_text.ensures.number
