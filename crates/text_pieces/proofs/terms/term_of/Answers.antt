use Rattle.std.proofs.Common.{◌≡◌, ℕ, List, sym, subst, ◌∙◌}
use Rattle.std.proofs.lemmas.Option.{none-some, same_Some}
use Rattle.nquads_core.specs.Slices.{Denotes}
use Rattle.nquads_core.proofs.Forms.{forms_denote}
use Rattle.text_dict.specs.Forms.{IsForm}
use Rattle.text_pieces.specs.Forms.{IsTermOf}
use Rattle.text_pieces.proofs.terms.term_of.Goals as goal

denoted : (text : List ℕ) (h : IsForm text) → Denotes text h.term
denoted text h = subst (λ r. Denotes r h.term) (sym h.form) (forms_denote h.term h.occurs)

pub unreachable-requires : goal.unreachable-requires
unreachable-requires c = c.in_default.ensures.cases.0 (denoted c.args.text.now c.requires.form).utf8

pub unreachable-requires-in-None : goal.unreachable-requires-in-None
unreachable-requires-in-None c =
    let h = c.requires.form in
    let denotes = subst (λ r. Denotes r h.term) (sym c.in-Ok.ensures.cases.0) (denoted c.args.text.now h) in
    none-some h.term (sym c.in-None.is ∙ c.in_ok-term.ensures.complete h.term denotes)

pub returns : goal.returns
returns c =
    let h = c.requires.form in
    let denotes = subst (λ r. Denotes r h.term) (sym c.in-Ok.ensures.cases.0) (denoted c.args.text.now h) in
    let same : h.term ≡ c.in-Some.term = same_Some h.term c.in-Some.term (sym (c.in_ok-term.ensures.complete h.term denotes) ∙ c.in-Some.is) in
    record { term = subst (IsTermOf c.args.text.now) same (record { form = h.form; occurs = h.occurs }) }
