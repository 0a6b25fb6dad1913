use Rattle.std.proofs.Common.{◌≡◌, ◌<◌, ◌∙◌, List, ℕ, [], ◌++◌, length, get_or, set, ap, sym, subst, arith}
use Rattle.std.proofs.lemmas.List.{get_or-map, length-map}
use Rattle.rdf_core.specs.declared.term.Term.TheVariants.{Blank}
use Rattle.dict_core.specs.Dict.{term_at}
use Rattle.result_json.specs.Ranks.{Entry, terms_of}
use Rattle.result_json.specs.Results.{term_text}
use Rattle.result_json.specs.Texts.{ArePrinted}
use Rattle.result_json.proofs.TextSteps.{printed_more}
use Rattle.result_json.proofs.term_texts.TermTexts.print.Goals as goal

pub invariant_of-self-in_err-extend_from_slice : goal.invariant_of-self-in_err-extend_from_slice
invariant_of-self-in_err-extend_from_slice c =
    subst (λ (items : List ℕ). ArePrinted (terms_of c.self.inside.terms.now) items c.self.inside.spans.items) (sym c.in_err-extend_from_slice.ensures.items) c.self.invariant

pub invariant_of-self-2 : goal.invariant_of-self-2
invariant_of-self-2 c =
    let entries = c.self.inside.terms.now in
    let terms = terms_of entries in
    let old = c.self.inside.printed.items in
    let new = c.extend_from_slice.new.self.items in
    let spans = c.self.inside.spans.items in
    let text = c.put_term.new.out.items in
    let count : length terms ≡ length entries = length-map entries (λ (e : Entry). e.0.now) in
    let inside : c.args.place < length terms = omega (arith, c.requires.inside, ap length c.self.view_is) in
    let printed : text ≡ term_text (term_at terms c.args.place) =
    c.in_ok-put_term.ensures.text ∙ ap (λ (xs : List ℕ). xs ++ term_text (get_or entries c.args.place c.index-self-place.result).0.now) c.clear.ensures.items
    ∙ ap term_text (sym (get_or-map (λ (e : Entry). e.0.now) entries c.args.place c.index-self-place.result (Blank []) (omega arith))) in
    let grown : new ≡ old ++ text = c.in_ok-extend_from_slice.ensures.items ∙ ap (λ ys. old ++ ys) c.deref.ensures.value in
    let start : c.len-start.result ≡ length old = c.len-start.ensures ∙ c.self.inside.printed.ok.0 in
    let end : c.len.result ≡ length (old ++ text) = c.len.ensures ∙ c.extend_from_slice.new.self.ok.0 ∙ ap length grown in
    let known = printed_more terms old text spans c.args.place c.self.invariant inside printed in
    subst (λ (items : List ℕ). ArePrinted terms items (set spans c.args.place (c.len-start.result, c.len.result))) (sym grown)
    (subst (λ (k : ℕ). ArePrinted terms (old ++ text) (set spans c.args.place (k, c.len.result))) (sym start)
    (subst (λ (k : ℕ). ArePrinted terms (old ++ text) (set spans c.args.place (length old, k))) (sym end) known))
