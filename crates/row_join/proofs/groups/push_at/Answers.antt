use Rattle.std.proofs.Common.{◌++◌, ◌∷◌, [], ℕ, List, map, set, sym, ap, ◌∙◌}
use Rattle.std.proofs.lemmas.List.{map-set, get_or-map}
use Rattle.row_join.proofs.groups.push_at.Goals as goal

pub returns-clause-added : goal.returns-clause-added
returns-clause-added c =
    let old = c.args.groups.now.items in
    let at = c.args.at in
    let items = c.in_ok-push.ensures.ok in
    map-set (λ l. l.items) old at c.push.new.self
    ∙ ap (λ (l : List ℕ). set (map (λ l. l.items) old) at l)
    (items ∙ ap (λ (l : List ℕ). l ++ c.args.place ∷ []) (ap (λ l. l.items) c.index_mut.ensures.value ∙ sym (get_or-map (λ l. l.items) old at c.index_mut.result.now [] c.requires.within)))
