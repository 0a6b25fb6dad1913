use Rattle.std.proofs.Common.{rules}
use Rattle.std.proofs.lemmas.List.Elements.{All-take}
use Rattle.std.proofs.lemmas.List.Sorted.{All-permutation, IsNonDecreasingBy-from_sort_by_key, IsNonDecreasingBy-take}
use Rattle.query_notes.specs.Notes.{IsRowNote}
use Rattle.query_notes.proofs.NoteSteps.{most_first, order_of}
use Rattle.query_notes.proofs.notes.first_notes.Goals as goal

pub returns-clause-counted : goal.returns-clause-counted
returns-clause-counted c =
    rw c.truncate.ensures.items (All-take IsRowNote 10 _ (All-permutation IsRowNote _ _ c.sort_by_key.ensures.permutation (All-permutation IsRowNote _ _ c.sort.ensures.permutation c.in_ok-notes.ensures.counted)))

pub returns-clause-most_first : goal.returns-clause-most_first
returns-clause-most_first c =
    rw c.truncate.ensures.items
    (most_first _ (All-take IsRowNote 10 _ (All-permutation IsRowNote _ _ c.sort_by_key.ensures.permutation (All-permutation IsRowNote _ _ c.sort.ensures.permutation c.in_ok-notes.ensures.counted)))
    (IsNonDecreasingBy-take order_of 10 _ (IsNonDecreasingBy-from_sort_by_key order_of _ c.in_ok-sort_by_key.ensures.sorted (λ a r q k. search rules))))
