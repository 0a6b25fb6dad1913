use Rattle.std.proofs.Common.{◌++◌, ◌∙◌, List, append_assoc, ap, sym}
use Rattle.std.specs.Vec.Iter.{into_iter_items}
use Rattle.std.proofs.lemmas.List.{map-append}
use Rattle.result_json.specs.Keyed.{Keyed, entries_of, joined_entries}
use Rattle.result_json.specs.Ranks.{Entry}
use Rattle.result_json.proofs.presort.joined.Goals as goal

pub loop-keyed-preserved : goal.loop-keyed-preserved
loop-keyed-preserved c =
    let steps = c.in-Some.ensures.steps in
    let rest = into_iter_items c.next.new.self in
    ap (λ (ks : List Keyed). entries_of ks ++ joined_entries rest) c.in_ok-append.ensures.items
    ∙ ap (λ (es : List Entry). es ++ joined_entries rest) (map-append (λ (k : Keyed). k.1) c.loop-keyed.all.items c.in-Some.keyed.items)
    ∙ append_assoc (entries_of c.loop-keyed.all.items) (entries_of c.in-Some.keyed.items) (joined_entries rest)
    ∙ sym (ap (λ xs. entries_of c.loop-keyed.all.items ++ joined_entries xs) steps.0)
    ∙ c.loop-keyed.invariant
