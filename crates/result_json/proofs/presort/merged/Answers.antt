use Rattle.std.proofs.Common.{subst, sym, ap, ◌∙◌, IsPermutation, List}
use Rattle.std.proofs.lemmas.List.Sorted.{IsPermutation-map}
use Rattle.std.proofs.lemmas.Result.{IfOk-weaker}
use Rattle.result_json.specs.Keyed.{Keyed, entries_of, joined_entries}
use Rattle.result_json.specs.Ranks.{Entry}
use Rattle.result_json.proofs.presort.merged.Goals as goal

pub returns : goal.returns
returns c =
    let entries = joined_entries c.args.pieces.items in
    let sorted = c.sort.new.self.items in
    let p : IsPermutation entries (entries_of sorted) =
    subst (λ (es : List Entry). IsPermutation es (entries_of sorted)) c.in_ok-keyed.ensures.entries (IsPermutation-map (λ (k : Keyed). k.1) c.in_ok-keyed.keyed.items sorted c.in_ok-sort.ensures.permutation) in
    record {
      permutation = IfOk-weaker c.without_keys.result _ _ (λ made is. subst (λ (es : List Entry). IsPermutation entries es) (sym (is ∙ ap entries_of c.deref.ensures.value)) p) c.without_keys.ensures.entries;
    }
