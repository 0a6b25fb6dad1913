use Rattle.std.proofs.Common.{subst, IsPermutation, List}
use Rattle.std.proofs.lemmas.List.Sorted.{IsPermutation-map}
use Rattle.result_json.specs.Keyed.{Keyed, entries_of}
use Rattle.result_json.specs.Ranks.{Entry}
use Rattle.result_json.proofs.presort.sorted_with_keys.Goals as goal

pub returns : goal.returns
returns c = record {
  permutation = subst (λ (es : List Entry). IsPermutation es (entries_of c.sort.new.self.items)) c.in_ok-keyed.ensures.entries (IsPermutation-map (λ (k : Keyed). k.1) c.in_ok-keyed.keyed.items c.sort.new.self.items c.in_ok-sort.ensures.permutation);
}
