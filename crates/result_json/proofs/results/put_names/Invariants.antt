use Rattle.std.proofs.Common.{◌≡◌, ◌++◌, map, take}
use Rattle.result_json.specs.Results.{listed_names, string_text, separated}
use Rattle.result_json.proofs.results.put_names.Given as goal

abbrev pub invariant-loop-i : goal.invariant-loop-i
invariant-loop-i l = l.out.items ≡ l.initial.out.items ++ separated (map string_text (listed_names l.names (take l.i l.listed)))
