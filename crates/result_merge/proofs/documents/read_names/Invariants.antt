use Rattle.std.proofs.Common.{◌≡◌, ◌++◌, length, map, IsUtf8}
use Rattle.result_json.specs.Results.{separated, string_text}
use Rattle.result_json.proofs.SeparatedLaws.{is_cons}
use Rattle.result_merge.proofs.ListSteps.{IsListTo}
use Rattle.result_merge.proofs.documents.read_names.Given as goal

abbrev pub invariant-reading : goal.invariant-reading
invariant-reading l = record {
  read : (l.bytes ≡ separated (map string_text l.names.items) ++ l.rest) × (l.later ≡ is_cons (map string_text l.names.items));
  there : IsListTo string_text IsUtf8 l.bytes l.rest l.later;
}

abbrev pub decreases-reading : goal.decreases-reading
decreases-reading l = length l.rest
