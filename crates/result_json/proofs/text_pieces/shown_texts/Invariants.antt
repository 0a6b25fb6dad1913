use Rattle.std.proofs.Common.{◌≡◌}
use Rattle.result_json.specs.Ranks.{terms_of}
use Rattle.result_json.proofs.text_pieces.shown_texts.Given as goal

abbrev pub invariant-loop-number : goal.invariant-loop-number
invariant-loop-number l = l.texts ≡ terms_of l.terms
