use Rattle.std.proofs.Common.{◌≡◌, take}
use Rattle.spq_core.specs.Listing.{text_lines}
use Rattle.spq_core.proofs.listing.terms_text.Given as goal

abbrev pub invariant-loop-n : goal.invariant-loop-n
invariant-loop-n l = l.text.items ≡ text_lines (take l.n l.dict.texts)
