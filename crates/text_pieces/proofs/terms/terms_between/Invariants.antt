use Rattle.std.proofs.Common.{◌≡◌, List}
use Rattle.std.specs.List.{slice_range}
use Rattle.rdf_core.specs.declared.term.Term.{Term}
use Rattle.dict_core.specs.Appearances.{first_appearances}
use Rattle.text_pieces.specs.Forms.{AreFormsOf}
use Rattle.text_pieces.proofs.terms.terms_between.Given as goal

abbrev pub invariant-loop-n : goal.invariant-loop-n
invariant-loop-n l = (terms : List Term) → AreFormsOf terms l.texts.texts → l.dict ≡ first_appearances (slice_range terms l.from l.n)
