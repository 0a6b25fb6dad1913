use Rattle.std.proofs.Common.{◌-◌, List}
use Rattle.rdf_core.specs.declared.term.Term.{Term}
use Rattle.text_pieces.specs.Forms.{AreFormsOf}
use Rattle.dataset_load.specs.Terms.{AreJoined}
use Rattle.dataset_load.proofs.terms.read_terms.Given as goal

abbrev pub invariant-loop-first : goal.invariant-loop-first
invariant-loop-first g l = record {
  terms : (terms : List Term) → AreFormsOf terms l.texts.texts → AreJoined terms l.dict l.read.items l.first;
}

abbrev pub decreases-loop-first : goal.decreases-loop-first
decreases-loop-first g l = l.count - l.first
