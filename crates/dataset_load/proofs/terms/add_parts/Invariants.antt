use Rattle.std.proofs.Common.{ℕ, List}
use Rattle.std.specs.Vec.Iter.{into_iter_items}
use Rattle.rdf_core.specs.declared.term.Term.{Term}
use Rattle.dataset_load.specs.Terms.{AreJoined}
use Rattle.dataset_load.proofs.terms.add_parts.Given as goal

abbrev pub invariant-loop-part : goal.invariant-loop-part
invariant-loop-part l =
    (terms : List Term) (end : ℕ) → AreJoined terms l.fn.dict l.fn.parts.items end
    → AreJoined terms l.dict (into_iter_items l.part-iterator) end
