use Rattle.std.proofs.Common.{◌≡◌, ◌∷◌, ◌++◌, flat_map, take}
use Rattle.result_merge.specs.Reading.{texts_of}
use Rattle.result_merge.proofs.merging.put_others.Given as goal

abbrev pub invariant-loop-k : goal.invariant-loop-k
invariant-loop-k l = l.out.items ≡ l.initial.out.items ++ flat_map (λ text. 44 ∷ text) (texts_of (take l.k l.rows))
