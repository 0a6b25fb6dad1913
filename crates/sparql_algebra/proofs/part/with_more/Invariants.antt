use Rattle.std.proofs.Common.{◌≡◌, ◌++◌, drop, map}
use Rattle.sparql_algebra.proofs.part.with_more.Given as goal

abbrev pub invariant-loop-triple : goal.invariant-loop-triple
invariant-loop-triple l =
    map (λ t. t.now) l.all.items ++ drop l.triple-index l.more ≡ map (λ t. t.now) l.fn.others.items ++ l.more
