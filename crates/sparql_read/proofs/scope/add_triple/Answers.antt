use Rattle.std.proofs.Common.{◌++◌}
use Rattle.std.proofs.lemmas.Result.{on_ok_weaker}
use Rattle.sparql_tree.specs.Scope.{place_names}
use Rattle.sparql_read.proofs.SetLaws.{same_then}
use Rattle.sparql_read.proofs.scope.add_triple.Goals as goal

pub returns : goal.returns
returns c =
    let t = c.args.triple.now in
    record {
      names = on_ok_weaker c.add_place-3.result
          (λ h. same_then c.args.scope.now (place_names t.subject) (place_names t.predicate ++ place_names t.object) c.in_ok-add_place.ensures.names
          (same_then c.add_place.new.scope (place_names t.predicate) (place_names t.object) c.in_ok-add_place-2.ensures.names h))
          c.add_place-3.ensures.names;
    }
