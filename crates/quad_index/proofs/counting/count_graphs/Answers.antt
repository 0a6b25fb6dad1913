use Rattle.std.proofs.Common.{inl, inr, arith}
use Rattle.quad_index.proofs.CountingLaws.{all_names, new_name, old_name}
use Rattle.quad_index.proofs.counting.count_graphs.Goals as goal
use Rattle.quad_index.proofs.counting.count_graphs.Goals.{then-name-ne0+then-name-last, else-name-ne0, else-name-ne0-via-then-name-ne0+else-name-last, else-name-ne0-via-else-name-ne0}

pub loop-key-preserved : goal.loop-key-preserved
loop-key-preserved c =
    let was = c.loop-key.invariant in
    elim c.if-name-ne0.branch [
      | then-name-ne0+then-name-last w ↦ record {
        names = rw (w.count-is, w.last-is) (new_name c.args.keys.now c.loop-key.key-index c.loop-key.count c.loop-key.last c.graph_key_of-name.result c.loop-key-test.true c.graph_key_of-name.ensures.graph was.names
            w.if-name-ne0.true w.if-name-last.true);
        few = omega (arith, w.count-is, was.few);
      }
      | else-name-ne0 w ↦ record {
        names = rw (w.count-is, w.last-is) (old_name c.args.keys.now c.loop-key.key-index c.loop-key.count c.loop-key.last c.graph_key_of-name.result c.loop-key-test.true c.graph_key_of-name.ensures.graph was.names
            (elim w.else-name-ne0.branch [
              | else-name-ne0-via-then-name-ne0+else-name-last w' ↦ inr w'.if-name-last.false
              | else-name-ne0-via-else-name-ne0 w' ↦ inl w'.if-name-ne0.false
            ]));
        few = omega (arith, w.count-is, was.few);
      }
    ]

pub returns-clause-names : goal.returns-clause-names
returns-clause-names c = all_names c.args.keys.now c.loop-key.key-index c.loop-key.count c.loop-key.last c.loop-key-test.false c.loop-key.invariant.names
