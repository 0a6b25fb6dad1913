use Rattle.std.proofs.Common.{length, ◌∙◌}
use Rattle.row_core.specs.RowList.{rows_in}
use Rattle.row_join.proofs.KeyTableLaws.{search-shown}
use Rattle.row_join.proofs.keys.Keys.place.Goals as goal

pub find-requires : goal.find-requires
find-requires c =
    record {
      long = rw (c.deref.ensures.value, c.deref-3.ensures.value) c.self.invariant.0;
      table = rw (c.deref.ensures.value, c.deref-2.ensures.value, c.deref-3.ensures.value) c.self.invariant.1;
    }

pub returns : goal.returns
returns c =
    let r = c.self.inside in
    record {
      value = search-shown r.width c.deref.result.now c.deref-3.result.now c.args.key.now c.args.self.now
          ((λ j. record { width = r.width; keys = rows_in r.width r.width (length (c.deref-3.ensures.value j)) (c.deref.ensures.value j) }) ∙ c.self.view_is)
          c.find.result c.find.ensures.value;
    }
