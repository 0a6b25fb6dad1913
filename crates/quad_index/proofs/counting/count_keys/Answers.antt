use Rattle.std.proofs.Common.{length, nat_eq, ap, ◌∙◌, subst, arith}
use Rattle.std.proofs.lemmas.List.Filters.{dedup_is}
use Rattle.quad_index.specs.Counting.{names_after}
use Rattle.quad_index.specs.Packed.{AreKeys}
use Rattle.quad_index.proofs.CountingLaws.{counted}
use Rattle.quad_index.proofs.counting.count_keys.Goals as goal

pub returns : goal.returns
returns c =
    let once = dedup_is nat_eq _ _ c.dedup.ensures.filtered in record {
      counts = λ order. counted order c.args.keys.items c.sort.new.self.items _ (subst AreKeys c.as_slice.ensures.value c.keys_fit.ensures.fit) c.sort.ensures.permutation c.in_ok-sort.ensures.sorted
          (omega (arith, c.len.ensures, c.dedup.new.self.ok.0, ap length once)) (c.count_graphs.ensures.names ∙ ap (names_after 0) (c.as_slice-2.ensures.value ∙ once));
    }
