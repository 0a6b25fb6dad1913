use Rattle.std.proofs.Common.{arith, refl, subst, sym}
use Rattle.malformed_lines.specs.Counts.{AreDistinct, HasNone}
use Rattle.malformed_lines.proofs.CountLaws.{count_fits, count_grows, named_grows}
use Rattle.malformed_lines.proofs.TallyLaws.{distinct_kept, distinct_push, firsts_kept, none_kept, none_pushed, reason_at, sum_grows}
use Rattle.malformed_lines.proofs.reason_counts.ReasonCounts.add_reserved.Goals as goal

pub overflow_add-index_mut : goal.overflow_add-index_mut
overflow_add-index_mut c =
    let f = count_fits c.args.self.now.counts.items c.place_of-place.result c.index_mut.result.now (omega arith) c.index_mut.ensures.value in
    omega (arith, f, c.requires.countable)

pub returns-then-place-len-clause-total : goal.returns-then-place-len-clause-total
returns-then-place-len-clause-total c =
    count_grows c.args.self.now.counts.items c.place_of-place.result c.index_mut.result.now _ c.args.more.count (omega arith) c.index_mut.ensures.value refl

pub returns-then-place-len-clause-named : goal.returns-then-place-len-clause-named
returns-then-place-len-clause-named c = λ n lines h one.
    named_grows c.args.self.now.counts.items c.place_of-place.result c.index_mut.result.now _ n lines (omega arith) c.index_mut.ensures.value refl refl refl refl h

pub returns-then-place-len-clause-sums : goal.returns-then-place-len-clause-sums
returns-then-place-len-clause-sums c = λ test.
    let at = reason_at c.args.self.now.counts.items c.place_of-place.result c.index_mut.result.now c.args.more.reason (omega arith) c.index_mut.ensures.value (c.place_of-place.ensures.same (omega arith)) in
    sum_grows test c.args.self.now.counts.items c.place_of-place.result c.index_mut.result.now _ c.args.more (omega arith) c.index_mut.ensures.value refl refl at

pub returns-then-place-len-clause-firsts : goal.returns-then-place-len-clause-firsts
returns-then-place-len-clause-firsts c = λ singles h one.
    firsts_kept singles c.args.self.now.counts.items c.place_of-place.result c.index_mut.result.now _ (omega arith) c.index_mut.ensures.value refl refl refl refl h

pub returns-then-place-len-clause-complete : goal.returns-then-place-len-clause-complete
returns-then-place-len-clause-complete c = λ q h.
    none_kept c.args.self.now.counts.items c.place_of-place.result c.index_mut.result.now _ c.args.more c.args.more.reason (omega arith) c.index_mut.ensures.value refl (c.place_of-place.ensures.same (omega arith) c.args.more.reason) q h

pub returns-else-place-len-clause-complete : goal.returns-else-place-len-clause-complete
returns-else-place-len-clause-complete c = λ q h. none_pushed c.args.self.now.counts.items c.args.more q (subst (HasNone q) c.push_reserved.ensures.items h)

pub invariant_of-self : goal.invariant_of-self
invariant_of-self c = record {
  distinct = distinct_kept c.args.self.now.counts.items c.place_of-place.result c.index_mut.result.now _ (omega arith) c.index_mut.ensures.value refl c.args.self.now.distinct;
}

pub invariant_of-self-else-place-len : goal.invariant_of-self-else-place-len
invariant_of-self-else-place-len c = record {
  distinct = subst AreDistinct (sym c.push_reserved.ensures.items) (distinct_push c.args.self.now.counts.items c.args.more c.args.self.now.distinct (c.place_of-place.ensures.none (omega arith)));
}
