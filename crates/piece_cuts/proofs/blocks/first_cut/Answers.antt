use Rattle.std.proofs.Common.{rules, arith, ◌≡◌, subst, sym, ap, ◌∙◌, max, length, List, ℕ}
use Rattle.nquads_core.proofs.TransferSteps.{Stays-stays, in-part-more}
use Rattle.piece_cuts.specs.Cuts.{HasNoNextCut, IsNextCut}
use Rattle.piece_cuts.specs.Blocks.{HasNoCutUpTo}
use Rattle.piece_cuts.proofs.BlockSteps.{Grows-start, Grows-more, same_from_none, HasNoCutUpTo-start, HasNoCutUpTo-more, IsNextCut-clear, HasNoNextCut-clear}
use Rattle.piece_cuts.proofs.blocks.first_cut.Goals as goal

pub loop-place-init : goal.loop-place-init
loop-place-init g c = record {
  grows = Grows-start _ _;
  count = search rules;
  from = omega arith;
  clear = HasNoCutUpTo-start c.args.kept.now.items c.args.size;
}

pub loop-place-preserved : goal.loop-place-preserved
loop-place-preserved g c =
    let was = c.loop-place.invariant in
    let more = c.in-Ok.ensures.more in
    let none = subst (λ (xs : List ℕ). HasNoNextCut xs c.loop-place.searched 0) c.deref.ensures.value c.in_default.ensures.cut in
    record {
      grows = Grows-more _ _ _ _ _ _ _ was.grows more;
      count = Stays-stays _ _ _ was.count c.in-Ok.ensures.count;
      from = (let m = c.max-searched.ensures in let f = was.from in omega arith);
      clear =
          subst (λ (x : ℕ). HasNoCutUpTo c.read_more.new.bytes.items c.args.size x) (sym (c.max-searched.ensures ∙ ap (max c.loop-place.searched) (c.len.ensures ∙ sym (ap length (sym c.deref.ensures.value) ∙ c.deref.ensures.len))))
          (HasNoCutUpTo-more c.loop-place.kept.items more.added c.read_more.new.bytes.items c.args.size c.loop-place.searched c.requires.some was.clear none more.appended);
    }

pub returns-in-Ok-eq0-clause-grows : goal.returns-in-Ok-eq0-clause-grows
returns-in-Ok-eq0-clause-grows g c = Grows-more _ _ _ _ _ _ _ c.loop-place.invariant.grows c.in-Ok-eq0.ensures.more

pub returns-in-Ok-eq0-clause-cut : goal.returns-in-Ok-eq0-clause-cut
returns-in-Ok-eq0-clause-cut g c =
    let was = c.loop-place.invariant in
    let none : c.in-Ok-eq0.field-0 ≡ 0 = search rules in
    let same = same_from_none _ _ _ _ _ none c.in-Ok-eq0.ensures.more in
    let no_cut = subst (λ (xs : List ℕ). HasNoNextCut xs c.loop-place.searched 0) c.deref.ensures.value c.in_default.ensures.cut in
    (subst (λ (xs : List ℕ). HasNoNextCut xs c.args.size 0) (sym same) (HasNoNextCut-clear _ c.args.size c.loop-place.searched was.clear no_cut), c.in-Ok-eq0.ensures.more.at_end none)

pub returns-in-Some-clause-cut : goal.returns-in-Some-clause-cut
returns-in-Some-clause-cut g c =
    let was = c.loop-place.invariant in
    let cut = subst (λ (xs : List ℕ). IsNextCut xs c.loop-place.searched 0 c.in-Some.place) c.deref.ensures.value c.in-Some.ensures.cut in
    IsNextCut-clear _ c.args.size c.loop-place.searched c.in-Some.place was.from was.clear cut

pub returns-in-Err-clause-taken : goal.returns-in-Err-clause-taken
returns-in-Err-clause-taken g c = in-part-more _ _ _ c.loop-place.invariant.grows.added c.loop-place.invariant.grows.consumed c.in-Err.ensures.taken

pub returns-in-Ok-eq0-clause-count : goal.returns-in-Ok-eq0-clause-count
returns-in-Ok-eq0-clause-count g c = Stays-stays _ _ _ c.loop-place.invariant.count c.in-Ok-eq0.ensures.count

pub returns-in-Some-clause-count : goal.returns-in-Some-clause-count
returns-in-Some-clause-count g c = c.loop-place.invariant.count
