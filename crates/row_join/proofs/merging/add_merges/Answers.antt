use Rattle.std.proofs.Common.{◌≡◌, ◌++◌, ◌&&◌, [], not, true, false, Bool, ℕ, get_or, nat_eq, sym, ap, ◌∙◌, refl, arith}
use Rattle.algebra_model.specs.Solution.{is_compatible, merge}
use Rattle.row_join.specs.Pairing.{row_if}
use Rattle.row_join.specs.Row.{row_of}
use Rattle.row_join.specs.Tried.{places_of}
use Rattle.row_join.proofs.PairLaws.{kept-tried, tried-alone}
use Rattle.row_join.proofs.TurnLaws.{kept-turn, alone-turn, row_passes}
use Rattle.row_join.proofs.merging.add_merges.Goals as goal
use Rattle.row_join.proofs.merging.add_merges.Goals.{then-branch, else-branch}

pub add_merge-requires-clause-other_known : goal.add_merge-requires-clause-other_known
add_merge-requires-clause-other_known g c = row_passes (g.T.RowTest.knows c.args.test.now) c.args.right.now.rows.now.rows _ c.requires.right_known

and_true : (b : Bool) → b ≡ (b && true)
and_true true = refl
and_true false = refl

and_false : (b : Bool) → false ≡ (b && false)
and_false true = refl
and_false false = refl

pub returns-clause-rows : goal.returns-clause-rows
returns-clause-rows g c =
    let right = c.args.right.now in
    let rows = right.rows.now.rows in
    let row = row_of c.args.row in
    let places = places_of c.in_ok-tried.tried in
    let keeps = g.T.RowTest.keeps c.args.test.now in
    let old = c.args.made.now.rows in
    kept-tried right.key.items row rows places c.in_ok-tried.ensures.tried c.loop-i.i (omega arith) keeps old c.loop-i.made.rows c.loop-i.invariant.rows

pub returns-clause-alone : goal.returns-clause-alone
returns-clause-alone g c =
    let right = c.args.right.now in
    let rows = right.rows.now.rows in
    let row = row_of c.args.row in
    let places = places_of c.in_ok-tried.tried in
    let keeps = g.T.RowTest.keeps c.args.test.now in
    tried-alone right.key.items row rows places c.in_ok-tried.ensures.tried c.loop-i.i (omega arith) keeps c.loop-i.alone c.loop-i.invariant.alone

pub returns-clause-width : goal.returns-clause-width
returns-clause-width g c = c.loop-i.invariant.width

pub loop-i-preserved : goal.loop-i-preserved
loop-i-preserved g c =
    let keeps = g.T.RowTest.keeps c.args.test.now in
    let rows = c.args.right.now.rows.now.rows in
    let places = places_of c.in_ok-tried.tried in
    let row = row_of c.args.row in
    let other = get_or rows c.place.result [] in
    let here = ap (λ (k : ℕ). get_or rows k []) (sym c.place.ensures.value) in
    let was = c.loop-i.alone in
    let compatible = is_compatible nat_eq row other in
    let kept = compatible && keeps (merge row other) in
    let added = c.in_ok-add_merge.ensures.added in
    let lone = alone-turn rows places c.loop-i.i row other (omega arith) here
    keeps was c.if-branch.alone compatible (keeps (merge row other)) refl (λ _. refl) c.loop-i.invariant.alone in
    record {
      width = c.in_ok-add_merge.ensures.width ∙ c.loop-i.invariant.width;
      rows = kept-turn rows places c.loop-i.i row other (omega arith) here
          keeps c.args.made.now.rows c.loop-i.made.rows c.add_merge.new.made.rows compatible (keeps (merge row other)) refl (λ _. refl) c.loop-i.invariant.rows
          (c.in_ok-add_merge.ensures.rows ∙ ap (λ (b : Bool). c.loop-i.made.rows ++ row_if b (merge row other)) {y = kept} added);
      alone = elim c.if-branch.branch [
        | then-branch w ↦ lone (w.alone-is ∙ and_false was ∙ ap (λ (b : Bool). was && not b) {y = kept} (sym w.if-branch.true ∙ added))
        | else-branch w ↦ lone (w.alone-is ∙ and_true was ∙ ap (λ (b : Bool). was && not b) {y = kept} (sym w.if-branch.false ∙ added))
      ];
    }
