use Rattle.std.proofs.Common.{◌≡◌, ◌+◌, ◌++◌, ◌∷◌, [], ◌&&◌, List, ℕ, Bool, true, length, if◌then◌else◌, sym, ap, ◌∙◌, arith, append-nil}
use Rattle.std.proofs.lemmas.List.{length-append}
use Rattle.algebra_model.specs.Solution.{Solution, merge}
use Rattle.row_join.specs.Numbers.{passes}
use Rattle.row_join.specs.Pairing.{row_if}
use Rattle.row_join.specs.Row.{row_of}
use Rattle.row_join.proofs.NumberLaws.{passes-merge}
use Rattle.row_join.proofs.TurnLaws.{last_added, without_last}
use Rattle.row_join.proofs.merging.add_merge.Goals as goal

-- the rows after the merge of compatible rows
with_merge : (old new : List (Solution ℕ)) (μ : Solution ℕ) (b : Bool) → new ≡ (if b then old ++ μ ∷ [] else old) → b ≡ true → new ≡ old ++ μ ∷ []
with_merge old new μ b e met = e ∙ ap (λ b. if b then old ++ μ ∷ [] else old) met

pub keeps_last-requires : goal.keeps_last-requires
keeps_last-requires g c =
    let knows = g.T.RowTest.knows c.args.test.now in
    let old = c.args.made.now.rows in
    let new = c.push_merge.new.self.rows in
    let μ = merge (row_of c.args.row) (row_of c.args.other) in
    let put = with_merge old new μ c.in_ok-compatible.compatible c.in_ok-compatible.ensures.merged c.if-not-compatible.false in
    let long : length c.push_merge.new.self.rows ≡ length old + 1 = ap length put ∙ length-append old (μ ∷ []) in
    record {
      some = omega arith;
      known = ap (passes knows) (last_added μ old new put) ∙ passes-merge knows (row_of c.args.row) (row_of c.args.other) c.requires.row_known c.requires.other_known;
    }

pub pop-requires : goal.pop-requires
pop-requires g c =
    let old = c.args.made.now.rows in
    let μ = merge (row_of c.args.row) (row_of c.args.other) in
    let put = with_merge old c.push_merge.new.self.rows μ c.in_ok-compatible.compatible c.in_ok-compatible.ensures.merged c.if-not-compatible.false in
    let long : length c.push_merge.new.self.rows ≡ length old + 1 = ap length put ∙ length-append old (μ ∷ []) in
    record { some = omega arith }

pub returns-then-not-kept : goal.returns-then-not-kept
returns-then-not-kept g c =
    let keeps = g.T.RowTest.keeps c.args.test.now in
    let old = c.args.made.now.rows in
    let new = c.push_merge.new.self.rows in
    let μ = merge (row_of c.args.row) (row_of c.args.other) in
    let put = with_merge old new μ c.in_ok-compatible.compatible c.in_ok-compatible.ensures.merged c.if-not-compatible.false in
    record {
      rows = c.pop.ensures.popped ∙ without_last μ old new put ∙ sym (append-nil old) ∙ ap (λ b. old ++ row_if b μ) (sym c.if-not-kept.true);
      added =
          c.in_ok-kept.ensures.value ∙ ap keeps (last_added μ old new put)
          ∙ ap (λ b. b && keeps μ) (sym c.if-not-compatible.false ∙ c.in_ok-compatible.ensures.met);
      width = c.pop.ensures.width ∙ c.in_ok-compatible.ensures.width;
    }

pub returns-else-not-kept : goal.returns-else-not-kept
returns-else-not-kept g c =
    let keeps = g.T.RowTest.keeps c.args.test.now in
    let old = c.args.made.now.rows in
    let new = c.push_merge.new.self.rows in
    let μ = merge (row_of c.args.row) (row_of c.args.other) in
    let put = with_merge old new μ c.in_ok-compatible.compatible c.in_ok-compatible.ensures.merged c.if-not-compatible.false in
    record {
      rows = put ∙ ap (λ b. old ++ row_if b μ) (sym c.if-not-kept.false);
      added =
          c.in_ok-kept.ensures.value ∙ ap keeps (last_added μ old new put)
          ∙ ap (λ b. b && keeps μ) (sym c.if-not-compatible.false ∙ c.in_ok-compatible.ensures.met);
      width = c.in_ok-compatible.ensures.width;
    }
