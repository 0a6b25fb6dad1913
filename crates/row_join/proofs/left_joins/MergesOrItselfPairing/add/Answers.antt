use Rattle.std.proofs.Common.{◌++◌, sym, ap, ◌∙◌}
use Rattle.std.proofs.lemmas.List.{append-nil}
use Rattle.row_join.specs.Pairing.{row_if}
use Rattle.row_join.specs.Row.{row_of}
use Rattle.row_join.proofs.PairLaws.{left_row-added}
use Rattle.row_join.proofs.left_joins.MergesOrItselfPairing.add.Goals as goal

pub returns-in_ok-push_row-clause-rows : goal.returns-in_ok-push_row-clause-rows
returns-in_ok-push_row-clause-rows g c =
    left_row-added (g.T.RowTest.keeps c.args.self.now.test.now) c.args.right.now.rows.now.rows (row_of c.args.row) c.args.made.now.rows c.add_merges.new.made.rows c.push_row.new.self.rows
    c.in_ok-add_merges.ensures.rows
    (c.in_ok-push_row.ensures.added ∙ ap (λ b. c.add_merges.new.made.rows ++ row_if b (row_of c.args.row)) (sym c.if-branch.true ∙ c.in_ok-add_merges.ensures.alone))

pub returns-else-branch-clause-rows : goal.returns-else-branch-clause-rows
returns-else-branch-clause-rows g c =
    left_row-added (g.T.RowTest.keeps c.args.self.now.test.now) c.args.right.now.rows.now.rows (row_of c.args.row) c.args.made.now.rows c.add_merges.new.made.rows c.add_merges.new.made.rows
    c.in_ok-add_merges.ensures.rows
    (sym (append-nil c.add_merges.new.made.rows) ∙ ap (λ b. c.add_merges.new.made.rows ++ row_if b (row_of c.args.row)) (sym c.if-branch.false ∙ c.in_ok-add_merges.ensures.alone))
