use Rattle.std.proofs.Common.{rules, ◌≡◌}
use Rattle.std.proofs.lemmas.List.Elements.{All-push, All-contains, Contains-push}
use Rattle.piece_board.specs.Pass.{unused}
use Rattle.piece_pool.specs.Worked.{IsWorked}
use Rattle.piece_pool.proofs.running.work_alone.Goals as goal

pub work-requires : goal.work-requires
work-requires g c =
    let all = rw c.in-Some.ensures.items at c.requires.unused in
    record { unused = All-contains (λ p. p ≡ unused c.args.board.now.id c.args.board.now.pieces) _ c.in-Some.pass all (Contains-push _ c.in-Some.pass) }

pub returns-clause-works : goal.returns-clause-works
returns-clause-works g c =
    rw c.push_reserved.ensures.items (All-push (IsWorked (g.J.Job.answers c.args.job.now) (g.J.Job.faults c.args.job.now) c.args.board.now) _ _ (search rules) c.work.ensures.worked)
