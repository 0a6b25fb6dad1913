use Rattle.query_plan.proofs.planning.plan_query.Goals as goal

pub returns-then-not-branch-clause-refused : goal.returns-then-not-branch-clause-refused
returns-then-not-branch-clause-refused c = c.in_ok-meets_condition.ensures.none c.if-not-branch.true
