use Rattle.std.proofs.Common.{◌≡◌, nat_eq}
use Rattle.rdf_core.proofs.TermLaws.{term_eq}
use Rattle.algebra_model.specs.Bag.{IsSameBag}
use Rattle.algebra_model.specs.Operators.{join}
use Rattle.row_pieces.specs.declared.fault.EvalFault.TheVariants.{Memory}
use Rattle.sparql_eval.specs.Evaluated.{IsEvaluated, solutions_of}
use Rattle.sparql_eval.proofs.JoinSteps.{joined}
use Rattle.sparql_eval.proofs.ReturnSteps.{IfOk-both, returned, faulted}
use Rattle.sparql_eval.proofs.joins.join_with.Goals as goal

pub returns-clause-evaluated : goal.returns-clause-evaluated
returns-clause-evaluated g c =
    let terms = c.args.dict in
    let left = c.args.left.now in
    let right = c.args.right.now in
    let A = join term_eq (solutions_of terms left) (solutions_of terms right) in
    returned c.join-made.result c.with_dict.result (λ m t. IsEvaluated terms left.width A m t) terms
    c.with_dict.ensures.rows c.with_dict.ensures.same_dict
    (IfOk-both c.join-made.result (λ m. m.width ≡ left.width) (λ m. IsSameBag m.rows (join nat_eq left.rows right.rows)) (λ m. IsEvaluated terms left.width A m terms)
    (λ m wide bag. joined terms c.len-distinct.ensures.distinct left right m c.requires.known_left c.requires.known_right wide bag)
    c.join-made.ensures.width c.join-made.ensures.rows)

pub returns-clause-alone : goal.returns-clause-alone
returns-clause-alone g c = λ h. faulted c.join-made.result c.with_dict.result (λ fault. fault ≡ Memory) c.with_dict.ensures.fault (c.join-made.ensures.alone h)

pub returns-clause-one_worker : goal.returns-clause-one_worker
returns-clause-one_worker g c = λ h. faulted c.join-made.result c.with_dict.result (λ fault. fault ≡ Memory) c.with_dict.ensures.fault (c.join-made.ensures.one_worker h)
