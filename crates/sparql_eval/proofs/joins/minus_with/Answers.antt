use Rattle.std.proofs.Common.{◌≡◌, nat_eq}
use Rattle.rdf_core.proofs.TermLaws.{term_eq}
use Rattle.algebra_model.specs.Bag.{IsSameBag}
use Rattle.algebra_model.specs.Operators.{minus}
use Rattle.row_pieces.specs.declared.fault.EvalFault.TheVariants.{Memory}
use Rattle.sparql_eval.specs.Evaluated.{IsEvaluated, solutions_of}
use Rattle.sparql_eval.proofs.JoinSteps.{subtracted}
use Rattle.sparql_eval.proofs.ReturnSteps.{IfOk-both, returned, faulted}
use Rattle.sparql_eval.proofs.joins.minus_with.Goals as goal

pub returns-clause-evaluated : goal.returns-clause-evaluated
returns-clause-evaluated g c =
    let terms = c.args.dict in
    let left = c.args.left.now in
    let right = c.args.right.now in
    let A = minus term_eq (solutions_of terms left) (solutions_of terms right) in
    returned c.minus-made.result c.with_dict.result (λ m t. IsEvaluated terms left.width A m t) terms
    c.with_dict.ensures.rows c.with_dict.ensures.same_dict
    (IfOk-both c.minus-made.result (λ m. m.width ≡ left.width) (λ m. IsSameBag m.rows (minus nat_eq left.rows right.rows)) (λ m. IsEvaluated terms left.width A m terms)
    (λ m wide bag. subtracted terms c.len-distinct.ensures.distinct left right m c.requires.known_left c.requires.known_right wide bag)
    c.minus-made.ensures.width c.minus-made.ensures.rows)

pub returns-clause-alone : goal.returns-clause-alone
returns-clause-alone g c = λ h. faulted c.minus-made.result c.with_dict.result (λ fault. fault ≡ Memory) c.with_dict.ensures.fault (c.minus-made.ensures.alone h)

pub returns-clause-one_worker : goal.returns-clause-one_worker
returns-clause-one_worker g c = λ h. faulted c.minus-made.result c.with_dict.result (λ fault. fault ≡ Memory) c.with_dict.ensures.fault (c.minus-made.ensures.one_worker h)
