use Rattle.std.proofs.Common.{Vec, Global, get_or, sym, subst, arith}
use Rattle.sparql_eval.specs.Fitting.{Requires, fits}
use Rattle.sparql_eval.specs.declared.equalities.Equality.{Equality}
use Rattle.sparql_eval.proofs.FittingSteps.{fits-get, fits-some}
use Rattle.sparql_eval.proofs.keyed_rows.join_keys.Goals as goal
use Rattle.sparql_eval.proofs.keyed_rows.join_keys.Goals.{in-Some+in_ok-add_key, in_default}

pub loop-i-preserved : goal.loop-i-preserved
loop-i-preserved c =
    let pairs = c.args.pairs.now in
    let was = c.loop-i.invariant in
    elim c.match-oriented.branch [
      | in-Some+in_ok-add_key w ↦
          subst (λ (v : Vec Equality Global). Requires (fits pairs) v.items) (sym w.keys-is)
          (w.in_ok-add_key.ensures.required (fits pairs)
          (fits-some (get_or pairs c.loop-i.i _) pairs c.oriented.result w.in-Some.key w.in-Some.is c.oriented.ensures.required (fits-get pairs c.loop-i.i _ (omega arith))) was)
      | in_default w ↦ subst (λ (v : Vec Equality Global). Requires (fits pairs) v.items) (sym w.keys-is) was
    ]
