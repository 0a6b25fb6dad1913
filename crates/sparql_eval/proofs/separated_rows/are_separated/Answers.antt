use Rattle.std.proofs.Common.{◌≡◌, nat_eq, true}
use Rattle.std.proofs.lemmas.Bool.{OnTrue_at, OnTrue_from}
use Rattle.algebra_model.specs.Solution.{is_compatible}
use Rattle.sparql_eval.proofs.separated_rows.are_separated.Goals as goal

pub returns-then-is_compatible : goal.returns-then-is_compatible
returns-then-is_compatible c =
    let meet : is_compatible nat_eq c.args.row.now c.args.other.now ≡ true = cc in
    record { unfit = OnTrue_from c.have_different_keys.result _ (λ yes. OnTrue_at yes c.have_different_keys.ensures.unfit meet) }
