use Rattle.std.proofs.Common.{◌≡◌, ◌<◌, [], ◌∷◌, ◌++◌, length, get_or, sym, ap, subst, ◌∙◌}
use Rattle.sparql_algebra.specs.Names.{is_name_among, number_of}
use Rattle.sparql_algebra.proofs.ListSteps.{kept_image, passed_image}
use Rattle.sparql_algebra.proofs.translation.numbers_in_scope.Goals as goal
use Rattle.sparql_algebra.proofs.translation.numbers_in_scope.Goals.{then-contains+in_ok-push, else-contains}

pub loop-name-preserved : goal.loop-name-preserved
loop-name-preserved c =
    let names = c.args.names.now in
    let i = c.loop-name.name-index in
    let x = c.name-item.result in
    let made = c.loop-name.numbers.items in
    let lt : i < length names = subst (λ l. i < length l) c.as_slice-name-items.ensures.names c.loop-name-test.true in
    let is : x ≡ get_or names i x = c.name-item.is ∙ ap (λ l. get_or l i x) c.as_slice-name-items.ensures.names in
    elim c.if-contains.branch [
      | then-contains+in_ok-push w ↦ kept_image (number_of names) (λ y. is_name_among y c.args.scope.now) names i x made _ _ lt is
          (sym w.if-contains.true ∙ c.contains.ensures.among)
          ((λ t. (w.numbers-is t).items) ∙ w.in_ok-push.ensures.items ∙ ap (λ n. made ++ n ∷ []) w.number.ensures.number) c.loop-name.invariant
      | else-contains w ↦ passed_image (number_of names) (λ y. is_name_among y c.args.scope.now) names i x made _ _ lt is
          (sym w.if-contains.false ∙ c.contains.ensures.among)
          (λ t. (w.numbers-is t).items) c.loop-name.invariant
    ]
