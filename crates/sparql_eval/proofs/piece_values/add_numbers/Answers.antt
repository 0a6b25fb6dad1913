use Rattle.std.proofs.Common.{◌≡◌, ◌+◌, ◌<◌, ◌++◌, ◌∷◌, [], List, Option, ℕ, zero, suc, append_assoc, get_or, length, map, take, sym, ap, ◌∙◌, arith}
use Rattle.std.proofs.lemmas.List.{map-append, take_all, take_more}
use Rattle.algebra_model.specs.Renaming.{Each}
use Rattle.sparql_eval.specs.declared.piece_values.PieceValue.{PieceValue}
use Rattle.sparql_eval.specs.declared.piece_values.PieceValue.TheVariants.{Error}
use Rattle.sparql_eval.specs.Values.{IsOwnBelow, value_number}
use Rattle.sparql_eval.proofs.piece_values.add_numbers.Goals as goal

own_at : (n : ℕ) (values : List PieceValue) (i : ℕ) → i < length values → Each (IsOwnBelow n) values → IsOwnBelow n (get_or values i Error)
own_at n [] i low h = absurd (omega arith)
own_at n (value ∷ values) zero low h = h.0
own_at n (value ∷ values) (suc i) low h = own_at n values i (omega arith) h.1

numbers_step : (own : List ℕ) (values : List PieceValue) (i : ℕ) (before old new : List (Option ℕ)) (number : Option ℕ) → i < length values
    → old ≡ before ++ map (value_number own) (take i values) → new ≡ old ++ number ∷ [] → number ≡ value_number own (get_or values i Error)
    → new ≡ before ++ map (value_number own) (take (i + 1) values)
numbers_step own values i before old new number low was pushed is =
    let value = get_or values i Error in
    pushed ∙ (λ j. was j ++ is j ∷ []) ∙ append_assoc before (map (value_number own) (take i values)) (value_number own value ∷ [])
    ∙ ap (λ l. before ++ l) (sym (ap (map (value_number own)) (take_more values i Error low) ∙ map-append (value_number own) (take i values) (value ∷ [])))

pub number_value-requires : goal.number_value-requires
number_value-requires c = record { own = own_at _ c.args.values.now c.loop-value.value-index c.loop-value-test.true c.requires.own }

pub loop-value-preserved : goal.loop-value-preserved
loop-value-preserved c =
    numbers_step c.args.own_numbers.now c.args.values.now c.loop-value.value-index c.args.numbers.now.items c.loop-value.numbers.items c.push.new.self.items c.number_value.result
    c.loop-value-test.true c.loop-value.invariant c.in_ok-push.ensures.items c.number_value.ensures.value

pub returns : goal.returns
returns c =
    record {
      added = c.loop-value.invariant
          ∙ ap (λ (l : List PieceValue). c.args.numbers.now.items ++ map (value_number c.args.own_numbers.now) l) (take_all c.loop-value.value-index c.args.values.now c.loop-value-test.false);
    }
