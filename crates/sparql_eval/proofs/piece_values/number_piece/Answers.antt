use Rattle.std.proofs.Common.{ℕ, List, ◌++◌, length, map, sym, ◌∙◌, subst}
use Rattle.algebra_model.specs.Renaming.{Each}
use Rattle.sparql_eval.specs.declared.piece_values.PieceValue.{PieceValue}
use Rattle.sparql_eval.specs.Values.{IsOwnBelow, value_number}
use Rattle.sparql_eval.proofs.ValueSteps.{absorbed_grown, own_below, numbers_more}
use Rattle.sparql_eval.proofs.TakingLaws.{takes_absorbed}
use Rattle.sparql_eval.proofs.piece_values.number_piece.Goals as goal

pub add_numbers-requires : goal.add_numbers-requires
add_numbers-requires c =
    let old = c.args.dict.now in
    let new = c.absorb.new.self in
    let own = c.args.piece.own in
    let values = c.args.piece.values.items in
    let numbers = c.in_ok-own_numbers.own_numbers.items in
    let grown = absorbed_grown old own new c.len-distinct.ensures.distinct c.in_ok-own_numbers.ensures.terms in
    let below = own_below old new own numbers grown c.in_ok-own_numbers.ensures.numbers values c.requires.known in
    record {
      own = subst (λ (l : List PieceValue). Each (IsOwnBelow (length c.as_slice.result.now)) l) (sym c.as_slice-2.ensures.value)
          (subst (λ (l : List ℕ). Each (IsOwnBelow (length l)) values) (sym c.as_slice.ensures.value) below);
    }

pub returns : goal.returns
returns c =
    let old = c.args.dict.now in
    let new = c.absorb.new.self in
    let own = c.args.piece.own in
    let values = c.args.piece.values.items in
    let numbers = c.in_ok-own_numbers.own_numbers.items in
    let grown = absorbed_grown old own new c.len-distinct.ensures.distinct c.in_ok-own_numbers.ensures.terms in
    let added = c.in_ok-add_numbers.ensures.added
    ∙ (λ i. c.args.numbers.now.items ++ map (value_number (c.as_slice.ensures.value i)) (c.as_slice-2.ensures.value i)) in
    let more = numbers_more old new own numbers grown c.in_ok-own_numbers.ensures.numbers c.args.numbers.now.items c.add_numbers.new.numbers.items values c.requires.numbers c.requires.known added in
    record { grown = grown; known = more.0; read = more.1; needed = takes_absorbed old own new c.in_ok-own_numbers.ensures.terms }
