use Rattle.std.proofs.Common.{List, ◌++◌, Contains, Option, sym, ap, ◌∙◌, subst, append_assoc}
use Rattle.std.specs.List.{flat_map}
use Rattle.std.specs.Vec.Iter.{into_iter_items}
use Rattle.std.proofs.lemmas.List.Elements.{Contains-append_left, Contains-append_right}
use Rattle.rdf_core.specs.declared.term.Term.{Term}
use Rattle.algebra_model.specs.Renaming.{Each}
use Rattle.sparql_eval.specs.declared.piece_values.PieceValues.{PieceValues}
use Rattle.sparql_eval.specs.Values.{IsPieceIn, own_terms, piece_terms}
use Rattle.sparql_eval.proofs.ReadingLaws.{grown_twice, read_by}
use Rattle.sparql_eval.proofs.TakingLaws.{takes_twice, takes_more}
use Rattle.sparql_eval.proofs.ValueSteps.{piece_kept}
use Rattle.sparql_eval.proofs.piece_values.number_values.Goals as goal

pub number_piece-requires-clause-known : goal.number_piece-requires-clause-known
number_piece-requires-clause-known c =
    let was = c.loop-piece.invariant in
    let rest = subst (Each (IsPieceIn c.args.dict.now)) c.in-Some.ensures.steps.0 was.rest in
    (piece_kept c.args.dict.now c.loop-piece.dict was.grown c.in-Some.piece rest.0).0

pub loop-piece-preserved : goal.loop-piece-preserved
loop-piece-preserved c =
    let was = c.loop-piece.invariant in
    let start = c.args.dict.now in
    let now = c.loop-piece.dict in
    let later = c.number_piece.new.dict in
    let piece = c.in-Some.piece in
    let left = into_iter_items c.next.new.self in
    let done = read_by now c.loop-piece.numbers.items in
    let rest = subst (Each (IsPieceIn start)) c.in-Some.ensures.steps.0 was.rest in
    let read = c.in_ok-number_piece.ensures.read ∙ ap (λ (l : List (Option Term)). done ++ l) (piece_kept start now was.grown piece rest.0).1 in
    let all = flat_map own_terms c.args.pieces.items in
    let others = flat_map own_terms left in
    let among : (t : Term) → Contains (piece.own ++ others) t → Contains all t =
    λ t h. was.left t (subst (λ (l : List PieceValues). Contains (flat_map own_terms l) t) (sym c.in-Some.ensures.steps.0) h) in
    record {
      grown = grown_twice start now later was.grown c.in_ok-number_piece.ensures.grown;
      known = c.in_ok-number_piece.ensures.known;
      rest = rest.1;
      read =
          ap (λ (l : List (Option Term)). l ++ flat_map (piece_terms start) left) read
          ∙ append_assoc done (piece_terms start piece) (flat_map (piece_terms start) left)
          ∙ ap (λ (l : List PieceValues). done ++ flat_map (piece_terms start) l) (sym c.in-Some.ensures.steps.0) ∙ was.read;
      left = λ t h. among t (Contains-append_right piece.own others t h);
      needed =
          takes_twice (Contains all) start now later was.needed
          (takes_more (Contains piece.own) (Contains all) now later (λ t h. among t (Contains-append_left piece.own others t h)) c.in_ok-number_piece.ensures.needed);
    }
