use Rattle.std.proofs.Common.{◌≡◌, ◌++◌, Contains}
use Rattle.std.specs.List.{flat_map}
use Rattle.std.specs.Vec.Iter.{into_iter_items}
use Rattle.rdf_core.specs.declared.term.Term.{Term}
use Rattle.algebra_model.specs.Renaming.{Each}
use Rattle.dict_core.specs.Dict.{IsGrown}
use Rattle.sparql_eval.specs.Computed.{TakesOnly}
use Rattle.sparql_eval.specs.Values.{IsPieceIn, own_terms, piece_terms}
use Rattle.sparql_eval.proofs.ReadingLaws.{Known, read_by}
use Rattle.sparql_eval.proofs.piece_values.number_values.Given as goal

abbrev pub invariant-loop-piece : goal.invariant-loop-piece
invariant-loop-piece l = record {
  grown : IsGrown l.fn.dict l.dict;
  known : Known l.dict l.numbers.items;
  rest : Each (IsPieceIn l.fn.dict) (into_iter_items l.piece-iterator);
  read : read_by l.dict l.numbers.items ++ flat_map (piece_terms l.fn.dict) (into_iter_items l.piece-iterator) ≡ flat_map (piece_terms l.fn.dict) l.fn.pieces.items;
  left : (t : Term) → Contains (flat_map own_terms (into_iter_items l.piece-iterator)) t → Contains (flat_map own_terms l.fn.pieces.items) t;
  needed : TakesOnly (Contains (flat_map own_terms l.fn.pieces.items)) l.fn.dict l.dict;
}
