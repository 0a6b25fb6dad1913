use Rattle.std.proofs.Common.{◌≡◌, ◌∙◌, true, ap}
use Rattle.rdf_core.specs.QuadFacts.{is_node}
use Rattle.text_pieces.specs.Hashes.{hash_of_name}
use Rattle.text_pieces.specs.declared.hashes.SliceHashes.{SliceHashes}
use Rattle.text_pieces.proofs.KnownLaws.{grown_by_three, grown_then, known_kept, known_name, known_number, name_kept}
use Rattle.text_pieces.proofs.StatementSteps.{numbers_named, numbers_unnamed}
use Rattle.text_pieces.proofs.statements.number_statement.Goals as goal

pub number_again-requires-clause-hashed : goal.number_again-requires-clause-hashed
number_again-requires-clause-hashed c = ap (λ (h : SliceHashes). h.subject) c.requires.hashed

pub number_again-requires-clause-known : goal.number_again-requires-clause-known
number_again-requires-clause-known c = c.requires.subject

pub number_iri-requires-clause-hashed : goal.number_iri-requires-clause-hashed
number_iri-requires-clause-hashed c = ap (λ (h : SliceHashes). h.predicate) c.requires.hashed

pub number_iri-requires-clause-state : goal.number_iri-requires-clause-state
number_iri-requires-clause-state c = c.number_again.ensures.state

pub number_slice-requires-clause-hashed : goal.number_slice-requires-clause-hashed
number_slice-requires-clause-hashed c = ap (λ (h : SliceHashes). h.object) c.requires.hashed

pub number_slice-requires-clause-state : goal.number_slice-requires-clause-state
number_slice-requires-clause-state c = c.number_iri.ensures.state

pub number_name-requires-clause-hashed : goal.number_name-requires-clause-hashed
number_name-requires-clause-hashed c = ap (λ (h : SliceHashes). h.graph) c.requires.hashed ∙ ap (hash_of_name c.args.dict.now.state) c.in-Some.is

pub number_name-requires-clause-state : goal.number_name-requires-clause-state
number_name-requires-clause-state c = c.number_slice.ensures.state

pub returns-in_err-p-clause-state : goal.returns-in_err-p-clause-state
returns-in_err-p-clause-state c = c.number_iri.ensures.state

pub returns-in_err-o-clause-state : goal.returns-in_err-o-clause-state
returns-in_err-o-clause-state c = c.number_slice.ensures.state

pub number_name-requires-clause-known : goal.number_name-requires-clause-known
number_name-requires-clause-known c =
    name_kept c.args.dict.now.texts _ _ c.args.last.now.raw.graph c.args.last.now.graph
    (grown_by_three c.args.dict.now.texts _ _ _ _ c.in_ok-s.ensures.number.grown c.in_ok-p.ensures.number.grown c.in_ok-o.ensures.number.grown) c.requires.graph

pub returns-in_ok-number_name-in-Some-clause-number : goal.returns-in_ok-number_name-in-Some-clause-number
returns-in_ok-number_name-in-Some-clause-number c =
    numbers_named _ _ _ _ _ c.args.raw.now _ _ _ c.in_ok-s.ensures.number c.in_ok-p.ensures.number c.in_ok-o.ensures.number _ _ _ c.in_ok-number_name-in-Some.ensures.number c.in-Some.is

pub returns-in_ok-number_name-in-Some-clause-subject : goal.returns-in_ok-number_name-in-Some-clause-subject
returns-in_ok-number_name-in-Some-clause-subject c =
    known_kept (λ t. is_node t ≡ true) c.args.dict.now.texts c.args.raw.now.subject.now c.in_ok-s.s _ _
    (grown_by_three c.args.dict.now.texts _ _ _ _ c.in_ok-p.ensures.number.grown c.in_ok-o.ensures.number.grown c.in_ok-number_name-in-Some.ensures.number.grown)
    (known_number (λ t. is_node t ≡ true) c.args.dict.now.texts c.args.raw.now.subject.now c.in_ok-s.s _ _ c.in_ok-s.ensures.number)

pub returns-in_ok-number_name-in-Some-clause-graph : goal.returns-in_ok-number_name-in-Some-clause-graph
returns-in_ok-number_name-in-Some-clause-graph c =
    known_name c.args.dict.now.texts _ _ c.args.raw.now.graph _ _ c.in-Some.is c.in_ok-number_name-in-Some.ensures.number

pub returns-in-None-clause-number : goal.returns-in-None-clause-number
returns-in-None-clause-number c =
    numbers_unnamed _ _ _ _ _ c.args.raw.now _ _ _ c.in_ok-s.ensures.number c.in_ok-p.ensures.number c.in_ok-o.ensures.number c.in-None.is

pub returns-in-None-clause-subject : goal.returns-in-None-clause-subject
returns-in-None-clause-subject c =
    known_kept (λ t. is_node t ≡ true) c.args.dict.now.texts c.args.raw.now.subject.now c.in_ok-s.s _ _
    (grown_then _ _ _ c.in_ok-p.ensures.number.grown c.in_ok-o.ensures.number.grown)
    (known_number (λ t. is_node t ≡ true) c.args.dict.now.texts c.args.raw.now.subject.now c.in_ok-s.s _ _ c.in_ok-s.ensures.number)
