use Rattle.std.proofs.Common.{◌≡◌, true}
use Rattle.rdf_core.specs.QuadFacts.{is_node}
use Rattle.text_pieces.proofs.KnownLaws.{number_known}
use Rattle.text_pieces.proofs.naming.number_again.Goals as goal

pub returns-then-is_same-clause-number : goal.returns-then-is_same-clause-number
returns-then-is_same-clause-number c =
    number_known (λ t. is_node t ≡ true) c.args.dict.now.texts c.args.raw.now c.in-Some.n c.args.new.now.texts c.args.before.now
    (c.is_same.ensures.same c.if-is_same.true) (rw c.in-Some.is at c.requires.known)
