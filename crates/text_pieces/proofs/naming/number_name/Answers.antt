use Rattle.text_pieces.proofs.KnownLaws.{known_label}
use Rattle.text_pieces.proofs.naming.number_name.Goals as goal

pub number_again-requires-clause-known : goal.number_again-requires-clause-known
number_again-requires-clause-known c =
    known_label c.args.dict.now.texts c.args.new.now.texts c.args.before.now.graph c.in-Some.label c.args.last c.in-Some.is c.requires.known
