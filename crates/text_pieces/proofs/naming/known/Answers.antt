use Rattle.std.proofs.Common.{arith}
use Rattle.text_pieces.proofs.NamingLaws.{get-left, get-right}
use Rattle.text_pieces.proofs.naming.known.Goals as goal

pub returns-in-Some : goal.returns-in-Some
returns-in-Some c = record { number = (get-left c.args.dict.now.texts c.args.new.now.texts c.in-Some.n c.args.text.now c.in-Some.ensures.value, c.in-Some.ensures.form) }

pub returns-in-Some-number_hashed : goal.returns-in-Some-number_hashed
returns-in-Some-number_hashed c =
    record { number = (get-right c.args.dict.now.texts c.args.new.now.texts _ c.in-Some-number_hashed.n c.args.text.now (omega arith) c.in-Some-number_hashed.ensures.value, c.in-Some-number_hashed.ensures.form) }

pub returns-in-None : goal.returns-in-None
returns-in-None c = record { number = c.in_default.ensures.value }
