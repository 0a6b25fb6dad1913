use Rattle.std.proofs.Common.{◌+◌, ap}
use Rattle.text_pieces.proofs.NamingLaws.{placed_new}
use Rattle.text_pieces.proofs.naming.number_lacking.Goals as goal

pub returns-clause-number : goal.returns-clause-number
returns-clause-number c =
    placed_new c.args.dict.now.texts c.args.new.now.texts c.intern_hashed.new.self.texts c.args.text.now (c.len.result + c.in_ok-n.n) c.in_ok-n.n
    c.requires.lacking c.in_ok-n.ensures.added c.in_ok-n.ensures.number (ap (λ k. k + c.in_ok-n.n) c.len.ensures.value)
