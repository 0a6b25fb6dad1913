use Rattle.std.proofs.Common.{◌/◌, ◌%◌, arith}
use Rattle.term_values.proofs.ResidueLaws.{one_tenth}
use Rattle.term_values.proofs.equality.tenth_of.Goals as goal

pub returns : goal.returns
returns c =
    let n = c.args.number in
    record { key = one_tenth n (n / 10) (n % 10) (omega arith) (omega arith) c.requires.small }
