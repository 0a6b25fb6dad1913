use Rattle.std.proofs.Common.{◌+◌, arith}
use Rattle.dataset_load.proofs.TermSteps.{part_read}
use Rattle.dataset_load.proofs.terms.part_of.Goals as goal

pub returns : goal.returns
returns c = record {
  part = part_read c.args.texts.now.texts (c.args.first + c.args.i) c.min-from.result c.min-to.result c.len-len.result c.terms_between.result c.len-len.ensures.value
      (omega (arith, c.min-from.ensures, c.saturating_mul.ensures, c.saturating_add.ensures, c.len-len.ensures.small))
      (omega (arith, c.min-to.ensures, c.saturating_add-2.ensures, c.min-from.ensures, c.len-len.ensures.small))
      c.terms_between.ensures.terms;
}
