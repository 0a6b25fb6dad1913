use Rattle.std.proofs.Common.{length, get_or, ap, ◌∙◌, sym, Some, arith}
use Rattle.std.specs.Prelude.{slice_range}
use Rattle.text_dict.proofs.TextLaws.{text_bounds, text_get}
use Rattle.text_dict.proofs.texts.text_at.Goals as goal

pub slice_bounds-result-count : goal.slice_bounds-result-count
slice_bounds-result-count c =
    let bounds = text_bounds 0 c.args.ends.now (length c.args.bytes.now) c.args.n c.requires.ends c.requires.within in
    omega (arith, c.start_of.ensures.value, bounds.0)

pub slice_bounds-result-start : goal.slice_bounds-result-start
slice_bounds-result-start c =
    let bounds = text_bounds 0 c.args.ends.now (length c.args.bytes.now) c.args.n c.requires.ends c.requires.within in
    omega (arith, c.start_of.ensures.value, bounds.0)

pub slice_bounds-result-end : goal.slice_bounds-result-end
slice_bounds-result-end c =
    let bounds = text_bounds 0 c.args.ends.now (length c.args.bytes.now) c.args.n c.requires.ends c.requires.within in
    omega (arith, bounds.1)

pub returns : goal.returns
returns c = record {
  value = text_get c.args.bytes.now 0 c.args.ends.now c.args.n c.requires.within
      ∙ ap (λ s. Some (slice_range c.args.bytes.now s (get_or c.args.ends.now c.args.n 0))) (sym c.start_of.ensures.value);
}
