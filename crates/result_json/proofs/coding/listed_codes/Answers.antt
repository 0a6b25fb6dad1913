use Rattle.std.proofs.Common.{◌++◌, ◌∙◌, length, sym, ap, Some}
use Rattle.result_json.specs.Ranks.{codes_of}
use Rattle.result_json.proofs.SliceLaws.{flat_map-more}
use Rattle.result_json.proofs.coding.listed_codes.Goals as goal

pub loop-i-preserved : goal.loop-i-preserved
loop-i-preserved c =
    c.in_ok-put_codes.ensures.codes ∙ (λ t. c.loop-i.invariant t ++ codes_of (c.len-count.ensures.value t) c.args.listed.now c.as_slice-row.result.now)
    ∙ sym (flat_map-more (codes_of (length c.args.dict.now) c.args.listed.now) c.args.rows.now.rows c.loop-i.i c.as_slice-row.result.now (c.in_ok-read.ensures.found ∙ ap Some (sym c.as_slice-row.ensures.value)))
