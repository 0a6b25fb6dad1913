use Rattle.std.proofs.Common.{ap, ◌∙◌, Some}
use Rattle.algebra_model.specs.Bgp.{image}
use Rattle.row_pattern.specs.Places.{place_term, put_at}
use Rattle.row_pattern.proofs.SearchLaws.{put-back}
use Rattle.row_pattern.proofs.cells.bind.Goals as goal

pub returns-in-None-clause-back : goal.returns-in-None-clause-back
returns-in-None-clause-back c =
    ap (λ o. put_at c.args.place o c.put.new.row) c.given-held.ensures.value
    ∙ ap (put_at c.args.place (image 0 c.args.row.now (place_term c.args.place))) c.put.ensures.value
    ∙ put-back c.args.place (Some c.args.number) c.args.row.now
