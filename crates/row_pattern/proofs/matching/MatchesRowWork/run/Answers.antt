use Rattle.std.proofs.Common.{◌∙◌, ◌-◌, ap}
use Rattle.row_pattern.specs.Numbered.{triples_of}
use Rattle.row_pattern.proofs.SearchLaws.{piece-rows}
use Rattle.row_pattern.proofs.matching.MatchesRowWork.run.Goals as goal

pub returns : goal.returns
returns c =
    let work = c.args.self.now in
    record {
      rows = (
        c.in_ok-add_matches.ensures.width ∙ ap (λ v. v.width) c.new-found.ensures.empty,
        piece-rows work.search.width (triples_of work.search.graph work.search.index.now) work.first.now work.rest.now work.cells work.quads _ c.args.from (c.args.to - c.args.from) c.deref_mut.result.now _ _
            (ap (λ v. v.rows) c.new-found.ensures.empty) (c.deref_mut.ensures.value ∙ c.in_ok-row.ensures.row) c.part-quads.ensures.quads c.in_ok-add_matches.ensures.found,
      );
    }
