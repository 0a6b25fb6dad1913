use Rattle.row_pattern.proofs.ScanLaws.{scan-extends}
use Rattle.row_pattern.proofs.search.Search.matches.Goals as goal

pub returns : goal.returns
returns c = record {
  same = scan-extends c.args.self.now.graph c.args.self.now.index.now c.scan.result c.args.step.now c.args.row.now
      c.given.result c.given-2.result c.given-3.result c.given.ensures.value c.given-2.ensures.value c.given-3.ensures.value c.scan.ensures.quads;
}
