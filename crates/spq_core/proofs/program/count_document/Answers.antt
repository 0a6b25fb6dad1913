use Rattle.std.proofs.Common.{◌≡◌}
use Rattle.dataset_load.specs.Counted.{IsCountedFrom}
use Rattle.spq_core.proofs.LoadingSteps.{caused, finished}
use Rattle.spq_core.proofs.program.count_document.Goals as goal

pub returns-clause-loading : goal.returns-clause-loading
returns-clause-loading g c =
    let done = c.count_reader-counted.ensures in
    finished g.S.Source.left g.S.Source.failures IsCountedFrom (c.args.reading.workers ≡ 1) c.args.reader.now c.count_reader-counted.new.reader c.count_reader-counted.result c.finished.result c.finished.ensures.loaded
    done.counted done.bad_line done.taken done.count done.one_worker

pub returns-clause-cause : goal.returns-clause-cause
returns-clause-cause g c = caused g.P.LoadListener.fails (g.S.Source.left c.args.reader.now) c.count_reader-counted.result c.finished.result c.finished.ensures.loaded c.count_reader-counted.ensures.cause
