use Rattle.std.proofs.Common.{◌≡◌}
use Rattle.dataset_load.specs.Streaming.{IsKeptLoadedFrom}
use Rattle.spq_core.proofs.LoadingSteps.{caused, finished}
use Rattle.spq_core.proofs.program.load_document.Goals as goal

pub returns-clause-loading : goal.returns-clause-loading
returns-clause-loading g c =
    let done = c.load_reader-loaded.ensures in
    finished g.S.Source.left g.S.Source.failures (IsKeptLoadedFrom c.args.filter.now) (c.args.reading.workers ≡ 1) c.args.reader.now c.load_reader-loaded.new.reader c.load_reader-loaded.result c.finished.result c.finished.ensures.loaded
    done.loaded done.bad_line done.taken done.count done.one_worker

pub returns-clause-cause : goal.returns-clause-cause
returns-clause-cause g c = caused g.P.LoadListener.fails (g.S.Source.left c.args.reader.now) c.load_reader-loaded.result c.finished.result c.finished.ensures.loaded c.load_reader-loaded.ensures.cause
