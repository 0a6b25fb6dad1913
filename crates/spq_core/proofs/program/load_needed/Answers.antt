use Rattle.std.proofs.Common.{◌≡◌}
use Rattle.dataset_load.specs.Streaming.{IsKeptLoadedFrom}
use Rattle.sparql_algebra.specs.AlgebraOf.{algebra_of}
use Rattle.spq_core.specs.Composing.{IsNeededFrom}
use Rattle.spq_core.proofs.LoadingSteps.{loaded_as, needed_from}
use Rattle.spq_core.proofs.program.load_needed.Goals as goal

pub returns-clause-loading : goal.returns-clause-loading
returns-clause-loading g c =
    let A = algebra_of c.args.plan.now.tree in
    loaded_as g.S.Source.left g.S.Source.failures (IsKeptLoadedFrom c.in-Ok.filter) (IsNeededFrom A) (c.args.reading.workers ≡ 1) c.args.reader.now c.load_document-store.new.reader
    (λ store. needed_from c.in-Ok.filter A _ _ store c.in-Ok.ensures.needed) c.load_document-store.result c.load_document-store.ensures.loading

pub returns-in-Err-clause-cause : goal.returns-in-Err-clause-cause
returns-in-Err-clause-cause g c = c.run_fault.ensures.cause (g.S.Source.left c.args.reader.now)
