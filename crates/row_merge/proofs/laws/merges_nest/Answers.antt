use Rattle.row_merge.proofs.NestLaws.{merges_nest}
use Rattle.row_merge.proofs.OnceLaws as once
use Rattle.row_merge.proofs.laws.merges_nest.Goals as goal

pub returns : goal.returns
returns c = record { law = merges_nest }
