use Rattle.line_diagnosis.proofs.RangeLaws.{read_ranges}
use Rattle.line_diagnosis.proofs.escapes.iri_ranges.Goals as goal

pub returns-in-Read : goal.returns-in-Read
returns-in-Read c = record { ranges = read_ranges c.args.scheme c.in-Read.is }
