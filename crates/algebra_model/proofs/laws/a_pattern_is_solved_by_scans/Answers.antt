use Rattle.rdf_core.proofs.TermLaws.{term_eq, term_decides}
use Rattle.algebra_model.specs.Solve.{agrees_with}
use Rattle.algebra_model.proofs.BgpLaws.{solve-bgp}
use Rattle.algebra_model.proofs.PatternLaws.{bgp-pattern_order, extend_by-scan}
use Rattle.algebra_model.proofs.laws.a_pattern_is_solved_by_scans.Goals as goal

pub returns-clause-built : goal.returns-clause-built
returns-clause-built c = solve-bgp term_eq term_decides

pub returns-clause-order : goal.returns-clause-order
returns-clause-order c = bgp-pattern_order term_eq

pub returns-clause-scan : goal.returns-clause-scan
returns-clause-scan c = λ w t m. extend_by-scan term_eq term_decides w t m (agrees_with term_eq w t m) (λ g e. e)
