use Rattle.std.proofs.Common.{ap}
use Rattle.std.specs.Str.{bytes_eq}
use Rattle.algebra_model.specs.Bag.{without_repeats}
use Rattle.sparql_algebra.proofs.BasicPatternLaws.{run_same, same_patterns}
use Rattle.sparql_algebra.proofs.SideLaws.{derived_has_sides}
use Rattle.sparql_algebra.proofs.laws.one_set_of_patterns.Goals as goal

pub returns : goal.returns
returns c = record {
  law = record {
    patterns = λ text q d. same_patterns q (derived_has_sides text q d);
    labels = λ run. ap (without_repeats bytes_eq) (run_same run);
  };
}
