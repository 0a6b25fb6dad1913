use Rattle.std.proofs.Common.{sym}
use Rattle.rdf_core.proofs.TermLaws.{term_eq, term_decides}
use Rattle.algebra_model.specs.Solution.{same_solution}
use Rattle.algebra_model.proofs.BagLaws.{permutation_from_counts, count_by-IsPermutation}
use Rattle.algebra_model.proofs.BgpLaws.{solution_decides}
use Rattle.algebra_model.proofs.laws.a_bag_is_its_counts.Goals as goal

pub returns : goal.returns
returns c = record {
  counts = λ A B.
      (λ h μ. sym (count_by-IsPermutation (same_solution term_eq μ) A B h), permutation_from_counts (same_solution term_eq) (solution_decides term_eq term_decides) A B);
}
