use Rattle.std.proofs.Common.{◌∙◌, subst, sym}
use Rattle.std.specs.Str.{chars}
use Rattle.sparql_tree.specs.QueryTree.{query_of}
use Rattle.sparql_read.specs.Rejection.{IsValidQuery}
use Rattle.query_plan.proofs.OffsetLaws.{same_query}
use Rattle.query_plan.proofs.planning.query_text.Goals as goal

pub returns-in_ok-from_slice-in-None : goal.returns-in_ok-from_slice-in-None
returns-in_ok-from_slice-in-None c = record {
  read = subst (IsValidQuery (chars c.in_ok-from_slice-in-None.field-0.items)) (same_query (query_of c.args.query.now) c.args.kept c.in-None.is c.requires.sum)
      (subst (λ t. IsValidQuery (chars t) (query_of c.args.query.now)) (sym (c.in_ok-from_slice-in-None.ensures.items ∙ c.as_bytes.ensures.value)) c.requires.read);
  fault = tt;
}
