use Rattle.sparql_tree.specs.QueryTree.{query_of}
use Rattle.query_plan.proofs.OffsetLaws.{parts_are}
use Rattle.query_plan.proofs.offset.is_for_parts.Goals as goal

pub returns : goal.returns
returns c =
    let is = c.if-not-has_numbers.false in
    let e = c.has_numbers.ensures in record {
      same = λ same.
          parts_are c.one_tree.ensures.unique _ _ (query_of c.args.query.now) (query_of c.args.parts.now) c.args.kept c.last_terminals-others.result
          c.requires.read c.requires.other_read (e.has_offset is) (e.offset is) (e.limit is) (e.alike is) c.last_terminals-others.ensures.value (c.in_ok-same.ensures.same same);
    }
