use Rattle.sparql_tree.specs.QueryTree.{query_of}
use Rattle.std.proofs.lemmas.Result.{err_from_is_err_and}
use Rattle.spq_core.proofs.AnsweringSteps.{json_of_blocks}
use Rattle.spq_core.proofs.FaultSteps.{evaluation_fault_is, loading_alone_is, loading_fault_is}
use Rattle.spq_core.proofs.answering.answer_valid.Goals as goal

pub returns-clause-answer : goal.returns-clause-answer
returns-clause-answer g c =
    let query = query_of c.args.query.now in
    record {
      query = query;
      read = c.requires.valid;
      results = json_of_blocks c.a_dataset_is_a_set.ensures.same_results c.a_bag_has_one_sorted_list.ensures.same query c.args.doc.now c.in_ok-store.store c.in_ok-bytes.bytes.items c.deref.result.now _ c.in_ok-store.ensures.loaded
          c.in_ok-bytes.ensures.joined c.deref.ensures.value c.in_ok-made.ensures.answer;
    }

pub returns-in_err-store : goal.returns-in_err-store
returns-in_err-store g c =
    let p = err_from_is_err_and c.from_residual.result c.from_residual.ensures.1 in
    record {
      answer = rw p.1 tt;
      err = rw p.1 (loading_fault_is c.args.doc.now c.args.text.now (query_of c.args.query.now) c.requires.valid _ _ p.2 c.in_err-store.ensures.bad_line);
      one_worker = λ one. rw p.1 (loading_alone_is _ _ p.2 (c.in_err-store.ensures.one_worker one));
    }

pub returns-in_err-made-clause-err : goal.returns-in_err-made-clause-err
returns-in_err-made-clause-err g c =
    let p = err_from_is_err_and c.from_residual-in_err-made.result c.from_residual-in_err-made.ensures.1 in
    rw p.1 (evaluation_fault_is c.args.doc.now c.args.text.now (query_of c.args.query.now) c.requires.valid _ _ p.2)
