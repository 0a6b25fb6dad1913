use Rattle.std.proofs.Common.{refl, ap, ◌∙◌}
use Rattle.std.proofs.lemmas.Result.{err_from_is_err_and}
use Rattle.sparql_lexer.specs.Terminal.{terminals}
use Rattle.sparql_grammar.specs.Class.{variable, name}
use Rattle.sparql_grammar.specs.Symbol as the
use Rattle.sparql_expression.proofs.Steps.{begin, took, done, take_fails, here, left, took_branch, skipped, out_of_memory}
use Rattle.sparql_parse.proofs.FrontSteps.{some_taken, none_untaken}
use Rattle.sparql_tree.specs.declared.group.VarOrTerm.TheVariants as place
use Rattle.rdf_core.specs.declared.term.Term.TheVariants as rdf
use Rattle.sparql_parse.proofs.triples.read_verb.Goals as goal

pub returns-in-Some-clause-reads : goal.returns-in-Some-clause-reads
returns-in-Some-clause-reads c =
    let l = begin c.args.names.now the.verb (terminals c.args.tokens.now) in
    done (took_branch l (left here) (some_taken {c = variable} (c.in_ok-name.ensures.accepts c.args.names.now) c.in-Some.is)) refl

pub returns-in-Some-2-clause-reads : goal.returns-in-Some-2-clause-reads
returns-in-Some-2-clause-reads c =
    let l = begin c.args.names.now the.verb (terminals c.args.tokens.now) in
    let m = skipped l (none_untaken {c = variable} (c.in_ok-name.ensures.accepts c.args.names.now) c.in_default.is) in
    done (took_branch m (left here) (some_taken {c = name} c.in_ok-iri.ensures.accepts c.in-Some-2.is)) refl

pub returns-in_default-accept_word-clause-reads : goal.returns-in_default-accept_word-clause-reads
returns-in_default-accept_word-clause-reads c =
    let l = begin c.args.names.now the.verb (terminals c.args.tokens.now) in
    let m = skipped l (none_untaken {c = variable} (c.in_ok-name.ensures.accepts c.args.names.now) c.in_default.is) in
    let n = skipped m (none_untaken {c = name} c.in_ok-iri.ensures.accepts c.in_default-2.is) in
    take_fails n (c.in_default-accept_word.ensures.accepts c.args.names.now)

pub returns-clause-reads : goal.returns-clause-reads
returns-clause-reads c =
    let l = begin c.args.names.now the.verb (terminals c.args.tokens.now) in
    let m = skipped l (none_untaken {c = variable} (c.in_ok-name.ensures.accepts c.args.names.now) c.in_default.is) in
    let n = skipped m (none_untaken {c = name} c.in_ok-iri.ensures.accepts c.in_default-2.is) in
    done (took n (c.in-Some-accept_word.ensures.accepts c.args.names.now)) (ap (λ x. place.Term (rdf.Iri x)) (c.from_string-iri.ensures.value ∙ c.in_ok-from_str.ensures.ok))

-- ---- the exits with an error

pub returns-in_err-from_str-clause-reads : goal.returns-in_err-from_str-clause-reads
returns-in_err-from_str-clause-reads c = let p = err_from_is_err_and c.from_residual-in_err-from_str.result c.from_residual-in_err-from_str.ensures.1 in rw (p.1, p.2) out_of_memory

pub returns-in_err-from_str-clause-shorter : goal.returns-in_err-from_str-clause-shorter
returns-in_err-from_str-clause-shorter c = rw (err_from_is_err_and c.from_residual-in_err-from_str.result c.from_residual-in_err-from_str.ensures.1).1 tt

pub returns-in_err-iri-clause-reads : goal.returns-in_err-iri-clause-reads
returns-in_err-iri-clause-reads c = let p = err_from_is_err_and c.from_residual-in_err-iri.result c.from_residual-in_err-iri.ensures.1 in rw (p.1, p.2) out_of_memory

pub returns-in_err-iri-clause-shorter : goal.returns-in_err-iri-clause-shorter
returns-in_err-iri-clause-shorter c = rw (err_from_is_err_and c.from_residual-in_err-iri.result c.from_residual-in_err-iri.ensures.1).1 tt

pub returns-in_err-name-clause-reads : goal.returns-in_err-name-clause-reads
returns-in_err-name-clause-reads c = let p = err_from_is_err_and c.from_residual.result c.from_residual.ensures.1 in rw (p.1, p.2) out_of_memory

pub returns-in_err-name-clause-shorter : goal.returns-in_err-name-clause-shorter
returns-in_err-name-clause-shorter c = rw (err_from_is_err_and c.from_residual.result c.from_residual.ensures.1).1 tt
