use Rattle.std.proofs.Common.{List, map, ap, sym, subst}
use Rattle.std.specs.Option.{option_map}
use Rattle.rdf_core.proofs.TermLaws.{term_eq}
use Rattle.algebra_model.specs.Bgp.{bgp}
use Rattle.algebra_model.specs.Dataset.{graph}
use Rattle.dict_core.specs.Dict.{term_at}
use Rattle.dict_core.specs.NumQuad.{quads_at}
use Rattle.row_pattern.specs.Numbered.{pattern_of}
use Rattle.row_pattern.specs.declared.numbered.NumberedTriple.{NumberedTriple}
use Rattle.sparql_algebra.specs.AlgebraOf.{triple_pattern_of}
use Rattle.sparql_eval.specs.Constants.{ArePatternsOf}
use Rattle.sparql_eval.specs.Evaluated.{IsEvaluated}
use Rattle.sparql_eval.proofs.ReturnSteps.{IfOk-both}
use Rattle.sparql_eval.proofs.PatternSteps.{numbers_below, lacking, solved, none_lacks}
use Rattle.sparql_eval.proofs.patterns.matches.Goals as goal

pub returns-in_default-clause-evaluated : goal.returns-in_default-clause-evaluated
returns-in_default-clause-evaluated g c =
    let terms = c.args.dict.now in
    let P = map triple_pattern_of c.args.triples.now in
    lacking terms c.args.width c.args.labels P c.args.index.now (option_map (term_at terms) c.args.active) c.requires.index
    (none_lacks _ _ c.in_ok-numbered.field-0 c.in_default.not-Some c.in_ok-numbered.ensures.numbered)
    c.new.result (ap (λ r. r.width) c.new.ensures.empty) (ap (λ r. r.rows) c.new.ensures.empty)

pub pattern-requires-clause-below : goal.pattern-requires-clause-below
pattern-requires-clause-below g c κs within =
    let terms = c.args.dict.now in
    let P = map triple_pattern_of c.args.triples.now in
    let h = rw c.in-Some.is at c.in_ok-numbered.ensures.numbered in
    numbers_below terms c.args.width c.args.labels P (map pattern_of c.as_slice-triples.result.now) c.requires.below
    (subst (λ (ts : List NumberedTriple). ArePatternsOf terms P (map pattern_of ts)) (sym c.as_slice-triples.ensures.value) h)

pub returns-clause-evaluated : goal.returns-clause-evaluated
returns-clause-evaluated g c =
    let terms = c.args.dict.now in
    let P = map triple_pattern_of c.args.triples.now in
    let numbers = map pattern_of c.as_slice-triples.result.now in
    let h = rw c.in-Some.is at c.in_ok-numbered.ensures.numbered in
    IfOk-both c.pattern.result _ _ (λ m. IsEvaluated terms c.args.width (bgp term_eq c.args.width c.args.labels P (graph (quads_at terms c.args.index.now) (option_map (term_at terms) c.args.active))) m terms)
    (λ m wide rows. solved c.rows_read_as_solutions.ensures.law terms c.len-distinct.ensures.distinct c.args.width c.args.labels P numbers c.args.index.now c.args.active
    c.quads-once.ensures.distinct c.requires.index c.requires.active c.requires.below
    (subst (λ (ts : List NumberedTriple). ArePatternsOf terms P (map pattern_of ts)) (sym c.as_slice-triples.ensures.value) h)
    m wide rows)
    c.pattern.ensures.width c.pattern.ensures.rows
