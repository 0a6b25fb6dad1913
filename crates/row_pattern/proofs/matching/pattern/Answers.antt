use Rattle.std.proofs.Common.{◌≡◌, ◌≤◌, ◌+◌, ◌^◌, ◌∙◌, ◌∷◌, [], None, ap, length, map, arith, sym}
use Rattle.std.proofs.lemmas.List.{nil_from_length, length-replicate}
use Rattle.std.proofs.lemmas.Result.{IfOk-weaker}
use Rattle.row_pattern.specs.Numbered.{pattern_of, triples_of}
use Rattle.row_pattern.proofs.StepLaws.{are_below-more}
use Rattle.row_pattern.proofs.SearchLaws.{all-rows, rows-solve, numbers-known}
use Rattle.row_pattern.proofs.matching.pattern.Goals as goal

-- an existing row is short enough to add width and labels
pub ordered_steps-requires : goal.ordered_steps-requires
ordered_steps-requires g c =
    let long = ap length c.in_ok-row.ensures.row ∙ length-replicate c.saturating_add-cells.result None in
    let small : c.args.width + c.args.labels ≤ 2 ^ 64 = omega (arith, c.saturating_add-cells.ensures, long, c.in_ok-row.row.ok, c.in_ok-row.row.small) in
    record { below = are_below-more c.args.width (c.args.width + c.args.labels) (2 ^ 64) (map pattern_of c.args.patterns.now) small c.requires.below }

pub returns-in-None-clause-rows : goal.returns-in-None-clause-rows
returns-in-None-clause-rows g c =
    let cells = c.saturating_add-cells.result in
    let long = ap length c.in_ok-row.ensures.row ∙ length-replicate cells None in
    let wide : cells ≡ c.args.width + c.args.labels = omega (arith, c.saturating_add-cells.ensures, long, c.in_ok-row.row.ok, c.in_ok-row.row.small) in
    rows-solve c.args.width c.args.labels cells (map pattern_of c.args.patterns.now) c.args.graph c.args.index.now c.in_ok-steps.steps.items wide c.quads_occur_once.ensures.distinct c.requires.below c.in_ok-steps.ensures.same
    [] c.in_ok-empty_pattern-in-None.field-0.rows (sym c.as_slice.ensures.value ∙ nil_from_length c.as_slice.result.now c.in-None.ensures.cases) c.in_ok-empty_pattern-in-None.ensures.rows

pub returns-in-None-clause-known : goal.returns-in-None-clause-known
returns-in-None-clause-known g c =
    let cells = c.saturating_add-cells.result in
    let long = ap length c.in_ok-row.ensures.row ∙ length-replicate cells None in
    let wide : cells ≡ c.args.width + c.args.labels = omega (arith, c.saturating_add-cells.ensures, long, c.in_ok-row.row.ok, c.in_ok-row.row.small) in
    numbers-known c.args.width c.args.labels cells (map pattern_of c.args.patterns.now) c.args.graph c.args.index.now c.in_ok-steps.steps.items wide c.quads_occur_once.ensures.distinct c.requires.below c.in_ok-steps.ensures.same
    c.in_ok-empty_pattern-in-None.field-0.rows (returns-in-None-clause-rows g c)

pub returns-clause-rows : goal.returns-clause-rows
returns-clause-rows g c =
    let cells = c.saturating_add-cells.result in
    let long = ap length c.in_ok-row.ensures.row ∙ length-replicate cells None in
    let wide : cells ≡ c.args.width + c.args.labels = omega (arith, c.saturating_add-cells.ensures, long, c.in_ok-row.row.ok, c.in_ok-row.row.small) in
    let first = c.in-Some.first.now in
    let rest = c.in-Some.rest.now in
    let G = triples_of c.args.graph c.args.index.now in
    IfOk-weaker c.over_pieces.result _ _
    (λ found h. rows-solve c.args.width c.args.labels cells (map pattern_of c.args.patterns.now) c.args.graph c.args.index.now c.in_ok-steps.steps.items wide c.quads_occur_once.ensures.distinct c.requires.below c.in_ok-steps.ensures.same
    (first ∷ rest) found.rows (sym c.as_slice.ensures.value ∙ c.in-Some.ensures.cases.0)
    (all-rows c.args.width G first rest cells c.matches.result c.deref.result.now found.rows (c.deref.ensures.value ∙ c.in_ok-row.ensures.row) c.matches.ensures.same h.1))
    c.over_pieces.ensures.rows

pub returns-clause-known : goal.returns-clause-known
returns-clause-known g c =
    let cells = c.saturating_add-cells.result in
    let long = ap length c.in_ok-row.ensures.row ∙ length-replicate cells None in
    let wide : cells ≡ c.args.width + c.args.labels = omega (arith, c.saturating_add-cells.ensures, long, c.in_ok-row.row.ok, c.in_ok-row.row.small) in
    IfOk-weaker c.over_pieces.result _ _
    (λ found h. numbers-known c.args.width c.args.labels cells (map pattern_of c.args.patterns.now) c.args.graph c.args.index.now c.in_ok-steps.steps.items wide c.quads_occur_once.ensures.distinct c.requires.below c.in_ok-steps.ensures.same found.rows h)
    (returns-clause-rows g c)
