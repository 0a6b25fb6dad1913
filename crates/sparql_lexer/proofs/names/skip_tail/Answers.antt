use Rattle.std.proofs.Common.{arith}
use Rattle.sparql_lexer.specs.Forms.{part_of}
use Rattle.sparql_lexer.proofs.PatternLaws.{shorter, strictly, tail_more, tail_ends}
use Rattle.sparql_lexer.proofs.ProductionLaws.{part_sure, part_apart, part_solid}
use Rattle.sparql_lexer.proofs.names.skip_tail.Goals as goal

pub returns-in_default : goal.returns-in_default
returns-in_default c = c.parts.invariant c.parts.rest.now (tail_ends (part_of c.args.part) c.parts.rest.now c.skip-place.result.now (part_apart c.args.part) c.skip-place.ensures c.in_default.ensures)

pub parts-preserved : goal.parts-preserved
parts-preserved c = λ end h. c.parts.invariant end (tail_more (part_of c.args.part) (part_sure c.args.part) (part_apart c.args.part) c.skip-place.ensures.matches c.in-Some.ensures.matches h)

pub parts-smaller : goal.parts-smaller
parts-smaller c = let h = strictly (part_solid c.args.part) c.in-Some.ensures.matches in let k = shorter c.skip-place.ensures.matches in omega (arith, h, k)
