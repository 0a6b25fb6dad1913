-- The part of a group that the program holds while it translates the group, without its layout in
-- memory. Only private clauses use this definition.
use Rattle.std.specs.Prelude.{map, option_map}
use Rattle.expression_values.specs.ExpressionOf.{expression_of}
use Rattle.sparql_algebra.specs.AlgebraOf.{algebra_of}
use Rattle.sparql_algebra.specs.Translation as translation
use Rattle.sparql_algebra.specs.declared.part.Part.{Part}

abbrev pub part_of : Part → translation.Part
part_of p = record {
  before = algebra_of p.before.value;
  triples = map (λ t. t.now) p.triples.items;
  filters = option_map (λ e. expression_of e.value) p.filters;
}
