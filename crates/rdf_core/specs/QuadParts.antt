-- The four terms of a quad (RDF 1.1 Concepts, sections 3.1 and 4), without the invariant of `Quad`.
-- A definition can build one from any terms.
use Rattle.std.specs.Prelude.{Option}
use Rattle.rdf_core.specs.declared.term.Term.{Term}
use Rattle.rdf_core.specs.declared.quad.Quad.{Quad}

-- subject, predicate, object and graph name; the default graph has no name
pub record QuadParts : Type 0 where
  pub s : Term
  pub p : Term
  pub o : Term
  pub g : Option Term

-- the terms of a quad
abbrev pub parts_of : Quad → QuadParts
parts_of q = record { s = q.s; p = q.p; o = q.o; g = q.g }
