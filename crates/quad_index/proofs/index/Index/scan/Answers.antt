use Rattle.std.proofs.lemmas.List.Sorted.{IsPermutation-refl}
use Rattle.quad_index.specs.declared.prefix.Prefix.TheVariants.{G, Gs, Gsp, Gspo, Gp, Gpo, Go, Gos}
use Rattle.quad_index.proofs.SortOrderLaws.{agrees_g, agrees_gs, agrees_gsp, agrees_gspo, agrees_gp, agrees_gpo, agrees_go, agrees_gos}
use Rattle.quad_index.proofs.IndexSteps.{scanned}
use Rattle.quad_index.proofs.index.Index.scan.Goals as goal

pub returns-in-None-None-None : goal.returns-in-None-None-None
returns-in-None-None-None c = record {
  quads = scanned G c.args.g c.args.s c.args.p c.args.o _ _ _ _ _ _ c.self.view_is (IsPermutation-refl _) c.quads.ensures.quads c.scan_key-key.ensures.quad
      c.range.ensures.quads (λ q. agrees_g c.args.g c.args.s c.args.p c.args.o q c.in-None-None-None.is-0 c.in-None-None-None.is-1 c.in-None-None-None.is-2);
}

pub returns-in-Some-None-None : goal.returns-in-Some-None-None
returns-in-Some-None-None c = record {
  quads = scanned Gs c.args.g c.args.s c.args.p c.args.o _ _ _ _ _ _ c.self.view_is (IsPermutation-refl _) c.quads-in-Some-None-None.ensures.quads c.scan_key-key.ensures.quad
      c.range-in-Some-None-None.ensures.quads (λ q. agrees_gs c.args.g c.args.s c.args.p c.args.o q c.in-Some-None-None.field-0-0 c.in-Some-None-None.is-0 c.in-Some-None-None.is-1 c.in-Some-None-None.is-2);
}

pub returns-in-Some-Some-None : goal.returns-in-Some-Some-None
returns-in-Some-Some-None c = record {
  quads = scanned Gsp c.args.g c.args.s c.args.p c.args.o _ _ _ _ _ _ c.self.view_is (IsPermutation-refl _) c.quads-in-Some-Some-None.ensures.quads c.scan_key-key.ensures.quad
      c.range-in-Some-Some-None.ensures.quads (λ q. agrees_gsp c.args.g c.args.s c.args.p c.args.o q c.in-Some-Some-None.field-0-0 c.in-Some-Some-None.field-0-1 c.in-Some-Some-None.is-0 c.in-Some-Some-None.is-1 c.in-Some-Some-None.is-2);
}

pub returns-in-Some-Some-Some : goal.returns-in-Some-Some-Some
returns-in-Some-Some-Some c = record {
  quads = scanned Gspo c.args.g c.args.s c.args.p c.args.o _ _ _ _ _ _ c.self.view_is (IsPermutation-refl _) c.quads-in-Some-Some-Some.ensures.quads c.scan_key-key.ensures.quad
      c.range-in-Some-Some-Some.ensures.quads (λ q. agrees_gspo c.args.g c.args.s c.args.p c.args.o q c.in-Some-Some-Some.field-0-0 c.in-Some-Some-Some.field-0-1 c.in-Some-Some-Some.field-0-2 c.in-Some-Some-Some.is-0 c.in-Some-Some-Some.is-1 c.in-Some-Some-Some.is-2);
}

pub returns-in-None-Some-None : goal.returns-in-None-Some-None
returns-in-None-Some-None c = record {
  quads = scanned Gp c.args.g c.args.s c.args.p c.args.o _ _ _ _ _ _ c.self.view_is c.self.invariant.same_gpos c.quads-in-None-Some-None.ensures.quads c.scan_key-key.ensures.quad
      c.range-in-None-Some-None.ensures.quads (λ q. agrees_gp c.args.g c.args.s c.args.p c.args.o q c.in-None-Some-None.field-0-1 c.in-None-Some-None.is-0 c.in-None-Some-None.is-1 c.in-None-Some-None.is-2);
}

pub returns-in-None-Some-Some : goal.returns-in-None-Some-Some
returns-in-None-Some-Some c = record {
  quads = scanned Gpo c.args.g c.args.s c.args.p c.args.o _ _ _ _ _ _ c.self.view_is c.self.invariant.same_gpos c.quads-in-None-Some-Some.ensures.quads c.scan_key-key.ensures.quad
      c.range-in-None-Some-Some.ensures.quads (λ q. agrees_gpo c.args.g c.args.s c.args.p c.args.o q c.in-None-Some-Some.field-0-1 c.in-None-Some-Some.field-0-2 c.in-None-Some-Some.is-0 c.in-None-Some-Some.is-1 c.in-None-Some-Some.is-2);
}

pub returns-in-None-None-Some : goal.returns-in-None-None-Some
returns-in-None-None-Some c = record {
  quads = scanned Go c.args.g c.args.s c.args.p c.args.o _ _ _ _ _ _ c.self.view_is c.self.invariant.same_gosp c.quads-in-None-None-Some.ensures.quads c.scan_key-key.ensures.quad
      c.range-in-None-None-Some.ensures.quads (λ q. agrees_go c.args.g c.args.s c.args.p c.args.o q c.in-None-None-Some.field-0-2 c.in-None-None-Some.is-0 c.in-None-None-Some.is-1 c.in-None-None-Some.is-2);
}

pub returns-in-Some-None-Some : goal.returns-in-Some-None-Some
returns-in-Some-None-Some c = record {
  quads = scanned Gos c.args.g c.args.s c.args.p c.args.o _ _ _ _ _ _ c.self.view_is c.self.invariant.same_gosp c.quads-in-Some-None-Some.ensures.quads c.scan_key-key.ensures.quad
      c.range-in-Some-None-Some.ensures.quads (λ q. agrees_gos c.args.g c.args.s c.args.p c.args.o q c.in-Some-None-Some.field-0-0 c.in-Some-None-Some.field-0-2 c.in-Some-None-Some.is-0 c.in-Some-None-Some.is-1 c.in-Some-None-Some.is-2);
}
