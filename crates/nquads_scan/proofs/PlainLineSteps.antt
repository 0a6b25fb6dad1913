-- Lines whose slices are their own canonical texts.
use Rattle.std.proofs.Common.{◌≡◌, ℕ, ◌+◌, ◌≤◌, ◌<◌, true, List, [], ◌++◌, length, Option, Some, None, refl, sym, ap, subst, arith}
use Rattle.std.specs.Prelude.{option_copied, option_to_list}
use Rattle.std.specs.Borrow.{Bor}
use Rattle.std.specs.Str.{IsUtf8}
use Rattle.rdf_core.specs.declared.term.Term.{Term}
use Rattle.rdf_core.specs.declared.term.Term.TheVariants.{Blank, Iri, Literal}
use Rattle.rdf_core.specs.QuadFacts.{is_graph_name, is_iri, is_node}
use Rattle.rdf_core.specs.QuadParts.{QuadParts}
use Rattle.nquads_core.specs.declared.slices.RawStatement.{RawStatement}
use Rattle.nquads_core.specs.Lines.{lines}
use Rattle.nquads_core.specs.Slices.{Denotes}
use Rattle.nquads_core.specs.Splitting.{DenotesGraph, DenotesQuad}
use Rattle.nquads_scan.specs.Canonical.{HasForm}
use Rattle.nquads_scan.specs.Layout.{IsLineThen}
use Rattle.nquads_scan.specs.PlainLines.{AreLinesBefore, FirstLine}
use Rattle.nquads_scan.proofs.LineSteps.{blank_line, statement_line}
use Rattle.nquads_scan.proofs.PieceSteps.{line_more}

-- ---- slices

iri_is_node : (t : Term) → is_iri t ≡ true → is_node t ≡ true
iri_is_node (Blank label) h = refl
iri_is_node (Iri text) h = refl
iri_is_node (Literal lexical datatype tag) h = absurd cc

pub node_of_iri : (raw : List ℕ) → ((t : Term) × Denotes raw t × (is_iri t ≡ true)) → (t : Term) × Denotes raw t × (is_node t ≡ true)
node_of_iri raw h = (h.0, h.1, iri_is_node h.0 h.2)

pub plain_quad : (raw : RawStatement) → ((t : Term) × Denotes raw.subject.now t × (is_node t ≡ true)) → ((t : Term) × Denotes raw.predicate.now t × (is_iri t ≡ true)) → HasForm raw.object.now raw.object.now
    → ((g : Option Term) × DenotesGraph (option_copied raw.graph) g × (is_graph_name g ≡ true)) → (q : QuadParts) × DenotesQuad raw q
plain_quad raw s p o g = (
  record { s = s.0; p = p.0; o = o.term; g = g.0 },
  record { subject = s.1; predicate = p.1; object = o.denotes; graph = g.1; node = s.2; iri = p.2; graph_name = g.2 },
)

pub named_graph : (raw : RawStatement) (name : Bor (List ℕ)) → raw.graph ≡ Some name → ((t : Term) × Denotes name.now t × (is_node t ≡ true)) → (g : Option Term) × DenotesGraph (option_copied raw.graph) g × (is_graph_name g ≡ true)
named_graph raw name e n = (Some n.0, subst (λ (y : Option (Bor (List ℕ))). DenotesGraph (option_copied y) (Some n.0)) (sym e) n.1, n.2)

-- ---- lines

pub plain_blank : (text rest : List ℕ) → IsUtf8 text → 0 < length text → IsLineThen text None rest → (q : Option QuadParts) × FirstLine text rest q
plain_blank text rest u l t = (None, blank_line text rest u l t)

pub plain_statement : (text rest : List ℕ) (raw : RawStatement) → IsUtf8 text → 0 < length text → IsLineThen text (Some raw) rest → ((q : QuadParts) × DenotesQuad raw q) → (q : Option QuadParts) × FirstLine text rest q
plain_statement text rest raw u l t d = (Some d.0, statement_line text raw rest d.0 u l t d.1)

-- ---- lines one after the other

-- the lines before the rest are plain, and are this many
pub record Skipped (count : ℕ) (rest text : List ℕ) : Type 0 where
  pub utf8 : IsUtf8 rest
  pub short : count + length rest ≤ length text
  pub lines : (quads : List QuadParts) × AreLinesBefore quads count rest text

pub skipped_none : (rest text : List ℕ) → rest ≡ text → IsUtf8 text → Skipped 0 rest text
skipped_none rest text e u =
    record { utf8 = subst IsUtf8 (sym e) u; short = omega (arith, ap length e); lines = ([], record { before = []; parts = ap lines (sym e); statements = refl; number = refl }) }

pub none_skipped : (text : List ℕ) → (quads : List QuadParts) × AreLinesBefore quads 0 text text
none_skipped text = ([], record { before = []; parts = refl; statements = refl; number = refl })

pub skipped_more : (count : ℕ) (rest after text : List ℕ) → Skipped count rest text → ((q : Option QuadParts) × FirstLine rest after q) → IsUtf8 after → length after < length rest → Skipped (count + 1) after text
skipped_more count rest after text h f u l = record {
  utf8 = u;
  short = omega (arith, h.short, l);
  lines = (h.lines.0 ++ option_to_list f.0, line_more h.lines.0 f.0 count rest text after h.lines.1 f.1);
}
