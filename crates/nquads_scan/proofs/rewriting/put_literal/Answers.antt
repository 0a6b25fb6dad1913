use Rattle.std.proofs.Common.{◌≡◌, List, ℕ, [], ◌∷◌, ◌++◌, append_assoc, get_or, sym, ap, ◌∙◌, arith}
use Rattle.std.specs.List.{flat_map}
use Rattle.rdf_core.specs.Serialization.{escaped}
use Rattle.nquads_core.proofs.CutLaws.{after_byte}
use Rattle.nquads_scan.specs.Rewriting.{IsLonger}
use Rattle.nquads_scan.proofs.PlainLaws.{first_then}
use Rattle.nquads_scan.proofs.RewritingSteps.{literal_rewritten, quoted_text}
use Rattle.nquads_scan.proofs.rewriting.put_literal.Goals as goal

-- a list with one more part is longer
longer_more : (old new last more : List ℕ) → IsLonger old new → last ≡ new ++ more → IsLonger old last
longer_more old new last more h e = (h.0 ++ more, e ∙ ap (λ (l : List ℕ). l ++ more) h.1 ∙ append_assoc old h.0 more)

longer_then : (old new last more : List ℕ) → new ≡ old ++ more → IsLonger new last → IsLonger old last
longer_then old new last more e h = longer_more old new last h.0 (more, e) h.1

pub returns-in_err-suffix-clause-longer : goal.returns-in_err-suffix-clause-longer
returns-in_err-suffix-clause-longer c = longer_then c.args.out.now.items c.push.new.self.items c.put_string.new.out.items (34 ∷ []) c.in_ok-push.ensures.items c.put_string.ensures.longer

pub returns-in_default-clause-longer : goal.returns-in_default-clause-longer
returns-in_default-clause-longer c = longer_then c.args.out.now.items c.push.new.self.items c.put_string.new.out.items (34 ∷ []) c.in_ok-push.ensures.items c.put_string.ensures.longer

pub returns-then-not-is_plain_suffix-clause-longer : goal.returns-then-not-is_plain_suffix-clause-longer
returns-then-not-is_plain_suffix-clause-longer c = longer_then c.args.out.now.items c.push.new.self.items c.put_string.new.out.items (34 ∷ []) c.in_ok-push.ensures.items c.put_string.ensures.longer

pub returns-clause-longer : goal.returns-clause-longer
returns-clause-longer c =
    longer_more c.args.out.now.items c.push-2.new.self.items c.extend_from_slice.new.self.items _
    (longer_more c.args.out.now.items c.put_string.new.out.items c.push-2.new.self.items (34 ∷ []) (longer_then c.args.out.now.items c.push.new.self.items c.put_string.new.out.items (34 ∷ []) c.in_ok-push.ensures.items c.put_string.ensures.longer) c.in_ok-push-2.ensures.items)
    c.in_ok-extend_from_slice.ensures.items

pub range_from-requires : goal.range_from-requires
range_from-requires c =
    λ _. after_byte c.args.raw.now 0 34 c.utf8.raw (sym (ap (λ (y : List ℕ). get_or y 0 0) c.as_bytes-bytes.ensures.value) ∙ c.if-bytes-ne34.false) (omega arith) (omega arith)

pub returns-clause-put : goal.returns-clause-put
returns-clause-put c =
    let raw = c.args.raw.now in
    let text = c.range_from.result.now in
    let more = c.in-Some.suffix.now in
    let put = rw c.in-Some.is at c.in_ok-suffix.ensures.put in
    let first : raw ≡ 34 ∷ text =
    first_then raw 34 (omega arith) (sym (ap (λ (y : List ℕ). get_or y 0 0) c.as_bytes-bytes.ensures.value) ∙ c.if-bytes-ne34.false) ∙ ap (λ (y : List ℕ). 34 ∷ y) (sym c.range_from.ensures.value) in
    λ _. (
      34 ∷ (flat_map escaped put.string ++ 34 ∷ more),
      literal_rewritten raw text put.string more c.utf8.raw first put.enclosed (c.is_plain_suffix.ensures c.if-not-is_plain_suffix.false),
      quoted_text c.args.out.now.items c.push.new.self.items c.put_string.new.out.items c.push-2.new.self.items c.extend_from_slice.new.self.items put.string more c.in_ok-push.ensures.items put.put c.in_ok-push-2.ensures.items
          (c.in_ok-extend_from_slice.ensures.items ∙ ap (λ l. c.push-2.new.self.items ++ l) c.as_bytes.ensures.value),
    )
