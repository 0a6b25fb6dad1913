use Rattle.std.proofs.Common.{◌∙◌, codes, true, false, ap, sym}
use Rattle.std.specs.Str.{bytes_eq}
use Rattle.rdf_core.specs.Vocabulary.{xsd_string}
use Rattle.result_json.specs.Results.{string_text}
use Rattle.result_json.proofs.TermSteps.{one_text, two_texts, blank_text, iri_text, tagged_text, plain_text_is}
use Rattle.result_json.proofs.values.put_open_object.Goals as goal

pub returns-in-Blank : goal.returns-in-Blank
returns-in-Blank c =
    let t = c.args.term.now in
    one_text c.put_text.result c.args.out.now.items c.put_text.new.out.items (codes "{\"type\":\"bnode\",\"value\":") (string_text c.in-Blank.label) t (blank_text t c.in-Blank.label c.in-Blank.is) c.put_text.ensures

pub returns-in-Iri : goal.returns-in-Iri
returns-in-Iri c =
    let t = c.args.term.now in
    one_text c.put_text-in-Iri.result c.args.out.now.items c.put_text-in-Iri.new.out.items (codes "{\"type\":\"uri\",\"value\":") (string_text c.in-Iri.text) t (iri_text t c.in-Iri.text c.in-Iri.is) c.put_text-in-Iri.ensures

pub returns-in_ok-put_text-in-Some : goal.returns-in_ok-put_text-in-Some
returns-in_ok-put_text-in-Some c =
    let t = c.args.term.now in
    two_texts c.put_text-in-Some-2.result c.args.out.now.items c.put_text-in-Some.new.out.items c.put_text-in-Some-2.new.out.items
    (codes "{\"type\":\"literal\",\"value\":") (string_text c.in-Literal.lexical) (codes ",\"xml:lang\":") (string_text c.in-Some.tag) t
    (tagged_text t c.in-Literal.lexical c.in-Literal.datatype c.in-Some.tag c.in-Literal.tag c.in-Literal.is c.in-Some.is)
    c.in_ok-put_text-in-Some.ensures c.put_text-in-Some-2.ensures

pub returns-then-eq : goal.returns-then-eq
returns-then-eq c =
    let t = c.args.term.now in
    one_text c.put_text-then-eq.result c.args.out.now.items c.put_text-then-eq.new.out.items (codes "{\"type\":\"literal\",\"value\":") (string_text c.in-Literal.lexical) t
    (plain_text_is t c.in-Literal.lexical c.in-Literal.datatype c.in-Literal.tag true c.in-Literal.is c.in-None.is (ap (λ d. bytes_eq d xsd_string) (sym c.as_str.ensures.value) ∙ sym c.eq.ensures ∙ c.if-eq.true))
    c.put_text-then-eq.ensures

pub returns-in_ok-put_text-in-None : goal.returns-in_ok-put_text-in-None
returns-in_ok-put_text-in-None c =
    let t = c.args.term.now in
    two_texts c.put_text-else-eq-2.result c.args.out.now.items c.put_text-else-eq.new.out.items c.put_text-else-eq-2.new.out.items
    (codes "{\"datatype\":") (string_text c.in-Literal.datatype) (codes ",\"type\":\"literal\",\"value\":") (string_text c.in-Literal.lexical) t
    (plain_text_is t c.in-Literal.lexical c.in-Literal.datatype c.in-Literal.tag false c.in-Literal.is c.in-None.is (ap (λ d. bytes_eq d xsd_string) (sym c.as_str.ensures.value) ∙ sym c.eq.ensures ∙ c.if-eq.false))
    c.in_ok-put_text-in-None.ensures c.put_text-else-eq-2.ensures
