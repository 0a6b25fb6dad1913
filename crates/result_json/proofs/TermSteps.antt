-- The text of a term is made around its texts.
use Rattle.std.proofs.Common.{◌≡◌, ◌++◌, ◌∙◌, ℕ, List, codes, Result, Ok, Err, OnOk, Option, None, Some, Bool, ap, sym, append_assoc, if◌then◌else◌}
use Rattle.std.specs.Str.{bytes_eq}
use Rattle.rdf_core.specs.Vocabulary.{xsd_string}
use Rattle.rdf_core.specs.declared.term.Term.{Term}
use Rattle.rdf_core.specs.declared.term.Term.TheVariants.{Blank, Iri, Literal}
use Rattle.result_json.specs.Results.{string_text, term_text}

on_ok : {X E A B : Type 0} (r : Result X E) → (A → B) → OnOk r A → OnOk r B
on_ok (Ok v) f h = f h
on_ok (Err e) f h = h

-- a term of one text without its closing bracket is appended
pub one_text : {X E : Type 0} (r : Result X E) (before now frame text : List ℕ) (t : Term) → term_text t ≡ frame ++ (text ++ codes "}") → OnOk r (now ≡ before ++ (frame ++ text)) → OnOk r (now ++ codes "}" ≡ before ++ term_text t)
one_text r before now frame text t is = on_ok r (λ e. ap (λ x. x ++ codes "}") e ∙ append_assoc before (frame ++ text) (codes "}") ∙ ap (λ x. before ++ x) (append_assoc frame text (codes "}") ∙ sym is))

-- the same for a term of two texts
pub two_texts : {X E : Type 0} (r : Result X E) (before one now frame text frame' text' : List ℕ) (t : Term) → term_text t ≡ frame ++ (text ++ (frame' ++ (text' ++ codes "}"))) → one ≡ before ++ (frame ++ text)
    → OnOk r (now ≡ one ++ (frame' ++ text')) → OnOk r (now ++ codes "}" ≡ before ++ term_text t)
two_texts r before one now frame text frame' text' t is e = on_ok r (λ f. ap (λ x. x ++ codes "}") (f ∙ ap (λ x. x ++ (frame' ++ text')) e) ∙ append_assoc (before ++ (frame ++ text)) (frame' ++ text') (codes "}")
    ∙ append_assoc before (frame ++ text) ((frame' ++ text') ++ codes "}") ∙ ap (λ x. before ++ x) (append_assoc frame text ((frame' ++ text') ++ codes "}") ∙ ap (λ x. frame ++ (text ++ x)) (append_assoc frame' text' (codes "}")) ∙ sym is))

pub blank_text : (t : Term) (label : List ℕ) → t ≡ Blank label → term_text t ≡ codes "{\"type\":\"bnode\",\"value\":" ++ (string_text label ++ codes "}")
unfolding term_text
blank_text t label is = ap term_text is

pub iri_text : (t : Term) (text : List ℕ) → t ≡ Iri text → term_text t ≡ codes "{\"type\":\"uri\",\"value\":" ++ (string_text text ++ codes "}")
unfolding term_text
iri_text t text is = ap term_text is

pub tagged_text : (t : Term) (lexical datatype tag : List ℕ) (o : Option (List ℕ)) → t ≡ Literal lexical datatype o → o ≡ Some tag
    → term_text t ≡ codes "{\"type\":\"literal\",\"value\":" ++ (string_text lexical ++ (codes ",\"xml:lang\":" ++ (string_text tag ++ codes "}")))
unfolding term_text
tagged_text t lexical datatype tag o is some = ap term_text (is ∙ ap (λ x. Literal lexical datatype x) some)

abbrev pub plain_by : List ℕ → List ℕ → Bool → List ℕ
plain_by lexical datatype b =
    if b then codes "{\"type\":\"literal\",\"value\":" ++ (string_text lexical ++ codes "}")
    else codes "{\"datatype\":" ++ (string_text datatype ++ (codes ",\"type\":\"literal\",\"value\":" ++ (string_text lexical ++ codes "}")))

pub plain_text_is : (t : Term) (lexical datatype : List ℕ) (o : Option (List ℕ)) (b : Bool) → t ≡ Literal lexical datatype o → o ≡ None → bytes_eq datatype xsd_string ≡ b → term_text t ≡ plain_by lexical datatype b
unfolding term_text
plain_text_is t lexical datatype o b is none e = ap term_text (is ∙ ap (λ x. Literal lexical datatype x) none) ∙ ap (plain_by lexical datatype) e
