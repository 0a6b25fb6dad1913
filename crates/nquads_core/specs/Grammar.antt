-- Which statement a line of N-Quads holds (RDF 1.1 N-Quads, grammar).
use Rattle.std.specs.Prelude.{◌≡◌, ◌≢◌, ℕ, ◌<◌, true, ◌⊎◌, List, [], ◌∷◌, ◌++◌, length, Option, Some, None, slice_index}
use Rattle.std.specs.Str.{IsUtf8, chars}
use Rattle.rdf_core.specs.declared.term.Term.{Term}
use Rattle.rdf_core.specs.QuadParts.{QuadParts}
use Rattle.rdf_core.specs.Vocabulary.{xsd_string, rdf_lang_string}
use Rattle.rdf_core.specs.declared.term.Term.TheVariants.{Blank, Iri, Literal}
use Rattle.rdf_core.specs.Characters.{all_pass}
use Rattle.nquads_core.specs.Terminal.{is_blank, Terminal, iri_ref, blank_label, quoted, lang_tag, carets, dot, IsTerminal, IsLongest}

-- blanks, and perhaps a comment, which is # and all up to the end
pub record IsEnd (text : List ℕ) : Type 0 where
  pub blanks : List ℕ
  pub comment : List ℕ
  pub parts : text ≡ blanks ++ comment
  pub all_blank : all_pass is_blank blanks ≡ true
  pub hash : (comment ≡ []) ⊎ ((words : List ℕ) × (comment ≡ 35 ∷ words))

-- the text begins with blanks and then this terminal, the longest there
pub record Begins (text : List ℕ) (k : Terminal) (rest : List ℕ) : Type 0 where
  pub blanks : List ℕ
  pub word : List ℕ
  pub parts : text ≡ blanks ++ (word ++ rest)
  pub all_blank : all_pass is_blank blanks ≡ true
  pub terminal : IsTerminal word k
  pub longest : IsLongest word rest

-- The text is a list of terminals, each the longest at its place, with blanks before, between and after them, and perhaps a comment.
abbrev pub Splits : List ℕ → List Terminal → Type 0
Splits text [] = IsEnd text
Splits text (k ∷ ks) = (rest : List ℕ) × Begins text k rest × Splits rest ks

-- ---- productions: lists of terminals, and the term that each derives

-- [3] subject ::= IRIREF | BLANK_NODE_LABEL
pub data Subject : List Terminal → Term → Type 0 where
  iri_subject : {text : List ℕ} → Subject (iri_ref text ∷ []) (Iri text)
  blank_subject : {label : List ℕ} → Subject (blank_label label ∷ []) (Blank label)

-- [4] predicate ::= IRIREF
pub data Predicate : List Terminal → Term → Type 0 where
  iri_predicate : {text : List ℕ} → Predicate (iri_ref text ∷ []) (Iri text)

-- [5] object ::= IRIREF | BLANK_NODE_LABEL | literal, and
-- [7] literal ::= STRING_LITERAL_QUOTE ('^^' IRIREF | LANGTAG)?
pub data Object : List Terminal → Term → Type 0 where
  iri_object : {text : List ℕ} → Object (iri_ref text ∷ []) (Iri text)
  blank_object : {label : List ℕ} → Object (blank_label label ∷ []) (Blank label)
  plain_object : {lexical : List ℕ} → Object (quoted lexical ∷ []) (Literal lexical xsd_string None)
  typed_object : {lexical datatype : List ℕ} → Object (quoted lexical ∷ carets ∷ iri_ref datatype ∷ []) (Literal lexical datatype None)
  tagged_object : {lexical tag : List ℕ} → Object (quoted lexical ∷ lang_tag tag ∷ []) (Literal lexical rdf_lang_string (Some tag))

-- [6] graphLabel ::= IRIREF | BLANK_NODE_LABEL, or none
pub data GraphLabel : List Terminal → Option Term → Type 0 where
  no_graph : GraphLabel [] None
  iri_graph : {text : List ℕ} → GraphLabel (iri_ref text ∷ []) (Some (Iri text))
  blank_graph : {label : List ℕ} → GraphLabel (blank_label label ∷ []) (Some (Blank label))

-- [2] statement ::= subject predicate object graphLabel? '.'
pub record Statement (ks : List Terminal) (q : QuadParts) : Type 0 where
  pub s : List Terminal
  pub p : List Terminal
  pub o : List Terminal
  pub g : List Terminal
  pub parts : ks ≡ s ++ (p ++ (o ++ (g ++ (dot ∷ []))))
  pub subject : Subject s q.s
  pub predicate : Predicate p q.p
  pub object : Object o q.o
  pub graph : GraphLabel g q.g

-- statement?, as in [1] nquadsDoc ::= statement? (EOL statement)* EOL?
abbrev pub OptionalStatement : List Terminal → Option QuadParts → Type 0
OptionalStatement ks None = ks ≡ []
OptionalStatement ks (Some q) = Statement ks q

-- The line, without its line end (LF is 10, CR is 13), holds the statement of this quad, or nothing but blanks and a comment.
pub record HasStatement (line : List ℕ) (q : Option QuadParts) : Type 0 where
  pub utf8 : IsUtf8 line
  pub one_line : (i : ℕ) → i < length line → (slice_index line i ≢ 10) × (slice_index line i ≢ 13)
  pub terminals : List Terminal
  pub splits : Splits (chars line) terminals
  pub derives : OptionalStatement terminals q

-- the line is malformed
abbrev pub IsMalformed : List ℕ → Type 0
IsMalformed line = (q : Option QuadParts) → HasStatement line q → ⊥
