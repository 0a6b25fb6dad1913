-- The parts of a statement in their order (RDF 1.1 N-Quads, section 4, [1] to [7]). Only private
-- clauses use these definitions; what is promised is in Place.
use Rattle.std.specs.Prelude.{◌≡◌, ℕ, Bool, true, false, List, Option, Some, None}
use Rattle.nquads_core.specs.Terminal.{Terminal, iri_ref, blank_label, quoted, lang_tag, carets, dot}
use Rattle.nquads_core.specs.LineParser.{next, is_end, skip_blanks}
use Rattle.line_diagnosis.specs.declared.reason.Next.{Next}
use Rattle.line_diagnosis.specs.declared.reason.Next.TheVariants.{Subject, Predicate, Object, Datatype, Graph, Dot, End}

-- what may come next: a part of the statement, or all that may come after a string
pub data Turn : Type 0 where
  part : Next → Turn
  suffix : Turn

-- what may come after a terminal, if the terminal may come
abbrev pub after_iri : Turn → Option Turn
after_iri (part Subject) = Some (part Predicate)
after_iri (part Predicate) = Some (part Object)
after_iri (part Object) = Some (part Graph)
after_iri (part Datatype) = Some (part Graph)
after_iri (part Graph) = Some (part Dot)
after_iri (part Dot) = None
after_iri (part End) = None
after_iri suffix = Some (part Dot)

abbrev pub after_blank : Turn → Option Turn
after_blank (part Subject) = Some (part Predicate)
after_blank (part Predicate) = None
after_blank (part Object) = Some (part Graph)
after_blank (part Datatype) = None
after_blank (part Graph) = Some (part Dot)
after_blank (part Dot) = None
after_blank (part End) = None
after_blank suffix = Some (part Dot)

abbrev pub after_string : Turn → Option Turn
after_string (part Subject) = None
after_string (part Predicate) = None
after_string (part Object) = Some suffix
after_string (part Datatype) = None
after_string (part Graph) = None
after_string (part Dot) = None
after_string (part End) = None
after_string suffix = None

abbrev pub after_dot : Turn → Option Turn
after_dot (part Subject) = None
after_dot (part Predicate) = None
after_dot (part Object) = None
after_dot (part Datatype) = None
after_dot (part Graph) = Some (part End)
after_dot (part Dot) = Some (part End)
after_dot (part End) = None
after_dot suffix = Some (part End)

-- only a string has a language tag or a datatype
abbrev pub after_suffix : Next → Turn → Option Turn
after_suffix next (part other) = None
after_suffix next suffix = Some (part next)

unfoldable pub follows : Turn → Terminal → Option Turn
follows turn (iri_ref text) = after_iri turn
follows turn (blank_label label) = after_blank turn
follows turn (quoted lexical) = after_string turn
follows turn (lang_tag tag) = after_suffix Graph turn
follows turn carets = after_suffix Datatype turn
follows turn dot = after_dot turn

-- blanks and a comment may come, and nothing more
abbrev pub is_last : Turn → Bool
is_last (part Subject) = true
is_last (part Predicate) = false
is_last (part Object) = false
is_last (part Datatype) = false
is_last (part Graph) = false
is_last (part Dot) = false
is_last (part End) = true
is_last suffix = false

-- the text is the rest of a line from this turn on
pub data Completes : Turn → List ℕ → Type 0 where
  ended : {turn : Turn} {cs : List ℕ}
      → is_last turn ≡ true → is_end (skip_blanks cs) ≡ true → Completes turn cs
  goes : {turn : Turn} {cs : List ℕ} (k : Terminal) (rest : List ℕ) (after : Turn)
      → next cs ≡ Some (k, rest) → follows turn k ≡ Some after → Completes after rest → Completes turn cs
