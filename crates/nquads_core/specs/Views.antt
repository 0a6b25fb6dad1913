-- The terminal that a token of the code is. Only private clauses use this definition.
use Rattle.nquads_core.specs.declared.token.Token.{Token}
use Rattle.nquads_core.specs.declared.token.Token.TheVariants.{Iri, Blank, Quoted, Tag, Carets, Dot}
use Rattle.nquads_core.specs.Terminal.{Terminal, iri_ref, blank_label, quoted, lang_tag, carets, dot}

-- the terminal of a token
abbrev pub token_view : Token → Terminal
token_view (Iri text) = iri_ref text
token_view (Blank label) = blank_label label
token_view (Quoted lexical) = quoted lexical
token_view (Tag tag) = lang_tag tag
token_view Carets = carets
token_view Dot = dot
