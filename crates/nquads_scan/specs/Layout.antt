-- How a text begins with a line: blanks, the slices of a statement with blanks after each, a dot, and a comment up to
-- the line end. Only private clauses use these definitions; what is promised is in Splitting of nquads_core.
use Rattle.std.specs.Prelude.{◌≡◌, ℕ, ◌⊎◌, false, true, List, [], ◌∷◌, ◌++◌, Option, Some, None, option_copied}
use Rattle.std.specs.List.{list_all}
use Rattle.nquads_core.specs.Terminal.{is_blank}
use Rattle.nquads_core.specs.Lines.{begins_with_lf}
use Rattle.nquads_core.specs.declared.slices.RawStatement.{RawStatement}
use Rattle.nquads_scan.specs.Ends.{HasNoEnd, IsApart}

-- the text is blanks, and then the rest
pub record IsBlanksThen (text rest : List ℕ) : Type 0 where
  pub blanks : List ℕ
  pub parts : text ≡ blanks ++ rest
  pub all_blank : list_all is_blank blanks ≡ true

-- the text is the slice, which has no line end, blanks, and then the rest
pub record IsCut (text raw rest : List ℕ) : Type 0 where
  pub after : List ℕ
  pub parts : text ≡ raw ++ after
  pub apart : IsApart raw after
  pub kept : HasNoEnd raw
  pub blanks : IsBlanksThen after rest

-- the text is the slice of a graph label, if there is one, blanks, and the dot, and then the rest
abbrev pub IsGraphCut : Option (List ℕ) → List ℕ → List ℕ → Type 0
IsGraphCut None text rest = text ≡ 46 ∷ rest
IsGraphCut (Some raw) text rest = IsCut text raw (46 ∷ rest)

-- the text is the slices of a statement, with blanks after each, and the dot, and then the rest
pub record IsLaidOut (text : List ℕ) (raw : RawStatement) (rest : List ℕ) : Type 0 where
  pub predicate : List ℕ
  pub object : List ℕ
  pub graph : List ℕ
  pub s : IsCut text raw.subject.now predicate
  pub p : IsCut predicate raw.predicate.now object
  pub o : IsCut object raw.object.now graph
  pub g : IsGraphCut (option_copied raw.graph) graph rest

-- a comment, which is # and all up to the line end, or nothing
abbrev pub IsComment : List ℕ → Type 0
IsComment comment =
    (comment ≡ [])
    ⊎ ((words : List ℕ) × (comment ≡ 35 ∷ words) × HasNoEnd words)

-- the text is a comment, or none, and then the rest
pub record IsCommentThen (text rest : List ℕ) : Type 0 where
  pub comment : List ℕ
  pub parts : text ≡ comment ++ rest
  pub is : IsComment comment

-- the text is a line end, and then the rest; or the text has ended
pub data IsLineEndThen : List ℕ → List ℕ → Type 0 where
  at_text_end : IsLineEndThen [] []
  lf : {rest : List ℕ} → IsLineEndThen (10 ∷ rest) rest
  cr : {rest : List ℕ} → begins_with_lf rest ≡ false → IsLineEndThen (13 ∷ rest) rest
  crlf : {rest : List ℕ} → IsLineEndThen (13 ∷ 10 ∷ rest) rest

-- the text is blanks, a comment or none, the line end, and then the rest
pub record IsTail (text rest : List ℕ) : Type 0 where
  pub comment : List ℕ
  pub eol : List ℕ
  pub first : IsBlanksThen text comment
  pub second : IsCommentThen comment eol
  pub third : IsLineEndThen eol rest

-- the first line of the text is this statement, or none, and then come the lines of the rest
pub record IsStatementThen (text : List ℕ) (raw : RawStatement) (rest : List ℕ) : Type 0 where
  pub start : List ℕ
  pub tail : List ℕ
  pub lead : IsBlanksThen text start
  pub layout : IsLaidOut start raw tail
  pub end : IsTail tail rest

abbrev pub IsLineThen : List ℕ → Option RawStatement → List ℕ → Type 0
IsLineThen text None rest = IsTail text rest
IsLineThen text (Some raw) rest = IsStatementThen text raw rest
