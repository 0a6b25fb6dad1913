-- How often each reason occurs, and the first line that has it (a choice of this project, not of the standard).
use Rattle.std.specs.Prelude.{◌≡◌, ◌≢◌, ℕ, ◌+◌, ◌<◌, Bool, List, ◌∷◌, ◌++◌, length, map, slice_index_or, if◌then◌else◌, Some}
use Rattle.std.specs.List.{All, slice_get, sum_by}
use Rattle.nquads_core.specs.Grammar.{IsMalformed}
use Rattle.line_diagnosis.specs.declared.diagnosis.Diagnosis.{Diagnosis}
use Rattle.line_diagnosis.specs.declared.summary.Summary.{Summary}
use Rattle.line_diagnosis.specs.Explained.{IsExplained}
use Rattle.line_diagnosis.specs.Summary.{DifferInFound}
use Rattle.malformed_lines.specs.declared.reason_counts.ReasonCount.{ReasonCount}

-- the sum of the counts of all reasons
abbrev pub total_of : List ReasonCount → ℕ
total_of counts = sum_by (λ c. c.count) counts

-- the sum of the counts of the reasons that pass a test
abbrev pub sum_of : (Summary → Bool) → List ReasonCount → ℕ
sum_of test counts = sum_by (λ c. if test c.reason then c.count else 0) counts

abbrev pub reasons_of : List ReasonCount → List Summary
reasons_of counts = map (λ c. c.reason) counts

-- no count is of this reason
abbrev pub HasNone : Summary → List ReasonCount → Type 0
HasNone reason counts = All (λ r. r ≢ reason) (reasons_of counts)

abbrev pub AreDifferent : List Summary → Type 0
AreDifferent rs = (i j : ℕ) (d : Summary) → i < j → j < length rs → slice_index_or rs i d ≢ slice_index_or rs j d

-- no two counts are of one reason
abbrev pub AreDistinct : List ReasonCount → Type 0
AreDistinct counts = AreDifferent (reasons_of counts)

-- The count is of the reason of one of these, and names its line. None before that one is of this reason.
pub record IsFirst (singles : List ReasonCount) (c : ReasonCount) : Type 0 where
  pub before : List ReasonCount
  pub single : ReasonCount
  pub after : List ReasonCount
  pub parts : singles ≡ before ++ single ∷ after
  pub none_before : HasNone c.reason before
  pub reason : single.reason ≡ c.reason
  pub first : c.first ≡ single.first
  pub column : c.column ≡ single.column
  pub counted : c.counted ≡ single.counted

-- Of any reasons as many are counted. Each count names the first line of its reason, and no reason is left out.
pub record IsTally (singles counts : List ReasonCount) : Type 0 where
  pub sums : (test : Summary → Bool) → sum_of test counts ≡ sum_of test singles
  pub firsts : All (IsFirst singles) counts
  pub complete : (r : Summary) → HasNone r counts → HasNone r singles

-- The count names a malformed line, by its number from n on, and the reason and the column of the place in it.
pub record NamesLineFrom (n : ℕ) (lines : List (List ℕ)) (c : ReasonCount) : Type 0 where
  pub place : ℕ
  pub number : c.first ≡ n + place
  pub line : List ℕ
  pub at_place : slice_get lines place ≡ Some line
  pub malformed : IsMalformed line
  pub diagnosis : Diagnosis
  pub explained : IsExplained line diagnosis
  pub column : c.column ≡ diagnosis.column
  pub counted : c.counted ≡ diagnosis.counted
  pub reason : DifferInFound diagnosis.reason c.reason.reason

-- each count names a malformed line
abbrev pub NameLinesFrom : ℕ → List (List ℕ) → List ReasonCount → Type 0
NameLinesFrom n lines counts = All (NamesLineFrom n lines) counts

-- Words that only private clauses cite.

-- the count of a line of a piece, in the document, if this many lines are before the piece
abbrev pub moved : ℕ → ReasonCount → ReasonCount
moved before c = record {
  reason = c.reason;
  count = c.count;
  first = before + (c.first + 1);
  column = c.column;
  counted = c.counted;
}
