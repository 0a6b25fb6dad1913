-- The rule of the board's table: the claims as equations on counts, which each step preserves, what
-- each step returns, and how seats are split and joined. The law `the_rule_is_the_claims` states
-- that the rule is the claims seat by seat. A choice of this project (not fixed by a standard).
use Rattle.std.specs.Prelude.{◌≡◌, ◌⊎◌, ℕ, ◌-◌, ◌+◌, ◌<◌, ◌≤◌, min, List, [], ◌++◌, length, slice_index, sum_by}
use Rattle.piece_board.specs.Limits.{most_seats, most_pieces}
use mathlib.Core.Option.{some}
use lib.ListN.{get_elem?}
use Rattle.atomic_table.specs.Table.{State, Me, Step}
use Rattle.piece_board.specs.declared.history.History.{History}
use Rattle.piece_board.specs.declared.rule.Size.{Size}
use Rattle.piece_board.specs.Counts.{times, once_below}
use Rattle.piece_board.specs.Protocol.{after_draw, with_report, with_seen}
use Rattle.piece_board.specs.Claims.{finished}

-- how often x was drawn, and reported, by all seats together
abbrev pub drawn : ℕ → List History → ℕ
drawn x histories = sum_by (λ h. times x h.draws) histories

-- the same of the reports
abbrev pub reported : ℕ → List History → ℕ
reported x histories = sum_by (λ h. times x h.reports) histories

-- how many seats the histories represent together
abbrev pub seats : List History → ℕ
seats histories = sum_by (λ h. h.seats) histories

-- the claims of one history; one that represents no seat has nothing
pub record HistoryClaims (n next least : ℕ) (histories : List History) (h : History) : Type 0 where
  pub pieces : 0 < h.seats → h.pieces ≡ n
  pub ended : 0 < h.finished → n < next
  pub counted : h.finished ≤ h.seats
  pub among : (x : ℕ) → times x h.reports ≤ times x h.draws
  pub seen_is : 0 < h.seats → (h.seen ≡ n) ⊎ (0 < reported h.seen histories)
  pub seen_above : 0 < h.seats → least ≤ h.seen
  pub spent : (x : ℕ) → h.seats ≡ 0 → times x h.draws ≡ 0

-- the claims of a board of n pieces with k seats
pub record CountedClaims (n k next least : ℕ) (histories : List History) : Type 0 where
  pub once : (x : ℕ) → drawn x histories ≡ once_below x (min next n)
  pub bounded : next ≤ n + finished histories
  pub seated : seats histories ≡ k
  pub least_is : (least ≡ n) ⊎ (0 < reported least histories)
  pub lowest : (x : ℕ) → 0 < reported x histories → least ≤ x
  pub within : least ≤ n
  pub each :
      (s : ℕ) (h : History) → get_elem? histories s ≡ some h
      → HistoryClaims n next least histories h

-- the rule: word 0 is the next number to draw, word 1 the least report, and a view is a history
pub record KeepsRule (size : Size) (s : State (Unit {0}) History) : Type 0 where
  pub words : length s.words ≡ 2
  pub pieces_fit : size.pieces ≤ most_pieces
  pub seats_fit : size.seats ≤ most_seats
  pub kept :
      CountedClaims size.pieces size.seats (slice_index s.words 0) (slice_index s.words 1) s.views

-- each draw is below the number of pieces, and occurs once
abbrev pub DrawsOnce : History → Type 0
DrawsOnce h = (x : ℕ) → times x h.draws ≤ once_below x h.pieces

-- a seat as the table sees it: its history, and the slots that it holds (there are none)
abbrev Holder : Type 0
Holder = Me (Unit {0}) History

-- a draw that found this number: the number is added to the draws, or the seat is finished
abbrev pub IsDraw : Step (Unit {0}) → Holder → ℕ → Holder → Type 0
IsDraw step me found after = (after ≡ (after_draw found me.0, me.1)) × DrawsOnce after.0

-- a report adds its number to the reports
abbrev pub IsReport : Step (Unit {0}) → Holder → ℕ → Holder → Type 0
IsReport step me found after = after ≡ (with_report step.first me.0, me.1)

-- a look records what it found, which no number that the seat saw or reported is below
abbrev pub IsLook : Step (Unit {0}) → Holder → ℕ → Holder → Type 0
IsLook step me found after =
    (after ≡ (with_seen found me.0, me.1)) × (found ≤ me.0.seen) × (found ≤ me.0.pieces)
    × ((x : ℕ) → 0 < times x me.0.reports → found ≤ x)

-- what a seat keeps when one seat is split off, and what the new seat gets
abbrev pub kept_back : History → History
kept_back h = record {
  pieces = h.pieces;
  seats = h.seats - 1;
  draws = h.draws;
  reports = h.reports;
  seen = h.seen;
  finished = h.finished;
}

-- the history of the new seat
abbrev pub dealt : History → History
dealt h = record {
  pieces = h.pieces;
  seats = 1;
  draws = [];
  reports = [];
  seen = h.seen;
  finished = 0;
}

-- two seats as one: the lists of the second follow those of the first
abbrev pub together : History → History → History
together v w = record {
  pieces = v.pieces;
  seats = v.seats + w.seats;
  draws = v.draws ++ w.draws;
  reports = v.reports ++ w.reports;
  seen = min v.seen w.seen;
  finished = v.finished + w.finished;
}
