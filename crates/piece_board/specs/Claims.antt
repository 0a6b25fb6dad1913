-- The invariant of a claim board between any two events, seat by seat. A choice of this project
-- (not fixed by a standard). When the board is closed, the passes are joined into one. A joined
-- seat represents no seat: its history is empty, and nothing is claimed of what it saw.
use Rattle.std.specs.Prelude.{◌≡◌, ◌≢◌, ◌⊎◌, ℕ, ◌+◌, ◌<◌, ◌≤◌, ◌^◌, min, List, sum_by}
use mathlib.Core.Option.{some}
use lib.ListN.{get_elem?}
use Rattle.piece_board.specs.declared.history.History.{History}
use Rattle.piece_board.specs.Counts.{times}

-- h is the history of the s-th seat
abbrev pub IsSeat : List History → ℕ → History → Type 0
IsSeat histories s h = get_elem? histories s ≡ some h

-- how many seats are finished
abbrev pub finished : List History → ℕ
finished histories = sum_by (λ h. h.finished) histories

-- one seat drew x, once, and no other did
abbrev pub IsDrawnOnce : List History → ℕ → Type 0
IsDrawnOnce histories x =
    (s : ℕ) × (h : History) × IsSeat histories s h × (times x h.draws ≡ 1)
    × ((t : ℕ) (other : History) → IsSeat histories t other → t ≢ s → times x other.draws ≡ 0)

-- some seat reported x
abbrev pub IsReported : List History → ℕ → Type 0
IsReported histories x =
    (s : ℕ) × (h : History) × IsSeat histories s h × (0 < times x h.reports)

-- the invariant: n pieces, k seats, the next number and the least report
pub record Claims (n k next least : ℕ) (histories : List History) : Type 0 where
  -- each number below next and n was drawn once, by one seat, and no other number was drawn
  pub drawn_once : (x : ℕ) → x < min next n → IsDrawnOnce histories x
  pub no_other :
      (x : ℕ) → min next n ≤ x → (s : ℕ) (h : History) → IsSeat histories s h
      → times x h.draws ≡ 0
  -- a seat is finished only past the last number, once, and next does not wrap
  pub ended : (s : ℕ) (h : History) → IsSeat histories s h → 0 < h.finished → n < next
  pub finished_once : (s : ℕ) (h : History) → IsSeat histories s h → h.finished ≤ h.seats
  pub next_bound : next ≤ n + finished histories
  pub finished_bound : finished histories ≤ k
  pub no_wrap : next < 2 ^ 64
  -- least is n or a report, and at most each report
  pub least_is : (least ≡ n) ⊎ IsReported histories least
  pub lowest : (x : ℕ) → IsReported histories x → least ≤ x
  -- what a seat has seen is n or a report, and least is at most that
  pub seen_is :
      (s : ℕ) (h : History) → IsSeat histories s h → 0 < h.seats
      → (h.seen ≡ n) ⊎ IsReported histories h.seen
  pub seen_above : (s : ℕ) (h : History) → IsSeat histories s h → 0 < h.seats → least ≤ h.seen
  -- a seat's reports are among its draws, each once
  pub among :
      (s : ℕ) (h : History) → IsSeat histories s h → (x : ℕ) → 0 < times x h.reports
      → 0 < times x h.draws
  pub reported_once :
      (s : ℕ) (h : History) → IsSeat histories s h → (x : ℕ) → times x h.reports ≤ 1
