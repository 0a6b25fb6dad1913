-- The laws of runs and of the rule, as statements.
use Rattle.std.specs.Prelude.{◌≡◌, ℕ, ◌≤◌, List, slice_index}
use Rattle.piece_board.specs.Limits.{most_seats, most_pieces}
use Rattle.atomic_table.specs.Table.{State}
use Rattle.piece_board.specs.declared.history.History.{History}
use Rattle.piece_board.specs.declared.rule.Size.{Size}
use Rattle.piece_board.specs.Protocol.{BoardState, Event, opening, run, AdmitsAll}
use Rattle.piece_board.specs.Claims.{IsSeat, Claims}
use Rattle.piece_board.specs.Rule.{KeepsRule}

-- each history represents one seat
abbrev pub AreSingle : List History → Type 0
AreSingle histories = (s : ℕ) (h : History) → IsSeat histories s h → h.seats ≡ 1

-- the claims are true of a state of a board of n pieces with k seats
abbrev pub ClaimsHold : ℕ → ℕ → BoardState → Type 0
ClaimsHold n k b = Claims n k b.next b.least b.histories × AreSingle b.histories

-- every run: any number of pieces up to 2^62, any number of seats up to 64, any list of admitted
-- events
abbrev pub RunsKeepClaims : Type 0
RunsKeepClaims =
    (n k : ℕ) (events : List Event) → n ≤ most_pieces → k ≤ most_seats → AdmitsAll (opening n k) events
    → ClaimsHold n k (run (opening n k) events)

-- every state of the table between any two steps of running threads
abbrev pub RuleIsClaims : Type 0
RuleIsClaims =
    (size : Size) (s : State (Unit {0}) History) → KeepsRule size s
    → Claims size.pieces size.seats (slice_index s.words 0) (slice_index s.words 1) s.views
