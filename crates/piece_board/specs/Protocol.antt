-- The claim board as plain data: the next number to draw, the least reported number, and for each
-- seat the history of what it did and saw. A run is a list of events. An event is one exchange on
-- one of the two numbers, and changes the history of one seat only. A choice of this project (not
-- fixed by a standard).
use Rattle.std.specs.Prelude.{◌≡◌, ℕ, zero, suc, ◌+◌, ltb, min, cond, List, [], ◌∷◌, ◌++◌, replicate}
use mathlib.Core.Option.{some}
use lib.ListN.{get_elem?}
use Rattle.piece_board.specs.declared.history.History.{History}
use Rattle.piece_board.specs.Counts.{times}

-- the history of k seats that have done nothing, on a board of n pieces
abbrev pub fresh : ℕ → ℕ → History
fresh n k = record { pieces = n; seats = k; draws = []; reports = []; seen = n; finished = 0 }

-- i was drawn
abbrev pub with_draw : ℕ → History → History
with_draw i h = record {
  pieces = h.pieces;
  seats = h.seats;
  draws = h.draws ++ i ∷ [];
  reports = h.reports;
  seen = h.seen;
  finished = h.finished;
}

-- nothing was left to draw: the seat is finished
abbrev pub with_end : History → History
with_end h = record {
  pieces = h.pieces;
  seats = h.seats;
  draws = h.draws;
  reports = h.reports;
  seen = h.seen;
  finished = h.finished + 1;
}

-- i was reported
abbrev pub with_report : ℕ → History → History
with_report i h = record {
  pieces = h.pieces;
  seats = h.seats;
  draws = h.draws;
  reports = h.reports ++ i ∷ [];
  seen = h.seen;
  finished = h.finished;
}

-- i was seen as the least report
abbrev pub with_seen : ℕ → History → History
with_seen i h = record {
  pieces = h.pieces;
  seats = h.seats;
  draws = h.draws;
  reports = h.reports;
  seen = i;
  finished = h.finished;
}

-- after a draw that found the number i: a number below the count of pieces is drawn, and any other
-- ends the seat
abbrev pub after_draw : ℕ → History → History
after_draw i h = cond (ltb i h.pieces) (with_draw i h) (with_end h)

-- the two shared numbers, and a history for each seat
pub record BoardState : Type 0 where
  pub next : ℕ
  pub least : ℕ
  pub histories : List History

-- n pieces, k seats, nothing done
abbrev pub opening : ℕ → ℕ → BoardState
opening n k = record { next = 0; least = n; histories = replicate k (fresh n 1) }

-- what a seat may do: draw, report the number i, look
pub data Event : Type 0 where
  draw : ℕ → Event
  report : ℕ → ℕ → Event
  look : ℕ → Event

-- the list with its s-th history changed
abbrev pub change : ℕ → (History → History) → List History → List History
change s f [] = []
change zero f (h ∷ hs) = f h ∷ hs
change (suc s) f (h ∷ hs) = h ∷ change s f hs

-- i is the last number of the list
abbrev pub IsLast : ℕ → List ℕ → Type 0
IsLast i xs = (before : List ℕ) × (xs ≡ before ++ i ∷ [])

-- A seat that is not finished may draw, and may report the last of its draws, once. Any seat may
-- look.
abbrev pub Admits : BoardState → Event → Type 0
Admits b (draw s) = (h : History) × (get_elem? b.histories s ≡ some h) × (h.finished ≡ 0)
Admits b (report s i) =
    (h : History) × (get_elem? b.histories s ≡ some h) × (h.finished ≡ 0) × IsLast i h.draws
    × (times i h.reports ≡ 0)
Admits b (look s) = (h : History) × (get_elem? b.histories s ≡ some h)

-- the state after an event
abbrev pub after : BoardState → Event → BoardState
after b (draw s) = record {
  next = b.next + 1;
  least = b.least;
  histories = change s (after_draw b.next) b.histories;
}
after b (report s i) = record {
  next = b.next;
  least = min b.least i;
  histories = change s (with_report i) b.histories;
}
after b (look s) = record {
  next = b.next;
  least = b.least;
  histories = change s (with_seen b.least) b.histories;
}

-- the state after all events, in order
abbrev pub run : BoardState → List Event → BoardState
run b [] = b
run b (e ∷ es) = run (after b e) es

-- each event is admitted in its state
abbrev pub AdmitsAll : BoardState → List Event → Type 0
AdmitsAll b [] = Unit {0}
AdmitsAll b (e ∷ es) = Admits b e × AdmitsAll (after b e) es
