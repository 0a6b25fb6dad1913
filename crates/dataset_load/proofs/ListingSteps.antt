-- Lists of malformed lines, piece after piece.
use Rattle.std.proofs.Common.{◌≡◌, ℕ, ◌+◌, ◌<◌, List, [], ◌∷◌, ◌++◌, length, take, get_or, sym, ap, ◌∙◌, subst, append_assoc, append-nil, arith}
use Rattle.std.specs.Borrow.{Bor}
use Rattle.std.proofs.lemmas.List.{length-map, take_more, take_all}
use Rattle.std.proofs.lemmas.Grind.{flat_map-append}
use Rattle.nquads_core.specs.Lines.{lines}
use Rattle.malformed_lines.specs.Malformed.{IsListed}
use Rattle.malformed_lines.specs.declared.document_list.MalformedLines.{MalformedLines}
use Rattle.dataset_load.specs.Lines.{all_lines, text_at, texts}

pub many_texts : (pieces : List (Bor (List ℕ))) → length (texts pieces) ≡ length pieces
many_texts pieces = length-map pieces (λ (piece : Bor (List ℕ)). piece.now)

-- the lines of one more piece
pub lines_of_one_more : (pieces : List (Bor (List ℕ))) (i : ℕ) → i < length pieces
    → all_lines (take (i + 1) (texts pieces)) ≡ all_lines (take i (texts pieces)) ++ lines (text_at pieces i)
lines_of_one_more pieces i l =
    let m : i < length (texts pieces) = omega (arith, l, many_texts pieces) in
    ap all_lines (take_more (texts pieces) i [] m)
    ∙ flat_map-append lines (take i (texts pieces)) (get_or (texts pieces) i [] ∷ [])
    ∙ ap (λ (ls : List (List ℕ)). all_lines (take i (texts pieces)) ++ ls) (append-nil (lines (get_or (texts pieces) i [])))

pub listed_more : (pieces : List (Bor (List ℕ))) (i : ℕ) (before : List (List ℕ)) (list : MalformedLines) → i < length pieces
    → IsListed ((before ++ all_lines (take i (texts pieces))) ++ lines (text_at pieces i)) list → IsListed (before ++ all_lines (take (i + 1) (texts pieces))) list
listed_more pieces i before list l h =
    subst (λ (ls : List (List ℕ)). IsListed ls list)
    (append_assoc before (all_lines (take i (texts pieces))) (lines (text_at pieces i)) ∙ ap (λ (ls : List (List ℕ)). before ++ ls) (sym (lines_of_one_more pieces i l))) h

pub listed_all : (pieces : List (Bor (List ℕ))) (n : ℕ) (before : List (List ℕ)) (list : MalformedLines) → n ≡ length pieces
    → IsListed (before ++ all_lines (take n (texts pieces))) list → IsListed (before ++ all_lines (texts pieces)) list
listed_all pieces n before list e h =
    subst (λ (ts : List (List ℕ)). IsListed (before ++ all_lines ts) list) (take_all n (texts pieces) (omega (arith, e, many_texts pieces))) h

pub listed_none : (before : List (List ℕ)) (list : MalformedLines) → IsListed before list → IsListed (before ++ []) list
listed_none before list h = subst (λ (ls : List (List ℕ)). IsListed ls list) (sym (append-nil before)) h
