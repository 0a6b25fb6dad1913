-- Lists of terms as lines, which lines are new, and which are kept (choices of this project).
use Rattle.std.specs.Prelude.{ℕ, Bool, not, ◌%◌, ◌==◌, List, [], ◌∷◌, ◌++◌, if◌then◌else◌, filter, get_or, length, codes}
use Rattle.std.specs.List.{flat_map, list_any}
use Rattle.std.specs.Str.{bytes_eq}
use Rattle.rdf_core.specs.declared.term.Term.{Term}
use Rattle.rdf_core.specs.Serialization.{serialization}
use Rattle.cluster_parts.specs.Hash.{hash}
use Rattle.cluster_parts.specs.Parts.{is_in}

-- texts, each on a line of its own
abbrev pub line_list : List (List ℕ) → List ℕ
line_list texts = flat_map (λ text. text ++ codes "\n") texts

-- a term on a line of its own, as `spq terms` prints it
abbrev pub term_line : Term → List ℕ
term_line t = serialization t ++ codes "\n"

-- each term on a line of its own
abbrev pub term_lines : List Term → List ℕ
term_lines terms = flat_map term_line terms

-- the line is in the list
abbrev pub has_line : List (List ℕ) → List ℕ → Bool
has_line ls l = list_any (bytes_eq l) ls

-- the mark of a line, which is new or not
abbrev pub mark : Bool → ℕ
mark is_new = if is_new then 1 else 0

-- the mark of each line, which is new if it is neither in `earlier` nor before itself in the list
abbrev pub marks : List (List ℕ) → List (List ℕ) → List ℕ
marks earlier [] = []
marks earlier (l ∷ ls) = mark (not (has_line earlier l)) ∷ marks (earlier ++ l ∷ []) ls

-- the marks of each list, after the lists before it
abbrev pub marks_in_turn : List (List ℕ) → List (List (List ℕ)) → List (List ℕ)
marks_in_turn earlier [] = []
marks_in_turn earlier (ls ∷ lists) = marks earlier ls ∷ marks_in_turn (earlier ++ ls) lists

-- the lines of a partition
abbrev pub lines_in : ℕ → ℕ → List (List ℕ) → List (List ℕ)
lines_in partitions number ls = filter (λ l. is_in partitions number (hash l)) ls

-- A line is marked as new. The marks of a partition are those of its lines, in order, so the place of a mark is the number
-- of lines of this partition before the line.
abbrev pub is_marked : List (List ℕ) → List (List ℕ) → List ℕ → Bool
is_marked marks before l =
    let number = hash l % length marks in
    get_or (get_or marks number []) (length (lines_in (length marks) number before)) 0 == 1

-- the lines that are marked as new, of a list after these lines
abbrev pub marked_lines : List (List ℕ) → List (List ℕ) → List (List ℕ) → List (List ℕ)
marked_lines marks before [] = []
marked_lines marks before (l ∷ ls) =
    let others = marked_lines marks (before ++ l ∷ []) ls in
    if is_marked marks before l then l ∷ others else others
