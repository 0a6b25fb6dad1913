-- Lines of a document that is split into pieces, and the statements in them.
use Rattle.std.proofs.Common.{◌≡◌, ℕ, zero, suc, ◌+◌, List, [], ◌∷◌, ◌++◌, length, refl, sym, ap, ◌∙◌, subst, append_assoc, append-nil, arith}
use Rattle.std.specs.Prelude.{option_to_list}
use Rattle.rdf_core.specs.QuadParts.{QuadParts}
use Rattle.nquads_core.specs.Lines.{lines}
use Rattle.nquads_core.specs.Pieces.{HaveStatements, IsFirstMalformed}
use Rattle.nquads_core.proofs.LineEnds.{lines_join}
use Rattle.dataset_load.specs.Lines.{AreWholeLines, all_lines, joined}

pub statements-append : (xs ys : List (List ℕ)) (qs rs : List QuadParts) → HaveStatements xs qs → HaveStatements ys rs → HaveStatements (xs ++ ys) (qs ++ rs)
statements-append [] ys qs rs a b = subst (λ (q : List QuadParts). HaveStatements ys (q ++ rs)) (sym a) b
statements-append (x ∷ xs) ys qs rs a b =
    (a.0, a.1 ++ rs, a.2, ap (λ (q : List QuadParts). q ++ rs) a.3 ∙ append_assoc (option_to_list a.0) a.1 rs, statements-append xs ys a.1 rs a.4 b)

-- the first malformed line of what follows valid lines
pub malformed_after : (xs ys : List (List ℕ)) (qs : List QuadParts) (k : ℕ) → HaveStatements xs qs → IsFirstMalformed ys k → IsFirstMalformed (xs ++ ys) (length xs + k)
malformed_after [] ys qs k a b = let e : k ≡ 0 + k = omega arith in subst (λ (n : ℕ). IsFirstMalformed ys n) e b
malformed_after (x ∷ xs) ys qs k a b =
    let e : suc (length xs + k) ≡ suc (length xs) + k = omega arith in
    subst (λ (n : ℕ). IsFirstMalformed (x ∷ (xs ++ ys)) n) e ((a.0, a.2), malformed_after xs ys a.1 k a.4 b)

-- lines that follow do not matter
pub bad_before : (xs ys : List (List ℕ)) (k : ℕ) → IsFirstMalformed xs k → IsFirstMalformed (xs ++ ys) k
bad_before [] ys k b = absurd b
bad_before (x ∷ xs) ys zero b = b
bad_before (x ∷ xs) ys (suc k) b = (b.0, bad_before xs ys k b.1)

-- the lines of pieces of whole lines are the lines of the pieces joined
pub lines_of_pieces : (ps : List (List ℕ)) → AreWholeLines ps → all_lines ps ≡ lines (joined ps)
unfolding lines
lines_of_pieces [] h = refl
lines_of_pieces (p ∷ []) h = append-nil (lines p) ∙ ap lines (sym (append-nil p))
lines_of_pieces (p ∷ q ∷ ps) h =
    ap (λ (ls : List (List ℕ)). lines p ++ ls) (lines_of_pieces (q ∷ ps) (λ i low. h (suc i) (omega arith)))
    ∙ sym (lines_join p (joined (q ∷ ps)) (h 0 (omega arith)))
