-- Blocks that are read one after the other.
use Rattle.std.proofs.Common.{◌≡◌, ℕ, ◌+◌, ◌-◌, ◌<◌, ◌≤◌, List, [], ◌∷◌, ◌++◌, length, get_or, take, Option, Some, None, IfSome, Ok, Err, Vec, Global, refl, sym, ap, ◌∙◌, subst, append_assoc, append-nil, length-append, inl, inr, ◌⊎◌, arith, rules}
use Rattle.std.proofs.lemmas.List.{take_more, take_all, map-append, get_or_append_left}
use Rattle.std.proofs.lemmas.Grind.{flat_map-append}
use Rattle.std.specs.Borrow.{Bor}
use Rattle.std.specs.Io.KnownBytes.{Consumes, IsAtEnd}
use Rattle.nquads_core.specs.Device.{Stays}
use Rattle.nquads_core.specs.Lines.{EndsLine}
use Rattle.nquads_core.specs.Transfer.{CountsRead}
use Rattle.nquads_core.specs.declared.transfer.ReadFault.{ReadFault}
use Rattle.nquads_core.specs.declared.transfer.ReadFault.TheVariants.{Read, Memory}
use Rattle.nquads_core.proofs.TransferSteps.{Stays-rises, Stays-stays}
use Rattle.piece_cuts.specs.Blocks.{BothKnown, GivesKnownBlock, IsFirstPiece, IsWhole}
use Rattle.piece_cuts.specs.Laws.{EndsWithLineFeed, FirstPieceThenTheRest}
use Rattle.dataset_load.specs.Lines.{AreBlocksOf, AreWholeLines, EachEnds, block_texts, joined, texts}
use Rattle.dataset_load.specs.ReadSoFar.{IsReadIn}

pub whole_from_last : (bytes : List ℕ) → 0 < length bytes → get_or bytes (length bytes - 1) 0 ≡ 10 → EndsWithLineFeed bytes
whole_from_last bytes some last =
    let k : length bytes ≡ (length bytes - 1) + 1 = omega arith in (
      take (length bytes - 1) bytes,
      sym (take_all (length bytes) bytes (omega arith)) ∙ ap (λ n. take n bytes) k ∙ take_more bytes (length bytes - 1) 0 (omega arith)
          ∙ ap (λ x. take (length bytes - 1) bytes ++ x ∷ []) last,
    )

at_seam : (front : List ℕ) → get_or (front ++ 10 ∷ []) (length front) 0 ≡ 10
at_seam [] = refl
at_seam (b ∷ front) = at_seam front

pub last_of_whole : (bytes : List ℕ) → EndsWithLineFeed bytes → (0 < length bytes) × (get_or bytes (length bytes - 1) 0 ≡ 10)
last_of_whole bytes h =
    let n : length bytes ≡ length h.0 + 1 = ap length h.1 ∙ length-append h.0 (10 ∷ []) in
    let at : length bytes - 1 ≡ length h.0 = omega arith in
    (omega arith, ap (λ i. get_or bytes i 0) at ∙ ap (λ bs. get_or bs (length h.0) 0) h.1 ∙ at_seam h.0)

pub ends_start : EachEnds []
ends_start i low = absurd (omega arith)

at_end_of : (ps : List (List ℕ)) (p : List ℕ) → get_or (ps ++ p ∷ []) (length ps) [] ≡ p
at_end_of [] p = refl
at_end_of (q ∷ ps) p = at_end_of ps p

pub ends_more : (ps : List (List ℕ)) (p : List ℕ) → EachEnds ps → EndsWithLineFeed p → EachEnds (ps ++ p ∷ [])
ends_more ps p h k i low = by (which i (length ps))
  where
    which : (a b : ℕ) → (a < b) ⊎ (b ≤ a)
    which a b = search (rules, arith)

    by : (i < length ps) ⊎ (length ps ≤ i) → EndsLine (get_or (ps ++ p ∷ []) i [])
    by (inl less) = subst EndsLine (sym (get_or_append_left ps (p ∷ []) [] i less)) (h i less)
    by (inr more) =
        let l = length-append ps (p ∷ []) in
        let e : i ≡ length ps = omega arith in
        subst EndsLine (sym (ap (λ n. get_or (ps ++ p ∷ []) n []) e ∙ at_end_of ps p)) (inr k)

pub whole_but_last : (ps : List (List ℕ)) (p : List ℕ) → EachEnds ps → AreWholeLines (ps ++ p ∷ [])
whole_but_last ps p h i low =
    let l = length-append ps (p ∷ []) in
    let less : i < length ps = omega arith in
    subst EndsLine (sym (get_or_append_left ps (p ∷ []) [] i less)) (h i less)

pub whole_all : (ps : List (List ℕ)) → EachEnds ps → AreWholeLines ps
whole_all ps h i low = h i (omega arith)

pub texts_more : (old new : List (Vec ℕ Global)) (block : Vec ℕ Global) → new ≡ old ++ block ∷ [] → block_texts new ≡ block_texts old ++ block.items ∷ []
texts_more old new block e = ap block_texts e ∙ map-append (λ (b : Vec ℕ Global). b.items) old (block ∷ [])

-- one more block is borrowed
pub borrowed_more : (pieces new : List (Bor (List ℕ))) (blocks : List (Vec ℕ Global)) (i : ℕ) (piece : Bor (List ℕ)) (block : Vec ℕ Global)
    → i < length blocks → texts pieces ≡ block_texts (take i blocks) → piece.now ≡ block.items → block ≡ get_or blocks i block → new ≡ pieces ++ piece ∷ []
    → texts new ≡ block_texts (take (i + 1) blocks)
borrowed_more pieces new blocks i piece block low was value is pushed =
    ap texts pushed ∙ map-append (λ (p : Bor (List ℕ)). p.now) pieces (piece ∷ []) ∙ (λ j. was j ++ value j ∷ [])
    ∙ ap (λ (b : Vec ℕ Global). block_texts (take i blocks) ++ b.items ∷ []) is
    ∙ sym (texts_more (take i blocks) (take (i + 1) blocks) (get_or blocks i block) (take_more blocks i block low))

pub pushed_piece : (old new : List (Bor (List ℕ))) (piece : Bor (List ℕ)) → new ≡ old ++ piece ∷ [] → length new ≡ length old + 1
pushed_piece old new piece e = ap length e ∙ length-append old (piece ∷ [])

pub pushed_length : (old new : List (Vec ℕ Global)) (block : Vec ℕ Global) → new ≡ old ++ block ∷ [] → length new ≡ length old + 1
pushed_length old new block e = ap length e ∙ length-append old (block ∷ [])

pub joined_more : (ps : List (List ℕ)) (p : List ℕ) → joined (ps ++ p ∷ []) ≡ joined ps ++ p
joined_more ps p = flat_map-append (λ (q : List ℕ). q) ps (p ∷ []) ∙ ap (λ bs. joined ps ++ bs) (append-nil p)

pub read_start : (a : Option (List ℕ)) (kept : List ℕ) → kept ≡ [] → IsReadIn a a [] kept
read_start None kept e = tt
read_start (Some xs) kept e = sym (ap (λ bs. bs ++ xs) e)

pub read_step : (a b c : Option (List ℕ)) (done done' kept kept' : List ℕ) (size : ℕ) (block : Vec ℕ Global)
    → IsReadIn a b done kept → GivesKnownBlock size kept b kept' c (Ok (Some block)) → done' ≡ done ++ block.items → IsReadIn a c done' kept'
read_step None b c done done' kept kept' size block h k e = tt
read_step (Some xs) None c done done' kept kept' size block h k e = absurd h
read_step (Some xs) (Some ys) None done done' kept kept' size block h k e = absurd k
read_step (Some xs) (Some ys) (Some zs) done done' kept kept' size block h k e =
    h ∙ ap (λ bs. done ++ bs) k.1.joined ∙ sym (append_assoc done block.items (kept' ++ zs)) ∙ ap (λ bs. bs ++ (kept' ++ zs)) (sym e)

-- what was read and what is kept are a beginning of what there was
pub read_front : (a b : Option (List ℕ)) (done kept : List ℕ) → IsReadIn a b done kept → Consumes a b (done ++ kept)
read_front None b done kept h = tt
read_front (Some xs) None done kept h = absurd h
read_front (Some xs) (Some ys) done kept h = h ∙ sym (append_assoc done kept ys)

-- nothing is kept and nothing is left
pub read_all : (a b c : Option (List ℕ)) (done kept kept' : List ℕ) (size : ℕ)
    → IsReadIn a b done kept → GivesKnownBlock size kept b kept' c (Ok None) → IsAtEnd c → Consumes a c done
read_all None b c done kept kept' size h k e = tt
read_all (Some xs) None c done kept kept' size h k e = absurd h
read_all (Some xs) (Some ys) None done kept kept' size h k e = absurd k
read_all (Some xs) (Some ys) (Some zs) done kept kept' size h k e =
    h ∙ ap (λ bs. done ++ bs) k ∙ ap (λ bs. done ++ bs) (sym e)

-- nothing follows a first piece that does not end with a line feed
pub nothing_after : (size : ℕ) (text rest : List ℕ) (block : Vec ℕ Global) → IsFirstPiece size text block.items rest
    → ¬ EndsWithLineFeed block.items → rest ≡ []
nothing_after size text rest block first unended =
    elim first.cut [
      | inl cut ↦ absurd (unended (whole_from_last block.items (omega (arith, cut.cut.inside.0))
          (sym (get_or_append_left block.items rest 0 (length block.items - 1) (omega (arith, cut.cut.inside.0)))
          ∙ ap (λ bs. get_or bs (length block.items - 1) 0) (sym first.joined) ∙ cut.cut.after_line_feed)))
      | inr last ↦ last.1
    ]

-- the last block, which does not end with a line feed
pub read_last : (a b c : Option (List ℕ)) (done done' kept kept' : List ℕ) (size : ℕ) (block : Vec ℕ Global)
    → IsReadIn a b done kept → GivesKnownBlock size kept b kept' c (Ok (Some block)) → done' ≡ done ++ block.items
    → IsAtEnd c → ¬ EndsWithLineFeed block.items → Consumes a c done'
read_last None b c done done' kept kept' size block h k e end unended = tt
read_last (Some xs) None c done done' kept kept' size block h k e end unended = absurd h
read_last (Some xs) (Some ys) None done done' kept kept' size block h k e end unended = absurd k
read_last (Some xs) (Some ys) (Some zs) done done' kept kept' size block h k e end unended =
    let text = h ∙ ap (λ bs. done ++ bs) k.1.joined ∙ sym (append_assoc done block.items (kept' ++ zs)) ∙ ap (λ bs. bs ++ (kept' ++ zs)) (sym e) in
    text ∙ ap (λ bs. done' ++ bs) (nothing_after size (kept ++ ys) (kept' ++ zs) block k.1 unended) ∙ ap (λ bs. done' ++ bs) (sym end)

-- of the two, the reader's end
pub at_the_end : (left : Option (List ℕ)) (block : Vec ℕ Global) → IsWhole (Some block) ⊎ IsAtEnd left → ¬ EndsWithLineFeed block.items → IsAtEnd left
at_the_end left block (inl whole) unended = absurd (unended whole)
at_the_end left block (inr end) unended = end

pub none_at_end : (left : Option (List ℕ)) → IsWhole None ⊎ IsAtEnd left → IsAtEnd left
none_at_end left (inl whole) = absurd whole
none_at_end left (inr end) = end

-- a failure after reads that did not fail
pub fault_counts : (a b c : Option ℕ) (fault : ReadFault) → Stays a b → CountsRead {T = ℕ} b c (Err fault) → CountsRead {T = ℕ} a c (Err fault)
fault_counts a b c Read h k = Stays-rises a b c h k
fault_counts a b c Memory h k = Stays-stays a b c h k

-- ---- the blocks are the pieces

-- the blocks that were read, followed by those of what is kept and left, are the blocks of what there was
abbrev pub IsCutSo : ℕ → Option (List ℕ) → Option (List ℕ) → List (List ℕ) → List ℕ → Type 0
IsCutSo size left left' done kept =
    BothKnown left left' (λ xs ys. (rest : List (List ℕ)) → AreBlocksOf size (kept ++ ys) rest → AreBlocksOf size xs (done ++ rest))

pub cut_start : (size : ℕ) (a : Option (List ℕ)) (kept : List ℕ) → kept ≡ [] → IsCutSo size a a [] kept
cut_start size None kept e = tt
cut_start size (Some xs) kept e = λ rest h. subst (λ (text : List ℕ). AreBlocksOf size text rest) (ap (λ (bs : List ℕ). bs ++ xs) e) h

none_of_none : (size : ℕ) → AreBlocksOf size [] []
none_of_none size = (λ e. refl, λ places some every. absurd (omega arith))

-- a first piece, and then the blocks of the rest
block_more : FirstPieceThenTheRest → (size : ℕ) (text piece rest : List ℕ) (more : List (List ℕ)) → 1 ≤ size → 0 < length text
    → IsFirstPiece size text piece rest → AreBlocksOf size rest more → AreBlocksOf size text (piece ∷ more)
block_more law size text piece rest more one some first h = (
  λ e. absurd (omega arith),
  λ places low every. elim (law size text piece rest places one some first every) [
    | inl last ↦ ap (λ (ps : List (List ℕ)). piece ∷ ps) (h.0 (ap length last.0)) ∙ sym last.1
    | inr later ↦ ap (λ (ps : List (List ℕ)). piece ∷ ps) (h.1 later.0 later.1 later.2) ∙ sym later.3
  ],
)

pub cut_step : FirstPieceThenTheRest → (a b c : Option (List ℕ)) (done done' : List (List ℕ)) (kept kept' : List ℕ) (size : ℕ) (block : Vec ℕ Global)
    → 1 ≤ size → IsCutSo size a b done kept → GivesKnownBlock size kept b kept' c (Ok (Some block)) → done' ≡ done ++ block.items ∷ [] → IsCutSo size a c done' kept'
cut_step law None b c done done' kept kept' size block one h k e = tt
cut_step law (Some xs) None c done done' kept kept' size block one h k e = absurd h
cut_step law (Some xs) (Some ys) None done done' kept kept' size block one h k e = absurd k
cut_step law (Some xs) (Some ys) (Some zs) done done' kept kept' size block one h k e = λ rest blocks.
    let following = h (block.items ∷ rest) (block_more law size (kept ++ ys) block.items (kept' ++ zs) rest one k.0 k.1 blocks) in
    subst (λ (ps : List (List ℕ)). AreBlocksOf size xs ps) (sym (ap (λ (ps : List (List ℕ)). ps ++ rest) e ∙ append_assoc done (block.items ∷ []) rest)) following

-- P of the text, where it is known
pub cut_all : (a b c : Option (List ℕ)) (done : List (List ℕ)) (kept kept' : List ℕ) (size : ℕ)
    → IsCutSo size a b done kept → GivesKnownBlock size kept b kept' c (Ok None) → IfSome a (λ text. AreBlocksOf size text done)
cut_all None b c done kept kept' size h k = tt
cut_all (Some xs) None c done kept kept' size h k = absurd h
cut_all (Some xs) (Some ys) None done kept kept' size h k = absurd k
cut_all (Some xs) (Some ys) (Some zs) done kept kept' size h k =
    subst (λ (ps : List (List ℕ)). AreBlocksOf size xs ps) (append-nil done)
    (h [] (subst (λ (text : List ℕ). AreBlocksOf size text []) (sym k) (none_of_none size)))

pub cut_last : FirstPieceThenTheRest → (a b c : Option (List ℕ)) (done done' : List (List ℕ)) (kept kept' : List ℕ) (size : ℕ) (block : Vec ℕ Global)
    → 1 ≤ size → IsCutSo size a b done kept → GivesKnownBlock size kept b kept' c (Ok (Some block)) → done' ≡ done ++ block.items ∷ []
    → IsAtEnd c → ¬ EndsWithLineFeed block.items → IfSome a (λ text. AreBlocksOf size text done')
cut_last law None b c done done' kept kept' size block one h k e end unended = tt
cut_last law (Some xs) None c done done' kept kept' size block one h k e end unended = absurd h
cut_last law (Some xs) (Some ys) None done done' kept kept' size block one h k e end unended = absurd k
cut_last law (Some xs) (Some ys) (Some zs) done done' kept kept' size block one h k e end unended =
    let nothing : kept' ++ zs ≡ [] = nothing_after size (kept ++ ys) (kept' ++ zs) block k.1 unended in
    let all = cut_step law (Some xs) (Some ys) (Some zs) done done' kept kept' size block one h k e [] (subst (λ (text : List ℕ). AreBlocksOf size text []) (sym nothing) (none_of_none size)) in
    subst (λ (ps : List (List ℕ)). AreBlocksOf size xs ps) (append-nil done') all
