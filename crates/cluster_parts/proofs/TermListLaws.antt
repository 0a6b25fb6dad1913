-- Which terms are new in each list, and the law that those which are kept are the terms of the document.
use Rattle.std.proofs.Common.{◌≡◌, ℕ, zero, suc, ◌<◌, ◌%◌, ◌==◌, Bool, true, false, cond, not, ◌&&◌, ◌||◌, if◌then◌else◌, List, [], ◌∷◌, ◌++◌, length, map, filter, get_or, refl, sym, ap, subst, ◌∙◌, ⊎_elim, arith, eq-eqb, append-nil, append_assoc, length-append}
use Rattle.std.specs.List.{flat_map, list_any}
use Rattle.std.specs.Prelude.{⊤}
use Rattle.std.proofs.lemmas.Bool.{cases_eq}
use Rattle.std.proofs.lemmas.Nat.{mod_below}
use Rattle.std.proofs.lemmas.List.{get_or_append_left, get_or_push, map-append}
use Rattle.std.proofs.lemmas.Grind.{flat_map-append}
use Rattle.std.proofs.lemmas.List.Elements.{filter-append}
use Rattle.std.proofs.lemmas.List.Folds.{list_any-append}
use Rattle.rdf_core.specs.declared.term.Term.{Term}
use Rattle.rdf_core.specs.QuadParts.{QuadParts}
use Rattle.rdf_core.specs.Serialization.{serialization}
use Rattle.rdf_core.proofs.TermLaws.{term_eq, term_decides, term_eq_laws}
use Rattle.nquads_core.specs.Lines.{lines}
use Rattle.nquads_core.specs.Laws.{IsNQuadsTerm}
use Rattle.dict_core.specs.Appearances.{terms_of, terms_of_quad, first_appearances, differs_from}
use Rattle.algebra_model.proofs.RepeatLaws.{any-without_repeats_is}
use Rattle.cluster_parts.specs.Hash.{term_hash}
use Rattle.cluster_parts.specs.Seal.{joined_texts}
use Rattle.cluster_parts.specs.Parts.{is_in, terms_in}
use Rattle.cluster_parts.specs.Terms.{has_line, is_marked, line_list, lines_in, mark, marked_lines, marks, marks_in_turn, term_line, term_lines}
use Rattle.cluster_parts.specs.Output.{AreFirst, IsKept}
use Rattle.cluster_parts.specs.Laws.{TermsAreKept, block_terms, each_below, partition_terms}
use Rattle.cluster_parts.proofs.Each.{Each, Each-append, Each-filter, Each-without_repeats}
use Rattle.cluster_parts.proofs.DocumentLaws.{IsOfLine, block_quads, form_eq, lines_of_terms, terms_of_lines}
use Rattle.cluster_parts.proofs.SetCounts.{any-filter_is}
use Rattle.cluster_parts.proofs.AddUpLaws.{appearances_once, flat_map-joined}
use Rattle.cluster_parts.proofs.TermSteps.{term_list, terms_lines}

-- ---- terms of lists

-- the term is in the list
abbrev has_term : List Term → Term → Bool
has_term terms t = list_any (term_eq t) terms

-- the terms of a list that are not in an earlier one, each once
abbrev new_terms : List Term → List Term → List Term
new_terms earlier terms = filter (λ t. not (has_term earlier t)) (first_appearances terms)

-- ---- filters

two_filters : (p q r : Term → Bool) → ((t : Term) → (q t && p t) ≡ r t) → (ts : List Term) → filter p (filter q ts) ≡ filter r ts
two_filters p q r h [] = refl
two_filters p q r h (t ∷ ts) = by (q t) refl (two_filters p q r h ts)
  where
    by : (b : Bool) → q t ≡ b → filter p (filter q ts) ≡ filter r ts → filter p (cond b (t ∷ filter q ts) (filter q ts)) ≡ cond (r t) (t ∷ filter r ts) (filter r ts)
    by true e ih = (λ i. cond ((sym (ap (λ b. b && p t) e) ∙ h t) i) (t ∷ ih i) (ih i))
    by false e ih = ih ∙ (λ i. cond ((sym (ap (λ b. b && p t) e) ∙ h t) i) (t ∷ filter r ts) (filter r ts))

all_stay : (ts : List Term) → filter (λ t. not (has_term [] t)) ts ≡ ts
all_stay [] = refl
all_stay (t ∷ ts) = ap (λ l. t ∷ l) (all_stay ts)

nor : (a b : Bool) → (not a && not b) ≡ not (b || a)
nor true true = refl
nor true false = refl
nor false true = refl
nor false false = refl

-- ---- what is new in each list

pub has_appearances : (ts : List Term) (t : Term) → has_term (first_appearances ts) t ≡ has_term ts t
has_appearances ts t = ap (λ l. has_term l t) (appearances_once ts) ∙ any-without_repeats_is term_eq term_decides t ts

pub appearances_split : (xs ys : List Term) → first_appearances (xs ++ ys) ≡ first_appearances xs ++ new_terms xs ys
appearances_split [] ys = sym (all_stay (first_appearances ys))
appearances_split (x ∷ xs) ys =
    ap (λ l. x ∷ filter (differs_from x) l) (appearances_split xs ys)
    ∙ ap (λ l. x ∷ l) (filter-append (differs_from x) (first_appearances xs) (new_terms xs ys)
    ∙ ap (λ l. filter (differs_from x) (first_appearances xs) ++ l) (two_filters (differs_from x) (λ t. not (has_term xs t)) (λ t. not (has_term (x ∷ xs) t)) step (first_appearances ys)))
  where
    step : (t : Term) → (not (has_term xs t) && differs_from x t) ≡ not (has_term (x ∷ xs) t)
    step t = ap (λ b. not (has_term xs t) && not b) (term_eq_laws.symm x t) ∙ nor (has_term xs t) (term_eq t x)

-- what is new after `earlier` in two lists
new_in_both : (earlier xs ys : List Term) → new_terms earlier (xs ++ ys) ≡ new_terms earlier xs ++ new_terms (earlier ++ first_appearances xs) ys
new_in_both earlier xs ys =
    ap (filter (λ t. not (has_term earlier t))) (appearances_split xs ys)
    ∙ filter-append (λ t. not (has_term earlier t)) (first_appearances xs) (new_terms xs ys)
    ∙ ap (λ l. new_terms earlier xs ++ l) (two_filters (λ t. not (has_term earlier t)) (λ t. not (has_term xs t)) (λ t. not (has_term (earlier ++ first_appearances xs) t)) step (first_appearances ys))
  where
    step : (t : Term) → (not (has_term xs t) && not (has_term earlier t)) ≡ not (has_term (earlier ++ first_appearances xs) t)
    step t =
        nor (has_term xs t) (has_term earlier t)
        ∙ ap not (ap (λ b. has_term earlier t || b) (sym (has_appearances xs t)) ∙ sym (list_any-append (term_eq t) earlier (first_appearances xs)))

each_appearances : (ts : List Term) → Each IsNQuadsTerm ts → Each IsNQuadsTerm (first_appearances ts)
each_appearances ts good = subst (Each IsNQuadsTerm) (sym (appearances_once ts)) (Each-without_repeats IsNQuadsTerm term_eq ts good)

-- ---- the lines of terms

has_form : (us : List Term) (t : Term) → Each IsNQuadsTerm us → IsNQuadsTerm t → has_line (map serialization us) (serialization t) ≡ has_term us t
has_form [] t good fine = refl
has_form (u ∷ us) t good fine = λ i. form_eq t u fine good.0 i || has_form us t good.1 fine i

-- ---- terms that are each in a list once

-- no term is before itself, or in `before`
abbrev Fresh : List Term → List Term → Type 0
Fresh before [] = ⊤
Fresh before (t ∷ ts) = (has_term before t ≡ false) × Fresh (before ++ t ∷ []) ts

-- no term is after itself
abbrev Differ : List Term → Type 0
Differ [] = ⊤
Differ (t ∷ ts) = Each (λ u. term_eq u t ≡ false) ts × Differ ts

differ_filter : (p : Term → Bool) (ts : List Term) → Differ ts → Differ (filter p ts)
differ_filter p [] h = tt
differ_filter p (t ∷ ts) h =
    elim (p t) as (λ b. Differ (cond b (t ∷ filter p ts) (filter p ts))) [
      | true ↦ (Each-filter (λ u. term_eq u t ≡ false) p ts h.0, differ_filter p ts h.1)
      | false ↦ differ_filter p ts h.1
    ]

others_differ : (t : Term) (us : List Term) → Each (λ u. term_eq u t ≡ false) (filter (differs_from t) us)
others_differ t [] = tt
others_differ t (u ∷ us) = by (term_eq t u) refl (others_differ t us)
  where
    by : (b : Bool) → term_eq t u ≡ b → Each (λ v. term_eq v t ≡ false) (filter (differs_from t) us) → Each (λ v. term_eq v t ≡ false) (cond (not b) (u ∷ filter (differs_from t) us) (filter (differs_from t) us))
    by true e others = others
    by false e others = (term_eq_laws.symm u t ∙ e, others)

appearances_differ : (ts : List Term) → Differ (first_appearances ts)
appearances_differ [] = tt
appearances_differ (t ∷ ts) = (others_differ t (first_appearances ts), differ_filter (differs_from t) (first_appearances ts) (appearances_differ ts))

fresh_after : (before ts : List Term) → Each (λ t. has_term before t ≡ false) ts → Differ ts → Fresh before ts
fresh_after before [] h d = tt
fresh_after before (t ∷ ts) h d = (h.0, fresh_after (before ++ t ∷ []) ts (over ts h.1 d.0) d.1)
  where
    over : (us : List Term) → Each (λ u. has_term before u ≡ false) us → Each (λ u. term_eq u t ≡ false) us → Each (λ u. has_term (before ++ t ∷ []) u ≡ false) us
    over [] p q = tt
    over (u ∷ us) p q = (list_any-append (term_eq u) before (t ∷ []) ∙ (λ i. p.0 i || (q.0 i || false)), over us p.1 q.1)

all_fresh : (ts : List Term) → Fresh [] (first_appearances ts)
all_fresh ts = fresh_after [] (first_appearances ts) (none (first_appearances ts)) (appearances_differ ts)
  where
    none : (us : List Term) → Each (λ u. has_term [] u ≡ false) us
    none [] = tt
    none (u ∷ us) = (refl, none us)

-- ---- marks

marks_at : (earlier xs ys : List (List ℕ)) (l : List ℕ) → get_or (marks earlier (xs ++ l ∷ ys)) (length xs) 0 ≡ mark (not (has_line (earlier ++ xs) l))
marks_at earlier [] ys l = ap (λ e. mark (not (has_line e l))) (sym (append-nil earlier))
marks_at earlier (x ∷ xs) ys l = marks_at (earlier ++ x ∷ []) xs ys l ∙ ap (λ e. mark (not (has_line e l))) (append_assoc earlier (x ∷ []) xs)

mark_is : (b : Bool) → (mark b == 1) ≡ b
mark_is true = refl
mark_is false = refl

below_long : (f : ℕ → List ℕ) (k : ℕ) → length (each_below f k) ≡ k
below_long f zero = refl
below_long f (suc k) = omega (arith, length-append (each_below f k) (f k ∷ []), below_long f k)

below_at : (f : ℕ → List ℕ) (k n : ℕ) → n < k → get_or (each_below f k) n [] ≡ f n
below_at f zero n low = absurd (omega (arith, low))
below_at f (suc k) n low =
    ⊎_elim
    (λ (e : n ≡ k). get_or_push (each_below f k) (f k) [] n (below_long f k ∙ sym e) ∙ ap f (sym e))
    (λ (other : n ≡ k → ⊥).
    let less : n < k = lower low other in
    get_or_append_left (each_below f k) (f k ∷ []) [] n (subst (λ m. n < m) (sym (below_long f k)) less) ∙ below_at f k n less)
    (cases_eq n k)
  where
    lower : n < suc k → (n ≡ k → ⊥) → n < k
    lower low other = omega (arith, low, other)

module _ (k : ℕ) (some : 0 < k) (earlier ts : List Term) (known : Each IsNQuadsTerm earlier) (marked : List (List ℕ)) (long : length marked ≡ k)
    (are : (n : ℕ) → n < k → get_or marked n [] ≡ marks (map serialization (terms_in k n earlier)) (map serialization (terms_in k n ts))) where
  -- the mark of a term
  term_marked : (before rest : List Term) (t : Term) → before ++ t ∷ rest ≡ ts → Each IsNQuadsTerm before → IsNQuadsTerm t
      → is_marked marked (map serialization before) (serialization t) ≡ not (has_term earlier t || has_term before t)
  term_marked before rest t whole good fine =
      let n = term_hash t % k in
      let inside : Term → Bool = λ u. is_in k n (term_hash u) in
      let here : inside t ≡ true = eq-eqb n n refl in
      let E = terms_in k n earlier in
      let B = terms_in k n before in
      let split : terms_in k n ts ≡ B ++ t ∷ terms_in k n rest =
      ap (terms_in k n) (sym whole) ∙ filter-append inside before (t ∷ rest) ∙ ap (λ b. B ++ cond b (t ∷ terms_in k n rest) (terms_in k n rest)) here in
      let found : get_or marked n [] ≡ marks (map serialization E) (map serialization B ++ serialization t ∷ map serialization (terms_in k n rest)) =
      are n (mod_below (term_hash t) k some) ∙ ap (λ l. marks (map serialization E) (map serialization l)) split
      ∙ ap (marks (map serialization E)) (map-append serialization B (t ∷ terms_in k n rest)) in
      let known_here : (us : List Term) → has_term (terms_in k n us) t ≡ has_term us t =
      λ us. any-filter_is term_eq term_decides inside t us ∙ ap (λ b. b && has_term us t) here in
      ap (λ m. get_or (get_or marked (term_hash t % m) []) (length (lines_in m (term_hash t % m) (map serialization before))) 0 == 1) long
      ∙ (λ i. get_or (found i) (length (terms_lines k n before i)) 0 == 1)
      ∙ ap (λ b. b == 1) (marks_at (map serialization E) (map serialization B) (map serialization (terms_in k n rest)) (serialization t))
      ∙ mark_is (not (has_line (map serialization E ++ map serialization B) (serialization t)))
      ∙ ap not (ap (λ l. has_line l (serialization t)) (sym (map-append serialization E B))
      ∙ has_form (E ++ B) t (Each-append IsNQuadsTerm E B (Each-filter IsNQuadsTerm inside earlier known) (Each-filter IsNQuadsTerm inside before good)) fine
      ∙ list_any-append (term_eq t) E B ∙ (λ i. known_here earlier i || known_here before i))

  -- the terms that are kept
  kept_terms : (before rest : List Term) → before ++ rest ≡ ts → Each IsNQuadsTerm before → Each IsNQuadsTerm rest → Fresh before rest
      → marked_lines marked (map serialization before) (map serialization rest) ≡ map serialization (filter (λ t. not (has_term earlier t)) rest)
  kept_terms before [] whole good fine fresh = refl
  kept_terms before (t ∷ rest) whole good fine fresh =
      let kept = filter (λ u. not (has_term earlier u)) rest in
      let others : marked_lines marked (map serialization before ++ serialization t ∷ []) (map serialization rest) ≡ map serialization kept =
      ap (λ l. marked_lines marked l (map serialization rest)) (sym (map-append serialization before (t ∷ [])))
      ∙ kept_terms (before ++ t ∷ []) rest (append_assoc before (t ∷ []) rest ∙ whole) (Each-append IsNQuadsTerm before (t ∷ []) good (fine.0, tt)) fine.1 fresh.1 in
      let new : is_marked marked (map serialization before) (serialization t) ≡ not (has_term earlier t) =
      term_marked before rest t whole good fine.0 ∙ ap not (ap (λ b. has_term earlier t || b) fresh.0 ∙ or_none (has_term earlier t)) in
      (λ i. if new i then serialization t ∷ others i else others i) ∙ mapped (not (has_term earlier t)) kept
    where
      or_none : (b : Bool) → (b || false) ≡ b
      or_none true = refl
      or_none false = refl

      mapped : (b : Bool) (us : List Term) → (if b then serialization t ∷ map serialization us else map serialization us) ≡ map serialization (cond b (t ∷ us) us)
      mapped true us = refl
      mapped false us = refl

module _ (k : ℕ) (some : 0 < k) where
  -- the lines that the blocks have for a partition
  abbrev columns : ℕ → List (List QuadParts) → List (List (List ℕ))
  columns n quads = map (λ qs. map serialization (terms_in k n (first_appearances (terms_of qs)))) quads

  -- what `keep` writes for one block
  kept_block : (earlier : List Term) (qs : List QuadParts) (text : List ℕ) → Each IsNQuadsTerm earlier → Each IsNQuadsTerm (terms_of qs)
      → IsKept (block_terms qs) (each_below (λ n. marks (map serialization (terms_in k n earlier)) (map serialization (terms_in k n (first_appearances (terms_of qs))))) k) text
      → text ≡ term_lines (new_terms earlier (terms_of qs))
  kept_block earlier qs text known good h =
      let ts = first_appearances (terms_of qs) in
      let fine = each_appearances (terms_of qs) good in
      let f : ℕ → List ℕ = λ n. marks (map serialization (terms_in k n earlier)) (map serialization (terms_in k n ts)) in
      h.kept ∙ ap (λ l. line_list (marked_lines (each_below f k) [] l)) (lines_of_terms ts fine)
      ∙ ap line_list (kept_terms k some earlier ts known (each_below f k) (below_long f k) (below_at f k) [] ts refl tt fine (all_fresh (terms_of qs)))
      ∙ term_list (new_terms earlier (terms_of qs))

  -- what `keep` writes for all blocks
  kept_blocks : (earlier : List Term) (quads : List (List QuadParts)) (kept : List (List ℕ)) → Each IsNQuadsTerm earlier → Each (λ qs. Each IsNQuadsTerm (terms_of qs)) quads → length kept ≡ length quads
      → ((b : ℕ) → b < length quads
      → IsKept (block_terms (get_or quads b [])) (each_below (λ n. get_or (marks_in_turn (map serialization (terms_in k n earlier)) (columns n quads)) b []) k) (get_or kept b []))
      → joined_texts kept ≡ term_lines (new_terms earlier (flat_map terms_of quads))
  kept_blocks earlier [] [] known good same h = refl
  kept_blocks earlier [] (text ∷ kept) known good same h = absurd (omega (arith, same))
  kept_blocks earlier (qs ∷ quads) [] known good same h = absurd (omega (arith, same))
  kept_blocks earlier (qs ∷ quads) (text ∷ kept) known good same h =
      let ts = first_appearances (terms_of qs) in
      let longer : (n : ℕ) → map serialization (terms_in k n earlier) ++ map serialization (terms_in k n ts) ≡ map serialization (terms_in k n (earlier ++ ts)) =
      λ n. sym (map-append serialization (terms_in k n earlier) (terms_in k n ts)) ∙ ap (map serialization) (sym (filter-append (λ t. is_in k n (term_hash t)) earlier ts)) in
      let rest : joined_texts kept ≡ term_lines (new_terms (earlier ++ ts) (flat_map terms_of quads)) =
      kept_blocks (earlier ++ ts) quads kept (Each-append IsNQuadsTerm earlier ts known (each_appearances (terms_of qs) good.0)) good.1 (omega (arith, same))
      (λ b low. subst (λ (e : ℕ → List (List ℕ)). IsKept (block_terms (get_or quads b [])) (each_below (λ n. get_or (marks_in_turn (e n) (columns n quads)) b []) k) (get_or kept b []))
      (λ i n. longer n i) (h (suc b) (omega (arith, low)))) in
      (λ i. kept_block earlier qs text known good.0 (h 0 (omega arith)) i ++ rest i)
      ∙ sym (flat_map-append term_line (new_terms earlier (terms_of qs)) (new_terms (earlier ++ ts) (flat_map terms_of quads)))
      ∙ ap term_lines (sym (new_in_both earlier (terms_of qs) (flat_map terms_of quads)))

-- ---- the law

-- what `first` wrote for a partition
firsts_are : (k n : ℕ) (quads : List (List QuadParts)) (firsts : List (List ℕ)) → Each (λ qs. Each IsNQuadsTerm (terms_of qs)) quads
    → AreFirst (partition_terms k quads n) firsts → firsts ≡ marks_in_turn [] (map (λ qs. map serialization (terms_in k n (first_appearances (terms_of qs)))) quads)
firsts_are k n quads firsts good h = h ∙ ap (marks_in_turn []) (by quads good)
  where
    by : (qss : List (List QuadParts)) → Each (λ qs. Each IsNQuadsTerm (terms_of qs)) qss
        → map lines (partition_terms k qss n) ≡ map (λ qs. map serialization (terms_in k n (first_appearances (terms_of qs)))) qss
    by [] g = refl
    by (qs ∷ qss) g =
        λ i. lines_of_terms (terms_in k n (first_appearances (terms_of qs))) (Each-filter IsNQuadsTerm (λ t. is_in k n (term_hash t)) (first_appearances (terms_of qs)) (each_appearances (terms_of qs) g.0)) i ∷ by qss g.1 i

each_terms : (quads : List (List QuadParts)) → Each (Each IsOfLine) quads → Each (λ qs. Each IsNQuadsTerm (terms_of qs)) quads
each_terms [] h = tt
each_terms (qs ∷ quads) h = (terms_of_lines qs h.0, each_terms quads h.1)

pub terms_are_kept : TermsAreKept
terms_are_kept k blocks quads firsts kept some h first same keep =
    let good = each_terms quads (block_quads blocks quads h.statements) in
    kept_blocks k some [] quads kept tt good same
    (λ b low. subst (λ (f : ℕ → List (List ℕ)). IsKept (block_terms (get_or quads b [])) (each_below (λ n. get_or (f n) b []) k) (get_or kept b []))
    (λ i n. firsts_are k n quads (firsts n) good (first n) i) (keep b low))
    ∙ ap term_lines (all_stay (first_appearances (flat_map terms_of quads)))
    ∙ ap (λ l. term_lines (first_appearances l)) (sym (flat_map-joined terms_of_quad quads))
