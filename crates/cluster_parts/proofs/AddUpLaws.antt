-- The counts of the partitions are those of the document.
use Rattle.std.proofs.Common.{◌≡◌, ℕ, ◌<◌, ◌%◌, Bool, true, false, ◌&&◌, ◌||◌, List, [], ◌∷◌, ◌++◌, length, map, filter, Option, Some, None, refl, sym, ap, ◌∙◌, inr}
use Rattle.std.proofs.lemmas.List.{length-map, map-append}
use Rattle.std.specs.Prelude.{filter_map}
use Rattle.std.specs.List.{flat_map, list_any, cons_option}
use Rattle.std.specs.Str.{bytes_eq}
use Rattle.std.proofs.lemmas.Nat.{mod_below}
use Rattle.std.proofs.lemmas.Grind.{flat_map-append}
use Rattle.std.proofs.lemmas.List.Elements.{filter_map-append}
use Rattle.std.proofs.lemmas.List.Folds.{list_any-append}
use Rattle.rdf_core.specs.declared.term.Term.{Term}
use Rattle.rdf_core.specs.QuadParts.{QuadParts}
use Rattle.rdf_core.specs.Serialization.{serialization}
use Rattle.rdf_core.proofs.TermLaws.{term_eq, term_decides}
use Rattle.nquads_core.specs.Lines.{lines}
use Rattle.nquads_core.specs.Laws.{IsNQuadsTerm}
use Rattle.dict_core.specs.Appearances.{terms_of, terms_of_quad, first_appearances, differs_from}
use Rattle.dict_core.specs.Numbered.{joined}
use Rattle.algebra_model.specs.Bag.{without_repeats}
use Rattle.algebra_model.proofs.RepeatLaws.{any-without_repeats_is}
use Rattle.cluster_parts.specs.Hash.{term_hash}
use Rattle.cluster_parts.specs.Parts.{is_in, terms_in}
use Rattle.cluster_parts.specs.Terms.{term_lines}
use Rattle.cluster_parts.specs.Output.{distinct_lines}
use Rattle.cluster_parts.specs.Laws.{NamesAddUp, TermsAddUp, partition_terms}
use Rattle.quad_index.specs.Parts.{sum_below}
use Rattle.cluster_parts.proofs.Each.{Each, Each-filter, Each-flat_map, Each-without_repeats}
use Rattle.cluster_parts.proofs.DocumentLaws.{IsOfLine, block_quads, form_eq, lines_of_terms, terms_of_lines}
use Rattle.cluster_parts.proofs.SetCounts.{any-filter_is, parts_add_up, sum_below-same, without_repeats-map}

-- ---- lists

pub flat_map-joined : {X Y : Type 0} (f : X → List Y) (xs : List (List X)) → flat_map f (flat_map (λ l. l) xs) ≡ flat_map (λ l. flat_map f l) xs
flat_map-joined f [] = refl
flat_map-joined f (x ∷ xs) = flat_map-append f x (flat_map (λ l. l) xs) ∙ ap (λ l. flat_map f x ++ l) (flat_map-joined f xs)

filter_map-joined : {X Y : Type 0} (f : X → Option Y) (xs : List (List X)) → filter_map f (flat_map (λ l. l) xs) ≡ flat_map (λ l. filter_map f l) xs
filter_map-joined f [] = refl
filter_map-joined f (x ∷ xs) = filter_map-append f x (flat_map (λ l. l) xs) ∙ ap (λ l. filter_map f x ++ l) (filter_map-joined f xs)

pub appearances_once : (ts : List Term) → first_appearances ts ≡ without_repeats term_eq ts
appearances_once [] = refl
appearances_once (t ∷ ts) = ap (λ l. t ∷ filter (differs_from t) l) (appearances_once ts)

and_or : (a b c : Bool) → ((a && b) || (a && c)) ≡ (a && (b || c))
and_or true b c = refl
and_or false b c = refl

none_and : (a : Bool) → false ≡ (a && false)
none_and true = refl
none_and false = refl

-- ---- terms in partitions

module _ (found : List QuadParts → List Term) where
  -- the terms that the blocks have for a partition, each block those that are distinct in it
  abbrev spread : ℕ → List (List QuadParts) → ℕ → List Term
  spread k quads n = flat_map (λ qs. terms_in k n (without_repeats term_eq (found qs))) quads

  spread_any : (k : ℕ) (n : ℕ) (t : Term) (quads : List (List QuadParts))
      → list_any (term_eq t) (spread k quads n) ≡ (is_in k n (term_hash t) && list_any (term_eq t) (flat_map found quads))
  spread_any k n t [] = none_and (is_in k n (term_hash t))
  spread_any k n t (qs ∷ quads) =
      list_any-append (term_eq t) (terms_in k n (without_repeats term_eq (found qs))) (spread k quads n)
      ∙ (λ i. (any-filter_is term_eq term_decides (λ u. is_in k n (term_hash u)) t (without_repeats term_eq (found qs)) ∙ ap (λ b. is_in k n (term_hash t) && b) (any-without_repeats_is term_eq term_decides t (found qs))) i || spread_any k n t quads i)
      ∙ and_or (is_in k n (term_hash t)) (list_any (term_eq t) (found qs)) (list_any (term_eq t) (flat_map found quads))
      ∙ ap (λ b. is_in k n (term_hash t) && b) (sym (list_any-append (term_eq t) (found qs) (flat_map found quads)))

  spread_adds_up : (k : ℕ) (quads : List (List QuadParts)) → 0 < k
      → sum_below (λ n. length (without_repeats term_eq (spread k quads n))) k ≡ length (without_repeats term_eq (flat_map found quads))
  spread_adds_up k quads some =
      parts_add_up term_eq term_decides (λ t. term_hash t % k) k (λ t. mod_below (term_hash t) k some) (flat_map found quads) (spread k quads) (λ n t. spread_any k n t quads)

  -- the lists that the blocks have for a partition
  abbrev listed : ℕ → List (List QuadParts) → ℕ → List (List ℕ)
  listed k quads n = map (λ qs. term_lines (terms_in k n (without_repeats term_eq (found qs)))) quads

  spread_good : (k : ℕ) (n : ℕ) (qs : List QuadParts) → Each IsNQuadsTerm (found qs) → Each IsNQuadsTerm (terms_in k n (without_repeats term_eq (found qs)))
  spread_good k n qs h = Each-filter IsNQuadsTerm (λ t. is_in k n (term_hash t)) (without_repeats term_eq (found qs)) (Each-without_repeats IsNQuadsTerm term_eq (found qs) h)

  lines_listed : (k : ℕ) (quads : List (List QuadParts)) (n : ℕ) → Each (λ qs. Each IsNQuadsTerm (found qs)) quads → flat_map lines (listed k quads n) ≡ map serialization (spread k quads n)
  lines_listed k [] n good = refl
  lines_listed k (qs ∷ quads) n good =
      let ts = terms_in k n (without_repeats term_eq (found qs)) in
      (λ i. lines_of_terms ts (spread_good k n qs good.0) i ++ lines_listed k quads n good.1 i) ∙ sym (map-append serialization ts (spread k quads n))

  counted : (k : ℕ) (quads : List (List QuadParts)) (n : ℕ) → Each (λ qs. Each IsNQuadsTerm (found qs)) quads → distinct_lines (listed k quads n) ≡ length (without_repeats term_eq (spread k quads n))
  counted k quads n good =
      let terms = spread k quads n in
      let all : Each IsNQuadsTerm terms = Each-flat_map (λ qs. Each IsNQuadsTerm (found qs)) IsNQuadsTerm (λ qs. terms_in k n (without_repeats term_eq (found qs))) (λ qs h. spread_good k n qs h) quads good in
      ap (λ l. length (without_repeats bytes_eq l)) (lines_listed k quads n good)
      ∙ ap length (without_repeats-map IsNQuadsTerm term_eq bytes_eq serialization form_eq terms all)
      ∙ length-map (without_repeats term_eq terms) serialization

  add_up : (k : ℕ) (quads : List (List QuadParts)) → 0 < k → Each (λ qs. Each IsNQuadsTerm (found qs)) quads
      → sum_below (λ n. distinct_lines (listed k quads n)) k ≡ length (without_repeats term_eq (flat_map found quads))
  add_up k quads some good =
      sum_below-same (λ n. distinct_lines (listed k quads n)) (λ n. length (without_repeats term_eq (spread k quads n))) (λ n. counted k quads n good) k ∙ spread_adds_up k quads some

-- ---- the laws

each_terms : (quads : List (List QuadParts)) → Each (Each IsOfLine) quads → Each (λ qs. Each IsNQuadsTerm (terms_of qs)) quads
each_terms [] h = tt
each_terms (qs ∷ quads) h = (terms_of_lines qs h.0, each_terms quads h.1)

names_of_lines : (D : List QuadParts) → Each IsOfLine D → Each IsNQuadsTerm (filter_map (λ q. q.g) D)
names_of_lines [] h = tt
names_of_lines (q ∷ qs) h = by q.g refl (names_of_lines qs h.1)
  where
    by : (g : Option Term) → q.g ≡ g → Each IsNQuadsTerm (filter_map (λ q. q.g) qs) → Each IsNQuadsTerm (cons_option g (filter_map (λ q. q.g) qs))
    by None e rest = rest
    by (Some t) e rest = ((h.0.0, q, h.0.1, inr (inr (inr e))), rest)

each_names : (quads : List (List QuadParts)) → Each (Each IsOfLine) quads → Each (λ qs. Each IsNQuadsTerm (filter_map (λ q. q.g) qs)) quads
each_names [] h = tt
each_names (qs ∷ quads) h = (names_of_lines qs h.0, each_names quads h.1)

pub terms_add_up : TermsAddUp
terms_add_up k blocks quads some h =
    sum_below-same (λ n. distinct_lines (partition_terms k quads n)) (λ n. distinct_lines (listed terms_of k quads n))
    (λ n. ap (λ (f : List Term → List Term). distinct_lines (map (λ qs. term_lines (terms_in k n (f (terms_of qs)))) quads)) (λ i ts. appearances_once ts i)) k
    ∙ add_up terms_of k quads some (each_terms quads (block_quads blocks quads h.statements))
    ∙ ap (λ l. length (without_repeats term_eq l)) (sym (flat_map-joined terms_of_quad quads))
    ∙ ap length (sym (appearances_once (terms_of (joined quads))))

pub names_add_up : NamesAddUp
names_add_up k blocks quads some h =
    add_up (λ qs. filter_map (λ q. q.g) qs) k quads some (each_names quads (block_quads blocks quads h.statements))
    ∙ ap (λ l. length (without_repeats term_eq l)) (sym (filter_map-joined (λ q. q.g) quads))
