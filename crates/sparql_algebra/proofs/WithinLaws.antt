-- A translated query binds and lists only variables that have a name, and its patterns have only
-- their own labels.
use Rattle.std.proofs.Common.{◌≡◌, ℕ, suc, ◌+◌, ◌<◌, Bool, true, false, not, cond, ◌&&◌, ◌||◌, nat_lt, List, [], ◌∷◌, ◌++◌, length, map, flat_map, filter, Option, Some, None, refl, sym, ap, ◌∙◌, subst, arith, true≢false, append_assoc}
use Rattle.std.specs.List.{list_any, list_all, position_or_len}
use Rattle.std.specs.Str.{bytes_eq}
use Rattle.std.proofs.lemmas.List.Folds.{list_any-append, list_all-append}
use Rattle.std.proofs.lemmas.Slice.Eq.{bytes_eq-Decides}
use Rattle.sparql_tree.specs.declared.group.VarOrIri.{VarOrIri}
use Rattle.sparql_tree.specs.declared.group.VarOrIri.TheVariants as graph
use Rattle.sparql_tree.specs.declared.group.VarOrTerm.{VarOrTerm}
use Rattle.sparql_tree.specs.declared.group.VarOrTerm.TheVariants as place
use Rattle.sparql_tree.specs.declared.group.Triple.{Triple}
use Rattle.sparql_tree.specs.GroupTree as element
use Rattle.sparql_tree.specs.GroupTree.{GroupTree, ElementTree}
use Rattle.sparql_tree.specs.QueryTree.{QueryTree}
use Rattle.algebra_model.specs.Algebra as algebra
use Rattle.algebra_model.specs.Algebra.{Algebra, is_below, is_triple_below, is_name_below, is_within}
use Rattle.algebra_model.specs.Bag.{without_repeats}
use Rattle.algebra_model.specs.Expression.{Expression}
use Rattle.algebra_model.proofs.RepeatLaws.{any-without_repeats_is}
use Rattle.sparql_tree.specs.Scope.{place_names, triple_names, graph_names, element_names, group_names, group_scope}
use Rattle.sparql_algebra.specs.Names.{Name, is_name_among, number_of, listed_names, names_of, selected_by, selected_names}
use Rattle.sparql_algebra.specs.Translation.{Part, blank_names, triple_blanks, labels_of, translate_place, translate_triple, translate_pattern, translate_graph_name, with_pattern, closed, finished, filtered, group_part, add_element, translate_side, distinct_where, translate}

both : (a b : Bool) → a ≡ true → b ≡ true → (a && b) ≡ true
both true b ha hb = hb
both false b ha hb = absurd (true≢false (sym ha))

left : (a b : Bool) → (a && b) ≡ true → a ≡ true
left true b h = refl
left false b h = h

right : (a b : Bool) → (a && b) ≡ true → b ≡ true
right true b h = h
right false b h = absurd (true≢false (sym h))

-- an element that is found has a place
found_below : {X : Type 0} (p : X → Bool) (xs : List X) → list_any p xs ≡ true → position_or_len p xs < length xs
found_below p [] h = absurd (true≢false (sym h))
found_below {X} p (x ∷ xs) h = by (p x) h (found_below p xs)
  where
    by : (b : Bool) → (b || list_any p xs) ≡ true → (list_any p xs ≡ true → position_or_len p xs < length xs) → cond (not b) (1 + position_or_len p xs) 0 < suc (length xs)
    by true e rest = omega arith
    by false e rest = let r = rest e in omega arith

below_test : (m n : ℕ) → m < n → nat_lt m n ≡ true
below_test m n h = grind arith

-- every name of the list is among the names
abbrev pub are_among : List Name → List Name → Bool
are_among names xs = list_all (λ x. is_name_among x names) xs

among_left : (names xs ys : List Name) → are_among names (xs ++ ys) ≡ true → are_among names xs ≡ true
among_left names xs ys h = left (are_among names xs) (are_among names ys) (sym (list_all-append (λ x. is_name_among x names) xs ys) ∙ h)

among_right : (names xs ys : List Name) → are_among names (xs ++ ys) ≡ true → are_among names ys ≡ true
among_right names xs ys h = right (are_among names xs) (are_among names ys) (sym (list_all-append (λ x. is_name_among x names) xs ys) ∙ h)

among_both : (names xs ys : List Name) → are_among names xs ≡ true → are_among names ys ≡ true → are_among names (xs ++ ys) ≡ true
among_both names xs ys h k = list_all-append (λ x. is_name_among x names) xs ys ∙ both (are_among names xs) (are_among names ys) h k

number_below : (names : List Name) (x : Name) → is_name_among x names ≡ true → nat_lt (number_of names x) (length names) ≡ true
number_below names x h = below_test (number_of names x) (length names) (found_below (bytes_eq x) names h)

numbers_below : (names xs : List Name) → are_among names xs ≡ true → list_all (λ v. nat_lt v (length names)) (map (number_of names) xs) ≡ true
numbers_below names [] h = refl
numbers_below names (x ∷ xs) h =
    both (nat_lt (number_of names x) (length names)) (list_all (λ v. nat_lt v (length names)) (map (number_of names) xs))
    (number_below names x (left (is_name_among x names) (are_among names xs) h)) (numbers_below names xs (right (is_name_among x names) (are_among names xs) h))

first_of_one : (names : List Name) (x : Name) → are_among names (x ∷ []) ≡ true → is_name_among x names ≡ true
first_of_one names x h = left (is_name_among x names) true h

-- every name of a list is among a longer list
among_more : (pre ys : List Name) → are_among (pre ++ ys) ys ≡ true
among_more pre [] = refl
among_more pre (y ∷ ys) =
    both (is_name_among y (pre ++ y ∷ ys)) (are_among (pre ++ y ∷ ys) ys)
    (list_any-append (bytes_eq y) pre (y ∷ ys) ∙ ap (λ b. list_any (bytes_eq y) pre || (b || list_any (bytes_eq y) ys)) ((bytes_eq-Decides y y).1 refl) ∙ or_true (list_any (bytes_eq y) pre))
    (subst (λ l. are_among l ys ≡ true) (append_assoc pre (y ∷ []) ys) (among_more (pre ++ y ∷ []) ys))
  where
    or_true : (b : Bool) → (b || true) ≡ true
    or_true true = refl
    or_true false = refl

among_itself : (xs : List Name) → are_among xs xs ≡ true
among_itself xs = among_more [] xs

-- the same names without repeats
among_distinct : (names xs : List Name) → are_among names xs ≡ true → are_among (without_repeats bytes_eq names) xs ≡ true
among_distinct names [] h = refl
among_distinct names (x ∷ xs) h =
    both (is_name_among x (without_repeats bytes_eq names)) (are_among (without_repeats bytes_eq names) xs)
    (any-without_repeats_is bytes_eq bytes_eq-Decides x names ∙ left (is_name_among x names) (are_among names xs) h)
    (among_distinct names xs (right (is_name_among x names) (are_among names xs) h))

all-filter : {X : Type 0} (p q : X → Bool) (xs : List X) → list_all p xs ≡ true → list_all p (filter q xs) ≡ true
all-filter p q [] h = refl
all-filter {X} p q (x ∷ xs) h = by (q x) (all-filter p q xs (right (p x) (list_all p xs) h))
  where
    by : (b : Bool) → list_all p (filter q xs) ≡ true → list_all p (cond b (x ∷ filter q xs) (filter q xs)) ≡ true
    by true e = both (p x) (list_all p (filter q xs)) (left (p x) (list_all p xs) h) e
    by false e = e

all-without_repeats : {X : Type 0} (same : X → X → Bool) (p : X → Bool) (xs : List X) → list_all p xs ≡ true → list_all p (without_repeats same xs) ≡ true
all-without_repeats same p [] h = refl
all-without_repeats same p (x ∷ xs) h =
    both (p x) (list_all p (filter (λ y. not (same x y)) (without_repeats same xs))) (left (p x) (list_all p xs) h)
    (all-filter p (λ y. not (same x y)) (without_repeats same xs) (all-without_repeats same p xs (right (p x) (list_all p xs) h)))

module _ (names : List Name) where
  place_below : (labels : List Name) (t : VarOrTerm) → are_among names (place_names t) ≡ true → are_among labels (blank_names t) ≡ true
      → is_below (length names) (length labels) (translate_place names labels t) ≡ true
  place_below labels (place.Variable x) bound blank = number_below names x (first_of_one names x bound)
  place_below labels (place.Blank l) bound blank =
      below_test (number_of labels l) (length labels) (found_below (bytes_eq l) labels (first_of_one labels l blank))
  place_below labels (place.Term t) bound blank = refl

  triple_below : (labels : List Name) (t : Triple) → are_among names (triple_names t) ≡ true → are_among labels (triple_blanks t) ≡ true
      → is_triple_below (length names) (length labels) (translate_triple names labels t) ≡ true
  triple_below labels t bound blank =
      let s = place_below labels t.subject
      (among_left names (place_names t.subject) (place_names t.predicate ++ place_names t.object) bound)
      (among_left labels (blank_names t.subject) (blank_names t.predicate ++ blank_names t.object) blank) in
      let bound' = among_right names (place_names t.subject) (place_names t.predicate ++ place_names t.object) bound in
      let blank' = among_right labels (blank_names t.subject) (blank_names t.predicate ++ blank_names t.object) blank in
      let p = place_below labels t.predicate
      (among_left names (place_names t.predicate) (place_names t.object) bound')
      (among_left labels (blank_names t.predicate) (blank_names t.object) blank') in
      let o = place_below labels t.object
      (among_right names (place_names t.predicate) (place_names t.object) bound')
      (among_right labels (blank_names t.predicate) (blank_names t.object) blank') in
      three _ _ _ s p o
    where
      three : (a b c : Bool) → a ≡ true → b ≡ true → c ≡ true → (a && b && c) ≡ true
      three a b c ha hb hc = rw ha (rw hb hc)

  triples_below : (labels : List Name) (ts : List Triple) → are_among names (flat_map triple_names ts) ≡ true → are_among labels (flat_map triple_blanks ts) ≡ true
      → list_all (is_triple_below (length names) (length labels)) (map (translate_triple names labels) ts) ≡ true
  triples_below labels [] bound blank = refl
  triples_below labels (t ∷ ts) bound blank =
      both (is_triple_below (length names) (length labels) (translate_triple names labels t)) (list_all (is_triple_below (length names) (length labels)) (map (translate_triple names labels) ts))
      (triple_below labels t (among_left names (triple_names t) (flat_map triple_names ts) bound) (among_left labels (triple_blanks t) (flat_map triple_blanks ts) blank))
      (triples_below labels ts (among_right names (triple_names t) (flat_map triple_names ts) bound) (among_right labels (triple_blanks t) (flat_map triple_blanks ts) blank))

  pattern_within : (ts : List Triple) → are_among names (flat_map triple_names ts) ≡ true → is_within (length names) (translate_pattern names ts) ≡ true
  pattern_within ts bound =
      triples_below (labels_of ts) ts bound
      (among_distinct (flat_map triple_blanks ts) (flat_map triple_blanks ts) (among_itself (flat_map triple_blanks ts)))

  graph_within : (i : VarOrIri) → are_among names (graph_names i) ≡ true → is_name_below (length names) (translate_graph_name names i) ≡ true
  graph_within (graph.Variable x) h = number_below names x (first_of_one names x h)
  graph_within (graph.Iri t) h = refl

  -- the part of a group that is read uses only the names
  record IsPartWithin (p : Part) : Type 0 where
    before : is_within (length names) p.before ≡ true
    triples : are_among names (flat_map triple_names p.triples) ≡ true

  with_pattern_within : (A : Algebra) (ts : List Triple) → is_within (length names) A ≡ true → are_among names (flat_map triple_names ts) ≡ true → is_within (length names) (with_pattern names A ts) ≡ true
  with_pattern_within A [] h bound = h
  with_pattern_within A (t ∷ ts) h bound = both (is_within (length names) A) (is_within (length names) (translate_pattern names (t ∷ ts))) h (pattern_within (t ∷ ts) bound)

  closed_within : (p : Part) → IsPartWithin p → is_within (length names) (closed names p) ≡ true
  closed_within p h = with_pattern_within p.before p.triples h.before h.triples

  filtered_within : (f : Option Expression) (A : Algebra) → is_within (length names) A ≡ true → is_within (length names) (filtered f A) ≡ true
  filtered_within None A h = h
  filtered_within (Some e) A h = h

  finished_within : (p : Part) → IsPartWithin p → is_within (length names) (finished names p) ≡ true
  finished_within p h = filtered_within p.filters (closed names p) (closed_within p h)

  both_within : (A B : Algebra) → is_within (length names) A ≡ true → is_within (length names) B ≡ true → (is_within (length names) A && is_within (length names) B) ≡ true
  both_within A B = both (is_within (length names) A) (is_within (length names) B)

  flat_map-append' : (xs ys : List Triple) → flat_map triple_names (xs ++ ys) ≡ flat_map triple_names xs ++ flat_map triple_names ys
  flat_map-append' [] ys = refl
  flat_map-append' (x ∷ xs) ys = ap (λ l. triple_names x ++ l) (flat_map-append' xs ys) ∙ sym (append_assoc (triple_names x) (flat_map triple_names xs) (flat_map triple_names ys))

  mutual
    part_within : (g : GroupTree) → are_among names (group_names true g) ≡ true → IsPartWithin (group_part names g)
    part_within element.none h = record { before = refl; triples = refl }
    part_within (element.then g e) h =
        added_within (group_part names g) e (part_within g (among_left names (group_names true g) (element_names true e) h))
        (among_right names (group_names true g) (element_names true e) h)

    added_within : (p : Part) (e : ElementTree) → IsPartWithin p → are_among names (element_names true e) ≡ true → IsPartWithin (add_element names p e)
    added_within p (element.triples ts) h bound = record {
      before = h.before;
      triples = ap (are_among names) (flat_map-append' p.triples ts) ∙ among_both names (flat_map triple_names p.triples) (flat_map triple_names ts) h.triples bound;
    }
    added_within p (element.filter e) h bound = record { before = h.before; triples = h.triples }
    added_within p (element.optional g) h bound = record {
      before = both_within (closed names p) (closed names (group_part names g)) (closed_within p h) (closed_within (group_part names g) (part_within g bound));
      triples = refl;
    }
    added_within p (element.minus g) h bound = record {
      before = both_within (closed names p) (finished names (group_part names g)) (closed_within p h) (finished_within (group_part names g) (part_within g bound));
      triples = refl;
    }
    added_within p (element.bind e x) h bound = record {
      before = both (nat_lt (number_of names x) (length names)) (is_within (length names) (closed names p)) (number_below names x (first_of_one names x bound)) (closed_within p h);
      triples = refl;
    }
    added_within p (element.group g) h bound = record {
      before = both_within (closed names p) (finished names (group_part names g)) (closed_within p h) (finished_within (group_part names g) (part_within g bound));
      triples = refl;
    }
    added_within p (element.union e g) h bound = record {
      before = both_within (closed names p) (algebra.Union (translate_side names e) (finished names (group_part names g))) (closed_within p h)
          (both_within (translate_side names e) (finished names (group_part names g))
          (side_within e (among_left names (element_names true e) (group_names true g) bound))
          (finished_within (group_part names g) (part_within g (among_right names (element_names true e) (group_names true g) bound))));
      triples = refl;
    }
    added_within p (element.graph i g) h bound = record {
      before = both_within (closed names p) (algebra.Graph (translate_graph_name names i) (finished names (group_part names g))) (closed_within p h)
          (both (is_name_below (length names) (translate_graph_name names i)) (is_within (length names) (finished names (group_part names g)))
          (graph_within i (among_left names (graph_names i) (group_names true g) bound))
          (finished_within (group_part names g) (part_within g (among_right names (graph_names i) (group_names true g) bound))));
      triples = refl;
    }
    added_within p (element.values xs rows) h bound = record {
      before = both_within (closed names p) (algebra.Table (map (number_of names) xs) rows) (closed_within p h) (numbers_below names xs bound);
      triples = refl;
    }

    side_within : (e : ElementTree) → are_among names (element_names true e) ≡ true → is_within (length names) (translate_side names e) ≡ true
    side_within (element.triples ts) h = refl
    side_within (element.group g) h = finished_within (group_part names g) (part_within g h)
    side_within (element.union e g) h =
        both_within (translate_side names e) (finished names (group_part names g)) (side_within e (among_left names (element_names true e) (group_names true g) h))
        (finished_within (group_part names g) (part_within g (among_right names (element_names true e) (group_names true g) h)))
    side_within (element.optional g) h = refl
    side_within (element.minus g) h = refl
    side_within (element.graph i g) h = refl
    side_within (element.filter e) h = refl
    side_within (element.bind e x) h = refl
    side_within (element.values xs rows) h = refl

-- the names of a query are those of its parts
abbrev all_names : QueryTree → List Name
all_names q = q.mentioned ++ (listed_names q.selection ++ group_names true q.group)

parts_among : (q : QueryTree) → are_among (names_of q) (all_names q) ≡ true
parts_among q = among_distinct (all_names q) (all_names q) (among_itself (all_names q))

group_among : (q : QueryTree) → are_among (names_of q) (group_names true q.group) ≡ true
group_among q = among_right (names_of q) (listed_names q.selection) (group_names true q.group) (among_right (names_of q) q.mentioned (listed_names q.selection ++ group_names true q.group) (parts_among q))

listed_among : (q : QueryTree) → are_among (names_of q) (listed_names q.selection) ≡ true
listed_among q = among_left (names_of q) (listed_names q.selection) (group_names true q.group) (among_right (names_of q) q.mentioned (listed_names q.selection ++ group_names true q.group) (parts_among q))

selected_among : (names scope : List Name) (selection : Option (List Name)) → are_among names (listed_names selection) ≡ true → are_among names (selected_by selection scope names) ≡ true
selected_among names scope None h = all-filter (λ x. is_name_among x names) (λ x. is_name_among x scope) names (among_itself names)
selected_among names scope (Some xs) h = all-without_repeats bytes_eq (λ x. is_name_among x names) xs h

distinct_within : (w : ℕ) (b : Bool) (A : Algebra) → is_within w A ≡ true → is_within w (distinct_where b A) ≡ true
distinct_within w true A h = h
distinct_within w false A h = h

pub translated_within : (q : QueryTree) → is_within (length (names_of q)) (translate q).algebra ≡ true
translated_within q =
    distinct_within (length (names_of q)) q.distinct (algebra.Project (map (number_of (names_of q)) (selected_names q)) (finished (names_of q) (group_part (names_of q) q.group)))
    (both (list_all (λ v. nat_lt v (length (names_of q))) (map (number_of (names_of q)) (selected_names q))) (is_within (length (names_of q)) (finished (names_of q) (group_part (names_of q) q.group)))
    (numbers_below (names_of q) (selected_names q) (selected_among (names_of q) (group_scope q.group) q.selection (listed_among q)))
    (finished_within (names_of q) (group_part (names_of q) q.group) (part_within (names_of q) q.group (group_among q))))
