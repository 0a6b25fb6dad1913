-- The labels of basic graph patterns.
use Rattle.std.proofs.Common.{◌≡◌, ◌+◌, ◌<◌, ℕ, List, [], ◌∷◌, ◌++◌, Bool, true, false, ◌||◌, flat_map, length, take, drop, map, get_or, refl, sym, ap, ◌∙◌, subst}
use Rattle.std.specs.Str.{bytes_eq}
use Rattle.std.proofs.lemmas.List.{append_assoc, append-nil, take_more, take-append-drop}
use Rattle.std.proofs.lemmas.List.Folds.{list_any-append}
use Rattle.std.proofs.lemmas.Grind.{flat_map-append}
use Rattle.sparql_tree.specs.declared.group.Triple.{Triple}
use Rattle.sparql_tree.specs.declared.group.Element.{Element}
use Rattle.sparql_tree.specs.GroupTree.{GroupTree, ElementTree, then, onto, triples, group, union, optional, minus, graph, filter, bind, values, element_of, group_of}
use Rattle.sparql_read.specs.NameSet.{HaveSame, is_among}
use Rattle.sparql_tree.specs.BlankReuse.{basic_patterns, closed_patterns, ends_run, labels_of, open_after, open_pattern, patterns_inside, shares_labels, triple_labels}
use Rattle.sparql_read.specs.LabelSteps.{AddsElement, AddsLabels, AddsPatterns, IsOpenRun, closed_by, run_of, occurs_among}
use Rattle.sparql_read.proofs.GroupLaws.{group_more, group_rest}
use Rattle.sparql_read.proofs.SetLaws.{bytes_eq_sym, same_back, same_swapped, same_front, same_refl, same_then, same_trans, same_turned}

true_false : true ≡ false → ⊥
true_false h = cc

or_assoc : (a b c : Bool) → ((a || b) || c) ≡ (a || (b || c))
or_assoc true b c = refl
or_assoc false b c = refl

or_both : {a b : Bool} → a ≡ false → b ≡ false → (a || b) ≡ false
or_both e f = rw (e, f) refl

or_left : {a : Bool} (b : Bool) → a ≡ true → (a || b) ≡ true
or_left b e = rw e refl

or_right : (a : Bool) {b : Bool} → b ≡ true → (a || b) ≡ true
or_right true e = refl
or_right false e = e

pub occurs_append : (xs ls ms : List (List ℕ)) → occurs_among xs (ls ++ ms) ≡ (occurs_among xs ls || occurs_among xs ms)
occurs_append xs ls ms = list_any-append (λ l. is_among l xs) ls ms

pub occurs_same : {xs ys : List (List ℕ)} → HaveSame xs ys → (ls : List (List ℕ)) → occurs_among xs ls ≡ occurs_among ys ls
occurs_same h [] = refl
occurs_same h (l ∷ ls) = rw (h.each l, occurs_same h ls) refl

-- labels are added, and then others
pub labels_then : (xs us vs ls ms ns : List (List ℕ)) (b : Bool) → AddsLabels xs us true ls ms → AddsLabels xs vs b ms ns → AddsLabels xs (us ++ vs) b ls ns
labels_then xs us vs ls ms ns true g h = (occurs_append xs us vs ∙ or_both g.0 h.0, same_then ls us vs g.1 h.1)
labels_then xs us vs ls ms ns false g h = occurs_append xs us vs ∙ or_right (occurs_among xs us) h

-- a label of one of the triples occurs in an earlier pattern
pub triple_clash : (xs : List (List ℕ)) (ts : List Triple) (i : ℕ) (t : Triple) → i < length ts → t ≡ get_or ts i t → occurs_among xs (triple_labels t) ≡ true → occurs_among xs (labels_of ts) ≡ true
triple_clash xs ts i t below is h =
    let e : labels_of (take (i + 1) ts) ≡ labels_of (take i ts) ++ (triple_labels t ++ []) =
    ap labels_of (take_more ts i t below ∙ ap (λ u. take i ts ++ u ∷ []) (sym is)) ∙ flat_map-append triple_labels (take i ts) (t ∷ []) in
    ap (λ us. occurs_among xs (labels_of us)) (sym (take-append-drop (i + 1) ts))
    ∙ (ap (occurs_among xs) (flat_map-append triple_labels (take (i + 1) ts) (drop (i + 1) ts))
    ∙ (occurs_append xs (labels_of (take (i + 1) ts)) (labels_of (drop (i + 1) ts))
    ∙ or_left (occurs_among xs (labels_of (drop (i + 1) ts)))
    (ap (occurs_among xs) e ∙ (occurs_append xs (labels_of (take i ts)) (triple_labels t ++ []) ∙ or_right (occurs_among xs (labels_of (take i ts))) (occurs_append xs (triple_labels t) [] ∙ or_left false h)))))

-- the result depends only on which labels occur in the earlier patterns
pub shares_same : {xs ys : List (List ℕ)} → HaveSame xs ys → (ps : List (List Triple)) → shares_labels xs ps ≡ shares_labels ys ps
shares_same h [] = refl
shares_same h (p ∷ ps) = rw (occurs_same h (labels_of p), shares_same (same_front (labels_of p) h) ps) refl

-- patterns followed by other patterns
pub shares_append : (xs : List (List ℕ)) (ps qs : List (List Triple)) → shares_labels xs (ps ++ qs) ≡ (shares_labels xs ps || shares_labels (xs ++ flat_map labels_of ps) qs)
shares_append xs [] qs = ap (λ ys. shares_labels ys qs) (sym (append-nil xs))
shares_append xs (p ∷ ps) qs =
    rw (shares_append (xs ++ labels_of p) ps qs, append_assoc xs (labels_of p) (flat_map labels_of ps))
    (sym (or_assoc (occurs_among xs (labels_of p)) (shares_labels (xs ++ labels_of p) ps) (shares_labels (xs ++ (labels_of p ++ flat_map labels_of ps)) qs)))

-- patterns are added, and then others
pub patterns_then : (xs : List (List ℕ)) {ys zs : List (List ℕ)} (ps qs : List (List Triple)) → AddsPatterns ps true xs ys → AddsPatterns qs true ys zs → AddsPatterns (ps ++ qs) true xs zs
patterns_then xs {ys} {zs} ps qs g h = (
  shares_append xs ps qs ∙ or_both g.0 (sym (shares_same g.1 qs) ∙ h.0),
  subst (λ ls. HaveSame zs (xs ++ ls)) (sym (flat_map-append labels_of ps qs)) (same_then xs (flat_map labels_of ps) (flat_map labels_of qs) g.1 h.1),
)

-- a label occurs in two of the other patterns, or in one of them and an earlier one
pub patterns_clash : (xs : List (List ℕ)) {ys : List (List ℕ)} (ps qs : List (List Triple)) → AddsPatterns ps true xs ys → shares_labels ys qs ≡ true → shares_labels xs (ps ++ qs) ≡ true
patterns_clash xs {ys} ps qs g h = shares_append xs ps qs ∙ or_right (shares_labels xs ps) (sym (shares_same g.1 qs) ∙ h)

pub first_clash : (xs : List (List ℕ)) (ps qs : List (List Triple)) → shares_labels xs ps ≡ true → shares_labels xs (ps ++ qs) ≡ true
first_clash xs ps qs h = shares_append xs ps qs ∙ or_left (shares_labels (xs ++ flat_map labels_of ps) qs) h

-- the run before an element is one more pattern
pub run_added : {xs ls ys : List (List ℕ)} (us : List Triple) → IsOpenRun xs ls us → HaveSame ys (xs ++ ls) → AddsPatterns (us ∷ []) true xs ys
run_added {xs} {ls} us r h =
    (or_both r.apart refl, same_trans h (same_back xs (same_trans r.same (subst (HaveSame (labels_of us)) (sym (append-nil (labels_of us))) same_refl))))

pub run_starts : (xs : List (List ℕ)) → IsOpenRun xs [] []
run_starts xs = record { same = same_refl; apart = refl }

pub nothing_added : {xs : List (List ℕ)} → AddsPatterns [] true xs xs
nothing_added {xs} = (refl, subst (HaveSame xs) (sym (append-nil xs)) same_refl)

-- an element that continues the run
goes_on : (us : List Triple) (e : ElementTree) → ends_run e ≡ false → open_after us e ≡ us ++ run_of e
goes_on us (triples ts) h = refl
goes_on us (filter e) h = sym (append-nil us)
goes_on us (group g) h = absurd (true_false h)
goes_on us (union e g) h = absurd (true_false h)
goes_on us (optional g) h = absurd (true_false h)
goes_on us (minus g) h = absurd (true_false h)
goes_on us (graph i g) h = absurd (true_false h)
goes_on us (bind e x) h = absurd (true_false h)
goes_on us (values xs rows) h = absurd (true_false h)

pub element_runs_on : (e : ElementTree) (b : Bool) (xs ls ms : List (List ℕ)) → false ≡ ends_run e → AddsLabels xs (labels_of (run_of e)) b ls ms → AddsElement e b xs ls xs ms
element_runs_on e true xs ls ms h a = λ us r.
    rw (sym h) (
      nothing_added,
      subst (IsOpenRun xs ms) (sym (goes_on us e (sym h))) (record {
        same = subst (HaveSame ms) (sym (flat_map-append triple_labels us (run_of e))) (same_trans a.1 (same_front (labels_of (run_of e)) r.same));
        apart = ap (occurs_among xs) (flat_map-append triple_labels us (run_of e)) ∙ (occurs_append xs (labels_of us) (labels_of (run_of e)) ∙ or_both r.apart a.0);
      }),
    )
element_runs_on e false xs ls ms h a = λ us r.
    rw (sym h) (or_left false (ap (λ us. occurs_among xs (labels_of us)) (goes_on us e (sym h)) ∙ (ap (occurs_among xs) (flat_map-append triple_labels us (run_of e)) ∙ (occurs_append xs (labels_of us) (labels_of (run_of e)) ∙ or_right (occurs_among xs (labels_of us)) a))))

-- an element that ends the run
new_run : (us : List Triple) (e : ElementTree) → ends_run e ≡ true → open_after us e ≡ []
new_run us (group g) h = refl
new_run us (union e g) h = refl
new_run us (optional g) h = refl
new_run us (minus g) h = refl
new_run us (graph i g) h = refl
new_run us (bind e x) h = refl
new_run us (values xs rows) h = refl
new_run us (triples ts) h = absurd (true_false (sym h))
new_run us (filter e) h = absurd (true_false (sym h))

pub element_ends_run : (e : ElementTree) (b : Bool) (xs ls ys zs ms : List (List ℕ)) → true ≡ ends_run e → HaveSame ys (xs ++ ls) → ms ≡ [] → AddsPatterns (patterns_inside e) b ys zs → AddsElement e b xs ls zs ms
element_ends_run e true xs ls ys zs ms h a empty d = λ us r.
    rw (sym h, new_run us e (sym h), empty) (patterns_then xs (us ∷ []) (patterns_inside e) (run_added us r a) d, run_starts zs)
element_ends_run e false xs ls ys zs ms h a empty d = λ us r.
    rw (sym h) (first_clash xs (us ∷ patterns_inside e) (open_after us e ∷ []) (patterns_clash xs (us ∷ []) (patterns_inside e) (run_added us r a) d))

-- the patterns of a group with one more element
closed_more : (g : GroupTree) (e : ElementTree) → closed_patterns (then g e) ≡ closed_patterns g ++ closed_by (open_pattern g) e
closed_more g e = refl

-- the labels of the elements that were visited
pub labels_more : (es : List Element) (i : ℕ) (e : Element) (xs ys ls zs ms : List (List ℕ)) → i < length es → e ≡ get_or es i e
    → AddsPatterns (closed_patterns (group_of (take i es))) true xs ys × IsOpenRun ys ls (open_pattern (group_of (take i es)))
    → AddsElement (element_of e) true ys ls zs ms
    → AddsPatterns (closed_patterns (group_of (take (i + 1) es))) true xs zs × IsOpenRun zs ms (open_pattern (group_of (take (i + 1) es)))
labels_more es i e xs ys ls zs ms below is h a =
    let g = group_of (take i es) in
    let m = a (open_pattern g) h.1 in
    subst (λ g. AddsPatterns (closed_patterns g) true xs zs × IsOpenRun zs ms (open_pattern g)) (sym (group_more es i e below is))
    (patterns_then xs (closed_patterns g) (closed_by (open_pattern g) (element_of e)) h.0 m.0, m.1)

plain : (a : Bool) → (a || false) ≡ true → a ≡ true
plain true h = refl
plain false h = h

-- a label that occurs in two patterns of a group does so with further elements, too
clash_goes_on : (xs : List (List ℕ)) (us : List Triple) (e : ElementTree) → shares_labels xs (us ∷ []) ≡ true → shares_labels xs (closed_by us e ++ open_after us e ∷ []) ≡ true
clash_goes_on xs us (triples ts) h = or_left false (ap (occurs_among xs) (flat_map-append triple_labels us ts) ∙ (occurs_append xs (labels_of us) (labels_of ts) ∙ or_left (occurs_among xs (labels_of ts)) (plain (occurs_among xs (labels_of us)) h)))
clash_goes_on xs us (filter e) h = h
clash_goes_on xs us (group g) h = first_clash xs (us ∷ []) (patterns_inside (group g) ++ [] ∷ []) h
clash_goes_on xs us (union e g) h = first_clash xs (us ∷ []) (patterns_inside (union e g) ++ [] ∷ []) h
clash_goes_on xs us (optional g) h = first_clash xs (us ∷ []) (patterns_inside (optional g) ++ [] ∷ []) h
clash_goes_on xs us (minus g) h = first_clash xs (us ∷ []) (patterns_inside (minus g) ++ [] ∷ []) h
clash_goes_on xs us (graph i g) h = first_clash xs (us ∷ []) (patterns_inside (graph i g) ++ [] ∷ []) h
clash_goes_on xs us (bind e x) h = first_clash xs (us ∷ []) (patterns_inside (bind e x) ++ [] ∷ []) h
clash_goes_on xs us (values vs rows) h = first_clash xs (us ∷ []) (patterns_inside (values vs rows) ++ [] ∷ []) h

either_true : (a b : Bool) {C : Type 0} → (a || b) ≡ true → (a ≡ true → C) → (b ≡ true → C) → C
either_true true b h f g = f refl
either_true false b h f g = g h

clash_stays : (xs : List (List ℕ)) (g : GroupTree) (es : List ElementTree) → shares_labels xs (basic_patterns g) ≡ true → shares_labels xs (basic_patterns (onto g es)) ≡ true
clash_stays xs g [] h = h
clash_stays xs g (e ∷ es) h = clash_stays xs (then g e) es
    (ap (shares_labels xs) (append_assoc (closed_patterns g) (closed_by (open_pattern g) e) (open_after (open_pattern g) e ∷ []))
    ∙ (shares_append xs (closed_patterns g) (closed_by (open_pattern g) e ++ open_after (open_pattern g) e ∷ [])
    ∙ either_true (shares_labels xs (closed_patterns g)) (shares_labels (xs ++ flat_map labels_of (closed_patterns g)) (open_pattern g ∷ []))
    (sym (shares_append xs (closed_patterns g) (open_pattern g ∷ [])) ∙ h)
    (λ k. or_left _ k)
    (λ k. or_right (shares_labels xs (closed_patterns g)) (clash_goes_on (xs ++ flat_map labels_of (closed_patterns g)) (open_pattern g) e k))))

pub labels_clash : (es : List Element) (i : ℕ) (e : Element) (xs ys ls zs ms : List (List ℕ)) → i < length es → e ≡ get_or es i e
    → AddsPatterns (closed_patterns (group_of (take i es))) true xs ys × IsOpenRun ys ls (open_pattern (group_of (take i es)))
    → AddsElement (element_of e) false ys ls zs ms
    → shares_labels xs (basic_patterns (group_of es)) ≡ true
labels_clash es i e xs ys ls zs ms below is h a =
    let g = group_of (take i es) in
    let u = open_pattern g in
    ap (λ g. shares_labels xs (basic_patterns g)) (group_rest es (i + 1))
    ∙ clash_stays xs (group_of (take (i + 1) es)) (map element_of (drop (i + 1) es))
    (ap (λ g. shares_labels xs (basic_patterns g)) (group_more es i e below is)
    ∙ (ap (shares_labels xs) (append_assoc (closed_patterns g) (closed_by u (element_of e)) (open_after u (element_of e) ∷ []))
    ∙ patterns_clash xs (closed_patterns g) (closed_by u (element_of e) ++ open_after u (element_of e) ∷ []) h.0 (a u h.1)))

-- the labels of one pattern are added
pub pattern_added : (ts : List Triple) (xs ls ms ys : List (List ℕ)) → ls ≡ [] → AddsLabels xs (labels_of ts) true ls ms → HaveSame ys (xs ++ ms) → AddsPatterns (ts ∷ []) true xs ys
pattern_added ts xs ls ms ys empty a h = run_added {xs = xs} {ls = ms} {ys = ys} ts (record { same = subst (λ ls. HaveSame ms (ls ++ labels_of ts)) empty a.1; apart = a.0 }) h

-- the order of the patterns does not matter
plain_first : (a b : Bool) → ((a || false) || b) ≡ (a || b)
plain_first true b = refl
plain_first false b = refl

or_parts : (a b c d : Bool) → ((a || b) || (c || d)) ≡ ((a || c) || (b || d))
or_parts true b c d = refl
or_parts false true true d = refl
or_parts false true false d = refl
or_parts false false c d = refl

occurs_over : (xs ys ls : List (List ℕ)) → occurs_among (xs ++ ys) ls ≡ (occurs_among xs ls || occurs_among ys ls)
occurs_over xs ys [] = refl
occurs_over xs ys (l ∷ ls) =
    ap (λ b. b || occurs_among (xs ++ ys) ls) (list_any-append (bytes_eq l) xs ys)
    ∙ (ap (λ b. (is_among l xs || is_among l ys) || b) (occurs_over xs ys ls)
    ∙ or_parts (is_among l xs) (is_among l ys) (occurs_among xs ls) (occurs_among ys ls))

occurs_nowhere : (ls : List (List ℕ)) → occurs_among [] ls ≡ false
occurs_nowhere [] = refl
occurs_nowhere (l ∷ ls) = occurs_nowhere ls

occurs_alone : (l : List ℕ) (xs : List (List ℕ)) → occurs_among (l ∷ []) xs ≡ is_among l xs
occurs_alone l [] = refl
occurs_alone l (x ∷ xs) =
    ap (λ b. (b || false) || occurs_among (l ∷ []) xs) (bytes_eq_sym x l)
    ∙ (plain_first (bytes_eq l x) (occurs_among (l ∷ []) xs) ∙ ap (λ b. bytes_eq l x || b) (occurs_alone l xs))

occurs_turned : (xs ls : List (List ℕ)) → occurs_among xs ls ≡ occurs_among ls xs
occurs_turned xs [] = sym (occurs_nowhere xs)
occurs_turned xs (l ∷ ls) =
    ap (λ b. is_among l xs || b) (occurs_turned xs ls)
    ∙ (ap (λ b. b || occurs_among ls xs) (sym (occurs_alone l xs)) ∙ sym (occurs_over (l ∷ []) ls xs))

shares_over : (xs ys : List (List ℕ)) (ps : List (List Triple)) → shares_labels (xs ++ ys) ps ≡ (shares_labels xs ps || occurs_among ys (flat_map labels_of ps))
shares_over xs ys [] = refl
shares_over xs ys (p ∷ ps) =
    let ls = labels_of p in
    let ms = flat_map labels_of ps in
    ap (λ b. b || shares_labels ((xs ++ ys) ++ ls) ps) (occurs_over xs ys ls)
    ∙ (ap (λ b. (occurs_among xs ls || occurs_among ys ls) || b) (shares_same (same_swapped xs ys ls) ps ∙ shares_over (xs ++ ls) ys ps)
    ∙ (or_parts (occurs_among xs ls) (occurs_among ys ls) (shares_labels (xs ++ ls) ps) (occurs_among ys ms)
    ∙ ap (λ b. (occurs_among xs ls || shares_labels (xs ++ ls) ps) || b) (sym (occurs_append ys ls ms))))

or_turned : (a b c : Bool) → (a || (b || c)) ≡ (b || (a || c))
or_turned true true c = refl
or_turned true false c = refl
or_turned false b c = refl

shares_turned : (xs : List (List ℕ)) (ps qs : List (List Triple)) → shares_labels xs (ps ++ qs) ≡ shares_labels xs (qs ++ ps)
shares_turned xs ps qs =
    let ls = flat_map labels_of ps in
    let ms = flat_map labels_of qs in
    shares_append xs ps qs
    ∙ (ap (λ b. shares_labels xs ps || b) (shares_over xs ls qs)
    ∙ (or_turned (shares_labels xs ps) (shares_labels xs qs) (occurs_among ls ms)
    ∙ (ap (λ b. shares_labels xs qs || (shares_labels xs ps || b)) (occurs_turned ls ms)
    ∙ (ap (λ b. shares_labels xs qs || b) (sym (shares_over xs ms ps)) ∙ sym (shares_append xs qs ps)))))

-- patterns are added, and then those before them
pub patterns_before : (b : Bool) (ps qs : List (List Triple)) (xs ys zs : List (List ℕ)) → AddsPatterns qs true xs ys → AddsPatterns ps b ys zs → AddsPatterns (ps ++ qs) b xs zs
patterns_before true ps qs xs ys zs g h =
    let a = patterns_then xs qs ps g h in
    let turned = subst (λ ls. HaveSame (xs ++ flat_map labels_of (qs ++ ps)) (xs ++ ls)) (sym (flat_map-append labels_of ps qs))
    (subst (λ ls. HaveSame (xs ++ ls) (xs ++ (flat_map labels_of ps ++ flat_map labels_of qs))) (sym (flat_map-append labels_of qs ps))
    (same_back xs (same_turned (flat_map labels_of qs) (flat_map labels_of ps)))) in
    (shares_turned xs ps qs ∙ a.0, same_trans a.1 turned)
patterns_before false ps qs xs ys zs g h = shares_turned xs ps qs ∙ patterns_clash xs qs ps g h

pub last_clash : (xs : List (List ℕ)) (ps qs : List (List Triple)) → shares_labels xs qs ≡ true → shares_labels xs (ps ++ qs) ≡ true
last_clash xs ps qs h = shares_turned xs ps qs ∙ first_clash xs qs ps h

pub pattern_clash : (ts : List Triple) (xs : List (List ℕ)) → occurs_among xs (labels_of ts) ≡ true → shares_labels xs (ts ∷ []) ≡ true
pattern_clash ts xs h = or_left false h
