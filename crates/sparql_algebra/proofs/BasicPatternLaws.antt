-- The basic graph patterns of a plan are the runs of triples of its group.
use Rattle.std.proofs.Common.{◌≡◌, Bool, true, false, List, [], ◌∷◌, ◌++◌, Option, Some, None, refl, sym, ap, ◌∙◌, append_assoc, append-nil}
use Rattle.std.specs.List.{flat_map}
use Rattle.sparql_tree.specs.declared.group.VarOrTerm.{VarOrTerm}
use Rattle.sparql_tree.specs.declared.group.VarOrTerm.TheVariants as place
use Rattle.sparql_tree.specs.declared.group.Triple.{Triple}
use Rattle.sparql_tree.specs.GroupTree.{GroupTree, ElementTree, none, then, triples, group, union, optional, minus, graph, filter, bind, values}
use Rattle.sparql_tree.specs.QueryTree.{QueryTree}
use Rattle.sparql_algebra.specs.Names.{Name, names_of}
use Rattle.algebra_model.specs.Algebra.{Algebra, Project}
use Rattle.algebra_model.specs.Expression.{Expression}
use Rattle.sparql_tree.specs.BlankReuse as reuse
use Rattle.sparql_tree.specs.BlankReuse.{basic_patterns, closed_patterns, open_pattern, patterns_inside}
use Rattle.sparql_algebra.specs.Translation as translation
use Rattle.sparql_algebra.specs.Translation.{Part, distinct_where, projection, translate, group_part, add_element, translate_side, translate_group, with_pattern, closed, finished, filtered}
use Rattle.sparql_algebra.specs.BasicPatterns.{patterns_of, translated}
use Rattle.sparql_algebra.proofs.SideLaws.{HasSides, HasSidesInside, IsSide}

-- ---- translated runs

translated_append : (names : List Name) (a b : List (List Triple)) → translated names (a ++ b) ≡ translated names a ++ translated names b
translated_append names [] b = refl
translated_append names ([] ∷ a) b = translated_append names a b
translated_append names ((t ∷ ts) ∷ a) b = ap (λ (z : List Algebra). translation.translate_pattern names (t ∷ ts) ∷ z) (translated_append names a b)

of_filtered : (f : Option Expression) (A : Algebra) → patterns_of (filtered f A) ≡ patterns_of A
of_filtered None A = refl
of_filtered (Some e) A = refl

of_closed : (names : List Name) (A : Algebra) (ts : List Triple) → patterns_of (with_pattern names A ts) ≡ patterns_of A ++ translated names (ts ∷ [])
of_closed names A [] = sym (append-nil (patterns_of A))
of_closed names A (t ∷ ts) = refl

-- ---- a prefix of a group

record IsPart (names : List Name) (p : Part) (g : GroupTree) : Type 0 where
  pub before : patterns_of p.before ≡ translated names (closed_patterns g)
  pub run : p.triples ≡ open_pattern g

whole_of : (names : List Name) (p : Part) (g : GroupTree) → IsPart names p g → patterns_of (closed names p) ≡ translated names (basic_patterns g)
whole_of names p g h =
    of_closed names p.before p.triples
    ∙ ap (λ (z : List Algebra). z ++ translated names (p.triples ∷ [])) h.before
    ∙ ap (λ (us : List Triple). translated names (closed_patterns g) ++ translated names (us ∷ [])) h.run
    ∙ sym (translated_append names (closed_patterns g) (open_pattern g ∷ []))

finished_of : (names : List Name) (p : Part) (g : GroupTree) → IsPart names p g → patterns_of (finished names p) ≡ translated names (basic_patterns g)
finished_of names p g h = of_filtered p.filters (closed names p) ∙ whole_of names p g h

-- after an element that ends a run: the patterns before the run, the run, and the patterns inside
-- the element
ended : (names : List Name) (p : Part) (g : GroupTree) (inside : List (List Triple)) → IsPart names p g
    → patterns_of (closed names p) ++ translated names inside ≡ translated names (closed_patterns g ++ (open_pattern g ∷ inside))
ended names p g inside h =
    ap (λ (z : List Algebra). z ++ translated names inside) (whole_of names p g h)
    ∙ sym (translated_append names (basic_patterns g) inside)
    ∙ ap (translated names) (append_assoc (closed_patterns g) (open_pattern g ∷ []) inside)

-- both sides of a UNION
both_sides : (names : List Name) (e : ElementTree) (g : GroupTree)
    → patterns_of (translate_side names e) ≡ translated names (patterns_inside e) → patterns_of (finished names (group_part names g)) ≡ translated names (basic_patterns g)
    → patterns_of (translate_side names e) ++ patterns_of (finished names (group_part names g)) ≡ translated names (patterns_inside (union e g))
both_sides names e g h k =
    ap (λ (z : List Algebra). z ++ patterns_of (finished names (group_part names g))) h
    ∙ ap (λ (z : List Algebra). translated names (patterns_inside e) ++ z) k
    ∙ sym (translated_append names (patterns_inside e) (basic_patterns g))

mutual
  group_is : (names : List Name) (g : GroupTree) → HasSides g → IsPart names (group_part names g) g
  group_is names none h = record { before = refl; run = refl }
  group_is names (then g e) h = element_is names g e h.1 (group_is names g h.0)

  side_is : (names : List Name) (e : ElementTree) → IsSide e → patterns_of (translate_side names e) ≡ translated names (patterns_inside e)
  side_is names (group g) h = finished_of names (group_part names g) g (group_is names g h)
  side_is names (union e g) h = both_sides names e g (side_is names e h.0) (finished_of names (group_part names g) g (group_is names g h.1))
  side_is names (triples ts) h = absurd h
  side_is names (optional g) h = absurd h
  side_is names (minus g) h = absurd h
  side_is names (graph i g) h = absurd h
  side_is names (filter e) h = absurd h
  side_is names (bind e x) h = absurd h
  side_is names (values xs rows) h = absurd h

  element_is : (names : List Name) (g : GroupTree) (e : ElementTree) → HasSidesInside e → IsPart names (group_part names g) g → IsPart names (add_element names (group_part names g) e) (then g e)
  element_is names g (triples ts) h p = record {
    before = p.before ∙ ap (translated names) (sym (append-nil (closed_patterns g)));
    run = ap (λ (us : List Triple). us ++ ts) p.run;
  }
  element_is names g (filter e) h p = record {
    before = p.before ∙ ap (translated names) (sym (append-nil (closed_patterns g)));
    run = p.run;
  }
  element_is names g (optional k) h p = record {
    before =
        ap (λ (z : List Algebra). patterns_of (closed names (group_part names g)) ++ z) (whole_of names (group_part names k) k (group_is names k h))
        ∙ ended names (group_part names g) g (basic_patterns k) p;
    run = refl;
  }
  element_is names g (minus k) h p = record {
    before =
        ap (λ (z : List Algebra). patterns_of (closed names (group_part names g)) ++ z) (finished_of names (group_part names k) k (group_is names k h))
        ∙ ended names (group_part names g) g (basic_patterns k) p;
    run = refl;
  }
  element_is names g (group k) h p = record {
    before =
        ap (λ (z : List Algebra). patterns_of (closed names (group_part names g)) ++ z) (finished_of names (group_part names k) k (group_is names k h))
        ∙ ended names (group_part names g) g (basic_patterns k) p;
    run = refl;
  }
  element_is names g (graph i k) h p = record {
    before =
        ap (λ (z : List Algebra). patterns_of (closed names (group_part names g)) ++ z) (finished_of names (group_part names k) k (group_is names k h))
        ∙ ended names (group_part names g) g (basic_patterns k) p;
    run = refl;
  }
  element_is names g (union e k) h p = record {
    before =
        ap (λ (z : List Algebra). patterns_of (closed names (group_part names g)) ++ z) (both_sides names e k (side_is names e h.0) (finished_of names (group_part names k) k (group_is names k h.1)))
        ∙ ended names (group_part names g) g (patterns_inside (union e k)) p;
    run = refl;
  }
  element_is names g (bind e x) h p = record {
    before = sym (append-nil (patterns_of (closed names (group_part names g)))) ∙ ended names (group_part names g) g [] p;
    run = refl;
  }
  element_is names g (values xs rows) h p = record {
    before = ended names (group_part names g) g [] p;
    run = refl;
  }

of_distinct : (distinct : Bool) (A : Algebra) → patterns_of (distinct_where distinct A) ≡ patterns_of A
of_distinct true A = refl
of_distinct false A = refl

pub same_patterns : (q : QueryTree) → HasSides q.group → patterns_of (translate q).algebra ≡ translated (names_of q) (basic_patterns q.group)
same_patterns q h =
    of_distinct q.distinct (Project (projection q) (translate_group (names_of q) q.group))
    ∙ finished_of (names_of q) (group_part (names_of q) q.group) q.group (group_is (names_of q) q.group h)

-- ---- labels

place_same : (t : VarOrTerm) → translation.blank_names t ≡ reuse.place_labels t
place_same (place.Variable x) = refl
place_same (place.Blank l) = refl
place_same (place.Term t) = refl

triple_same : (t : Triple) → translation.triple_blanks t ≡ reuse.triple_labels t
triple_same t = rw (place_same t.subject, place_same t.predicate, place_same t.object) refl

pub run_same : (run : List Triple) → flat_map translation.triple_blanks run ≡ reuse.labels_of run
run_same [] = refl
run_same (t ∷ ts) = rw (triple_same t, run_same ts) refl
