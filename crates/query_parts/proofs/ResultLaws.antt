-- The merged results of the parts are the result of the query.
use Rattle.std.proofs.Common.{◌≡◌, ℕ, Bool, true, false, List, [], ◌∷◌, ◌++◌, length, get_or, map, flat_map, Option, None, Some, refl, sym, ap, ◌∙◌, subst, ⊎_elim}
use Rattle.std.specs.Prelude.{unwrap_or, option_to_list}
use Rattle.std.specs.Str.{bytes_eq, chars}
use Rattle.std.proofs.lemmas.Bool.{false≢true}
use Rattle.std.proofs.lemmas.List.{length-map, map-append}
use Rattle.rdf_core.specs.QuadParts.{QuadParts}
use Rattle.nquads_core.specs.Laws.{OneMeaning}
use Rattle.nquads_core.specs.Lines.{lines}
use Rattle.nquads_core.specs.Pieces.{HaveStatements}
use Rattle.algebra_model.specs.Bag.{IsWithoutRepeats}
use Rattle.algebra_model.specs.Eval.{eval}
use Rattle.algebra_model.specs.Pieces.{joined}
use Rattle.algebra_model.specs.Renaming.{Each}
use Rattle.algebra_model.specs.RowOrder.{cells}
use Rattle.algebra_model.specs.Solution.{Solution}
use Rattle.algebra_model.proofs.RangeLaws.{Each-append}
use Rattle.algebra_model.proofs.RepeatLaws.{IsWithoutRepeats-filter, IsWithoutRepeats-without_repeats}
use Rattle.rdf_core.specs.declared.term.Term.{Term}
use Rattle.sparql_tree.specs.QueryTree.{QueryTree}
use Rattle.sparql_grammar.specs.Derives.{Derives}
use Rattle.sparql_read.specs.Rejection.{IsValidQuery}
use Rattle.sparql_algebra.specs.Names.{Name, is_name_among, listed_names, names_of, number_of, selected_by, selected_names}
use Rattle.sparql_algebra.specs.Translation.{projection, translate}
use Rattle.sparql_tree.specs.Scope.{group_names, group_scope}
use Rattle.result_json.specs.Results.{json}
use Rattle.row_merge.specs.Merged.{IsEnough, Row, Table, merged}
use Rattle.result_merge.specs.Laws.{ResultsAreUnique}
use Rattle.result_merge.specs.Merging.{AreTagged, AreWide, IsMerged}
use Rattle.result_merge.specs.Tags.{HasTagType}
use Rattle.spq_core.specs.Outcome.{rows}
use Rattle.query_split.specs.ForParts.{for_parts, is_splittable}
use Rattle.query_split.proofs.OperatorSplits as each
use Rattle.query_plan.specs.declared.planning.MergePlan.{MergePlan}
use Rattle.query_parts.specs.Results.{AreMerged, IsPartResult, MergesGiveResult, PartResult, as_they_are, merged_once}
use Rattle.query_parts.proofs.MergeLaws.{Each-merged, merged_before}
use Rattle.query_parts.proofs.RowLaws.{overlapping_parts_give_rows, parts_give_rows}
use Rattle.query_parts.proofs.SolutionTags.{Each-rows, of_query}

-- ---- the variables of a result

selected_once : (names scope : List Name) (selection : Option (List Name)) → IsWithoutRepeats bytes_eq names → IsWithoutRepeats bytes_eq (selected_by selection scope names)
selected_once names scope None h = IsWithoutRepeats-filter bytes_eq (λ x. is_name_among x scope) names h
selected_once names scope (Some xs) h = IsWithoutRepeats-without_repeats bytes_eq xs

names_once : (q : QueryTree) → IsWithoutRepeats bytes_eq (selected_names q)
names_once q =
    selected_once (names_of q) (group_scope q.group) q.selection
    (IsWithoutRepeats-without_repeats bytes_eq (q.mentioned ++ (listed_names q.selection ++ group_names true q.group)))

-- ---- the rows of a result

-- a row with a cell for each variable, whose literals with a language tag have the right datatype
abbrev IsRowOf : List (List ℕ) → Row → Type 0
IsRowOf vars row = (length row ≡ length vars) × Each HasTagType row

abbrev AreRowsOf : List (List ℕ) → Table → Type 0
AreRowsOf vars table = Each (IsRowOf vars) table

both : (vars : List (List ℕ)) (table : Table) → Each (λ (row : Row). length row ≡ length vars) table → Each (Each HasTagType) table → AreRowsOf vars table
both vars [] h k = tt
both vars (row ∷ table) h k = ((h.0, k.0), both vars table h.1 k.1)

wide_rows : (q : QueryTree) (A : List (Solution Term)) → Each (λ (row : Row). length row ≡ length (selected_names q)) (map (cells (projection q)) A)
wide_rows q [] = tt
wide_rows q (μ ∷ A) = (length-map (projection q) (λ v. get_or μ v None) ∙ length-map (selected_names q) (number_of (names_of q)), wide_rows q A)

rows_of_query : (text : List ℕ) (q : QueryTree) (D : List QuadParts) (document : List ℕ) → IsValidQuery text q → HaveStatements (lines document) D → AreRowsOf (selected_names q) (rows q D)
rows_of_query text q D document valid statements =
    both (selected_names q) (rows q D)
    (Each-rows (λ (row : Row). length row ≡ length (selected_names q)) q D (wide_rows q (eval (length (names_of q)) D None (translate q).algebra)))
    (of_query text q D valid (document, statements))

wide : (vars : List (List ℕ)) (tables : List Table) → Each (AreRowsOf vars) tables → AreWide vars tables
wide vars tables h = each.Each-map (λ table k. each.Each-map (λ row r. r.0) table k) tables h

tagged : (vars : List (List ℕ)) (tables : List Table) → Each (AreRowsOf vars) tables → AreTagged tables
tagged vars tables h = each.Each-map (λ table k. each.Each-map (λ row r. r.1) table k) tables h

apart : {X : Type 0} (P : X → Type 0) (xs ys : List X) → Each P (xs ++ ys) → Each P xs × Each P ys
apart P [] ys h = (tt, h)
apart P (x ∷ xs) ys h = let r = apart P xs ys h.1 in ((h.0, r.0), r.1)

-- ---- the tables of results

joined_results : (vars : List (List ℕ)) (tables : List Table) → joined (map (json vars) tables) ≡ flat_map (json vars) tables
joined_results vars [] = refl
joined_results vars (t ∷ tables) = ap (λ l. json vars t ++ l) (joined_results vars tables)

-- the tables of some results, of which the first come before the others
record Cut (vars : List (List ℕ)) (tables : List Table) (before after : List (List ℕ)) : Type 0 where
  first : List Table
  others : List Table
  is : tables ≡ first ++ others
  of_first : before ≡ map (json vars) first
  of_others : after ≡ map (json vars) others

module _ (vars : List (List ℕ)) where
  head_is : (x y : List ℕ) (xs ys : List (List ℕ)) → x ∷ xs ≡ y ∷ ys → x ≡ y
  head_is x y xs ys e = ap first e
    where
      first : List (List ℕ) → List ℕ
      first [] = x
      first (z ∷ zs) = z

  tail_is : (x y : List ℕ) (xs ys : List (List ℕ)) → x ∷ xs ≡ y ∷ ys → xs ≡ ys
  tail_is x y xs ys e = ap rest e
    where
      rest : List (List ℕ) → List (List ℕ)
      rest [] = xs
      rest (z ∷ zs) = zs

  not_empty : (x : List ℕ) (xs : List (List ℕ)) → x ∷ xs ≡ [] → ⊥
  not_empty x xs e = false≢true (sym (ap is_some e))
    where
      is_some : List (List ℕ) → Bool
      is_some [] = false
      is_some (z ∷ zs) = true

  cut : (before after : List (List ℕ)) (tables : List Table) → before ++ after ≡ map (json vars) tables → Cut vars tables before after
  cut [] after tables e = record { first = []; others = tables; is = refl; of_first = refl; of_others = e }
  cut (x ∷ before) after [] e = absurd (not_empty x (before ++ after) e)
  cut (x ∷ before) after (t ∷ tables) e =
      let c = cut before after tables (tail_is x (json vars t) (before ++ after) (map (json vars) tables) e) in
      record {
        first = t ∷ c.first;
        others = c.others;
        is = ap (λ l. t ∷ l) c.is;
        of_first = (λ i. head_is x (json vars t) (before ++ after) (map (json vars) tables) e i ∷ c.of_first i);
        of_others = c.of_others;
      }

-- ---- merges

-- the results that merges leave: their tables, of which the last merge makes the same
record Left (m : MergePlan) (vars : List (List ℕ)) (tables : List Table) (left : List (List ℕ)) : Type 0 where
  table : Table
  others : List Table
  is : left ≡ map (json vars) (table ∷ others)
  of_rows : Each (AreRowsOf vars) (table ∷ others)
  same : (offset : ℕ) (limit : Option ℕ) → IsEnough m.kept offset limit → merged m.distinct offset limit (table ∷ others) ≡ merged m.distinct offset limit tables

module _ (unique : ResultsAreUnique) (vars : List (List ℕ)) (once : IsWithoutRepeats bytes_eq vars) where
  -- a merge writes the result of the merged tables
  merge_writes : (distinct : Bool) (offset : ℕ) (limit : Option ℕ) (table : Table) (tables : List Table) (input output : List ℕ)
      → input ≡ flat_map (json vars) (table ∷ tables) → Each (AreRowsOf vars) (table ∷ tables) → IsMerged distinct offset limit input output
      → output ≡ json vars (merged distinct offset limit (table ∷ tables))
  merge_writes distinct offset limit table tables input output e h m =
      let all = table ∷ tables in
      let u = unique vars m.vars table tables m.tables once (wide vars all h) (tagged vars all h) m.wide m.tagged (sym e ∙ m.read) in
      m.written ∙ (λ i. json (sym u.0 i) (merged distinct offset limit (sym u.1 i)))

  module _ (m : MergePlan) where
    -- tables of which there is one at least
    left_of : (before : List Table) (table : Table) (after tables : List Table) (left : List (List ℕ)) → left ≡ map (json vars) (before ++ table ∷ after)
        → Each (AreRowsOf vars) (before ++ table ∷ after)
        → ((offset : ℕ) (limit : Option ℕ) → IsEnough m.kept offset limit → merged m.distinct offset limit (before ++ table ∷ after) ≡ merged m.distinct offset limit tables)
        → Left m vars tables left
    left_of [] table after tables left e h s = record { table = table; others = after; is = e; of_rows = h; same = s }
    left_of (t ∷ before) table after tables left e h s = record { table = t; others = before ++ table ∷ after; is = e; of_rows = h; same = s }

    -- one merge of some results, whose tables are the first of `others`
    one_merge : (before group after : List (List ℕ)) (first result : List ℕ) → IsMerged m.distinct 0 m.kept (joined (first ∷ group)) result
        → (front others tables : List Table) → before ≡ map (json vars) front → first ∷ (group ++ after) ≡ map (json vars) others → tables ≡ front ++ others
        → Each (AreRowsOf vars) tables → Left m vars tables (before ++ result ∷ after)
    one_merge before group after first result w front [] tables b e is h = absurd (not_empty vars first (group ++ after) e)
    one_merge before group after first result w front (t ∷ others) tables b e is h =
        let c = cut vars group after others (tail_is vars first (json vars t) (group ++ after) (map (json vars) others) e) in
        let here = head_is vars first (json vars t) (group ++ after) (map (json vars) others) e in
        let whole : tables ≡ front ++ ((t ∷ c.first) ++ c.others) = is ∙ ap (λ l. front ++ t ∷ l) c.is in
        let two = apart (AreRowsOf vars) front ((t ∷ c.first) ++ c.others) (subst (Each (AreRowsOf vars)) whole h) in
        let three = apart (AreRowsOf vars) (t ∷ c.first) c.others two.1 in
        let M = merged m.distinct 0 m.kept (t ∷ c.first) in
        let input : joined (first ∷ group) ≡ flat_map (json vars) (t ∷ c.first) = (λ i. joined (here i ∷ c.of_first i)) ∙ joined_results vars (t ∷ c.first) in
        let written = merge_writes m.distinct 0 m.kept t c.first (joined (first ∷ group)) result input three.0 w in
        left_of front M c.others tables (before ++ result ∷ after)
        ((λ i. b i ++ written i ∷ c.of_others i) ∙ sym (map-append (json vars) front (M ∷ c.others)))
        (Each-append (AreRowsOf vars) front (M ∷ c.others) two.0 (Each-merged (IsRowOf vars) m.distinct 0 m.kept (t ∷ c.first) three.0, three.1))
        (λ offset limit enough. merged_before m.distinct m.kept offset limit enough front (t ∷ c.first) c.others ∙ ap (merged m.distinct offset limit) (sym whole))

    -- more merges
    then_left : (tables : List Table) (results left : List (List ℕ)) (n : Left m vars tables results) → Left m vars (n.table ∷ n.others) left → Left m vars tables left
    then_left tables results left n r = record {
      table = r.table;
      others = r.others;
      is = r.is;
      of_rows = r.of_rows;
      same = λ offset limit enough. r.same offset limit enough ∙ n.same offset limit enough;
    }

    merges : (results left : List (List ℕ)) → AreMerged m results left → (table : Table) (tables : List Table) → results ≡ map (json vars) (table ∷ tables)
        → Each (AreRowsOf vars) (table ∷ tables) → Left m vars (table ∷ tables) left
    merges results left as_they_are table tables e h = record { table = table; others = tables; is = e; of_rows = h; same = λ offset limit enough. refl }
    merges results left (merged_once before group after first result w more) table tables e h =
        let c = cut vars before (first ∷ (group ++ after)) (table ∷ tables) e in
        let n = one_merge before group after first result w c.first c.others (table ∷ tables) c.of_first c.of_others c.is h in
        then_left (table ∷ tables) (before ++ result ∷ after) left n (merges (before ++ result ∷ after) left more n.table n.others n.is n.of_rows)

-- ---- the parts

-- as the law of sparql_read says it
abbrev OneTree : Type 0
OneTree = (text : List ℕ) (q r : QueryTree) → Derives text q → Derives text r → q ≡ r

same_statements : OneMeaning → (ls : List (List ℕ)) (D E : List QuadParts) → HaveStatements ls D → HaveStatements ls E → D ≡ E
same_statements one [] D E h k = h ∙ sym k
same_statements one (l ∷ ls) D E h k =
    h.3 ∙ (λ i. option_to_list (one l h.0 k.0 h.2 k.2 i) ++ same_statements one ls h.1 k.1 h.4 k.4 i) ∙ sym k.3

module _ (tree : OneTree) (meaning : OneMeaning) (text : List ℕ) (q : QueryTree) (valid : IsValidQuery (chars text) q) where
  part_result : (p : PartResult) → IsPartResult text p → p.result ≡ json (selected_names q) (rows q p.quads)
  part_result p h =
      let e = tree (chars text) h.1.query q h.1.read.derives valid.derives in
      let d = same_statements meaning (lines p.document) h.1.results.quads p.quads h.1.results.statements h.0 in
      h.1.results.printed ∙ (λ i. json (selected_names (e i)) (rows (e i) (d i)))

  part_results : (ps : List PartResult) → Each (IsPartResult text) ps → map (λ p. p.result) ps ≡ map (json (selected_names q)) (map (rows q) (map (λ p. p.quads) ps))
  part_results [] h = refl
  part_results (p ∷ ps) h = λ i. part_result p h.0 i ∷ part_results ps h.1 i

  part_rows : (ps : List PartResult) → Each (IsPartResult text) ps → Each (AreRowsOf (selected_names q)) (map (rows q) (map (λ p. p.quads) ps))
  part_rows [] h = tt
  part_rows (p ∷ ps) h = (rows_of_query (chars text) q p.quads p.document valid h.0.0, part_rows ps h.1)

-- ---- the law

pub merges_give_result : OneTree → OneMeaning → ResultsAreUnique → MergesGiveResult
merges_give_result tree meaning unique split text plan planned part parts results fit left output before last document D statements same =
    let q = planned.query in
    let p = planned.planned in
    let m = plan.merge in
    let vars = selected_names q in
    let of_parts = for_parts m.kept q in
    let quads = map (λ (x : PartResult). x.quads) parts in
    let table = rows of_parts part.quads in
    let tables = map (rows of_parts) quads in
    let enough = subst (λ l. IsEnough m.kept (unwrap_or q.offset 0) l) p.limited (subst (λ o. IsEnough m.kept o m.limit) p.skipped p.enough) in
    let whole : rows q D ≡ merged q.distinct (unwrap_or q.offset 0) q.limit (table ∷ tables) = ⊎_elim
    (λ are. parts_give_rows split p.key q p.splittable m.kept enough D part.quads quads are same)
    (λ lines_once. overlapping_parts_give_rows p.key q (subst (λ s. is_splittable s p.key q ≡ true) lines_once.0 p.splittable) (sym p.once ∙ lines_once.1) m.kept enough D part.quads quads same)
    fit in
    let n = merges unique vars (names_once q) m (map (λ (x : PartResult). x.result) (part ∷ parts)) left before table tables
    (part_results tree meaning plan.query.items of_parts p.parts (part ∷ parts) results)
    (part_rows tree meaning plan.query.items of_parts p.parts (part ∷ parts) results) in
    let written = merge_writes unique vars (names_once q) m.distinct m.offset m.limit n.table n.others (joined left) output (ap joined n.is ∙ joined_results vars (n.table ∷ n.others)) n.of_rows last in
    let printed = written ∙ ap (json vars) (n.same m.offset m.limit p.enough ∙ (λ i. merged (p.once i) (p.skipped i) (p.limited i) (table ∷ tables)) ∙ sym whole) in
    record { query = q; read = planned.read; results = record { quads = D; statements = statements; printed = printed } }
