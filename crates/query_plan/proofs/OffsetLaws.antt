-- The query for the parts of a query with OFFSET, whose text has other numbers after LIMIT and OFFSET.
use Rattle.std.proofs.Common.{◌≡◌, ℕ, suc, ◌+◌, ◌-◌, ◌<◌, Bool, true, false, if◌then◌else◌, List, [], ◌∷◌, ◌++◌, length, take, Option, None, Some, is_none, get_or, refl, sym, ap, subst, ◌∙◌, arith, length-append}
use Rattle.std.proofs.lemmas.List.{get_or-map, length-map, take-append-le, take_all, take_more}
use Rattle.std.specs.Prelude.{unwrap_or}
use Rattle.std.specs.Option.{option_map}
use Rattle.sparql_lexer.specs.Scan.{Scans}
use Rattle.sparql_lexer.specs.declared.token.Token.{Token}
use Rattle.sparql_lexer.specs.Terminal.{Terminal, terminal_of, terminals}
use Rattle.sparql_grammar.specs.Symbol.{Select}
use Rattle.sparql_grammar.specs.Symbol as the
use Rattle.sparql_grammar.specs.Productions.{right_side}
use Rattle.sparql_grammar.specs.Derivation.{Derivation}
use Rattle.sparql_tree.specs.QueryTree.{QueryTree}
use Rattle.sparql_grammar.specs.Derives.{Derives, tree_of}
use Rattle.sparql_read.specs.Rejection.{IsValidQuery}
use Rattle.sparql_grammar.specs.Mentioned.{mentioned}
use Rattle.sparql_grammar.specs.Prologue.{declarations}
use Rattle.row_merge.specs.Merged.{IsEnough}
use Rattle.query_split.specs.ForParts.{for_parts}
use Rattle.query_plan.proofs.ModifierLaws.{Query, declared_front, mentioned_front, modifiers, query_ends, with_modifiers}

abbrev OneTree : Type 0
OneTree = (text : List ℕ) (q r : QueryTree) → Derives text q → Derives text r → q ≡ r

front_is : (xs ys : List Terminal) (n : ℕ) → length ys ≡ n → take (length (xs ++ ys) - n) (xs ++ ys) ≡ xs
front_is xs ys n e =
    let k : length (xs ++ ys) - n ≡ length xs = omega (arith, length-append xs ys, e) in
    ap (λ m. take m (xs ++ ys)) k ∙ take-append-le (length xs) xs ys (omega arith) ∙ take_all (length xs) xs (omega arith)

-- the number of terminals of OFFSET, and of LIMIT if there is one
abbrev long_if : Bool → ℕ
long_if none = if none then 2 else 4

abbrev long : Option ℕ → ℕ
long limit = long_if (is_none limit)

-- two texts whose terminals differ in those of LIMIT and OFFSET alone
pub for_the_parts : OneTree → (text other : List ℕ) (q r : QueryTree) (o p : ℕ) (d : Derives text q) (e : Derives other r) → q.offset ≡ Some o → r.offset ≡ Some p
    → is_none r.limit ≡ is_none q.limit
    → let n : ℕ = if is_none q.limit then 2 else 4 in take (length d.terminals - n) d.terminals ≡ take (length e.terminals - n) e.terminals
    → r ≡ record { distinct = q.distinct; selection = q.selection; group = q.group; limit = r.limit; offset = r.offset; mentioned = q.mentioned }
for_the_parts one text other q r o p d e q_has r_has alike same =
    let n : ℕ = if is_none q.limit then 2 else 4 in
    let names = declarations d.terminals in
    let a = query_ends names (suc (length d.terminals)) d.terminals d.select (omega arith) d.derived in
    let b = query_ends (declarations e.terminals) (suc (length e.terminals)) e.terminals e.select (omega arith) e.derived in
    let ma = modifiers names a.mid a.m a.derived in
    let mb = modifiers (declarations e.terminals) b.mid b.m b.derived in
    let q_limit : q.limit ≡ a.m.0 = ap (λ t. t.limit) d.tree ∙ a.limit in
    let r_limit : r.limit ≡ b.m.0 = ap (λ t. t.limit) e.tree ∙ b.limit in
    let long_a : length a.mid ≡ n = ma.long o (sym a.offset ∙ sym (ap (λ t. t.offset) d.tree) ∙ q_has) ∙ ap (λ l. long l) (sym q_limit) in
    let long_b : length b.mid ≡ n =
    mb.long p (sym b.offset ∙ sym (ap (λ t. t.offset) e.tree) ∙ r_has) ∙ ap (λ l. long l) (sym r_limit) ∙ ap (λ c. long_if c) alike in
    let front : a.used ≡ b.used =
    sym (front_is a.used a.mid n long_a) ∙ ap (λ ts. take (length ts - n) ts) (sym a.is) ∙ same ∙ ap (λ ts. take (length ts - n) ts) b.is ∙ front_is b.used b.mid n long_b in
    let names_same : declarations (a.used ++ b.mid) ≡ names = declared_front [] a.used b.mid a.mid mb.plain ma.plain ∙ ap declarations (sym a.is) in
    let terminals_same : a.used ++ b.mid ≡ e.terminals = ap (λ l. l ++ b.mid) front ∙ sym b.is in
    let e_names : declarations e.terminals ≡ names = ap declarations (sym terminals_same) ∙ names_same in
    let made : Query names e.terminals (with_modifiers d.select b.m) =
    subst (λ ts. Query names ts (with_modifiers d.select b.m)) terminals_same
    (a.again b.mid b.m (long_b ∙ sym long_a) (subst (λ ns. Derivation ns the.modifiers (right_side the.modifiers) b.mid b.m []) e_names b.derived)) in
    let tree = tree_of (with_modifiers d.select b.m) e.terminals in
    let is : r ≡ tree =
    one other r tree e (record {
      terminals = e.terminals;
      scans = e.scans;
      select = with_modifiers d.select b.m;
      derived = subst (λ ns. Query ns e.terminals (with_modifiers d.select b.m)) (sym e_names) made;
      tree = refl;
    }) in
    let variables : mentioned e.terminals ≡ mentioned d.terminals =
    ap mentioned (sym terminals_same) ∙ mentioned_front a.used b.mid mb.plain ∙ sym (mentioned_front a.used a.mid ma.plain) ∙ ap mentioned (sym a.is) in
    let known : q ≡ tree_of d.select d.terminals = d.tree in
    λ i. record {
      distinct = (ap (λ t. t.distinct) is ∙ sym (ap (λ t. t.distinct) known)) i;
      selection = (ap (λ t. t.selection) is ∙ sym (ap (λ t. t.selection) known)) i;
      group = (ap (λ t. t.group) is ∙ sym (ap (λ t. t.group) known)) i;
      limit = r.limit;
      offset = r.offset;
      mentioned = (ap (λ t. t.mentioned) is ∙ variables ∙ sym (ap (λ t. t.mentioned) known)) i;
    }

-- ---- terminals that are compared one after the other

pub one_more_same : (a b : List Token) (i : ℕ) (d : Token) → i < length a → i < length b → terminal_of (get_or a i d) ≡ terminal_of (get_or b i d)
    → take i (terminals a) ≡ take i (terminals b) → take (i + 1) (terminals a) ≡ take (i + 1) (terminals b)
one_more_same a b i d low_a low_b same was =
    let t = terminal_of d in
    take_more (terminals a) i t (subst (λ n. i < n) (sym (length-map a terminal_of)) low_a)
    ∙ (λ j. was j ++ (get_or-map terminal_of a i d t low_a ∙ same ∙ sym (get_or-map terminal_of b i d t low_b)) j ∷ [])
    ∙ sym (take_more (terminals b) i t (subst (λ n. i < n) (sym (length-map b terminal_of)) low_b))

-- ---- the query for the parts

-- with OFFSET
pub parts_are : OneTree → (text other : List ℕ) (q r : QueryTree) (kept : Option ℕ) (n : ℕ) → IsValidQuery text q → IsValidQuery other r
    → is_none q.offset ≡ false → r.offset ≡ Some 0 → r.limit ≡ kept → is_none kept ≡ is_none q.limit → n ≡ (if is_none q.limit then 2 else 4)
    → ((ts us : List Terminal) → Scans text ts [] → Scans other us [] → take (length ts - n) ts ≡ take (length us - n) us) → r ≡ for_parts kept q
parts_are one text other q r kept n d e has offset limit alike is same = by q.offset refl
  where
    by : (o : Option ℕ) → q.offset ≡ o → r ≡ for_parts kept q
    by None f = let g : is_none q.offset ≡ true = ap is_none f in absurd (cc)
    by (Some o) f =
        for_the_parts one text other q r o 0 d.derives e.derives f offset (ap is_none limit ∙ alike)
        (subst (λ m. take (length d.derives.terminals - m) d.derives.terminals ≡ take (length e.derives.terminals - m) e.derives.terminals) is
        (same d.derives.terminals e.derives.terminals d.derives.scans e.derives.scans))
        ∙ (λ i. record {
          distinct = q.distinct;
          selection = q.selection;
          group = q.group;
          limit = limit i;
          offset = (offset ∙ sym (ap (option_map (λ _. 0)) f)) i;
          mentioned = q.mentioned;
        })

-- and without: the query itself
pub same_query : (q : QueryTree) (kept : Option ℕ) → q.offset ≡ None → kept ≡ option_map (λ n. unwrap_or q.offset 0 + n) q.limit → q ≡ for_parts kept q
same_query q kept none sum =
    let limit : q.limit ≡ kept = sym (sum ∙ ap (λ o. option_map (λ n. unwrap_or o 0 + n) q.limit) none ∙ nothing_more q.limit) in
    λ i. record {
      distinct = q.distinct;
      selection = q.selection;
      group = q.group;
      limit = limit i;
      offset = (none ∙ sym (ap (option_map (λ _. 0)) none)) i;
      mentioned = q.mentioned;
    }
  where
    nothing_more : (o : Option ℕ) → option_map (λ n. 0 + n) o ≡ o
    nothing_more None = refl
    nothing_more (Some n) = ap Some (omega arith)

-- the sum of OFFSET and LIMIT is enough
pub enough : (kept : Option ℕ) (o : ℕ) (limit : Option ℕ) → kept ≡ option_map (λ n. o + n) limit → IsEnough kept o limit
enough kept o limit e = subst (λ k. IsEnough k o limit) (sym e) (by limit)
  where
    by : (l : Option ℕ) → IsEnough (option_map (λ n. o + n) l) o l
    by None = tt
    by (Some n) = omega arith
