-- A text has at most one result, apart from Memory.
use Rattle.std.proofs.Common.{◌≡◌, ◌<◌, inl, inr, ℕ, List, [], nat_eq, cond, Result, Ok, Err, refl, sym, ap, ◌∙◌, subst, arith}
use Rattle.std.proofs.lemmas.Bool.{cases_lt}
use Rattle.sparql_tree.specs.QueryTree.{QueryTree}
use Rattle.sparql_grammar.specs.Symbol as the
use Rattle.sparql_grammar.specs.Productions.{right_side}
use Rattle.sparql_grammar.specs.Derivation.{Derivation}
use Rattle.sparql_read.specs.declared.fault.QueryFault.{QueryFault}
use Rattle.sparql_read.specs.declared.fault.QueryFault.TheVariants.{Syntax, UndefinedPrefix, RelativeIri, BindScope, BlankReuse, TooDeep, Memory}
use Rattle.sparql_grammar.specs.Prologue.{declarations}
use Rattle.sparql_grammar.specs.Derives.{Derives, tree_of}
use Rattle.sparql_read.specs.Rejection.{IsReadResult, IsRejectedBy, rank}
use Rattle.sparql_read.proofs.RejectionLaws.{OneScan, OneQuery}

pub one_tree : OneScan → OneQuery → (text : List ℕ) (q r : QueryTree) → Derives text q → Derives text r → q ≡ r
one_tree one only text q r d e =
    let t = (one text [] [] d.terminals e.terminals d.scans e.scans).0 in
    let m = only (declarations e.terminals) e.terminals d.select e.select (subst (λ us. Derivation (declarations us) the.query (right_side the.query) us d.select []) t d.derived) e.derived in
    d.tree ∙ (ap (λ us. tree_of d.select us) t ∙ (ap (λ s. tree_of s e.terminals) m ∙ sym e.tree))

abbrev by_rank : ℕ → QueryFault
by_rank n = cond (nat_eq n 0) TooDeep (cond (nat_eq n 1) Syntax (cond (nat_eq n 2) UndefinedPrefix (cond (nat_eq n 3) RelativeIri (cond (nat_eq n 4) BindScope (cond (nat_eq n 5) BlankReuse Memory)))))

by_its_rank : (e : QueryFault) → by_rank (rank e) ≡ e
by_its_rank TooDeep = refl
by_its_rank Syntax = refl
by_its_rank UndefinedPrefix = refl
by_its_rank RelativeIri = refl
by_its_rank BindScope = refl
by_its_rank BlankReuse = refl
by_its_rank Memory = refl

same_place : (m n : ℕ) → (m < n → ⊥) → (n < m → ⊥) → m ≡ n
same_place m n a b =
    elim (cases_lt m n) [ inl l ↦ absurd (a l) | inr h ↦ elim (cases_lt n m) [ inl l ↦ absurd (b l) | inr k ↦ omega (arith, h, k) ] ]

one_rejection : (text : List ℕ) (e f : QueryFault) → IsRejectedBy text e → IsRejectedBy text f → e ≡ f
one_rejection text e f h k =
    let same = same_place (rank e) (rank f) (λ l. k.first e l h.applies) (λ l. h.first f l k.applies) in
    sym (by_its_rank e) ∙ (ap by_rank same ∙ by_its_rank f)

rejected_by : (text : List ℕ) (e : QueryFault) → (e ≡ Memory → ⊥) → IsReadResult text (Err e) → IsRejectedBy text e
rejected_by text TooDeep n h = h
rejected_by text Syntax n h = h
rejected_by text UndefinedPrefix n h = h
rejected_by text RelativeIri n h = h
rejected_by text BindScope n h = h
rejected_by text BlankReuse n h = h
rejected_by text Memory n h = absurd (n refl)

pub one_result : OneScan → OneQuery → (text : List ℕ) (r s : Result QueryTree QueryFault) → IsReadResult text r → IsReadResult text s
    → (r ≡ Err Memory → ⊥) → (s ≡ Err Memory → ⊥) → r ≡ s
one_result one only text (Ok q) (Ok r) h k m n = ap Ok (one_tree one only text q r h.derives k.derives)
one_result one only text (Ok q) (Err f) h k m n = absurd (h.allowed f (rejected_by text f (λ e. n (ap Err e)) k).applies)
one_result one only text (Err e) (Ok r) h k m n = absurd (k.allowed e (rejected_by text e (λ x. m (ap Err x)) h).applies)
one_result one only text (Err e) (Err f) h k m n = ap Err (one_rejection text e f (rejected_by text e (λ x. m (ap Err x)) h) (rejected_by text f (λ x. n (ap Err x)) k))
