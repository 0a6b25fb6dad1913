-- A document and a query text have one result.
use Rattle.std.proofs.Common.{◌≡◌, ℕ, zero, suc, ◌+◌, List, [], ◌∷◌, ◌++◌, Result, Ok, Err, refl, sym, ap, ◌∙◌, subst}
use Rattle.std.specs.Prelude.{option_to_list}
use Rattle.std.specs.Str.{chars}
use Rattle.rdf_core.specs.QuadParts.{QuadParts}
use Rattle.nquads_core.specs.Laws.{OneMeaning}
use Rattle.nquads_core.specs.Lines.{lines}
use Rattle.nquads_core.specs.Pieces.{HaveStatements, IsFirstMalformed, IsBadLine}
use Rattle.sparql_tree.specs.QueryTree.{QueryTree}
use Rattle.sparql_read.specs.declared.fault.QueryFault.{QueryFault}
use Rattle.sparql_read.specs.declared.fault.QueryFault.TheVariants.{Syntax, UndefinedPrefix, RelativeIri, BindScope, BlankReuse, TooDeep, Memory}
use Rattle.sparql_read.specs.Rejection.{IsReadResult, Applies, IsValidQuery, IsRejectedBy}
use Rattle.sparql_algebra.specs.Names.{selected_names}
use Rattle.result_json.specs.Results.{json}
use Rattle.spq_core.specs.Listing.{counts_of, listing_of}
use Rattle.spq_core.specs.Outcome.{Failure, query, bad_line, rows}
use Rattle.spq_core.specs.Output.{select, check, terms, IsListing}
use Rattle.spq_core.specs.Laws.{OneOutcome, OneOutput}

-- ---- the text

-- as the law of sparql_read says it
abbrev pub OneResult : Type 0
OneResult = (text : List ℕ) (r s : Result QueryTree QueryFault) → IsReadResult text r → IsReadResult text s → (r ≡ Err Memory → ⊥) → (s ≡ Err Memory → ⊥) → r ≡ s

rejected : (text : List ℕ) (f : QueryFault) → IsRejectedBy text f → IsReadResult text (Err f)
rejected text Syntax h = h
rejected text UndefinedPrefix h = h
rejected text RelativeIri h = h
rejected text BindScope h = h
rejected text BlankReuse h = h
rejected text TooDeep h = h
rejected text Memory h = tt

same_fault : (f g : QueryFault) (r : Result QueryTree QueryFault) → r ≡ Err f → r ≡ Err g → f ≡ g
same_fault f g r d e = cc

not_memory : (text : List ℕ) (f : QueryFault) (r : Result QueryTree QueryFault) → r ≡ Err f → IsRejectedBy text f → r ≡ Err Memory → ⊥
not_memory text f r d h e = subst (λ (g : QueryFault). Applies g text) (same_fault f Memory r d e) h.applies

not_out_of_memory : (q : QueryTree) (x : Result QueryTree QueryFault) → x ≡ Ok q → x ≡ Err Memory → ⊥
not_out_of_memory q x d e = cc

one_rejection : OneResult → (text : List ℕ) (f g : QueryFault) → IsRejectedBy text f → IsRejectedBy text g → f ≡ g
one_rejection one text f g h k =
    same_fault f g (Err f) refl (one text (Err f) (Err g) (rejected text f h) (rejected text g k) (not_memory text f (Err f) refl h) (not_memory text g (Err g) refl k))

same_query : (q r : QueryTree) (x : Result QueryTree QueryFault) → x ≡ Ok q → x ≡ Ok r → q ≡ r
same_query q r x d e = cc

one_query : OneResult → (text : List ℕ) (q r : QueryTree) → IsValidQuery text q → IsValidQuery text r → q ≡ r
one_query one text q r h k = same_query q r (Ok q) refl (one text (Ok q) (Ok r) h k (not_out_of_memory q (Ok q) refl) (not_out_of_memory r (Ok r) refl))

valid_and_rejected : (text : List ℕ) (q : QueryTree) (f : QueryFault) → IsValidQuery text q → IsRejectedBy text f → ⊥
valid_and_rejected text q f h k = h.allowed f k.applies

-- ---- the document

same_statements : OneMeaning → (ls : List (List ℕ)) (D E : List QuadParts) → HaveStatements ls D → HaveStatements ls E → D ≡ E
same_statements one [] D E h k = h ∙ sym k
same_statements one (l ∷ ls) D E h k =
    h.3 ∙ (λ i. option_to_list (one l h.0 k.0 h.2 k.2 i) ++ same_statements one ls h.1 k.1 h.4 k.4 i) ∙ sym k.3

good_and_bad : (ls : List (List ℕ)) (D : List QuadParts) (k : ℕ) → HaveStatements ls D → IsFirstMalformed ls k → ⊥
good_and_bad [] D k h b = b
good_and_bad (l ∷ ls) D zero h b = b h.0 h.2
good_and_bad (l ∷ ls) D (suc k) h b = good_and_bad ls h.1 k h.4 b.1

one_bad_line : (ls : List (List ℕ)) (m n : ℕ) → IsFirstMalformed ls m → IsFirstMalformed ls n → m ≡ n
one_bad_line [] m n h k = absurd h
one_bad_line (l ∷ ls) zero zero h k = refl
one_bad_line (l ∷ ls) zero (suc n) h k = absurd (h k.0.0 k.0.1)
one_bad_line (l ∷ ls) (suc m) zero h k = absurd (k h.0.0 h.0.1)
one_bad_line (l ∷ ls) (suc m) (suc n) h k = ap (λ (x : ℕ). suc x) (one_bad_line ls m n h.1 k.1)

same_bad_line : (doc : List ℕ) (m n : ℕ) → IsBadLine (lines doc) m → IsBadLine (lines doc) n → m ≡ n
same_bad_line doc m n h k = h.2 ∙ (λ i. one_bad_line (lines doc) h.0 k.0 h.1 k.1 i + 1) ∙ sym k.2

-- ---- the result

pub one_outcome : OneResult → OneMeaning → OneOutcome
one_outcome answer meaning doc text (Ok a) (Ok b) h k =
    let q = one_query answer (chars text) h.query k.query h.read k.read in
    let d = same_statements meaning (lines doc) h.results.quads k.results.quads h.results.statements k.results.statements in
    ap (λ (x : List ℕ). Ok x) (h.results.printed ∙ (λ i. json (selected_names (q i)) (rows (q i) (d i))) ∙ sym k.results.printed)
one_outcome answer meaning doc text (Ok a) (Err (query f)) h k = absurd (valid_and_rejected (chars text) h.query f h.read k)
one_outcome answer meaning doc text (Ok a) (Err (bad_line n)) h k = absurd (good_and_bad (lines doc) h.results.quads k.1.0 h.results.statements k.1.1)
one_outcome answer meaning doc text (Err (query f)) (Ok b) h k = absurd (valid_and_rejected (chars text) k.query f k.read h)
one_outcome answer meaning doc text (Err (query f)) (Err (query g)) h k = ap (λ (x : QueryFault). Err (query x)) (one_rejection answer (chars text) f g h k)
one_outcome answer meaning doc text (Err (query f)) (Err (bad_line n)) h k = absurd (valid_and_rejected (chars text) k.0.0 f k.0.1 h)
one_outcome answer meaning doc text (Err (bad_line m)) (Ok b) h k = absurd (good_and_bad (lines doc) k.results.quads h.1.0 k.results.statements h.1.1)
one_outcome answer meaning doc text (Err (bad_line m)) (Err (query g)) h k = absurd (valid_and_rejected (chars text) h.0.0 g h.0.1 k)
one_outcome answer meaning doc text (Err (bad_line m)) (Err (bad_line n)) h k =
    ap (λ (x : ℕ). Err (bad_line x)) (same_bad_line doc m n h.1 k.1)

-- ---- the output of any command

one_listing : OneMeaning → (text_of : List QuadParts → List ℕ) (doc : List ℕ) (r s : Result (List ℕ) Failure)
    → IsListing text_of doc r → IsListing text_of doc s → r ≡ s
one_listing meaning text_of doc (Ok a) (Ok b) h k =
    let d = same_statements meaning (lines doc) h.quads k.quads h.statements k.statements in
    ap (λ (x : List ℕ). Ok x) (h.printed ∙ (λ i. text_of (d i)) ∙ sym k.printed)
one_listing meaning text_of doc (Ok a) (Err (query f)) h k = absurd k
one_listing meaning text_of doc (Ok a) (Err (bad_line n)) h k = absurd (good_and_bad (lines doc) h.quads k.0 h.statements k.1)
one_listing meaning text_of doc (Err (query f)) s h k = absurd h
one_listing meaning text_of doc (Err (bad_line m)) (Ok b) h k = absurd (good_and_bad (lines doc) k.quads h.0 k.statements h.1)
one_listing meaning text_of doc (Err (bad_line m)) (Err (query g)) h k = absurd k
one_listing meaning text_of doc (Err (bad_line m)) (Err (bad_line n)) h k = ap (λ (x : ℕ). Err (bad_line x)) (same_bad_line doc m n h k)

pub one_output : OneMeaning → OneOutcome → OneOutput
one_output meaning outcome (select text) doc r s h k = outcome doc text r s h k
one_output meaning outcome check doc r s h k = one_listing meaning counts_of doc r s h k
one_output meaning outcome terms doc r s h k = one_listing meaning listing_of doc r s h k
