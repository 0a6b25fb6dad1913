-- Pieces that are added.
use Rattle.std.proofs.Common.{◌≡◌, ◌⊎◌, inl, inr, ℕ, zero, suc, ◌+◌, ◌-◌, ◌<◌, ◌≤◌, Bool, true, false, cond, if◌then◌else◌, List, [], ◌∷◌, ◌++◌, length, map, take, drop, get_or, filter, Option, None, Some, option_to_list, Result, Ok, Err, IfOk, slice_get, refl, sym, ap, ◌∙◌, subst, arith, append_assoc}
use borrow.Author.Tests.{lt-ltb, le-ltb}
use Rattle.std.specs.List.{All, list_any, slice_range}
use Rattle.std.proofs.lemmas.List.{append-nil, take_more}
use Rattle.std.proofs.lemmas.List.Edits.{between_more}
use Rattle.std.proofs.lemmas.List.Concat.{flat_map-append}
use Rattle.std.proofs.lemmas.List.Elements.{All-nil, All-cons, All-head, All-tail, All-append}
use Rattle.std.proofs.lemmas.Option.{slice_get_within, get_or_from_slice_get}
use Rattle.indexmap.specs.IndexSet.{insert_key, insert_all}
use Rattle.rdf_core.specs.declared.term.Term.{Term}
use Rattle.rdf_core.specs.QuadParts.{QuadParts}
use Rattle.rdf_core.specs.Serialization.{serialization}
use Rattle.rdf_core.proofs.TermLaws.{term_eq}
use Rattle.nquads_core.specs.Grammar.{HasStatement}
use Rattle.nquads_core.specs.Lines.{lines}
use Rattle.nquads_core.specs.Splitting.{AreStatements}
use Rattle.nquads_core.specs.declared.slices.RawStatement.{RawStatement}
use Rattle.nquads_core.specs.Laws.{IsNQuadsTerm, Occurs}
use Rattle.nquads_core.specs.Pieces.{HaveStatements}
use Rattle.nquads_core.proofs.Forms.{forms_are_distinct}
use Rattle.text_dict.specs.Forms.{AreForms}
use Rattle.text_dict.specs.TextDict.{IsAdded}
use Rattle.dict_core.specs.declared.num_quad.NumQuad.{NumQuad}
use Rattle.dict_core.specs.Dict.{term_at, AreNumbersOf}
use Rattle.dict_core.specs.NumQuad.{quads_at, AreBelow}
use Rattle.dict_core.specs.Appearances.{differs_from, terms_of, terms_of_quad, first_appearances}
use Rattle.dict_core.specs.Numbered.{IsNumbered}
use Rattle.dict_core.proofs.InsertLaws.{Keeps, any-from_get, get-insert_all, get-insert_key, grown, insert_all-append, insert_all-insert_all, insert_key-present}
use Rattle.dict_core.proofs.AppearanceLaws.{appearances, insert_all-appearances}
use Rattle.dict_core.proofs.MergingSteps.{zipped-push}
use Rattle.dict_core.proofs.NumberingLaws.{get-below, numbered-append, quads-mapped}
use Rattle.quad_filter.specs.declared.filter.QuadFilter.{QuadFilter}
use Rattle.quad_filter.specs.Filter.{keeps}
use Rattle.quad_filter.proofs.KeptLaws.{list_is_kept}
use Rattle.text_pieces.specs.declared.text_piece.TextPiece.{TextPiece}
use Rattle.text_pieces.specs.Forms.{AreFormsOf, AreNumberedBy}
use Rattle.text_pieces.specs.Pieces.{AreAdded, AreGrown, IsNumberedFrom, IsPieceOf, IsRead, renumbered, renumbered_quad}
use Rattle.text_pieces.specs.Slices.{AreNumbersOfAll, AreQuadsOf, AreTermNumbers, IsNumberedPiece, IsPlaced}
use Rattle.text_pieces.specs.Relevance.{AreRelevant}
use Rattle.text_pieces.proofs.FormLaws.{inserted_form, length_forms, number_of_term, terms_of_forms}

-- ---- lists of texts that grow

pub grown_same : (texts : List (List ℕ)) → AreGrown texts texts
grown_same texts = ([], sym (append-nil texts))

pub grown_more : (earlier later last : List (List ℕ)) (text : List ℕ) → AreGrown earlier later → IsAdded later text last → AreGrown earlier last
grown_more earlier later last text h (inl x) = (h.0, x.1 ∙ h.1)
grown_more earlier later last text h (inr x) = (h.0 ++ text ∷ [], x.1 ∙ ap (λ l. l ++ text ∷ []) h.1 ∙ append_assoc earlier h.0 (text ∷ []))

-- ---- parts of forms

pub record AreParts (us vs : List (List ℕ)) (terms : List Term) : Type 0 where
  pub front : List Term
  pub back : List Term
  pub parts : terms ≡ front ++ back
  pub front_forms : AreFormsOf front us
  pub back_forms : AreFormsOf back vs

pub split_forms : (us vs : List (List ℕ)) (terms : List Term) → AreFormsOf terms (us ++ vs) → AreParts us vs terms
split_forms [] vs terms h = record {
  front = [];
  back = terms;
  parts = refl;
  front_forms = record { forms = refl; occur = All-nil IsNQuadsTerm };
  back_forms = h;
}
split_forms (u ∷ us) vs [] h = let e = ap length h.forms in absurd (omega (arith, e))
split_forms (u ∷ us) vs (t ∷ terms) h =
    let e : u ∷ (us ++ vs) ≡ serialization t ∷ map serialization terms = h.forms in
    let head : u ≡ serialization t = cc in
    let rest : us ++ vs ≡ map serialization terms = cc in
    let r = split_forms us vs terms (record { forms = rest; occur = All-tail IsNQuadsTerm t terms h.occur }) in record {
      front = t ∷ r.front;
      back = r.back;
      parts = ap (λ l. t ∷ l) r.parts;
      front_forms = record {
        forms = λ i. head i ∷ r.front_forms.forms i;
        occur = All-cons IsNQuadsTerm t r.front (All-head IsNQuadsTerm t terms h.occur) r.front_forms.occur;
      };
      back_forms = r.back_forms;
    }

-- texts are the forms of one list of terms
pub forms_unique : (texts : List (List ℕ)) (xs ys : List Term) → AreFormsOf xs texts → AreFormsOf ys texts → xs ≡ ys
forms_unique texts [] [] h k = refl
forms_unique texts [] (y ∷ ys) h k = let e = ap length (sym h.forms ∙ k.forms) in absurd (omega (arith, e))
forms_unique texts (x ∷ xs) [] h k = let e = ap length (sym h.forms ∙ k.forms) in absurd (omega (arith, e))
forms_unique texts (x ∷ xs) (y ∷ ys) h k =
    let e : serialization x ∷ map serialization xs ≡ serialization y ∷ map serialization ys = sym h.forms ∙ k.forms in
    let head : serialization x ≡ serialization y = cc in
    let rest : map serialization xs ≡ map serialization ys = cc in
    let same = forms_are_distinct x y (All-head IsNQuadsTerm x xs h.occur) (All-head IsNQuadsTerm y ys k.occur) head in
    let same_rest = forms_unique (map serialization xs) xs ys
    (record { forms = refl; occur = All-tail IsNQuadsTerm x xs h.occur }) (record { forms = rest; occur = All-tail IsNQuadsTerm y ys k.occur }) in
    λ i. same i ∷ same_rest i

-- ---- texts that are added

numbers_kept : (earlier later : List Term) → Keeps earlier later → (terms : List Term) (numbers : List ℕ) → AreNumbersOf earlier terms numbers → AreNumbersOf later terms numbers
numbers_kept earlier later keeps [] [] h = tt
numbers_kept earlier later keeps [] (n ∷ numbers) h = absurd h
numbers_kept earlier later keeps (t ∷ terms) [] h = absurd h
numbers_kept earlier later keeps (t ∷ terms) (n ∷ numbers) h = (keeps n t h.0, numbers_kept earlier later keeps terms numbers h.1)

pub added_none : (texts : List (List ℕ)) (new : List (List ℕ)) → AreAdded texts (take 0 new) texts []
added_none texts new old [] forms none = (forms, tt)
added_none texts new old (t ∷ terms) forms some = let e = ap length some.forms in absurd (omega (arith, e))

pub added_more : (earlier new later last : List (List ℕ)) (n m : ℕ) (text : List ℕ) (numbers more : List ℕ) → AreAdded earlier (take n new) later numbers
    → slice_get new n ≡ Some text → IsAdded later text last → slice_get last m ≡ Some text → more ≡ numbers ++ m ∷ []
    → AreAdded earlier (take (n + 1) new) last more
added_more earlier new later last n m text numbers more was at added placed pushed old terms forms new_forms =
    let low = slice_get_within new n text at in
    let is : get_or new n [] ≡ text = get_or_from_slice_get new n text [] at in
    let next : take (n + 1) new ≡ take n new ++ text ∷ [] = take_more new n [] low ∙ ap (λ t. take n new ++ t ∷ []) is in
    let r = split_forms (take n new) (text ∷ []) terms (subst (AreFormsOf terms) next new_forms) in
    by r r.back refl
  where
    by : (r : AreParts (take n new) (text ∷ []) terms) (back : List Term) → r.back ≡ back
        → AreFormsOf (insert_all term_eq old terms) last × AreNumbersOf (insert_all term_eq old terms) terms more
    by r [] e = let k = ap length r.back_forms.forms ∙ ap (λ l. length (map serialization l)) e in absurd (omega (arith, k))
    by r (t ∷ u ∷ back) e = let k = ap length r.back_forms.forms ∙ ap (λ l. length (map serialization l)) e in absurd (omega (arith, k))
    by r (t ∷ []) e =
        let parts : terms ≡ r.front ++ t ∷ [] = r.parts ∙ ap (λ l. r.front ++ l) e in
        let back : AreFormsOf (t ∷ []) (text ∷ []) = subst (λ l. AreFormsOf l (text ∷ [])) e r.back_forms in
        let cells : text ∷ [] ≡ serialization t ∷ [] = back.forms in
        let form : text ≡ serialization t = cc in
        let occurs = All-head IsNQuadsTerm t [] back.occur in
        let before = was old r.front forms r.front_forms in
        let all = insert_key term_eq (insert_all term_eq old r.front) t in
        let all_forms : AreFormsOf all last = inserted_form (insert_all term_eq old r.front) later last t text before.0 occurs form added in
        let same : insert_all term_eq old terms ≡ all = ap (insert_all term_eq old) parts ∙ insert_all-append old r.front (t ∷ []) in
        let kept = numbers_kept (insert_all term_eq old r.front) all (get-insert_key (insert_all term_eq old r.front) t) r.front numbers before.1 in
        let pairs : AreNumbersOf all (r.front ++ t ∷ []) (numbers ++ m ∷ []) =
        zipped-push (λ u k. slice_get all k ≡ Some u) r.front numbers t m kept (number_of_term all last all_forms m t text occurs form placed) in (
          subst (λ l. AreFormsOf l last) (sym same) all_forms,
          subst (λ l. AreNumbersOf l terms more) (sym same) (subst (AreNumbersOf all terms) (sym pushed) (subst (λ l. AreNumbersOf all l (numbers ++ m ∷ [])) (sym parts) pairs)),
        )

-- ---- other numbers

pub named : (dict own : List Term) (numbers : List ℕ) → AreNumbersOf dict own numbers → (n : ℕ) (t : Term) → slice_get own n ≡ Some t → slice_get dict (get_or numbers n 0) ≡ Some t
named dict [] numbers h n t at = let w = slice_get_within [] n t at in absurd (omega (arith, w))
named dict (u ∷ own) [] h n t at = absurd h
named dict (u ∷ own) (m ∷ numbers) h zero t at = h.0 ∙ at
named dict (u ∷ own) (m ∷ numbers) h (suc n) t at = named dict own numbers h.1 n t at

get-split : (E W : List Term) (n : ℕ) (t : Term) → slice_get (E ++ W) n ≡ Some t → ((n < length E) × (slice_get E n ≡ Some t)) ⊎ ((length E ≤ n) × (slice_get W (n - length E) ≡ Some t))
get-split [] W n t at = let e : n ≡ n - 0 = omega arith in inr (omega arith, subst (λ k. slice_get W k ≡ Some t) e at)
get-split (e ∷ E) W zero t at = inl (omega arith, at)
get-split (e ∷ E) W (suc n) t at = by (get-split E W n t at)
  where
    by : ((n < length E) × (slice_get E n ≡ Some t)) ⊎ ((length E ≤ n) × (slice_get W (n - length E) ≡ Some t))
        → ((suc n < suc (length E)) × (slice_get E n ≡ Some t)) ⊎ ((suc (length E) ≤ suc n) × (slice_get W (suc n - suc (length E)) ≡ Some t))
    by (inl x) = inl (omega (arith, x.0), x.1)
    by (inr x) = let e : n - length E ≡ suc n - suc (length E) = omega arith in inr (omega (arith, x.0), subst (λ k. slice_get W k ≡ Some t) e x.1)

renumbered_keeps : (E W all : List Term) (base : ℕ) (numbers : List ℕ) → base ≡ length E → Keeps E all → AreNumbersOf all W numbers
    → (n : ℕ) → n < length (E ++ W) → slice_get all (renumbered base numbers n) ≡ Some (term_at (E ++ W) n)
renumbered_keeps E W all base numbers base_is keeps named_by n low = by (get-split E W n t (get-below (E ++ W) n low))
  where
    t : Term
    t = term_at (E ++ W) n

    by : ((n < length E) × (slice_get E n ≡ Some t)) ⊎ ((length E ≤ n) × (slice_get W (n - length E) ≡ Some t)) → slice_get all (renumbered base numbers n) ≡ Some t
    by (inl x) =
        let e : renumbered base numbers n ≡ n = ap (λ b. if b then n else get_or numbers (n - base) 0) (lt-ltb n base (omega (arith, x.0, base_is))) in
        ap (slice_get all) e ∙ keeps n t x.1
    by (inr x) =
        let e : renumbered base numbers n ≡ get_or numbers (n - length E) 0 =
        ap (λ b. if b then n else get_or numbers (n - base) 0) (le-ltb n base (omega (arith, x.0, base_is))) ∙ ap (λ k. get_or numbers (n - k) 0) base_is in
        ap (slice_get all) e ∙ named all W numbers named_by (n - length E) t x.1

-- ---- a piece that is added

insert_present : (ks es : List Term) → ((n : ℕ) (t : Term) → slice_get es n ≡ Some t → list_any (term_eq t) ks ≡ true) → insert_all term_eq ks es ≡ ks
insert_present ks [] h = refl
insert_present ks (e ∷ es) h =
    ap (λ l. insert_all term_eq l es) (insert_key-present ks e (h 0 e refl)) ∙ insert_present ks es (λ n t at. h (suc n) t at)

pub get-front : (E R : List Term) → Keeps E (E ++ R)
get-front [] R n t at = let w = slice_get_within [] n t at in absurd (omega (arith, w))
get-front (e ∷ E) R zero t at = at
get-front (e ∷ E) R (suc n) t at = get-front E R n t at

insert_own : (E R : List Term) → insert_all term_eq (E ++ R) E ≡ E ++ R
insert_own E R = insert_present (E ++ R) E (λ n t at. any-from_get (E ++ R) n t (get-front E R n t at))

insert_rest : (E R W ts : List Term) → E ++ W ≡ insert_all term_eq E ts → insert_all term_eq (E ++ R) W ≡ insert_all term_eq (E ++ R) ts
insert_rest E R W ts all =
    let L = E ++ R in
    ap (λ l. insert_all term_eq l W) (sym (insert_own E R)) ∙ sym (insert_all-append L E W) ∙ ap (insert_all term_eq L) all
    ∙ insert_all-insert_all L E ts ∙ ap (λ l. insert_all term_eq l ts) (insert_own E R)

pub piece_added : (earlier old last : List (List ℕ)) (done quads : List QuadParts) (piece : TextPiece) (numbers : List ℕ) (all new : List NumQuad)
    → AreGrown earlier old → IsPieceOf earlier quads piece → AreNumberedBy done old all → AreAdded old piece.new.texts last numbers
    → new ≡ all ++ map (renumbered_quad piece.base numbers) piece.quads.items → AreNumberedBy (done ++ quads) last new
piece_added earlier old last done quads piece numbers all new since read h added appended =
    let ts = terms_of quads in
    let l = split_forms earlier since.0 h.terms (subst (AreFormsOf h.terms) since.1 h.forms) in
    let E = l.front in
    let r = read.numbered E l.front_forms in
    let T = r.0 in
    let w = split_forms earlier piece.new.texts T r.1 in
    let W = w.back in
    let whole : T ≡ E ++ W = w.parts ∙ ap (λ x. x ++ W) (forms_unique earlier w.front E w.front_forms l.front_forms) in
    let a = added h.terms W h.forms w.back_forms in
    let M = insert_all term_eq h.terms W in
    let keeps : Keeps h.terms M = get-insert_all h.terms W in
    let front : Keeps E M = λ n t at. keeps n t (subst (λ x. slice_get x n ≡ Some t) (sym l.parts) (get-front E l.back n t at)) in
    let base : piece.base ≡ length E = read.base ∙ length_forms E earlier l.front_forms in
    let kept = renumbered_keeps E W M piece.base numbers base front a.1 in
    let moved = quads-mapped (E ++ W) M (renumbered piece.base numbers) kept piece.quads.items (subst (λ x. AreBelow (length x) piece.quads.items) whole r.2.below) in
    let terms : M ≡ first_appearances (terms_of (done ++ quads)) =
    ap (λ x. insert_all term_eq x W) l.parts ∙ insert_rest E l.back W ts (sym whole ∙ r.2.terms) ∙ ap (λ x. insert_all term_eq x ts) (sym l.parts)
    ∙ ap (λ x. insert_all term_eq x ts) h.numbered.0 ∙ insert_all-appearances (terms_of done) ts ∙ ap first_appearances (sym (flat_map-append terms_of_quad done quads)) in record {
      terms = M;
      forms = a.0;
      numbered = subst (IsNumbered (done ++ quads) M) (sym appended)
          (numbered-append done quads h.terms M all (map (renumbered_quad piece.base numbers) piece.quads.items) h.numbered keeps terms moved.0
          (moved.1 ∙ sym (ap (λ x. quads_at x piece.quads.items) whole) ∙ r.2.reads));
    }

-- ---- a piece that was read quad by quad

occur_quad : (line : List ℕ) (q : QuadParts) → HasStatement line (Some q) → All IsNQuadsTerm (terms_of_quad q)
occur_quad line q h =
    let one : (t : Term) → Occurs t q → IsNQuadsTerm t = λ t o. (line, q, h, o) in
    All-cons IsNQuadsTerm q.s (q.p ∷ q.o ∷ option_to_list q.g) (one q.s (inl refl))
    (All-cons IsNQuadsTerm q.p (q.o ∷ option_to_list q.g) (one q.p (inr (inl refl)))
    (All-cons IsNQuadsTerm q.o (option_to_list q.g) (one q.o (inr (inr (inl refl)))) (name q.g refl one)))
  where
    name : (g : Option Term) → q.g ≡ g → ((t : Term) → Occurs t q → IsNQuadsTerm t) → All IsNQuadsTerm (option_to_list g)
    name None e one = All-nil IsNQuadsTerm
    name (Some t) e one = All-cons IsNQuadsTerm t [] (one t (inr (inr (inr e)))) (All-nil IsNQuadsTerm)

pub occur_all : (lines : List (List ℕ)) (quads : List QuadParts) → HaveStatements lines quads → All IsNQuadsTerm (terms_of quads)
occur_all [] quads h = subst (λ l. All IsNQuadsTerm (terms_of l)) (sym h) (All-nil IsNQuadsTerm)
occur_all (line ∷ lines) quads h = subst (λ l. All IsNQuadsTerm (terms_of l)) (sym h.3) (by h.0 h.2 (occur_all lines h.1 h.4))
  where
    by : (q : Option QuadParts) → HasStatement line q → All IsNQuadsTerm (terms_of h.1) → All IsNQuadsTerm (terms_of (option_to_list q ++ h.1))
    by None s rest = rest
    by (Some q) s rest = All-append IsNQuadsTerm (terms_of_quad q) (terms_of h.1) (occur_quad line q s) rest

all_filter : (p : Term → Bool) (ts : List Term) → All IsNQuadsTerm ts → All IsNQuadsTerm (filter p ts)
all_filter p [] h = All-nil IsNQuadsTerm
all_filter p (t ∷ ts) h = by (p t) (all_filter p ts (All-tail IsNQuadsTerm t ts h))
  where
    by : (b : Bool) → All IsNQuadsTerm (filter p ts) → All IsNQuadsTerm (cond b (t ∷ filter p ts) (filter p ts))
    by true rest = All-cons IsNQuadsTerm t (filter p ts) (All-head IsNQuadsTerm t ts h) rest
    by false rest = rest

pub occur_first : (ts : List Term) → All IsNQuadsTerm ts → All IsNQuadsTerm (first_appearances ts)
occur_first [] h = h
occur_first (t ∷ ts) h =
    All-cons IsNQuadsTerm t (filter (differs_from t) (first_appearances ts)) (All-head IsNQuadsTerm t ts h)
    (all_filter (differs_from t) (first_appearances ts) (occur_first ts (All-tail IsNQuadsTerm t ts h)))

pub quads_of_terms : (dict new : List (List ℕ)) (quads : List QuadParts) (numbers : List ℕ) (mine numbered : List NumQuad)
    → AreTermNumbers dict new (first_appearances (terms_of quads)) numbers → IsNumbered quads (first_appearances (terms_of quads)) mine
    → numbered ≡ map (renumbered_quad 0 numbers) mine → AreQuadsOf dict new quads numbered
quads_of_terms dict new quads numbers mine numbered h k is earlier forms =
    let ts = terms_of quads in
    let own = first_appearances ts in
    let r = h earlier forms in
    let moved = quads-mapped own r.0 (renumbered 0 numbers) (renumbered_keeps [] own r.0 0 numbers refl (λ n t at. let w = slice_get_within [] n t at in absurd (omega (arith, w))) r.3) mine k.1 in (
      r.0,
      r.1,
      record {
        terms = r.2 ∙ ap (insert_all term_eq earlier) (appearances ts) ∙ insert_all-insert_all earlier [] ts;
        below = subst (AreBelow (length r.0)) (sym is) moved.0;
        reads = ap (quads_at r.0) is ∙ moved.1 ∙ k.2;
      },
    )

pub term_numbers_none : (dict new : List (List ℕ)) (terms : List Term) → new ≡ [] → AreTermNumbers dict new (take 0 terms) []
term_numbers_none dict new terms none earlier forms =
    (earlier, subst (AreFormsOf earlier) (sym (ap (λ l. dict ++ l) none ∙ append-nil dict)) forms, refl, tt)

pub term_numbers_more : (dict old new : List (List ℕ)) (terms : List Term) (n m : ℕ) (t : Term) (text : List ℕ) (numbers more : List ℕ)
    → AreTermNumbers dict old (take n terms) numbers → slice_get terms n ≡ Some t → IsNQuadsTerm t → text ≡ serialization t → IsPlaced dict old new text m
    → more ≡ numbers ++ m ∷ [] → AreTermNumbers dict new (take (n + 1) terms) more
term_numbers_more dict old new terms n m t text numbers more was at occurs form placed pushed earlier forms =
    let low = slice_get_within terms n t at in
    let is : get_or terms n t ≡ t = get_or_from_slice_get terms n t t at in
    let next : take (n + 1) terms ≡ take n terms ++ t ∷ [] = take_more terms n t low ∙ ap (λ u. take n terms ++ u ∷ []) is in
    let r = was earlier forms in
    let all = insert_key term_eq r.0 t in
    let all_forms : AreFormsOf all (dict ++ new) = inserted_form r.0 (dict ++ old) (dict ++ new) t text r.1 occurs form placed.added in
    let kept = numbers_kept r.0 all (get-insert_key r.0 t) (take n terms) numbers r.3 in
    let pairs : AreNumbersOf all (take n terms ++ t ∷ []) (numbers ++ m ∷ []) =
    zipped-push (λ u k. slice_get all k ≡ Some u) (take n terms) numbers t m kept (number_of_term all (dict ++ new) all_forms m t text occurs form placed.at) in (
      all,
      all_forms,
      ap (λ l. insert_key term_eq l t) r.2 ∙ sym (insert_all-append earlier (take n terms) (t ∷ [])) ∙ ap (insert_all term_eq earlier) (sym next),
      subst (AreNumbersOf all (take (n + 1) terms)) (sym pushed) (subst (λ l. AreNumbersOf all l (numbers ++ m ∷ [])) (sym next) pairs),
    )

pub occur_at : (terms : List Term) (n : ℕ) (t : Term) → All IsNQuadsTerm terms → slice_get terms n ≡ Some t → IsNQuadsTerm t
occur_at [] n t h at = let w = slice_get_within [] n t at in absurd (omega (arith, w))
occur_at (u ∷ terms) zero t h at = let e : u ≡ t = cc in subst IsNQuadsTerm e (All-head IsNQuadsTerm u terms h)
occur_at (u ∷ terms) (suc n) t h at = occur_at terms n t (All-tail IsNQuadsTerm u terms h) at

-- ---- terms of texts

pub range_none : (terms : List Term) (from : ℕ) → slice_range terms from from ≡ []
range_none terms from = let e : from - from ≡ 0 = omega arith in ap (λ n. take n (drop from terms)) e

pub range_more : (terms dict grown : List Term) (from n : ℕ) (t : Term) → dict ≡ first_appearances (slice_range terms from n) → from ≤ n → slice_get terms n ≡ Some t
    → grown ≡ insert_key term_eq dict t → grown ≡ first_appearances (slice_range terms from (n + 1))
range_more terms dict grown from n t was rising at grown_is =
    let low = slice_get_within terms n t at in
    let is : get_or terms n t ≡ t = get_or_from_slice_get terms n t t at in
    let next : slice_range terms from (n + 1) ≡ slice_range terms from n ++ t ∷ [] = between_more terms from n t rising low ∙ ap (λ u. slice_range terms from n ++ u ∷ []) is in
    grown_is ∙ ap (λ l. insert_key term_eq l t) was ∙ insert_all-appearances (slice_range terms from n) (t ∷ []) ∙ ap first_appearances (sym next)

-- ---- a piece that was read

-- a piece with the numbers of statements
pub numbered_statements : (dict : List (List ℕ)) (kept : List RawStatement) (piece : TextPiece) → AreForms dict → AreNumbersOfAll dict piece.new.texts kept piece.quads.items
    → piece.base ≡ length dict → IsNumberedPiece dict kept piece
numbered_statements dict kept piece forms numbers base =
    let t = terms_of_forms dict forms in
    let r = numbers t.0 t.1 in record {
      quads = r.2.quads;
      denote = r.2.denote;
      numbered = record {
        base = base;
        numbered = λ terms h.
            subst (λ (l : List Term). (all : List Term) × AreFormsOf all (dict ++ piece.new.texts) × IsNumberedFrom l r.2.quads all piece.quads.items) (forms_unique dict t.0 terms t.1 h)
            (r.0, r.1, r.2.numbered);
      };
    }

-- the statements of a piece, of which some are kept
pub read_by_slices : {E : Type 0} (filter : QuadFilter) (dict : List (List ℕ)) (bytes : List ℕ) (raws kept : List RawStatement) (count : ℕ) (r : Result TextPiece E)
    → AreStatements (lines bytes) raws → AreRelevant filter raws kept → count ≡ length (lines bytes) → IfOk r (IsNumberedPiece dict kept) → IfOk r (λ piece. piece.lines ≡ count)
    → IfOk r (IsRead filter dict bytes)
read_by_slices filter dict bytes raws kept count (Ok piece) statements relevant count_is numbered lines_are =
    let a = relevant numbered.quads numbered.denote in
    record { all = a.0; statements = statements a.0 a.1; quads = numbered.quads; kept = a.2; numbered = numbered.numbered; count = lines_are ∙ count_is }
read_by_slices filter dict bytes raws kept count (Err fault) statements relevant count_is numbered lines_are = tt

-- all statements may be kept
pub relevant_all : (filter : QuadFilter) (raws : List RawStatement) → AreRelevant filter raws raws
relevant_all filter raws quads denote = (quads, denote, list_is_kept (keeps filter) quads)

-- the quads of a piece, of which none is left out
pub read_by_quads : (filter : QuadFilter) (dict : List (List ℕ)) (bytes : List ℕ) (quads : List QuadParts) (piece : TextPiece) → HaveStatements (lines bytes) quads
    → piece.lines ≡ length (lines bytes) → AreQuadsOf dict piece.new.texts quads piece.quads.items → piece.base ≡ length dict → IsRead filter dict bytes piece
read_by_quads filter dict bytes quads piece statements counted numbers base = record {
  all = quads;
  statements = statements;
  quads = quads;
  kept = list_is_kept (keeps filter) quads;
  numbered = record { base = base; numbered = numbers };
  count = counted;
}
