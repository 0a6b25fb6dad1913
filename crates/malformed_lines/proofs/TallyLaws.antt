-- How many lines have each reason, and which is the first of them.
use Rattle.std.specs.Prelude.{Bool, true, false, if◌then◌else◌}
use Rattle.std.proofs.Common.{◌≡◌, ◌≢◌, ℕ, ◌+◌, ◌<◌, ◌^◌, List, [], ◌∷◌, ◌++◌, length, map, take, get_or, set, refl, sym, ap, subst, ◌∙◌, append_assoc, length-append, arith, inl, inr}
use Rattle.std.specs.List.{All, sum_by}
use Rattle.std.proofs.lemmas.Bool.{cases_lt}
use Rattle.std.proofs.lemmas.List.{get_or_append_left, get_or_push, get_or-map, length-map, map-append, map-set, map_push, set-get_or, take_more}
use Rattle.std.proofs.lemmas.List.Elements.{All-append, All-map, All-nil, All-push, All-set, All-weaker}
use Rattle.std.proofs.lemmas.List.Sums.{sum_by-append, sum_by-cons, sum_by-set, sum_by_more}
use Rattle.line_diagnosis.specs.declared.summary.Summary.{Summary}
use Rattle.malformed_lines.specs.Counts.{AreDifferent, AreDistinct, HasNone, IsFirst, IsTally, NamesLineFrom, moved, reasons_of, sum_of}
use Rattle.malformed_lines.specs.Malformed.{AreSingles}
use Rattle.malformed_lines.specs.declared.reason_counts.ReasonCount.{ReasonCount}
use Rattle.malformed_lines.proofs.CountLaws.{named_moved, named_still}

-- ---- the reasons

-- a count that grows keeps its reason
reasons_kept : (counts : List ReasonCount) (i : ℕ) (r y : ReasonCount) → i < length counts → r ≡ get_or counts i r → y.reason ≡ r.reason → reasons_of (set counts i y) ≡ reasons_of counts
reasons_kept counts i r y l e s =
    let f = λ (c : ReasonCount). c.reason in
    let at : y.reason ≡ get_or (map f counts) i r.reason = s ∙ ap f e ∙ sym (get_or-map f counts i r r.reason l) in
    map-set f counts i y ∙ ap (λ (x : Summary). set (map f counts) i x) at ∙ set-get_or (map f counts) i r.reason

-- the reason of the count at a place
pub reason_at : (counts : List ReasonCount) (i : ℕ) (r : ReasonCount) (q : Summary) → i < length counts → r ≡ get_or counts i r
    → ((d : Summary) → get_or (reasons_of counts) i d ≡ q) → r.reason ≡ q
reason_at counts i r q l e h =
    let f = λ (c : ReasonCount). c.reason in
    ap f e ∙ sym (get_or-map f counts i r r.reason l) ∙ h r.reason

-- one more count is not of a reason
pub none_at : (counts : List ReasonCount) (i k : ℕ) (r : ReasonCount) (d q : Summary) → i < length counts → k < i + 1 → r ≡ get_or counts i r → r.reason ≢ q
    → ((k : ℕ) (d : Summary) → k < i → get_or (reasons_of counts) k d ≢ q) → get_or (reasons_of counts) k d ≢ q
none_at counts i k r d q l m e n h s =
    let f = λ (c : ReasonCount). c.reason in
    elim (cases_lt k i) as (λ _. ⊥) [
      | inl a ↦ h k d a s
      | inr a ↦
          let same : k ≡ i = omega (arith, m, a) in
          n (ap f e ∙ sym (get_or-map f counts i r d l) ∙ subst (λ (x : ℕ). get_or (reasons_of counts) x d ≡ q) same s)
    ]

both : (P : Summary → Type 0) (xs : List Summary) (x : Summary) → All P (xs ++ x ∷ []) → All P xs × P x
both P xs x h = (
  (λ k d l. subst P (get_or_append_left xs (x ∷ []) d k l) (h k d (omega (arith, l, length-append xs (x ∷ []))))),
  subst P (get_or_push xs x x (length xs) refl) (h (length xs) x (omega (arith, length-append xs (x ∷ [])))),
)

-- no reason is lost
pub none_kept : (counts : List ReasonCount) (i : ℕ) (r y more : ReasonCount) (d : Summary) → i < length counts → r ≡ get_or counts i r → y.reason ≡ r.reason
    → get_or (reasons_of counts) i d ≡ more.reason → (q : Summary) → HasNone q (set counts i y) → HasNone q counts × (more.reason ≢ q)
none_kept counts i r y more d l e s a q h =
    let h' = subst (λ (x : List Summary). All (λ z. z ≢ q) x) (reasons_kept counts i r y l e s) h in
    (h', subst (λ (z : Summary). z ≢ q) a (h' i d (omega (arith, l, length-map counts (λ (c : ReasonCount). c.reason)))))

pub none_pushed : (counts : List ReasonCount) (more : ReasonCount) (q : Summary) → HasNone q (counts ++ more ∷ []) → HasNone q counts × (more.reason ≢ q)
none_pushed counts more q h =
    both (λ z. z ≢ q) (reasons_of counts) more.reason (subst (λ (x : List Summary). All (λ z. z ≢ q) x) (map_push (λ (c : ReasonCount). c.reason) counts more) h)

pub none_push : (counts : List ReasonCount) (more : ReasonCount) (q : Summary) → HasNone q counts → more.reason ≢ q → HasNone q (counts ++ more ∷ [])
none_push counts more q h n =
    subst (λ (x : List Summary). All (λ z. z ≢ q) x) (sym (map_push (λ (c : ReasonCount). c.reason) counts more)) (All-push (λ z. z ≢ q) (reasons_of counts) more.reason h n)

pub none_joined : (a b : List ReasonCount) (q : Summary) → HasNone q a → HasNone q b → HasNone q (a ++ b)
none_joined a b q h k =
    subst (λ (x : List Summary). All (λ z. z ≢ q) x) (sym (map-append (λ (c : ReasonCount). c.reason) a b)) (All-append (λ z. z ≢ q) (reasons_of a) (reasons_of b) h k)

-- the reasons stay different
pub distinct_kept : (counts : List ReasonCount) (i : ℕ) (r y : ReasonCount) → i < length counts → r ≡ get_or counts i r → y.reason ≡ r.reason → AreDistinct counts → AreDistinct (set counts i y)
distinct_kept counts i r y l e s h = subst AreDifferent (sym (reasons_kept counts i r y l e s)) h

different_push : (xs : List Summary) (x : Summary) → AreDifferent xs → All (λ z. z ≢ x) xs → AreDifferent (xs ++ x ∷ [])
different_push xs x h n i j d l m =
    let many = length-append xs (x ∷ []) in
    elim (cases_lt j (length xs)) as (λ _. get_or (xs ++ x ∷ []) i d ≢ get_or (xs ++ x ∷ []) j d) [
      | inl s ↦ rw (get_or_append_left xs (x ∷ []) d i (omega (arith, l, s)), get_or_append_left xs (x ∷ []) d j s) (h i j d l s)
      | inr s ↦ rw (get_or_append_left xs (x ∷ []) d i (omega (arith, l, m, many)), get_or_push xs x d j (omega (arith, s, m, many))) (n i d (omega (arith, l, m, many)))
    ]

pub distinct_push : (counts : List ReasonCount) (more : ReasonCount) → AreDistinct counts → HasNone more.reason counts → AreDistinct (counts ++ more ∷ [])
distinct_push counts more h n = subst AreDifferent (sym (map_push (λ (c : ReasonCount). c.reason) counts more)) (different_push (reasons_of counts) more.reason h n)

-- ---- the sums

grows : (t : Bool) (p q m : ℕ) → q ≡ p + m → (if t then q else 0) ≡ (if t then p else 0) + (if t then m else 0)
grows true p q m e = e
grows false p q m e = refl

pub sum_grows : (test : Summary → Bool) (counts : List ReasonCount) (i : ℕ) (r y more : ReasonCount) → i < length counts → r ≡ get_or counts i r → y.count ≡ r.count + more.count
    → y.reason ≡ r.reason → r.reason ≡ more.reason → sum_of test (set counts i y) ≡ sum_of test counts + sum_of test (more ∷ [])
sum_grows test counts i r y more l e k a b =
    let f = λ (c : ReasonCount). if test c.reason then c.count else 0 in
    let s = sum_by-set f counts i y r l in
    let one : sum_by f (more ∷ []) ≡ f more + 0 = sum_by-cons f more [] in
    let at : f r ≡ f (get_or counts i r) = ap f e in
    let old : f r ≡ (if test more.reason then r.count else 0) = ap (λ (x : Summary). if test x then r.count else 0) b in
    let new : f y ≡ (if test more.reason then y.count else 0) = ap (λ (x : Summary). if test x then y.count else 0) (a ∙ b) in
    let g = grows (test more.reason) r.count y.count more.count k in
    omega (arith, s, one, at, old, new, g)

pub sum_pushed : (test : Summary → Bool) (counts : List ReasonCount) (more : ReasonCount) → sum_of test (counts ++ more ∷ []) ≡ sum_of test counts + sum_of test (more ∷ [])
sum_pushed test counts more = sum_by-append (λ (c : ReasonCount). if test c.reason then c.count else 0) counts (more ∷ [])

-- one more of the counts of a piece
pub sum_more : (test : Summary → Bool) (more : List ReasonCount) (i : ℕ) (d : ReasonCount) (old now new : ℕ) → i < length more → new ≡ now + sum_of test (get_or more i d ∷ [])
    → now ≡ old + sum_of test (take i more) → new ≡ old + sum_of test (take (i + 1) more)
sum_more test more i d old now new l a b =
    let f = λ (c : ReasonCount). if test c.reason then c.count else 0 in
    let s = sum_by_more f more i d l in
    let one : sum_by f (get_or more i d ∷ []) ≡ f (get_or more i d) + 0 = sum_by-cons f (get_or more i d) [] in
    omega (arith, s, one, a, b)

pub none_more : (more : List ReasonCount) (i : ℕ) (d : ReasonCount) (q : Summary) → i < length more → HasNone q (take i more) → (get_or more i d).reason ≢ q → HasNone q (take (i + 1) more)
none_more more i d q l h n = subst (HasNone q) (sym (take_more more i d l)) (none_push (take i more) (get_or more i d) q h n)

-- ---- the first lines

pub first_still : (a b : List ReasonCount) (c : ReasonCount) → IsFirst a c → IsFirst (a ++ b) c
first_still a b c h = record {
  before = h.before;
  single = h.single;
  after = h.after ++ b;
  parts = ap (λ (y : List ReasonCount). y ++ b) h.parts ∙ append_assoc h.before (h.single ∷ h.after) b;
  none_before = h.none_before;
  reason = h.reason;
  first = h.first;
  column = h.column;
  counted = h.counted;
}

first_after : (a b : List ReasonCount) (c : ReasonCount) → HasNone c.reason a → IsFirst b c → IsFirst (a ++ b) c
first_after a b c n h = record {
  before = a ++ h.before;
  single = h.single;
  after = h.after;
  parts = ap (λ (y : List ReasonCount). a ++ y) h.parts ∙ sym (append_assoc a h.before (h.single ∷ h.after));
  none_before = none_joined a h.before c.reason n h.none_before;
  reason = h.reason;
  first = h.first;
  column = h.column;
  counted = h.counted;
}

-- a count that names the same line
pub first_same : (a : List ReasonCount) (c d : ReasonCount) → d.reason ≡ c.reason → d.first ≡ c.first → d.column ≡ c.column → d.counted ≡ c.counted → IsFirst a c → IsFirst a d
first_same a c d r f o u h = record {
  before = h.before;
  single = h.single;
  after = h.after;
  parts = h.parts;
  none_before = subst (λ (q : Summary). HasNone q h.before) (sym r) h.none_before;
  reason = h.reason ∙ sym r;
  first = f ∙ h.first;
  column = o ∙ h.column;
  counted = u ∙ h.counted;
}

-- the count of a piece that is counted in the document
pub first_again : (a more : List ReasonCount) (n i : ℕ) (d c : ReasonCount) → c.reason ≡ (get_or more i d).reason → c.column ≡ (get_or more i d).column → c.counted ≡ (get_or more i d).counted
    → n + ((get_or more i d).first + 1) < 2 ^ 128 → (n + ((get_or more i d).first + 1) < 2 ^ 128 → c.first ≡ n + ((get_or more i d).first + 1))
    → IsFirst a (moved n (get_or more i d)) → IsFirst a c
first_again a more n i d c r o u small f h = first_same a (moved n (get_or more i d)) c r (f small) o u h

-- a count that grows names the same line
pub firsts_kept : (a counts : List ReasonCount) (i : ℕ) (r y : ReasonCount) → i < length counts → r ≡ get_or counts i r → y.reason ≡ r.reason → y.first ≡ r.first → y.column ≡ r.column
    → y.counted ≡ r.counted → All (IsFirst a) counts → All (IsFirst a) (set counts i y)
firsts_kept a counts i r y l e s f o u h =
    All-set (IsFirst a) counts i y (first_same a r y s f o u (subst (IsFirst a) (sym e) (h i r l))) h

first_here : (a : List ReasonCount) (c : ReasonCount) → HasNone c.reason a → IsFirst (a ++ c ∷ []) c
first_here a c n = record {
  before = a;
  single = c;
  after = [];
  parts = refl;
  none_before = n;
  reason = refl;
  first = refl;
  column = refl;
  counted = refl;
}

-- ---- the counts of a piece in the document

reasons_moved : (n : ℕ) (a : List ReasonCount) → reasons_of (map (moved n) a) ≡ reasons_of a
reasons_moved n [] = refl
reasons_moved n (c ∷ a) = ap (λ (y : List Summary). c.reason ∷ y) (reasons_moved n a)

none_moved : (n : ℕ) (a : List ReasonCount) (q : Summary) → HasNone q a → HasNone q (map (moved n) a)
none_moved n a q h = subst (λ (x : List Summary). All (λ z. z ≢ q) x) (sym (reasons_moved n a)) h

sum_moved : (test : Summary → Bool) (n : ℕ) (a : List ReasonCount) → sum_of test (map (moved n) a) ≡ sum_of test a
sum_moved test n [] = refl
sum_moved test n (c ∷ a) =
    let f = λ (x : ReasonCount). if test x.reason then x.count else 0 in
    sum_by-cons f (moved n c) (map (moved n) a) ∙ ap (λ (k : ℕ). f c + k) (sum_moved test n a) ∙ sym (sum_by-cons f c a)

first_moved : (n : ℕ) (a : List ReasonCount) (c : ReasonCount) → IsFirst a c → IsFirst (map (moved n) a) (moved n c)
first_moved n a c h = record {
  before = map (moved n) h.before;
  single = moved n h.single;
  after = map (moved n) h.after;
  parts = ap (map (moved n)) h.parts ∙ map-append (moved n) h.before (h.single ∷ h.after);
  none_before = none_moved n h.before c.reason h.none_before;
  reason = h.reason;
  first = ap (λ (k : ℕ). n + (k + 1)) h.first;
  column = h.column;
  counted = h.counted;
}

numbers_moved : (n : ℕ) (a : List ReasonCount) → map (λ c. c.first) (map (moved n) a) ≡ map (λ k. (n + 1) + k) (map (λ c. c.first) a)
numbers_moved n [] = refl
numbers_moved n (c ∷ a) =
    let e : n + (c.first + 1) ≡ (n + 1) + c.first = omega arith in
    ap (λ (k : ℕ). k ∷ map (λ x. x.first) (map (moved n) a)) e ∙ ap (λ (y : List ℕ). ((n + 1) + c.first) ∷ y) (numbers_moved n a)

-- ---- tallies

-- one more line is counted
pub tally_more : (singles counts new : List ReasonCount) (c : ReasonCount) → IsTally singles counts
    → ((test : Summary → Bool) → sum_of test new ≡ sum_of test counts + sum_of test (c ∷ []))
    → ((a : List ReasonCount) → All (IsFirst a) counts → (HasNone c.reason counts → IsFirst a c) → All (IsFirst a) new)
    → ((q : Summary) → HasNone q new → HasNone q counts × (c.reason ≢ q)) → IsTally (singles ++ c ∷ []) new
tally_more singles counts new c h s f n = record {
  sums = λ test. omega (arith, s test, h.sums test, sum_pushed test singles c);
  firsts = f (singles ++ c ∷ []) (All-weaker (IsFirst singles) (IsFirst (singles ++ c ∷ [])) (λ x i. first_still singles (c ∷ []) x i) counts h.firsts) (λ none. first_here singles c (h.complete c.reason none));
  complete = λ q none. let w = n q none in none_push singles c q (h.complete q w.0) w.1;
}

-- the counts of a piece are added
pub tally_join : (m : ℕ) (a b counts more new : List ReasonCount) → IsTally a counts → IsTally b more
    → ((test : Summary → Bool) → sum_of test new ≡ sum_of test counts + sum_of test more)
    → ((x : List ReasonCount) → All (IsFirst x) counts → All (λ c. HasNone c.reason counts → IsFirst x (moved m c)) more → All (IsFirst x) new)
    → ((q : Summary) → HasNone q new → HasNone q counts × HasNone q more) → IsTally (a ++ map (moved m) b) new
tally_join m a b counts more new h k s f n = record {
  sums = λ test. omega (arith, s test, h.sums test, k.sums test, sum_moved test m b, sum_by-append (λ (c : ReasonCount). if test c.reason then c.count else 0) a (map (moved m) b));
  firsts = f (a ++ map (moved m) b) (All-weaker (IsFirst a) (IsFirst (a ++ map (moved m) b)) (λ x i. first_still a (map (moved m) b) x i) counts h.firsts)
      (All-weaker (IsFirst b) (λ c. HasNone c.reason counts → IsFirst (a ++ map (moved m) b) (moved m c))
      (λ c i none. first_after a (map (moved m) b) (moved m c) (h.complete c.reason none) (first_moved m b c i)) more k.firsts);
  complete = λ q none. let w = n q none in none_joined a (map (moved m) b) q (h.complete q w.0) (none_moved m b q (k.complete q w.1));
}

-- the counts of single lines, of which one more is malformed
pub singles_more : (n : ℕ) (lines : List (List ℕ)) (line : List ℕ) (numbers : List ℕ) (singles : List ReasonCount) (c : ReasonCount) → AreSingles n lines numbers singles
    → c.count ≡ 1 → NamesLineFrom n (lines ++ line ∷ []) c → AreSingles n (lines ++ line ∷ []) (numbers ++ c.first ∷ []) (singles ++ c ∷ [])
singles_more n lines line numbers singles c h one name = record {
  numbered = map_push (λ (x : ReasonCount). x.first) singles c ∙ ap (λ (y : List ℕ). y ++ c.first ∷ []) h.numbered;
  ones = All-push (λ x. x.count ≡ 1) singles c h.ones one;
  named = All-push (NamesLineFrom n (lines ++ line ∷ [])) singles c (named_still n lines (line ∷ []) singles h.named) name;
}

-- the same of which more are well-formed
pub singles_still : (n : ℕ) (a b : List (List ℕ)) (numbers : List ℕ) (singles : List ReasonCount) → AreSingles n a numbers singles → AreSingles n (a ++ b) numbers singles
singles_still n a b numbers singles h = record {
  numbered = h.numbered;
  ones = h.ones;
  named = named_still n a b singles h.named;
}

-- the same of a document and its next piece
pub singles_join : (m : ℕ) (before after : List (List ℕ)) (x y : List ℕ) (a b : List ReasonCount) → m ≡ length before → AreSingles 1 before x a → AreSingles 0 after y b
    → AreSingles 1 (before ++ after) (x ++ map (λ k. (m + 1) + k) y) (a ++ map (moved m) b)
singles_join m before after x y a b e h k = record {
  numbered = map-append (λ (c : ReasonCount). c.first) a (map (moved m) b)
      ∙ ap (λ (z : List ℕ). z ++ map (λ c. c.first) (map (moved m) b)) h.numbered
      ∙ ap (λ (z : List ℕ). x ++ z) (numbers_moved m b ∙ ap (map (λ k. (m + 1) + k)) k.numbered);
  ones = All-append (λ c. c.count ≡ 1) a (map (moved m) b) h.ones (All-map (λ c. c.count ≡ 1) (moved m) b k.ones);
  named = All-append (NamesLineFrom 1 (before ++ after)) a (map (moved m) b) (named_still 1 before after a h.named)
      (All-map (NamesLineFrom 1 (before ++ after)) (moved m) b (All-weaker (NamesLineFrom 0 after) (λ c. NamesLineFrom 1 (before ++ after) (moved m c))
      (λ c i. named_moved before after m c (moved m c) e i (omega arith) refl refl refl) b k.named));
}

pub no_tally : (counts : List ReasonCount) → counts ≡ [] → IsTally [] counts
no_tally counts e = rw e (record {
  sums = λ test. refl;
  firsts = All-nil (IsFirst []);
  complete = λ q none. All-nil (λ z. z ≢ q);
})

pub no_singles : (n : ℕ) (lines : List (List ℕ)) → AreSingles n lines [] []
no_singles n lines = record {
  numbered = refl;
  ones = All-nil (λ c. c.count ≡ 1);
  named = All-nil (NamesLineFrom n lines);
}
