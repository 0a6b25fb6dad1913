-- Steps of the loops over lines and texts of terms.
use Rattle.std.proofs.Common.{◌≡◌, ℕ, zero, suc, ◌+◌, ◌<◌, ◌≤◌, ◌%◌, ◌==◌, Bool, true, false, cond, not, ◌||◌, if◌then◌else◌, eqb, List, [], ◌∷◌, ◌++◌, length, map, take, set, get_or, slice_get, codes, Some, refl, sym, ap, subst, ◌∙◌, ⊎_elim, arith, eq-eqb, ne_eqb, mod-lt, append-nil, append_assoc, length-append}
use Rattle.std.specs.Prelude.{replicate}
use Rattle.std.specs.Borrow.{Bor}
use Rattle.std.specs.List.{AllByRecursion, IsDistinct, flat_map, list_any}
use Rattle.std.specs.Str.{bytes_eq}
use Rattle.std.proofs.lemmas.Bool.{cases_eq, eqb-true}
use Rattle.std.proofs.lemmas.Option.{slice_get_within}
use Rattle.std.proofs.lemmas.List.{get_or-map, get_or-replicate, get_or-set_same, get_or-set_other, length-map, map-append}
use Rattle.std.proofs.lemmas.List.Elements.{filter-append}
use Rattle.std.proofs.lemmas.List.Folds.{list_any-append}
use Rattle.std.proofs.lemmas.Slice.Eq.{bytes_eq-Decides}
use Rattle.std.proofs.lemmas.Grind.{flat_map-append}
use Rattle.indexmap.specs.IndexSet.{IndexSet, insert_key}
use Rattle.rdf_core.specs.declared.term.Term.{Term}
use Rattle.rdf_core.specs.QuadParts.{QuadParts}
use Rattle.rdf_core.specs.Serialization.{serialization}
use Rattle.nquads_core.specs.Lines.{lines}
use Rattle.nquads_core.proofs.PieceLaws.{lines_nil}
use Rattle.dict_core.specs.declared.num_quad.NumQuad.{NumQuad}
use Rattle.algebra_model.specs.Bag.{IsWithoutRepeats, without_repeats}
use Rattle.algebra_model.specs.Dataset.{names}
use Rattle.text_pieces.specs.Forms.{AreFormsOf, AreNumberedBy}
use Rattle.cluster_parts.specs.Hash.{hash, number_bytes, term_hash}
use Rattle.cluster_parts.specs.Seal.{all_sealed, sealed}
use Rattle.cluster_parts.specs.NumberList.{number_list}
use Rattle.cluster_parts.specs.Parts.{hashes_in, is_in, terms_in, texts_below}
use Rattle.cluster_parts.specs.Terms.{has_line, is_marked, line_list, lines_in, mark, marked_lines, marks, marks_in_turn, term_lines, term_line}
use Rattle.cluster_parts.specs.Known.{AreKnown, AreTaken, HasNoMark, counted_part, known_lines, lines_part, lines_parts, texts_of}
use Rattle.cluster_parts.specs.Output.{AreFirst, IsKept, check_parts, counting_part, terms_part, terms_parts}
use Rattle.cluster_parts.proofs.PartSteps.{at_place, taken}
use Rattle.cluster_parts.proofs.SetCounts.{length_of_set}

-- ---- one more text of a list

pub flat_more : {X : Type 0} (f : X → List ℕ) (xs : List X) (n : ℕ) (x : X) (text text' : List ℕ) → slice_get xs n ≡ Some x
    → text ≡ flat_map f (take n xs) → text' ≡ text ++ f x → text' ≡ flat_map f (take (n + 1) xs)
flat_more f xs n x text text' at was wrote =
    wrote ∙ (λ i. was i ++ sym (append-nil (f x)) i) ∙ sym (flat_map-append f (take n xs) (x ∷ [])) ∙ ap (flat_map f) (sym (taken xs n x at))

-- the hash at a text's number is the text's
pub text_hash_at : (texts : List (List ℕ)) (hashes : List ℕ) (n : ℕ) (t : List ℕ) → slice_get texts n ≡ Some t → hashes ≡ map hash texts → get_or hashes n 0 ≡ hash t
text_hash_at texts hashes n t at is =
    ap (λ l. get_or l n 0) is ∙ get_or-map hash texts n t 0 (slice_get_within texts n t at) ∙ ap hash (at_place texts n t at)

-- ---- the lines of terms

pub term_list : (ts : List Term) → line_list (map serialization ts) ≡ term_lines ts
term_list [] = refl
term_list (t ∷ ts) = ap (λ l. term_line t ++ l) (term_list ts)

pub terms_lines : (k n : ℕ) (ts : List Term) → lines_in k n (map serialization ts) ≡ map serialization (terms_in k n ts)
terms_lines k n [] = refl
terms_lines k n (t ∷ ts) =
    elim (is_in k n (term_hash t)) as (λ b. cond b (serialization t ∷ lines_in k n (map serialization ts)) (lines_in k n (map serialization ts)) ≡ map serialization (cond b (t ∷ terms_in k n ts) (terms_in k n ts))) [
      | true ↦ ap (λ l. serialization t ∷ l) (terms_lines k n ts)
      | false ↦ terms_lines k n ts
    ]

part_is : (k : ℕ) (ts : List Term) (n : ℕ) → lines_part k (map serialization ts) n ≡ terms_part k ts n
part_is k ts n = ap (λ l. sealed l) (ap line_list (terms_lines k n ts) ∙ term_list (terms_in k n ts))

-- the parts of a block
pub counted_is : (k : ℕ) (ts names : List Term) (texts named : List (List ℕ)) (hashes : List ℕ) (n : ℕ) → texts ≡ map serialization ts → named ≡ map serialization names
    → counted_part k texts named hashes n ≡ counting_part k ts names hashes n
counted_is k ts names texts named hashes n is are =
    (λ i. counted_part k (is i) (are i) hashes n) ∙ (λ i. part_is k ts n i ++ (part_is k names n i ++ sealed (number_list (hashes_in k n hashes))))

pub counted_below : (k : ℕ) (ts names : List Term) (texts named : List (List ℕ)) (hashes : List ℕ) (n : ℕ) → texts ≡ map serialization ts → named ≡ map serialization names
    → texts_below (counted_part k texts named hashes) n ≡ texts_below (counting_part k ts names hashes) n
counted_below k ts names texts named hashes zero is are = refl
counted_below k ts names texts named hashes (suc n) is are = λ i. counted_below k ts names texts named hashes n is are i ++ counted_is k ts names texts named hashes n is are i

-- the number of lines, and the parts of a block
pub check_parts_are : (k count : ℕ) (quads : List QuadParts) (texts : List (List ℕ)) (numbered : List NumQuad) (named : List (List ℕ)) (hashes out0 out1 out2 : List ℕ) → AreNumberedBy quads texts numbered
    → AreFormsOf (names quads) named → out0 ≡ [] → out1 ≡ out0 ++ sealed (number_bytes count) → out2 ≡ out1 ++ texts_below (counted_part k texts named hashes) k
    → out2 ≡ check_parts k count quads hashes
check_parts_are k count quads texts numbered named hashes out0 out1 out2 h are none first second =
    second ∙ ap (λ l. l ++ texts_below (counted_part k texts named hashes) k) (first ∙ ap (λ l. l ++ sealed (number_bytes count)) none)
    ∙ ap (λ l. sealed (number_bytes count) ++ l)
    (counted_below k h.terms (names quads) texts named hashes k h.forms.forms are.forms
    ∙ (λ i. texts_below (counting_part k (h.numbered.0 i) (names quads) hashes) k))

parts_below : (k : ℕ) (ts : List Term) (n : ℕ) → texts_below (lines_part k (map serialization ts)) n ≡ texts_below (terms_part k ts) n
parts_below k ts zero = refl
parts_below k ts (suc n) = λ i. parts_below k ts n i ++ part_is k ts n i

pub parts_are : (k count : ℕ) (ts : List Term) (texts : List (List ℕ)) → texts ≡ map serialization ts → lines_parts k count texts ≡ terms_parts k count ts
parts_are k count ts texts is =
    ap (lines_parts k count) is ∙ (λ i. sealed (number_bytes count) ++ (sealed (term_list ts i) ++ parts_below k ts k i))

-- ---- the lines of a list, one after the other

lines_push : (list : List ℕ) (read : List (List ℕ)) (rest line after : List ℕ) → lines list ≡ read ++ lines rest → lines rest ≡ line ∷ lines after → lines list ≡ (read ++ line ∷ []) ++ lines after
lines_push list read rest line after all first = all ∙ ap (λ l. read ++ l) first ∙ sym (append_assoc read (line ∷ []) (lines after))

pub nothing_left : (xs : List ℕ) (b : Bool) → b ≡ (length xs == 0) → b ≡ true → xs ≡ []
nothing_left [] b e f = refl
nothing_left (x ∷ xs) b e f = absurd (omega (arith, eqb-true (length (x ∷ xs)) 0 (sym e ∙ f)))

all_lines_read : (list : List ℕ) (read : List (List ℕ)) (rest : List ℕ) → lines list ≡ read ++ lines rest → rest ≡ [] → read ≡ lines list
all_lines_read list read rest all none = sym (all ∙ ap (λ l. read ++ lines l) none ∙ ap (λ l. read ++ l) lines_nil ∙ append-nil read)

-- ---- known lines

has_same : (ls : List (List ℕ)) (l line : List ℕ) → bytes_eq l line ≡ true → has_line ls line ≡ has_line ls l
has_same ls l line e = ap (has_line ls) (sym ((bytes_eq-Decides l line).0 e))

any_borrowed : (l : List ℕ) (keys : List (Bor (List ℕ))) → list_any (λ k. bytes_eq l k.now) keys ≡ has_line (texts_of keys) l
any_borrowed l [] = refl
any_borrowed l (k ∷ keys) = ap (λ b. bytes_eq l k.now || b) (any_borrowed l keys)

-- the lines after one more is inserted
pub line_added : (keys : List (Bor (List ℕ))) (line : Bor (List ℕ)) (l : List ℕ)
    → has_line (texts_of (insert_key (λ x y. bytes_eq x.now y.now) keys line)) l ≡ (has_line (texts_of keys) l || bytes_eq l line.now)
line_added keys line l = by (list_any (λ k. bytes_eq line.now k.now) keys) refl (bytes_eq l line.now) refl
  where
    or_true : (b : Bool) → b ≡ true → b ≡ (b || true)
    or_true true e = refl
    or_true false e = e

    or_false : (b : Bool) → b ≡ (b || false)
    or_false true = refl
    or_false false = refl

    by : (b : Bool) → list_any (λ k. bytes_eq line.now k.now) keys ≡ b → (c : Bool) → bytes_eq l line.now ≡ c
        → has_line (texts_of (if b then keys else keys ++ line ∷ [])) l ≡ (has_line (texts_of keys) l || c)
    by true e true f = or_true (has_line (texts_of keys) l) (sym (has_same (texts_of keys) l line.now f) ∙ sym (any_borrowed line.now keys) ∙ e)
    by true e false f = or_false (has_line (texts_of keys) l)
    by false e c f =
        ap (λ ls. has_line ls l) (map-append (λ k. k.now) keys (line ∷ []))
        ∙ list_any-append (bytes_eq l) (texts_of keys) (line.now ∷ [])
        ∙ ap (λ b. has_line (texts_of keys) l || b) (ap (λ b. b || false) f ∙ sym (or_false c))

pub is_known : (keys : List (Bor (List ℕ))) (line : Bor (List ℕ)) → list_any (λ k. bytes_eq line.now k.now) keys ≡ has_line (texts_of keys) line.now
is_known keys line = any_borrowed line.now keys

none_equal : (k : Bor (List ℕ)) (keys : List (Bor (List ℕ))) → AllByRecursion (λ y. bytes_eq k.now y.now ≡ false) keys → list_any (bytes_eq k.now) (texts_of keys) ≡ false
none_equal k [] a = refl
none_equal k (y ∷ keys) a = λ i. a.0 i || none_equal k keys a.1 i

distinct_texts : (keys : List (Bor (List ℕ))) → IsDistinct (λ x y. bytes_eq x.now y.now) keys → IsWithoutRepeats bytes_eq (texts_of keys)
unfolding IsDistinct
distinct_texts [] h = tt
distinct_texts (k ∷ keys) h = (none_equal k keys h.0, distinct_texts keys h.1)

-- the distinct lines of a set are its keys
pub known_count : {S : Type 0} (ls : List (List ℕ)) (known : IndexSet (Bor (List ℕ)) S) → AreKnown ls known → IsDistinct (λ x y. bytes_eq x.now y.now) known.keys
    → length known.keys ≡ length (without_repeats bytes_eq ls)
known_count ls known h once =
    sym (length_of_set bytes_eq bytes_eq-Decides ls (known_lines known) (distinct_texts known.keys once) (λ l. sym (h l)) ∙ length-map known.keys (λ k. k.now))

-- ---- the lines of a list that are known

-- what is known after these lines of a list were read
pub record AreLinesRead {S : Type 0} (before : IndexSet (Bor (List ℕ)) S) (list : List ℕ) (read : List (List ℕ)) (rest : List ℕ) (known : IndexSet (Bor (List ℕ)) S) : Type 0 where
  pub are_read : lines list ≡ read ++ lines rest
  pub known_now : (earlier : List (List ℕ)) → AreKnown earlier before → AreKnown (earlier ++ read) known

pub no_line : {S : Type 0} (known : IndexSet (Bor (List ℕ)) S) (list : List ℕ) → AreLinesRead known list [] list known
no_line known list = record { are_read = refl; known_now = λ earlier h l. h l ∙ ap (λ e. has_line e l) (sym (append-nil earlier)) }

pub one_more_line : {S : Type 0} (before known known' : IndexSet (Bor (List ℕ)) S) (list : List ℕ) (read : List (List ℕ)) (rest line after : List ℕ) → AreLinesRead before list read rest known
    → lines rest ≡ line ∷ lines after → ((l : List ℕ) → has_line (known_lines known') l ≡ (has_line (known_lines known) l || bytes_eq l line))
    → AreLinesRead before list (read ++ line ∷ []) after known'
one_more_line before known known' list read rest line after h first added = record {
  are_read = lines_push list read rest line after h.are_read first;
  known_now = λ earlier k l.
      added l ∙ ap (λ b. b || bytes_eq l line) (h.known_now earlier k l)
      ∙ ap (λ b. has_line (earlier ++ read) l || b) (or_false (bytes_eq l line))
      ∙ sym (list_any-append (bytes_eq l) (earlier ++ read) (line ∷ []))
      ∙ ap (λ ls. has_line ls l) (append_assoc earlier read (line ∷ []));
}
  where
    or_false : (b : Bool) → b ≡ (b || false)
    or_false true = refl
    or_false false = refl

pub all_known_now : {S : Type 0} (before known : IndexSet (Bor (List ℕ)) S) (list : List ℕ) (read : List (List ℕ)) (rest : List ℕ) → AreLinesRead before list read rest known → rest ≡ []
    → (earlier : List (List ℕ)) → AreKnown earlier before → AreKnown (earlier ++ lines list) known
all_known_now before known list read rest h none earlier k l =
    h.known_now earlier k l ∙ ap (λ ls. has_line (earlier ++ ls) l) (all_lines_read list read rest h.are_read none)

-- ---- the marks of a list

-- what is known after some lines of a list were read
pub record IsMarking {S : Type 0} (before : IndexSet (Bor (List ℕ)) S) (list rest : List ℕ) (known : IndexSet (Bor (List ℕ)) S) (made : List ℕ) : Type 0 where
  pub read : List (List ℕ)
  pub lines_read : AreLinesRead before list read rest known
  pub marked : (earlier : List (List ℕ)) → AreKnown earlier before → made ≡ marks earlier read

marks_push : (earlier read : List (List ℕ)) (l : List ℕ) → marks earlier (read ++ l ∷ []) ≡ marks earlier read ++ mark (not (has_line (earlier ++ read) l)) ∷ []
marks_push earlier [] l = ap (λ e. mark (not (has_line e l)) ∷ []) (sym (append-nil earlier))
marks_push earlier (r ∷ read) l =
    ap (λ ms. mark (not (has_line earlier r)) ∷ ms)
    (marks_push (earlier ++ r ∷ []) read l ∙ ap (λ e. marks (earlier ++ r ∷ []) read ++ mark (not (has_line e l)) ∷ []) (append_assoc earlier (r ∷ []) read))

pub none_marked : {S : Type 0} (known : IndexSet (Bor (List ℕ)) S) (list made : List ℕ) → made ≡ [] → IsMarking known list list known made
none_marked known list made none = record { read = []; lines_read = no_line known list; marked = λ earlier h. none }

pub one_more_mark : {S : Type 0} (before known known' : IndexSet (Bor (List ℕ)) S) (list rest line after made made' : List ℕ) (is_new : Bool) → IsMarking before list rest known made
    → lines rest ≡ line ∷ lines after → is_new ≡ not (has_line (known_lines known) line)
    → ((l : List ℕ) → has_line (known_lines known') l ≡ (has_line (known_lines known) l || bytes_eq l line))
    → made' ≡ made ++ mark is_new ∷ [] → IsMarking before list after known' made'
one_more_mark before known known' list rest line after made made' is_new h first new added pushed = record {
  read = h.read ++ line ∷ [];
  lines_read = one_more_line before known known' list h.read rest line after h.lines_read first added;
  marked = λ earlier k.
      pushed ∙ (λ i. h.marked earlier k i ++ mark ((new ∙ ap not (h.lines_read.known_now earlier k line)) i) ∷ []) ∙ sym (marks_push earlier h.read line);
}

pub all_marked : {S : Type 0} (before known : IndexSet (Bor (List ℕ)) S) (list rest made : List ℕ) → IsMarking before list rest known made → rest ≡ []
    → ((earlier : List (List ℕ)) → AreKnown earlier before → made ≡ marks earlier (lines list))
    × ((earlier : List (List ℕ)) → AreKnown earlier before → AreKnown (earlier ++ lines list) known)
all_marked before known list rest made h none = (
  λ earlier k. h.marked earlier k ∙ ap (marks earlier) (all_lines_read list h.read rest h.lines_read.are_read none),
  all_known_now before known list h.read rest h.lines_read none,
)

-- ---- sealed lists, one after the other

-- what is known after these sealed texts were read
pub record AreTextsRead {S : Type 0} (bytes : List ℕ) (texts : List (List ℕ)) (rest : List ℕ) (known : IndexSet (Bor (List ℕ)) S) : Type 0 where
  pub unsealed : bytes ≡ all_sealed texts ++ rest
  pub all_known : AreKnown (flat_map lines texts) known

sealed_push : (texts : List (List ℕ)) (bytes rest text after : List ℕ) → bytes ≡ all_sealed texts ++ rest → rest ≡ sealed text ++ after → bytes ≡ all_sealed (texts ++ text ∷ []) ++ after
sealed_push texts bytes rest text after all first =
    all ∙ ap (λ l. all_sealed texts ++ l) first ∙ sym (append_assoc (all_sealed texts) (sealed text) after)
    ∙ ap (λ l. l ++ after) (ap (λ l. all_sealed texts ++ l) (sym (append-nil (sealed text))) ∙ sym (flat_map-append sealed texts (text ∷ [])))

pub no_text : {S : Type 0} (bytes : List ℕ) (known : IndexSet (Bor (List ℕ)) S) → known.keys ≡ [] → AreTextsRead bytes [] bytes known
no_text bytes known none = record { unsealed = refl; all_known = λ l. ap (λ keys. has_line (texts_of keys) l) none }

pub one_more_text_known : {S : Type 0} (bytes : List ℕ) (texts : List (List ℕ)) (rest text after : List ℕ) (known known' : IndexSet (Bor (List ℕ)) S) → AreTextsRead bytes texts rest known
    → rest ≡ sealed text ++ after → ((earlier : List (List ℕ)) → AreKnown earlier known → AreKnown (earlier ++ lines text) known')
    → AreTextsRead bytes (texts ++ text ∷ []) after known'
one_more_text_known bytes texts rest text after known known' h first grown = record {
  unsealed = sealed_push texts bytes rest text after h.unsealed first;
  all_known = λ l. grown (flat_map lines texts) h.all_known l
      ∙ ap (λ ls. has_line (flat_map lines texts ++ ls) l) (sym (append-nil (lines text)))
      ∙ ap (λ ls. has_line ls l) (sym (flat_map-append lines texts (text ∷ [])));
}

pub all_texts : (bytes : List ℕ) (texts : List (List ℕ)) (rest : List ℕ) → bytes ≡ all_sealed texts ++ rest → rest ≡ [] → bytes ≡ all_sealed texts
all_texts bytes texts rest all none = all ∙ ap (λ l. all_sealed texts ++ l) none ∙ append-nil (all_sealed texts)

-- ---- the lists of a partition, one after the other

-- what is known and written after some of the sealed lists were read
pub record AreMarked {S : Type 0} (bytes rest : List ℕ) (known : IndexSet (Bor (List ℕ)) S) (out : List ℕ) : Type 0 where
  pub texts : List (List ℕ)
  pub texts_read : AreTextsRead bytes texts rest known
  pub wrote : out ≡ all_sealed (marks_in_turn [] (map lines texts))

-- one more list after the others
turn_more : (earlier : List (List ℕ)) (texts : List (List ℕ)) (ls : List (List ℕ))
    → marks_in_turn earlier (map lines texts ++ ls ∷ []) ≡ marks_in_turn earlier (map lines texts) ++ marks (earlier ++ flat_map lines texts) ls ∷ []
turn_more earlier [] ls = ap (λ e. marks e ls ∷ []) (sym (append-nil earlier))
turn_more earlier (t ∷ texts) ls =
    ap (λ l. marks earlier (lines t) ∷ l) (turn_more (earlier ++ lines t) texts ls
    ∙ ap (λ l. marks_in_turn (earlier ++ lines t) (map lines texts) ++ marks l ls ∷ []) (append_assoc earlier (lines t) (flat_map lines texts)))

pub none_listed : {S : Type 0} (bytes : List ℕ) (known : IndexSet (Bor (List ℕ)) S) (out : List ℕ) → known.keys ≡ [] → out ≡ [] → AreMarked bytes bytes known out
none_listed bytes known out none empty = record { texts = []; texts_read = no_text bytes known none; wrote = empty }

pub one_more_listed : {S : Type 0} (bytes rest text after : List ℕ) (known known' : IndexSet (Bor (List ℕ)) S) (made out out' : List ℕ) → AreMarked bytes rest known out
    → rest ≡ sealed text ++ after
    → ((earlier : List (List ℕ)) → AreKnown earlier known → made ≡ marks earlier (lines text))
    → ((earlier : List (List ℕ)) → AreKnown earlier known → AreKnown (earlier ++ lines text) known')
    → out' ≡ out ++ sealed made → AreMarked bytes after known' out'
one_more_listed bytes rest text after known known' made out out' h first marked grown pushed =
    let earlier = flat_map lines h.texts in
    let more : map lines (h.texts ++ text ∷ []) ≡ map lines h.texts ++ lines text ∷ [] = map-append lines h.texts (text ∷ []) in
    record {
      texts = h.texts ++ text ∷ [];
      texts_read = one_more_text_known bytes h.texts rest text after known known' h.texts_read first grown;
      wrote = pushed ∙ (λ i. h.wrote i ++ sealed (marked earlier h.texts_read.all_known i))
          ∙ ap (λ l. all_sealed (marks_in_turn [] (map lines h.texts)) ++ l) (sym (append-nil (sealed (marks earlier (lines text)))))
          ∙ sym (flat_map-append sealed (marks_in_turn [] (map lines h.texts)) (marks earlier (lines text) ∷ []))
          ∙ ap all_sealed (sym (turn_more [] h.texts (lines text)) ∙ ap (marks_in_turn []) (sym more));
    }

pub all_listed : {S : Type 0} (bytes rest : List ℕ) (known : IndexSet (Bor (List ℕ)) S) (out : List ℕ) → AreMarked bytes rest known out → rest ≡ []
    → (texts : List (List ℕ)) × (firsts : List (List ℕ)) × (bytes ≡ all_sealed texts) × AreFirst texts firsts × (out ≡ all_sealed firsts)
all_listed bytes rest known out h none =
    (h.texts, marks_in_turn [] (map lines h.texts), all_texts bytes h.texts rest h.texts_read.unsealed none, refl, h.wrote)

-- ---- borrowed texts

pub one_more_borrowed : (borrowed borrowed' : List (Bor (List ℕ))) (bytes rest text after : List ℕ) → bytes ≡ all_sealed (texts_of borrowed) ++ rest → rest ≡ sealed text ++ after
    → texts_of borrowed' ≡ texts_of borrowed ++ text ∷ [] → bytes ≡ all_sealed (texts_of borrowed') ++ after
one_more_borrowed borrowed borrowed' bytes rest text after all first pushed =
    sealed_push (texts_of borrowed) bytes rest text after all first ∙ ap (λ l. all_sealed l ++ after) (sym pushed)

-- ---- the marks that are taken

-- one more line of a partition was read
pub mark_taken : (k : ℕ) (before : List (List ℕ)) (line : List ℕ) (counts : List ℕ) (number : ℕ) → number ≡ hash line % k → number < length counts
    → AreTaken k before counts → AreTaken k (before ++ line ∷ []) (set counts number (get_or counts number 0 + 1))
mark_taken k before line counts number is inside h n low =
    ⊎_elim
    (λ (e : n ≡ number).
    ap (λ m. get_or (set counts number (get_or counts number 0 + 1)) m 0) e ∙ get_or-set_same counts number (get_or counts number 0 + 1) 0 inside
    ∙ ap (λ m. m + 1) (ap (λ m. get_or counts m 0) (sym e) ∙ h n low)
    ∙ sym (more (ap (eqb (hash line % k)) (e ∙ is) ∙ eq-eqb (hash line % k) (hash line % k) refl)))
    (λ (other : n ≡ number → ⊥).
    get_or-set_other counts number n (get_or counts number 0 + 1) 0 other ∙ h n low
    ∙ sym (same (ne_eqb (hash line % k) n (λ e. other (sym e ∙ sym is)))))
    (cases_eq n number)
  where
    whole : lines_in k n (before ++ line ∷ []) ≡ lines_in k n before ++ cond (is_in k n (hash line)) (line ∷ []) []
    whole = filter-append (λ l. is_in k n (hash l)) before (line ∷ [])

    more : is_in k n (hash line) ≡ true → length (lines_in k n (before ++ line ∷ [])) ≡ length (lines_in k n before) + 1
    more e = ap length (whole ∙ ap (λ b. lines_in k n before ++ cond b (line ∷ []) []) e) ∙ length-append (lines_in k n before) (line ∷ [])

    same : is_in k n (hash line) ≡ false → length (lines_in k n (before ++ line ∷ [])) ≡ length (lines_in k n before)
    same e = ap length (whole ∙ ap (λ b. lines_in k n before ++ cond b (line ∷ []) []) e ∙ append-nil (lines_in k n before))

-- the mark at this place
pub mark_found : (marked : List (Bor (List ℕ))) (before : List (List ℕ)) (line : List ℕ) (counts : List ℕ) (number : ℕ) (d : Bor (List ℕ)) → number ≡ hash line % length marked → number < length marked
    → AreTaken (length marked) before counts
    → (get_or (get_or marked number d).now (get_or counts number 0) 0 == 1) ≡ is_marked (texts_of marked) before line
mark_found marked before line counts number d is inside h =
    let long : length (texts_of marked) ≡ length marked = length-map marked (λ t. t.now) in
    let text : get_or (texts_of marked) number [] ≡ (get_or marked number d).now = get_or-map (λ t. t.now) marked number d [] inside in
    let place : get_or counts number 0 ≡ length (lines_in (length marked) number before) = h number inside in
    (λ i. get_or (sym text i) (place i) 0 == 1)
    ∙ ap (λ n. get_or (get_or (texts_of marked) n []) (length (lines_in (length marked) n before)) 0 == 1) is
    ∙ ap (λ k. get_or (get_or (texts_of marked) (hash line % k) []) (length (lines_in k (hash line % k) before)) 0 == 1) (sym long)

marked_push : (marked before ls : List (List ℕ)) (l : List ℕ) → marked_lines marked before (ls ++ l ∷ []) ≡ marked_lines marked before ls ++ (if is_marked marked (before ++ ls) l then l ∷ [] else [])
marked_push marked before [] l = ap (λ e. if is_marked marked e l then l ∷ [] else []) (sym (append-nil before))
marked_push marked before (x ∷ ls) l =
    let ih = marked_push marked (before ++ x ∷ []) ls l ∙ ap (λ e. marked_lines marked (before ++ x ∷ []) ls ++ (if is_marked marked e l then l ∷ [] else [])) (append_assoc before (x ∷ []) ls) in
    by (is_marked marked before x) (marked_lines marked (before ++ x ∷ []) (ls ++ l ∷ [])) (marked_lines marked (before ++ x ∷ []) ls) (if is_marked marked (before ++ x ∷ ls) l then l ∷ [] else []) ih
  where
    by : (b : Bool) (more others last : List (List ℕ)) → more ≡ others ++ last → (if b then x ∷ more else more) ≡ (if b then x ∷ others else others) ++ last
    by true more others last e = ap (λ l. x ∷ l) e
    by false more others last e = e

-- what is kept after some lines of a list were read
pub record IsKeeping (list rest : List ℕ) (marked : List (Bor (List ℕ))) (counts out : List ℕ) : Type 0 where
  pub read : List (List ℕ)
  pub are_read : lines list ≡ read ++ lines rest
  pub are_taken : AreTaken (length marked) read counts
  pub kept : out ≡ line_list (marked_lines (texts_of marked) [] read)

pub none_kept : (list : List ℕ) (marked : List (Bor (List ℕ))) (counts out : List ℕ) → counts ≡ replicate (length marked) 0 → out ≡ [] → IsKeeping list list marked counts out
none_kept list marked counts out zeros none = record {
  read = [];
  are_read = refl;
  are_taken = λ n low. ap (λ l. get_or l n 0) zeros ∙ get_or-replicate (length marked) n 0 0 low;
  kept = none;
}

pub one_more_kept : (list rest line after : List ℕ) (marked : List (Bor (List ℕ))) (counts counts' out out' : List ℕ) (is_new : Bool) → IsKeeping list rest marked counts out
    → lines rest ≡ line ∷ lines after
    → ((before : List (List ℕ)) → AreTaken (length marked) before counts → is_new ≡ is_marked (texts_of marked) before line)
    → ((before : List (List ℕ)) → AreTaken (length marked) before counts → AreTaken (length marked) (before ++ line ∷ []) counts')
    → out' ≡ out ++ (if is_new then line ++ codes "\n" else []) → IsKeeping list after marked counts' out'
one_more_kept list rest line after marked counts counts' out out' is_new h first new grown pushed = record {
  read = h.read ++ line ∷ [];
  are_read = lines_push list h.read rest line after h.are_read first;
  are_taken = grown h.read h.are_taken;
  kept = pushed ∙ (λ i. h.kept i ++ listed (new h.read h.are_taken i) i)
      ∙ sym (flat_map-append (λ text. text ++ codes "\n") (marked_lines (texts_of marked) [] h.read) (if is_marked (texts_of marked) h.read line then line ∷ [] else []))
      ∙ ap line_list (sym (marked_push (texts_of marked) [] h.read line));
}
  where
    listed : (b : Bool) → (if b then line ++ codes "\n" else []) ≡ line_list (if b then line ∷ [] else [])
    listed true = sym (append-nil (line ++ codes "\n"))
    listed false = refl

pub all_kept : (list rest : List ℕ) (marked : List (Bor (List ℕ))) (counts out : List ℕ) → IsKeeping list rest marked counts out → rest ≡ [] → 0 < length marked
    → ((n : ℕ) → n < length marked → length (get_or (texts_of marked) n []) ≡ get_or counts n 0) → IsKept list (texts_of marked) out
all_kept list rest marked counts out h none some each =
    let whole = all_lines_read list h.read rest h.are_read none in
    let long : length marked ≡ length (texts_of marked) = sym (length-map marked (λ t. t.now)) in
    record {
      some = subst (λ k. 0 < k) long some;
      each = λ n low.
          let inside : n < length marked = subst (λ k. n < k) (sym long) low in
          each n inside ∙ h.are_taken n inside ∙ (λ i. length (lines_in (long i) n (whole i)));
      kept = h.kept ∙ ap (λ ls. line_list (marked_lines (texts_of marked) [] ls)) whole;
    }

-- ---- marks that are missing or left over

-- the partition of the next line has no mark for it
pub no_mark_at : (marked : List (Bor (List ℕ))) (before : List (List ℕ)) (line : List ℕ) (counts : List ℕ) (number : ℕ) (d : Bor (List ℕ)) → number ≡ hash line % length marked → number < length marked
    → AreTaken (length marked) before counts → length (get_or marked number d).now ≤ get_or counts number 0 → HasNoMark (texts_of marked) before line
no_mark_at marked before line counts number d is inside h few =
    let long : length (texts_of marked) ≡ length marked = length-map marked (λ t. t.now) in
    let text : get_or (texts_of marked) number [] ≡ (get_or marked number d).now = get_or-map (λ t. t.now) marked number d [] inside in
    subst (λ k. length (get_or (texts_of marked) (hash line % k) []) ≤ length (lines_in k (hash line % k) before)) (sym long)
    (subst (λ n. length (get_or (texts_of marked) n []) ≤ length (lines_in (length marked) n before)) is (omega (arith, few, ap length text, h number inside)))

pub no_mark : (list rest line after : List ℕ) (marked : List (Bor (List ℕ))) (counts out text : List ℕ) → IsKeeping list rest marked counts out → lines rest ≡ line ∷ lines after
    → ((before : List (List ℕ)) → AreTaken (length marked) before counts → HasNoMark (texts_of marked) before line) → IsKept list (texts_of marked) text → ⊥
no_mark list rest line after marked counts out text h first none kept =
    let k = length (texts_of marked) in
    let number = hash line % k in
    let others = lines_in k number (lines after) in
    let here : is_in k number (hash line) ≡ true = eq-eqb number number refl in
    let counted : length (lines_in k number (lines list)) ≡ length (lines_in k number h.read) + suc (length others) =
    ap (λ ls. length (lines_in k number ls)) (h.are_read ∙ ap (λ l. h.read ++ l) first)
    ∙ ap length (filter-append (λ l. is_in k number (hash l)) h.read (line ∷ lines after))
    ∙ length-append (lines_in k number h.read) (lines_in k number (line ∷ lines after))
    ∙ ap (λ b. length (lines_in k number h.read) + length (cond b (line ∷ others) others)) here in
    omega (arith, none h.read h.are_taken, kept.each number (mod-lt (hash line) kept.some), counted)

-- not all marks were taken
pub mark_left : (list rest : List ℕ) (marked : List (Bor (List ℕ))) (counts out text : List ℕ) → IsKeeping list rest marked counts out → rest ≡ []
    → (((n : ℕ) → n < length marked → length (get_or (texts_of marked) n []) ≡ get_or counts n 0) → ⊥) → IsKept list (texts_of marked) text → ⊥
mark_left list rest marked counts out text h none other kept =
    let whole = all_lines_read list h.read rest h.are_read none in
    let long : length marked ≡ length (texts_of marked) = sym (length-map marked (λ t. t.now)) in
    other (λ n low. kept.each n (subst (λ k. n < k) long low) ∙ sym (h.are_taken n low ∙ (λ i. length (lines_in (long i) n (whole i)))))
