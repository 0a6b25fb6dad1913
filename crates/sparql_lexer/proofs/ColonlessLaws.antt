-- Texts in which no PNAME_NS begins.
use Rattle.std.proofs.Common.{◌≡◌, ℕ, ◌<◌, ◌≤◌, List, [], ◌∷◌, length, Bool, true, false, ◌-◌, suc, get_or, refl, sym, ap, ◌∙◌, subst, arith, ◌⊎◌, inl, inr, nat_eq, nat_le, if◌then◌else◌}
use Rattle.std.proofs.lemmas.Bool.Decides.{nat_tests}
use Rattle.rdf_core.specs.Characters.{is_pn_chars_base, is_name_start, is_name_char}
use Rattle.sparql_lexer.specs.Blanks.{beyond, after_blanks}
use Rattle.sparql_lexer.specs.Characters.{is_base, is_name_part, is_line_end, is_space}
use Rattle.sparql_lexer.specs.Colonless.{HasSuffix, here, next, is_name_or_dot, HasNoNamespace, NameEndsAt}
use Rattle.sparql_lexer.specs.Names.{namespace, prefixed_name, local, tail}
use Rattle.sparql_lexer.specs.Pattern.{character, ◌or◌, many, is, Matches, is_nothing, is_character, both, left, right, no_more, one_more, EndsAt, Nowhere}
use Rattle.sparql_lexer.proofs.PatternLaws.{rest_suffix, suffix_of_suffix, same_suffix, suffix_shorter, shorter, along, many_append, moved, sure_character, or_left, or_right, tail_inside, then_none}

name_or_dot_colon : is_name_or_dot 58 ≡ false
unfolding is_name_char is_name_start is_pn_chars_base
name_or_dot_colon = refl

in_one_class : {ts r : List ℕ} → Matches (many (character is_name_part or is 46)) ts r → Matches (many (character is_name_or_dot)) ts r
in_one_class no_more = no_more
in_one_class (one_more (left (is_character {c = c} e)) d) = one_more (is_character (or_left (is_name_part c) (nat_eq 46 c) e)) (in_one_class d)
in_one_class (one_more (right (is_character {c = c} e)) d) = one_more (is_character (or_right (is_name_part c) (nat_eq 46 c) e)) (in_one_class d)

run_from : {p : ℕ → Bool} {ts m h : List ℕ} → Matches (many (character p)) ts h → HasSuffix ts m → length h ≤ length m → Matches (many (character p)) m h
run_from no_more b l = moved (same_suffix here b (let k = suffix_shorter b in omega arith)) no_more
run_from (one_more e d) here l = one_more e d
run_from (one_more (is_character e) d) (next b) l = run_from d b l

true_false : {b : Bool} → b ≡ true → b ≡ false → ⊥
true_false h k = let e = sym h ∙ k in (cc)

same_colon : (c : ℕ) → nat_eq 58 c ≡ true → 58 ≡ c
same_colon c f = grind (arith, nat_tests)

no_colon : {ts r : List ℕ} {m : List ℕ} → Matches (many (character is_name_or_dot)) ts m → length m < length ts → Matches (is 58) ts r → ⊥
no_colon no_more l d = absurd (omega arith)
no_colon (one_more (is_character {c = c} e) d) l (is_character f) = true_false e (subst (λ z. is_name_or_dot z ≡ false) (same_colon c f) name_or_dot_colon)

le_or_lt : (a b : ℕ) → (a ≤ b) ⊎ (b < a)
le_or_lt a b = go (nat_le a b) refl
  where
    go : (t : Bool) → nat_le a b ≡ t → (a ≤ b) ⊎ (b < a)
    go true e = inl (grind (arith, nat_tests))
    go false e = inr (grind (arith, nat_tests))

-- two runs from one place, the first of which ends before a colon
run_meets : {ts m end r : List ℕ} → Matches (many (character is_name_or_dot)) ts m → Matches (is 58) m r → Matches (many (character is_name_or_dot)) ts end → ((t : List ℕ) → Matches (many (character is_name_or_dot)) end t → length end ≤ length t) → m ≡ end
run_meets {m = m} {end = end} {r = r} d x e longest = go (along (sure_character is_name_or_dot) d e)
  where
    go : Matches (many (character is_name_or_dot)) m end ⊎ Matches (many (character is_name_or_dot)) end m → m ≡ end
    go (inl a) = elim (le_or_lt (length m) (length end)) [ inl l ↦ sym (same_suffix (rest_suffix a) here (let k = shorter a in omega arith)) | inr l ↦ absurd (no_colon a l x) ]
    go (inr a) = sym (same_suffix here (rest_suffix a) (let k = longest m a in let l = shorter a in omega arith))

-- a run and a colon after another run
run_colon : {ts m end r : List ℕ} → Matches (many (character is_name_or_dot)) ts m → Matches (is 58) m r → Matches (many (character is_name_or_dot)) ts end → ((t : List ℕ) → Matches (many (character is_name_or_dot)) end t → length end ≤ length t) → Nowhere (is 58) end → ⊥
run_colon {r = r} d x e longest none = none.none r (moved (run_meets d x e longest) x)

-- no namespace begins in a run that no colon follows
clear_run : {p end r : List ℕ} → Matches (many (character is_name_or_dot)) p end → length end < length p → ((t : List ℕ) → Matches (many (character is_name_or_dot)) end t → length end ≤ length t) → Nowhere (is 58) end → Matches namespace p r → ⊥
clear_run run l longest none (both (left is_nothing) x) = no_colon run l x
clear_run no_more l longest none (both (right (both b t)) x) = absurd (omega arith)
clear_run (one_more (is_character e) run) l longest none (both {mid = m} (right (both {mid = k} (is_character f) t)) x) = run_colon (in_one_class (tail_inside k m t)) x run longest none

base_is_no_dot : is_base 46 ≡ false
unfolding is_pn_chars_base
base_is_no_dot = refl

part_is_no_dot : is_name_part 46 ≡ false
unfolding is_name_char is_name_start is_pn_chars_base
part_is_no_dot = refl

-- the character before the end is not a dot
not_dotted : (p : ℕ → Bool) {c : ℕ} {text end : List ℕ} → HasSuffix text (c ∷ end) → HasSuffix text (46 ∷ end) → p c ≡ true → p 46 ≡ false → ⊥
not_dotted p b d e f = true_false (subst (λ z. p z ≡ true) (ap (λ xs. get_or xs 0 0) (same_suffix b d refl)) e) f

-- a name does not end with a dot
name_dotted : {c : ℕ} {k m text : List ℕ} → is_base c ≡ true → Matches (tail (character is_name_part)) k m → HasSuffix text (c ∷ k) → HasSuffix text (46 ∷ m) → ⊥
name_dotted e (left is_nothing) b d = not_dotted is_base b d e base_is_no_dot
name_dotted e (right (both a (is_character f))) b d = not_dotted is_name_part (suffix_of_suffix b (next (rest_suffix a))) d f part_is_no_dot

-- no namespace begins in a run that ends with a dot
dotted_run : {p end r text : List ℕ} → Matches (many (character is_name_or_dot)) p end → length end < length p → ((t : List ℕ) → Matches (many (character is_name_or_dot)) end t → length end ≤ length t) → HasSuffix text p → HasSuffix text (46 ∷ end) → Matches namespace p r → ⊥
dotted_run run l longest b d (both (left is_nothing) x) = no_colon run l x
dotted_run no_more l longest b d (both (right (both f t)) x) = absurd (omega arith)
dotted_run {text = text} (one_more (is_character e) run) l longest b d (both {mid = m} (right (both {mid = k} (is_character f) t)) x) =
    name_dotted f t b (subst (λ z. HasSuffix text (46 ∷ z)) (sym (run_meets (in_one_class (tail_inside k m t)) x run longest)) d)

pub clear_dotted : (text end : List ℕ) → EndsAt (many (character is_name_or_dot)) text end → HasSuffix text (46 ∷ end) → HasNoNamespace text end
clear_dotted text end run d =
    record { none = λ place rest b l n. dotted_run (run_from run.matches b (let k = l in omega arith)) l (λ t e. run.longest t (many_append run.matches e)) b d n }

last_next : (x c : ℕ) {ts end : List ℕ} → HasSuffix ts end → (length end < length ts → HasSuffix ts (get_or ts (length ts - length end - 1) x ∷ end)) → HasSuffix (c ∷ ts) (get_or (c ∷ ts) (length (c ∷ ts) - length end - 1) x ∷ end)
last_next x c {ts = ts} {end = end} b h = elim (le_or_lt (length ts) (length end)) [ inl k ↦ ends k | inr k ↦ goes k ]
  where
    ends : length ts ≤ length end → HasSuffix (c ∷ ts) (get_or (c ∷ ts) (length (c ∷ ts) - length end - 1) x ∷ end)
    ends k =
        let m = suffix_shorter b in
        let i : length (c ∷ ts) - length end - 1 ≡ 0 = omega (arith, k, m) in
        rw i (subst (λ ys. HasSuffix (c ∷ ts) (c ∷ ys)) (same_suffix here b (omega (arith, k, m))) here)

    goes : length end < length ts → HasSuffix (c ∷ ts) (get_or (c ∷ ts) (length (c ∷ ts) - length end - 1) x ∷ end)
    goes k =
        let i : length (c ∷ ts) - length end - 1 ≡ suc (length ts - length end - 1) = omega (arith, k) in
        rw i (next (h k))

-- the last character before the end
last_suffix : (x : ℕ) {text end : List ℕ} → HasSuffix text end → length end < length text → HasSuffix text (get_or text (length text - length end - 1) x ∷ end)
last_suffix x here l = absurd (omega arith)
last_suffix x (next {c = c} b) l = last_next x c b (λ k. last_suffix x b k)

same_dot : (c : ℕ) → nat_eq c 46 ≡ true → c ≡ 46
same_dot c f = grind (arith, nat_tests)

-- the last character before the end, if it is a dot
pub dot_suffix : (x : ℕ) {text end : List ℕ} → HasSuffix text end → length end < length text → x ≡ get_or text (length text - length end - 1) x → nat_eq x 46 ≡ true → HasSuffix text (46 ∷ end)
dot_suffix x {text = text} {end = end} b l e f = subst (λ c. HasSuffix text (c ∷ end)) (sym e ∙ same_dot x f) (last_suffix x b l)

-- the run at a place inside a run
run_inside : {text place end : List ℕ} → HasSuffix text place → length end < length place → EndsAt (many (character is_name_or_dot)) text end → EndsAt (many (character is_name_or_dot)) place end
run_inside {place = place} {end = end} b l run = record { matches = from; longest = λ t e. go t (along (sure_character is_name_or_dot) from e) }
  where
    from : Matches (many (character is_name_or_dot)) place end
    from = run_from run.matches b (let k = l in omega arith)

    go : (t : List ℕ) → Matches (many (character is_name_or_dot)) end t ⊎ Matches (many (character is_name_or_dot)) t end → length end ≤ length t
    go t (inl a) = run.longest t (many_append run.matches a)
    go t (inr a) = shorter a

-- a text does not begin before itself
pub run_start : (text : List ℕ) → NameEndsAt text text
run_start text l = absurd (omega (arith, l))

pub run_goes_on : (text place end : List ℕ) → HasSuffix text place → length end < length place → NameEndsAt text end → EndsAt (many (character is_name_or_dot)) place end
run_goes_on text place end b l h = run_inside b l (h (let k = suffix_shorter b in omega (arith, k, l)))

pub run_left : (text place end : List ℕ) → HasSuffix text place → EndsAt (many (character is_name_or_dot)) text end → NameEndsAt place end
run_left text place end b run l = run_inside b l run

pub clear_to : (text end : List ℕ) → EndsAt (many (character is_name_or_dot)) text end → Nowhere (is 58) end → HasNoNamespace text end
clear_to text end run none = record { none = λ place rest b l d. clear_run (run_from run.matches b (let k = l in omega arith)) l (λ t e. run.longest t (many_append run.matches e)) none d }

pub clear_here : (text end : List ℕ) → length text ≤ length end → HasNoNamespace text end
clear_here text end l = record { none = λ place rest b k d. absurd (let m = suffix_shorter b in let n = k in omega arith) }

pub clear_namespace : (text end : List ℕ) → HasNoNamespace text end → length end < length text → Nowhere namespace text
clear_namespace text end h l = record { none = λ rest d. h.none text rest here l d }

pub clear_name : (text end : List ℕ) → HasNoNamespace text end → length end < length text → Nowhere prefixed_name text
clear_name text end h l = then_none namespace local text (clear_namespace text end h l)

-- the text after white space is a suffix of the text
blanks_suffix : (inside : Bool) (ts : List ℕ) → HasSuffix ts (beyond inside ts)
blanks_suffix inside [] = here
blanks_suffix true (c ∷ cs) = go (is_line_end c) (blanks_suffix false cs) (blanks_suffix true cs)
  where
    go : (b : Bool) → HasSuffix cs (beyond false cs) → HasSuffix cs (beyond true cs) → HasSuffix (c ∷ cs) (if b then beyond false cs else beyond true cs)
    go true x y = next x
    go false x y = next y
blanks_suffix false (c ∷ cs) = go (nat_eq 35 c) (is_space c) (blanks_suffix false cs) (blanks_suffix true cs)
  where
    go : (a b : Bool) → HasSuffix cs (beyond false cs) → HasSuffix cs (beyond true cs) → HasSuffix (c ∷ cs) (if a then beyond true cs else (if b then beyond false cs else (c ∷ cs)))
    go true b x y = next y
    go false true x y = next x
    go false false x y = here

pub blanks_place : (ts place : List ℕ) → place ≡ after_blanks ts → HasSuffix ts place
blanks_place ts place e = subst (HasSuffix ts) (sym e) (blanks_suffix false ts)
