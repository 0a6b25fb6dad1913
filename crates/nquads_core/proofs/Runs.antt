-- Blanks, labels and tags, as the code reads them.
use Rattle.std.proofs.Common.{◌≡◌, ℕ, zero, suc, ◌<◌, Bool, true, false, cond, eqb, List, [], ◌∷◌, ◌++◌, length, map, replicate, refl, sym, ap, ◌∙◌, length-append, arith, subst, inl, inr, Some, None}
use Rattle.std.specs.Prelude.{◌||◌, ◌&&◌}
use Rattle.std.specs.Str.{IsUtf8, chars, encode_utf8_all}
use Rattle.std.specs.Char.{is_ascii_alphabetic, is_ascii_alphanumeric, to_ascii_lowercase}
use Rattle.std.proofs.lemmas.Bool.Decides.{nat_tests}
use Rattle.std.proofs.lemmas.List.{append_cancel_right}
use Rattle.std.proofs.lemmas.Str.{encodes-chars, encodes-append, encode_ascii}
use Rattle.rdf_core.specs.Characters.{is_label_start, is_label_char, is_name_start, is_pn_chars_base}
use Rattle.nquads_core.specs.Terminal.{is_blank}
use Rattle.rdf_core.specs.Characters.{begins}
use Rattle.nquads_core.specs.LineParser.{skip_blanks, take_dot, label_tail_at, label_at, subtags_at, tag_tail_at, tag_at}
use Rattle.rdf_core.proofs.EscapeSteps.{eqb_no, which}

-- what the characters say of the bytes
pub front_of : (text rest front : List ℕ) → IsUtf8 text → IsUtf8 rest → chars text ≡ front ++ chars rest → text ≡ encode_utf8_all front ++ rest
front_of text rest front u v e =
    sym (encodes-chars text u) ∙ ap encode_utf8_all e ∙ encodes-append front (chars rest) ∙ ap (λ (t : List ℕ). encode_utf8_all front ++ t) (encodes-chars rest v)

pub pair_is : (a b c d : List ℕ) → a ≡ b → c ≡ d → ◌≡◌ {A = List ℕ × List ℕ} (a, c) (b, d)
pair_is a b c d e f = rw (e, f) refl

-- ---- blanks

pub blanks_end : (cs : List ℕ) → cs ≡ [] → skip_blanks cs ≡ cs
unfolding skip_blanks
blanks_end cs e = rw e refl

pub blanks_stop : (c : ℕ) (cs ds : List ℕ) → cs ≡ c ∷ ds → is_blank c ≡ false → skip_blanks cs ≡ cs
unfolding skip_blanks
blanks_stop c cs ds e b = rw (e, b) refl

pub blanks_step : (c : ℕ) (cs ds : List ℕ) → cs ≡ c ∷ ds → is_blank c ≡ true → skip_blanks cs ≡ skip_blanks ds
unfolding skip_blanks
blanks_step c cs ds e b = rw (e, b) refl

-- ---- labels

pub take_dot_some : (c : ℕ) (cs xs rest : List ℕ) → 0 < length xs → take_dot c cs xs rest ≡ (c ∷ xs, rest)
take_dot_some c cs [] rest h = absurd (omega arith)
take_dot_some c cs (x ∷ xs) rest h = refl

-- dots, and then a label's character
pub tail_dots : (d c : ℕ) (cs : List ℕ) → is_label_char c ≡ true → label_tail_at (replicate d 46 ++ c ∷ cs) ≡ (replicate d 46 ++ c ∷ (label_tail_at cs).0, (label_tail_at cs).1)
unfolding label_tail_at is_label_char is_label_start is_name_start is_pn_chars_base
tail_dots zero c cs h = rw h refl
tail_dots (suc d) c cs h =
    rw (tail_dots d c cs h) (take_dot_some 46 (replicate d 46 ++ c ∷ cs) (replicate d 46 ++ c ∷ (label_tail_at cs).0) (label_tail_at cs).1 (omega (arith, length-append (replicate d 46) (c ∷ (label_tail_at cs).0))))

-- the tail is empty here
abbrev pub Stops : List ℕ → Type 0
Stops cs = label_tail_at cs ≡ ([], cs)

pub Stops-nil : (cs : List ℕ) → cs ≡ [] → Stops cs
unfolding label_tail_at
Stops-nil cs e = rw e refl

pub Stops-cons : (c : ℕ) (cs ds : List ℕ) → cs ≡ c ∷ ds → is_label_char c ≡ false → (c ≡ 46 → ⊥) → Stops cs
unfolding label_tail_at
Stops-cons c cs ds e h k = rw (e, h, eqb_no c 46 k) refl

pub tail_ends : (d : ℕ) (cs : List ℕ) → Stops cs → Stops (replicate d 46 ++ cs)
unfolding label_tail_at is_label_char is_label_start is_name_start is_pn_chars_base
tail_ends zero cs h = h
tail_ends (suc d) cs h = rw (tail_ends d cs h) refl

abbrev joined : List ℕ × List ℕ → List ℕ
joined t = t.0 ++ t.1

parts_cases : (b d : Bool) (c : ℕ) (cs a r : List ℕ) → a ++ r ≡ cs → joined (cond b (c ∷ a, r) (cond d (take_dot c cs a r) ([], c ∷ cs))) ≡ c ∷ cs
parts_cases true d c cs a r e = ap (λ (t : List ℕ). c ∷ t) e
parts_cases false true c cs [] r e = refl
parts_cases false true c cs (x ∷ xs) r e = ap (λ (t : List ℕ). c ∷ t) e
parts_cases false false c cs a r e = refl

pub label_parts : (cs : List ℕ) → (label_tail_at cs).0 ++ (label_tail_at cs).1 ≡ cs
unfolding label_tail_at
label_parts [] = refl
label_parts (c ∷ cs) = parts_cases (is_label_char c) (eqb c 46) c cs (label_tail_at cs).0 (label_tail_at cs).1 (label_parts cs)

-- good follows the last character of the label so far, and between it and rest are dots
pub record LabelTail (good rest text : List ℕ) : Type 0 where
  pub good_utf8 : IsUtf8 good
  pub rest_utf8 : IsUtf8 rest
  pub dots : ℕ
  pub between : chars good ≡ replicate dots 46 ++ chars rest
  pub same : (label_tail_at (chars good)).1 ≡ (label_tail_at (chars text)).1

pub tail_goes_on : (good rest text next : List ℕ) (c : ℕ) → LabelTail good rest text → chars rest ≡ c ∷ chars next → IsUtf8 next → is_label_char c ≡ true → LabelTail next next text
tail_goes_on good rest text next c h e u l =
    record {
      good_utf8 = u;
      rest_utf8 = u;
      dots = 0;
      between = refl;
      same = sym (ap (λ (t : List ℕ). (label_tail_at t).1) (h.between ∙ ap (λ (t : List ℕ). replicate h.dots 46 ++ t) e) ∙ ap (λ (t : List ℕ × List ℕ). t.1) (tail_dots h.dots c (chars next) l)) ∙ h.same;
    }

dot_more : (d : ℕ) (cs : List ℕ) → replicate d 46 ++ 46 ∷ cs ≡ replicate (suc d) 46 ++ cs
dot_more zero cs = refl
dot_more (suc d) cs = ap (λ (t : List ℕ). 46 ∷ t) (dot_more d cs)

pub tail_dot : (good rest text next : List ℕ) (c : ℕ) → LabelTail good rest text → chars rest ≡ c ∷ chars next → IsUtf8 next → c ≡ 46 → LabelTail good next text
tail_dot good rest text next c h e u k =
    record {
      good_utf8 = h.good_utf8;
      rest_utf8 = u;
      dots = suc h.dots;
      between = h.between ∙ ap (λ (t : List ℕ). replicate h.dots 46 ++ t) (e ∙ ap (λ n. n ∷ chars next) k) ∙ dot_more h.dots (chars next);
      same = h.same;
    }

pub tail_done : (good rest text : List ℕ) → LabelTail good rest text → Stops (chars rest) → chars good ≡ (label_tail_at (chars text)).1
tail_done good rest text h s =
    sym (ap (λ (t : List ℕ × List ℕ). t.1) (subst Stops (sym h.between) (tail_ends h.dots (chars rest) s))) ∙ h.same

-- ---- tags

pub subtags_end : (cs : List ℕ) → cs ≡ [] → (subtags_at cs).1 ≡ cs
unfolding subtags_at
subtags_end cs e = rw e refl

pub subtags_stop : (c : ℕ) (cs ds : List ℕ) → cs ≡ c ∷ ds → (is_ascii_alphanumeric c || (eqb c 45 && begins is_ascii_alphanumeric ds)) ≡ false → (subtags_at cs).1 ≡ cs
unfolding subtags_at
subtags_stop c cs ds e h = rw (e, h) refl

pub subtags_step : (c : ℕ) (cs ds : List ℕ) → cs ≡ c ∷ ds → (is_ascii_alphanumeric c || (eqb c 45 && begins is_ascii_alphanumeric ds)) ≡ true → (subtags_at cs).1 ≡ (subtags_at ds).1
unfolding subtags_at
subtags_step c cs ds e h = rw (e, h) refl

pub primary_end : (cs : List ℕ) → cs ≡ [] → (tag_tail_at cs).1 ≡ cs
unfolding tag_tail_at
primary_end cs e = rw e refl

pub primary_step : (c : ℕ) (cs ds : List ℕ) → cs ≡ c ∷ ds → is_ascii_alphabetic c ≡ true → (tag_tail_at cs).1 ≡ (tag_tail_at ds).1
unfolding tag_tail_at
primary_step c cs ds e h = rw (e, h) refl

pub primary_hyphen : (c : ℕ) (cs ds : List ℕ) → cs ≡ c ∷ ds → is_ascii_alphabetic c ≡ false → (eqb c 45 && begins is_ascii_alphanumeric ds) ≡ true → (tag_tail_at cs).1 ≡ (subtags_at ds).1
unfolding tag_tail_at
primary_hyphen c cs ds e h k = rw (e, h, k) refl

pub primary_stop : (c : ℕ) (cs ds : List ℕ) → cs ≡ c ∷ ds → is_ascii_alphabetic c ≡ false → (eqb c 45 && begins is_ascii_alphanumeric ds) ≡ false → (tag_tail_at cs).1 ≡ cs
unfolding tag_tail_at
primary_stop c cs ds e h k = rw (e, h, k) refl

two_parts : (b : Bool) (c : ℕ) (cs a r : List ℕ) → a ++ r ≡ cs → joined (cond b (c ∷ a, r) ([], c ∷ cs)) ≡ c ∷ cs
two_parts true c cs a r e = ap (λ (t : List ℕ). c ∷ t) e
two_parts false c cs a r e = refl

three_parts : (b d : Bool) (c : ℕ) (cs a r a' r' : List ℕ) → a ++ r ≡ cs → a' ++ r' ≡ cs → joined (cond b (c ∷ a, r) (cond d (c ∷ a', r') ([], c ∷ cs))) ≡ c ∷ cs
three_parts true d c cs a r a' r' e f = ap (λ (t : List ℕ). c ∷ t) e
three_parts false true c cs a r a' r' e f = ap (λ (t : List ℕ). c ∷ t) f
three_parts false false c cs a r a' r' e f = refl

pub subtags_parts : (cs : List ℕ) → (subtags_at cs).0 ++ (subtags_at cs).1 ≡ cs
unfolding subtags_at
subtags_parts [] = refl
subtags_parts (c ∷ cs) = two_parts (is_ascii_alphanumeric c || (eqb c 45 && begins is_ascii_alphanumeric cs)) c cs (subtags_at cs).0 (subtags_at cs).1 (subtags_parts cs)

pub primary_parts : (cs : List ℕ) → (tag_tail_at cs).0 ++ (tag_tail_at cs).1 ≡ cs
unfolding tag_tail_at
primary_parts [] = refl
primary_parts (c ∷ cs) = three_parts (is_ascii_alphabetic c) (eqb c 45 && begins is_ascii_alphanumeric cs) c cs (tag_tail_at cs).0 (tag_tail_at cs).1 (subtags_at cs).0 (subtags_at cs).1 (primary_parts cs) (subtags_parts cs)

-- all is ASCII
pub alnum_ascii : (c : ℕ) (b : Bool) → (is_ascii_alphanumeric c || (eqb c 45 && b)) ≡ true → c < 128
alnum_ascii c b h = grind (arith, nat_tests)

pub alpha_ascii : (c : ℕ) → is_ascii_alphabetic c ≡ true → c < 128
alpha_ascii c h = grind (arith, nat_tests)

hyphen_ascii : (c : ℕ) (b : Bool) → (eqb c 45 && b) ≡ true → c < 128
hyphen_ascii c b h = grind (arith, nat_tests)

pub ascii_cons : (c : ℕ) (xs : List ℕ) → c < 128 → encode_utf8_all xs ≡ xs → encode_utf8_all (c ∷ xs) ≡ c ∷ xs
ascii_cons c xs h e = rw (encode_ascii c h, e) refl

pub subtags_ascii : (cs : List ℕ) → encode_utf8_all (subtags_at cs).0 ≡ (subtags_at cs).0
unfolding subtags_at
subtags_ascii [] = refl
subtags_ascii (c ∷ cs) =
    elim (which (is_ascii_alphanumeric c || (eqb c 45 && begins is_ascii_alphanumeric cs))) [
      | inl h ↦ rw h (ascii_cons c (subtags_at cs).0 (alnum_ascii c (begins is_ascii_alphanumeric cs) h) (subtags_ascii cs))
      | inr h ↦ rw h refl
    ]

pub primary_ascii : (cs : List ℕ) → encode_utf8_all (tag_tail_at cs).0 ≡ (tag_tail_at cs).0
unfolding tag_tail_at
primary_ascii [] = refl
primary_ascii (c ∷ cs) =
    elim (which (is_ascii_alphabetic c)) [
      | inl h ↦ rw h (ascii_cons c (tag_tail_at cs).0 (alpha_ascii c h) (primary_ascii cs))
      | inr h ↦ elim (which (eqb c 45 && begins is_ascii_alphanumeric cs)) [
        | inl k ↦ rw (h, k) (ascii_cons c (subtags_at cs).0 (hyphen_ascii c (begins is_ascii_alphanumeric cs) k) (subtags_ascii cs))
        | inr k ↦ rw (h, k) refl
      ]
    ]

-- ---- a label and a tag as a whole

pub label_nil : (cs : List ℕ) → cs ≡ [] → label_at cs ≡ None
unfolding label_at
label_nil cs e = rw e refl

pub label_no : (c : ℕ) (cs ds : List ℕ) → cs ≡ c ∷ ds → is_label_start c ≡ false → label_at cs ≡ None
unfolding label_at
label_no c cs ds e h = rw (e, h) refl

pub label_front : (c : ℕ) (text after rest : List ℕ) → IsUtf8 text → IsUtf8 rest → chars text ≡ c ∷ chars after → chars rest ≡ (label_tail_at (chars after)).1 → text ≡ encode_utf8_all (c ∷ (label_tail_at (chars after)).0) ++ rest
label_front c text after rest u v e t =
    front_of text rest (c ∷ (label_tail_at (chars after)).0) u v (e ∙ ap (λ (x : List ℕ). c ∷ x) (sym (label_parts (chars after)) ∙ ap (λ (x : List ℕ). (label_tail_at (chars after)).0 ++ x) (sym t)))

pub label_yes : (c : ℕ) (text after rest label : List ℕ) → IsUtf8 text → IsUtf8 rest → chars text ≡ c ∷ chars after → is_label_start c ≡ true → chars rest ≡ (label_tail_at (chars after)).1 → text ≡ label ++ rest → label_at (chars text) ≡ Some (label, chars rest)
unfolding label_at
label_yes c text after rest label u v e h t l =
    let same = append_cancel_right label (encode_utf8_all (c ∷ (label_tail_at (chars after)).0)) rest (sym l ∙ label_front c text after rest u v e t) in
    rw (e, h) (ap (λ (x : List ℕ × List ℕ). Some x) (pair_is (encode_utf8_all (c ∷ (label_tail_at (chars after)).0)) label (label_tail_at (chars after)).1 (chars rest) (sym same) (sym t)))

pub tag_nil : (cs : List ℕ) → cs ≡ [] → tag_at cs ≡ None
unfolding tag_at
tag_nil cs e = rw e refl

pub tag_no : (c : ℕ) (cs ds : List ℕ) → cs ≡ c ∷ ds → is_ascii_alphabetic c ≡ false → tag_at cs ≡ None
unfolding tag_at
tag_no c cs ds e h = rw (e, h) refl

pub tag_front : (text rest : List ℕ) → IsUtf8 text → IsUtf8 rest → chars rest ≡ (tag_tail_at (chars text)).1 → text ≡ encode_utf8_all (tag_tail_at (chars text)).0 ++ rest
tag_front text rest u v t =
    front_of text rest (tag_tail_at (chars text)).0 u v (sym (primary_parts (chars text)) ∙ ap (λ (x : List ℕ). (tag_tail_at (chars text)).0 ++ x) (sym t))

pub tag_yes : (c : ℕ) (text after rest tag lower : List ℕ) → IsUtf8 text → IsUtf8 rest → chars text ≡ c ∷ chars after → is_ascii_alphabetic c ≡ true → chars rest ≡ (tag_tail_at (chars text)).1 → text ≡ tag ++ rest → lower ≡ map to_ascii_lowercase tag → tag_at (chars text) ≡ Some (lower, chars rest)
unfolding tag_at
tag_yes c text after rest tag lower u v e h t l low =
    let same = append_cancel_right tag (encode_utf8_all (tag_tail_at (chars text)).0) rest (sym l ∙ tag_front text rest u v t) ∙ primary_ascii (chars text) in
    let starts : begins is_ascii_alphabetic (chars text) ≡ true = rw e h in
    rw starts (ap (λ (x : List ℕ × List ℕ). Some x) (pair_is (map to_ascii_lowercase (tag_tail_at (chars text)).0) lower (tag_tail_at (chars text)).1 (chars rest) (sym (low ∙ ap (λ (x : List ℕ). map to_ascii_lowercase x) same)) (sym t)))
