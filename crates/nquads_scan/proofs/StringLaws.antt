-- The string at the front of a literal, which a search for a quote and a backslash passed over.
use Rattle.std.proofs.Common.{◌≡◌, ℕ, zero, suc, ◌+◌, ◌-◌, ◌<◌, Bool, true, false, eqb, length, List, [], ◌∷◌, ◌++◌, drop, take, get_or, slice_range, refl, sym, ap, subst, ◌∙◌, arith}
use Rattle.std.specs.Prelude.{not, ◌||◌}
use Rattle.std.specs.List.{list_all}
use Rattle.std.specs.Str.{IsUtf8}
use Rattle.std.proofs.lemmas.List.{drop_more, take-append-drop}
use Rattle.rdf_core.specs.Characters.{is_string_char}
use Rattle.rdf_core.proofs.EscapeLaws.{and_is}
use Rattle.nquads_scan.specs.Ends.{is_sought, IsPassed}
use Rattle.nquads_scan.specs.Plain.{IsPlainString}
use Rattle.nquads_scan.proofs.NoEnds.{false_true}

-- the four tests, in pairs and one after another
none_of_four : (p q r s : Bool) → ((p || q) || (r || s)) ≡ false → not (((p || q) || r) || s) ≡ true
none_of_four true q r s e = absurd (false_true (sym e))
none_of_four false true r s e = absurd (false_true (sym e))
none_of_four false false r s e = ap not e

string_char : (c : ℕ) → is_sought 34 92 c ≡ false → is_string_char c ≡ true
string_char c h = none_of_four (eqb c 34) (eqb c 92) (eqb c 10) (eqb c 13) h

pub passed_take : (xs : List ℕ) (n : ℕ) → ((k : ℕ) → k < n → is_sought 34 92 (get_or xs k 0) ≡ false) → list_all is_string_char (take n xs) ≡ true
passed_take xs zero h = refl
passed_take [] (suc n) h = refl
passed_take (b ∷ xs) (suc n) h =
    and_is (is_string_char b) (list_all is_string_char (take n xs)) (string_char b (h 0 (omega arith))) (passed_take xs n (λ k high. h (suc k) (omega (arith, high))))

-- what is between the quotes
string_passed : (text : List ℕ) (end : ℕ) → IsPassed 34 92 text 1 end → list_all is_string_char (slice_range text 1 end) ≡ true
string_passed [] end h = passed_take [] (end - 1) (λ k high. refl)
string_passed (x ∷ xs) end h = passed_take xs (end - 1) (λ k high. h.each (suc k) (omega arith) (omega (arith, high)))

suc_one : (n : ℕ) → suc n + 1 ≡ suc (n + 1)
suc_one n = omega arith

string_at : (text : List ℕ) (end : ℕ) → 0 < end → end < length text → get_or text 0 0 ≡ 34 → get_or text end 0 ≡ 34 → text ≡ 34 ∷ (slice_range text 1 end ++ 34 ∷ drop (end + 1) text)
string_at [] end p l e f = absurd (omega (arith, l))
string_at (b ∷ text) zero p l e f = absurd (omega (arith, p))
string_at (b ∷ text) (suc end) p l e f =
    let middle : slice_range (b ∷ text) 1 (suc end) ≡ take end text = ap (λ (k : ℕ). take k text) (omega arith) in
    let after : drop (suc end + 1) (b ∷ text) ≡ drop (end + 1) text = ap (λ (k : ℕ). drop k (b ∷ text)) (suc_one end) in
    let split : text ≡ take end text ++ 34 ∷ drop (end + 1) text =
    sym (take-append-drop end text) ∙ ap (λ (y : List ℕ). take end text ++ y) (drop_more text end 0 (omega (arith, l)) ∙ ap (λ (y : ℕ). y ∷ drop (end + 1) text) f) in
    ap (λ (y : ℕ). y ∷ text) e ∙ ap (λ (y : List ℕ). 34 ∷ y) (split ∙ ap (λ (y : List ℕ). y ++ 34 ∷ drop (end + 1) text) (sym middle) ∙ ap (λ (y : List ℕ). slice_range (b ∷ text) 1 (suc end) ++ 34 ∷ y) (sym after))

pub plain_string_at : (text bytes string suffix : List ℕ) (end : ℕ) → bytes ≡ text → 0 < end → end < length bytes → get_or bytes 0 0 ≡ 34 → get_or bytes end 0 ≡ 34 → IsPassed 34 92 bytes 1 end → string ≡ slice_range text 1 end → suffix ≡ drop (end + 1) text → IsUtf8 string → IsPlainString text string suffix
plain_string_at text bytes string suffix end same p l e f h s d u =
    let byte : (k : ℕ) → get_or bytes k 0 ≡ 34 → get_or text k 0 ≡ 34 = λ k g. sym (ap (λ (y : List ℕ). get_or y k 0) same) ∙ g in
    let parts : text ≡ 34 ∷ (slice_range text 1 end ++ 34 ∷ drop (end + 1) text) = string_at text end p (omega (arith, l, ap length same)) (byte 0 e) (byte end f) in
    record {
      parts = parts ∙ ap (λ (y : List ℕ). 34 ∷ (y ++ 34 ∷ drop (end + 1) text)) (sym s) ∙ ap (λ (y : List ℕ). 34 ∷ (string ++ 34 ∷ y)) (sym d);
      utf8 = u;
      raw = ap (list_all is_string_char) s ∙ string_passed text end (subst (λ (y : List ℕ). IsPassed 34 92 y 1 end) same h);
    }
