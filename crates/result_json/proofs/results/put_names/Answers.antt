use Rattle.std.proofs.Common.{◌≡◌, ◌+◌, ◌<◌, ◌≤◌, ◌++◌, ◌∷◌, [], Bool, true, false, List, ℕ, zero, suc, Vec, Global, append_assoc, append-nil, get_or, length, map, take, refl, sym, ap, ◌∙◌, arith}
use Rattle.std.proofs.lemmas.List.{map-append, take_all, take_more}
use Rattle.result_json.specs.Results.{listed_names, string_text, separated}
use Rattle.result_json.specs.Texts.{comma_texts}
use Rattle.result_json.proofs.SeparatedLaws.{comma_texts-cons, is_cons, separated-append}
use Rattle.result_json.proofs.results.put_names.Goals as goal
use Rattle.result_json.proofs.results.put_names.Goals.{then-i-gt0+in_ok-push, else-i-gt0}

abbrev texts_of : List (List ℕ) → List ℕ → List (List ℕ)
texts_of names vs = map string_text (listed_names names vs)

is_cons-texts : (names : List (List ℕ)) (vs : List ℕ) → is_cons (texts_of names vs) ≡ is_cons vs
is_cons-texts names [] = refl
is_cons-texts names (v ∷ vs) = refl

some_taken : (listed : List ℕ) (i : ℕ) → 0 < i → i < length listed → is_cons (take i listed) ≡ true
some_taken [] i some low = absurd (omega arith)
some_taken (v ∷ vs) zero some low = absurd (omega arith)
some_taken (v ∷ vs) (suc i) some low = refl

none_taken : (listed : List ℕ) (i : ℕ) → i ≤ 0 → is_cons (take i listed) ≡ false
none_taken [] zero none = refl
none_taken (v ∷ vs) zero none = refl
none_taken [] (suc i) none = absurd (omega arith)
none_taken (v ∷ vs) (suc i) none = absurd (omega arith)

names_step : (names : List (List ℕ)) (listed : List ℕ) (i : ℕ) (before old out new name : List ℕ) (later : Bool) → i < length listed
    → old ≡ before ++ separated (texts_of names (take i listed)) → is_cons (take i listed) ≡ later → out ≡ old ++ comma_texts later ([] ∷ [])
    → new ≡ out ++ string_text name → name ≡ get_or names (get_or listed i 0) [] → new ≡ before ++ separated (texts_of names (take (i + 1) listed))
names_step names listed i before old out new name later low was is comma put named =
    let v = get_or listed i 0 in
    let text = string_text (get_or names v []) in
    let front = texts_of names (take i listed) in
    let next : texts_of names (take (i + 1) listed) ≡ front ++ text ∷ [] =
    ap (texts_of names) (take_more listed i 0 low) ∙ ap (map string_text) (map-append (λ u. get_or names u []) (take i listed) (v ∷ []))
    ∙ map-append string_text (listed_names names (take i listed)) (get_or names v [] ∷ []) in
    let one : comma_texts later ([] ∷ []) ++ text ≡ comma_texts later (text ∷ []) =
    ap (λ t. comma_texts later ([] ∷ []) ++ t) (sym (append-nil text)) ∙ sym (comma_texts-cons later text []) in
    let whole : separated front ++ comma_texts later (text ∷ []) ≡ separated (texts_of names (take (i + 1) listed)) =
    ap (λ b. separated front ++ comma_texts b (text ∷ [])) (sym (is_cons-texts names (take i listed) ∙ is)) ∙ sym (separated-append front (text ∷ [])) ∙ ap separated (sym next) in
    put ∙ (λ j. comma j ++ string_text (named j)) ∙ append_assoc old (comma_texts later ([] ∷ [])) text ∙ (λ j. was j ++ one j)
    ∙ append_assoc before (separated front) (comma_texts later (text ∷ [])) ∙ ap (λ s. before ++ s) whole

pub loop-i-preserved : goal.loop-i-preserved
loop-i-preserved c =
    let i = c.loop-i.i in
    let listed = c.args.listed.now in
    let step = λ (later : Bool). names_step c.args.names.now listed i c.args.out.now.items c.loop-i.out.items c.if-i-gt0.out.items c.put_string.new.out.items c.name_of.result.now later
    c.loop-i-test.true c.loop-i.invariant in
    elim c.if-i-gt0.branch [
      | then-i-gt0+in_ok-push w ↦
          step true (some_taken listed i w.if-i-gt0.true c.loop-i-test.true) (ap (λ (l : Vec ℕ Global). l.items) w.out-is ∙ w.in_ok-push.ensures.items)
          c.in_ok-put_string.ensures.text c.name_of.ensures.value
      | else-i-gt0 w ↦
          step false (none_taken listed i w.if-i-gt0.false) (ap (λ (l : Vec ℕ Global). l.items) w.out-is ∙ sym (append-nil c.loop-i.out.items))
          c.in_ok-put_string.ensures.text c.name_of.ensures.value
    ]

pub returns : goal.returns
returns c =
    c.loop-i.invariant
    ∙ ap (λ (l : List ℕ). c.args.out.now.items ++ separated (map string_text (listed_names c.args.names.now l))) (take_all c.loop-i.i c.args.listed.now c.loop-i-test.false)
