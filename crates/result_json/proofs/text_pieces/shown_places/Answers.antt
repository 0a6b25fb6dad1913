use Rattle.std.proofs.Common.{◌≡◌, ◌<◌, ◌++◌, ◌∷◌, [], All, List, ℕ, Vec, Global, length, ap, ◌∙◌, arith}
use Rattle.std.proofs.lemmas.List.{length-map}
use Rattle.std.proofs.lemmas.List.Elements.{All-append, All-cons, All-nil, All-same}
use Rattle.std.proofs.lemmas.List.Sorted.{All-permutation}
use Rattle.result_json.specs.Ranks.{Entry, terms_of}
use Rattle.result_json.proofs.text_pieces.shown_places.Goals as goal
use Rattle.result_json.proofs.text_pieces.shown_places.Goals.{then-shown-place+in_ok-push, else-shown-place}

same_inside : (n : ℕ) (old new : Vec (ℕ × ℕ) Global) → new ≡ old → All (λ (e : ℕ × ℕ). e.1 < n) old.items → All (λ (e : ℕ × ℕ). e.1 < n) new.items
same_inside n old new is all = All-same (λ (e : ℕ × ℕ). e.1 < n) new.items old.items (ap (λ (l : Vec (ℕ × ℕ) Global). l.items) is) all

more_inside : (n : ℕ) (old : List (ℕ × ℕ)) (new pushed : Vec (ℕ × ℕ) Global) (number place : ℕ) → place < n → new ≡ pushed → pushed.items ≡ old ++ (number, place) ∷ []
    → All (λ (e : ℕ × ℕ). e.1 < n) old → All (λ (e : ℕ × ℕ). e.1 < n) new.items
more_inside n old new pushed number place below is items all =
    All-same (λ (e : ℕ × ℕ). e.1 < n) new.items (old ++ (number, place) ∷ []) (ap (λ (l : Vec (ℕ × ℕ) Global). l.items) is ∙ items)
    (All-append (λ (e : ℕ × ℕ). e.1 < n) old ((number, place) ∷ []) all (All-cons (λ (e : ℕ × ℕ). e.1 < n) (number, place) [] below (All-nil (λ (e : ℕ × ℕ). e.1 < n))))

pub loop-place-preserved : goal.loop-place-preserved
loop-place-preserved c =
    let terms = c.args.terms.now in
    let n = length (terms_of terms) in
    let below : c.loop-place.place < n = omega (arith, c.loop-place-test.true, c.min-place-end.ensures, length-map terms (λ (e : Entry). e.0.now)) in
    elim c.if-shown-place.branch [
      | then-shown-place+in_ok-push w ↦ more_inside n c.loop-place.places.items c.if-shown-place.places w.push.new.self _ c.loop-place.place below w.places-is w.in_ok-push.ensures.items c.loop-place.invariant
      | else-shown-place w ↦ same_inside n _ _ w.places-is c.loop-place.invariant
    ]

pub returns : goal.returns
returns c = record {
  inside = All-permutation (λ (e : ℕ × ℕ). e.1 < length (terms_of c.args.terms.now)) c.loop-place.places.items c.sort_unstable.new.self.items c.sort_unstable.ensures.permutation c.loop-place.invariant;
}
