use Rattle.std.proofs.Common.{◌≡◌, ◌<◌, ◌++◌, ◌∷◌, [], All, List, ℕ, Vec, Global, ap, ◌∙◌, arith}
use Rattle.std.proofs.lemmas.List.Elements.{All-append, All-cons, All-nil, All-same}
use Rattle.row_join.proofs.key_choice.key_of.Goals as goal
use Rattle.row_join.proofs.key_choice.key_of.Goals.{in_default, in-Some+in_ok-push+else-open_pairs-few, in-Some+in_ok-push+then-open_pairs-few+in_ok-column+in_default-2+in_ok-push-2}

same_below : (n : ℕ) (old new : Vec ℕ Global) → new ≡ old → All (λ u. u < n) old.items → All (λ u. u < n) new.items
same_below n old new is all = All-same (λ u. u < n) new.items old.items (ap (λ (l : Vec ℕ Global). l.items) is) all

more_below : (n : ℕ) (old : List ℕ) (new : Vec ℕ Global) (pushed : Vec ℕ Global) (v : ℕ) → v < n → new ≡ pushed → pushed.items ≡ old ++ v ∷ [] → All (λ u. u < n) old → All (λ u. u < n) new.items
more_below n old new pushed v below is items all =
    All-same (λ u. u < n) new.items (old ++ v ∷ []) (ap (λ (l : Vec ℕ Global). l.items) is ∙ items)
    (All-append (λ u. u < n) old (v ∷ []) all (All-cons (λ u. u < n) v [] below (All-nil (λ u. u < n))))

pub loop-v-preserved : goal.loop-v-preserved
loop-v-preserved c =
    let n = c.args.left.now.width in
    let v = c.loop-v.v in
    let below : v < n = omega arith in
    let was = c.loop-v.invariant in
    elim c.match-candidate.branch [
      | in-Some+in_ok-push+then-open_pairs-few+in_ok-column+in_default-2+in_ok-push-2 w ↦ record {
        closed = more_below n _ _ _ v below w.closed-is w.in_ok-push-2.ensures.items was.closed;
        shared = more_below n _ _ _ v below w.shared-is w.in_ok-push.ensures.items was.shared;
      }
      | in-Some+in_ok-push+else-open_pairs-few w ↦ record {
        closed = same_below n _ _ w.closed-is was.closed;
        shared = more_below n _ _ _ v below w.shared-is w.in_ok-push.ensures.items was.shared;
      }
      | in_default w ↦ record {
        closed = same_below n _ _ w.closed-is was.closed;
        shared = same_below n _ _ w.shared-is was.shared;
      }
    ]
