use Rattle.std.proofs.Common.{◌≡◌, ◌++◌, ◌+◌, ◌∷◌, [], ℕ, Bool, List, Vec, Global, cond, filter, get_or, nat_eq, take, sym, ap, ◌∙◌, arith}
use Rattle.std.specs.List.{list_any}
use Rattle.std.proofs.lemmas.List.{append-nil}
use Rattle.std.proofs.lemmas.List.Elements.{filter_more}
use Rattle.sparql_eval.proofs.GraphSteps.{search_finds}
use Rattle.sparql_eval.proofs.possible_graphs.graphs_among.Goals as goal
use Rattle.sparql_eval.proofs.possible_graphs.graphs_among.Goals.{then-is_ok+in_ok-push, else-is_ok}

pub loop-i-preserved : goal.loop-i-preserved
loop-i-preserved c =
    let was = c.loop-i.invariant in
    let graphs = c.args.graphs.now in
    let numbers = c.args.numbers.now in
    let p : ℕ → Bool = λ g. list_any (λ x. nat_eq x g) numbers in
    let before = filter p (take c.loop-i.i graphs) in
    let n = get_or graphs c.loop-i.i 0 in
    let is : c.is_ok.result ≡ p n = rw c.is_ok.ensures.value (search_finds numbers c.requires.rising n c.binary_search.result c.binary_search.ensures.position) in
    let more : filter p (take (c.loop-i.i + 1) graphs) ≡ before ++ cond c.is_ok.result (n ∷ []) [] =
    filter_more p graphs c.loop-i.i 0 (omega arith) ∙ ap (λ (k : Bool). before ++ cond k (n ∷ []) []) (sym is) in
    elim c.if-is_ok.branch [
      | then-is_ok+in_ok-push w ↦ ap (λ (v : Vec ℕ Global). v.items) w.found-is ∙ w.in_ok-push.ensures.items ∙ ap (λ (l : List ℕ). l ++ n ∷ []) was
          ∙ ap (λ (k : Bool). before ++ cond k (n ∷ []) []) (sym w.if-is_ok.true) ∙ sym more
      | else-is_ok w ↦ ap (λ (v : Vec ℕ Global). v.items) w.found-is ∙ was ∙ sym (append-nil before)
          ∙ ap (λ (k : Bool). before ++ cond k (n ∷ []) []) (sym w.if-is_ok.false) ∙ sym more
    ]
