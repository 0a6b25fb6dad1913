-- Each step of the board's table preserves its rule.
use Rattle.std.proofs.Common.{true, false, ◌≡◌, ◌≢◌, ◌⊎◌, ⊎_elim, ℕ, zero, suc, ◌+◌, ◌%◌, ◌<◌, ◌≤◌, ◌^◌, min, ltb, cond, List, [], ◌∷◌, ◌++◌, get_or, set, refl, sym, ◌∙◌, subst, inl, inr, arith, length-set, get_or-set_same, get_or-set_other}
use Rattle.std.specs.Prelude.{sum_by}
use Rattle.std.proofs.lemmas.List.Sums.{sum_by-cons, sum_by_push}
use mathlib.Core.Option.{none, some, some-injective, some-ne-none}
use lib.ListN.{get_elem?}
use Rattle.atomic_table.specs.Table.{State, Me, step, keeps, stepped, opening, Allows, Splits, Joins, Final, Seen}
use Rattle.atomic_table.proofs.Lists.{at_set, at_snoc}
use Rattle.piece_board.specs.declared.history.History.{History}
use Rattle.piece_board.specs.declared.rule.Size.{Size}
use Rattle.piece_board.specs.Counts.{times, once_below}
use Rattle.piece_board.specs.Protocol.{fresh, with_draw, with_end, with_report, with_seen, after_draw}
use Rattle.piece_board.specs.Claims.{finished}
use Rattle.piece_board.specs.Rule.{drawn, reported, seats, HistoryClaims, CountedClaims, KeepsRule, IsDraw, IsReport, IsLook, kept_back, dealt, together}
use mathlib.Core.Logic.{dite}
use native.Mathlib.Decide.{dec_le}
use Rattle.piece_board.proofs.CountLaws.{sum_at, at_le, sum_le, sum_whole, set_at, times-append}
use Rattle.piece_board.proofs.StepLaws.{each_set, grown, draws, reports, looks, own_draws}

abbrev TableState : Type 0
TableState = State (Unit {0}) History

abbrev Holder : Type 0
Holder = Me (Unit {0}) History

module _ (size : Size) where
  -- the rule after a step of the seat id, on word 0 or on word 1
  first_moved : (s : TableState) (h : KeepsRule size s) (v id : ℕ) (me : Holder) (w : History) → CountedClaims size.pieces size.seats v (get_or s.words 1 0) (set s.views id w) → KeepsRule size (stepped s 0 v id me.1 w keeps)
  first_moved s h v id me w k = let two = h.words in let same = get_or-set_same s.words 0 v 0 (omega arith) in let other = get_or-set_other s.words 0 1 v 0 (λ e. omega arith) in record {
    words = length-set s.words 0 v ∙ two;
    pieces_fit = h.pieces_fit;
    seats_fit = h.seats_fit;
    kept = subst (λ (z : ℕ × ℕ). CountedClaims size.pieces size.seats z.0 z.1 (set s.views id w)) (λ i. (sym same i, sym other i)) k;
  }

  second_moved : (s : TableState) (h : KeepsRule size s) (v id : ℕ) (me : Holder) (w : History) → CountedClaims size.pieces size.seats (get_or s.words 0 0) v (set s.views id w) → KeepsRule size (stepped s 1 v id me.1 w keeps)
  second_moved s h v id me w k = let two = h.words in let same = get_or-set_same s.words 1 v 0 (omega arith) in let other = get_or-set_other s.words 1 0 v 0 (λ e. omega arith) in record {
    words = length-set s.words 1 v ∙ two;
    pieces_fit = h.pieces_fit;
    seats_fit = h.seats_fit;
    kept = subst (λ (z : ℕ × ℕ). CountedClaims size.pieces size.seats z.0 z.1 (set s.views id w)) (λ i. (sym other i, sym same i)) k;
  }

  finished_few : (s : TableState) (h : KeepsRule size s) → finished s.views ≤ size.seats
  finished_few s h = let k = h.kept in let a = sum_le (λ (u : History). u.finished) (λ (u : History). u.seats) s.views (λ i v e. (k.each i v e).counted) in let b = k.seated in omega arith

  -- a draw never wraps
  no_wrap : (s : TableState) (h : KeepsRule size s) → get_or s.words 0 0 + 1 ≡ (get_or s.words 0 0 + 1) % 2 ^ 64
  no_wrap s h = let k = h.kept in let a = k.bounded in let few = finished_few s h in let p = h.pieces_fit in let q = h.seats_fit in omega arith

  same_pieces : (i : ℕ) (r : History) → (after_draw i r).pieces ≡ r.pieces
  same_pieces i r = elim (ltb i r.pieces) as (λ b. (cond b (with_draw i r) (with_end r)).pieces ≡ r.pieces) [ true ↦ refl | false ↦ refl ]

  pub draws_allowed : (slots id : ℕ) (me : Holder) → 0 < me.0.seats → me.0.finished ≡ 0
      → Allows (KeepsRule size) slots id me 0 (λ x. (x + 1) % 2 ^ 64) (IsDraw (step slots 0 1 0 none) me)
  draws_allowed slots id me live going s h _ at _ = let x : ℕ = get_or s.words 0 0 in let w : History = after_draw x me.0 in let k = draws size.pieces size.seats x (get_or s.words 1 0) s.views h.kept id me.0 at live going in
      let is : size.pieces ≡ w.pieces = sym (same_pieces x me.0 ∙ (h.kept.each id me.0 at).pieces live) in (
        w,
        keeps,
        tt,
        subst (λ z. KeepsRule size (stepped s 0 z id me.1 w keeps)) (no_wrap s h) (first_moved s h (x + 1) id me w k),
        (refl, λ y. subst (λ z. times y w.draws ≤ once_below y z) is (own_draws size.pieces size.seats (x + 1) (get_or s.words 1 0) (set s.views id w) k id w (set_at s.views id me.0 w at) y)),
      )

  pub reports_allowed : (slots id : ℕ) (me : Holder) (i : ℕ) → 0 < me.0.seats → 0 < times i me.0.draws → times i me.0.reports ≡ 0
      → Allows (KeepsRule size) slots id me 1 (λ x. min x i) (IsReport (step slots 1 i 0 none) me)
  reports_allowed slots id me i live mine new s h _ at _ = let w : History = with_report i me.0 in
      (w, keeps, tt, second_moved s h (min (get_or s.words 1 0) i) id me w (reports size.pieces size.seats (get_or s.words 0 0) (get_or s.words 1 0) s.views h.kept id me.0 at i live mine new), refl)

  pub looks_allowed : (slots id : ℕ) (me : Holder) → 0 < me.0.seats → Allows (KeepsRule size) slots id me 1 (λ x. x) (IsLook (step slots 1 0 0 none) me)
  looks_allowed slots id me live s h _ at _ = let y : ℕ = get_or s.words 1 0 in let w : History = with_seen y me.0 in let k = h.kept in let r = k.each id me.0 at in (
    w,
    keeps,
    tt,
    second_moved s h y id me w (looks size.pieces size.seats (get_or s.words 0 0) y s.views k id me.0 at),
    (refl, r.seen_above live, (let a = k.within in let b = r.pieces live in omega arith), λ x p. let a = at_le (λ (u : History). times x u.reports) s.views id me.0 at in k.lowest x (omega arith)),
  )

  pub opens_with : (n : ℕ) → n ≡ size.pieces → n ≤ 2 ^ 62 → size.seats ≤ 64 → 0 < size.seats → KeepsRule size (opening (0 ∷ n ∷ []) [] (fresh size.pieces size.seats))
  opens_with n is fits few some_seats = let v : History = fresh size.pieces size.seats in record {
    words = refl;
    pieces_fit = omega arith;
    seats_fit = few;
    kept = record {
      once = λ x. let a = sum_by-cons (λ (u : History). times x u.draws) v [] in omega arith;
      bounded = omega arith;
      seated = omega (arith, sum_by-cons (λ (u : History). u.seats) v []);
      least_is = inl is;
      lowest = λ x p. let a = sum_by-cons (λ (u : History). times x u.reports) v [] in absurd (omega arith);
      within = omega arith;
      each = λ s r e. subst (HistoryClaims size.pieces 0 n (v ∷ [])) (only s r e) record {
        pieces = λ _. refl;
        ended = λ f. absurd (omega arith);
        counted = omega arith;
        among = λ x. omega arith;
        seen_is = λ _. inl refl;
        seen_above = λ _. omega arith;
        spent = λ x z. absurd (omega arith);
      };
    };
  }
    where
      only : (s : ℕ) (r : History) → get_elem? (fresh size.pieces size.seats ∷ []) s ≡ some r → fresh size.pieces size.seats ≡ r
      only zero r e = some-injective _ r e
      only (suc s) r e = absurd (some-ne-none r (sym e))

  pub deals : (id : ℕ) (v : History) → 1 < v.seats → v.finished ≡ 0 → Splits (KeepsRule size) id v (kept_back v) (dealt v)
  deals id v two going s h at = let k = h.kept in let l : History = kept_back v in let r : History = dealt v in let n : ℕ = size.pieces in let next : ℕ = get_or s.words 0 0 in let least : ℕ = get_or s.words 1 0 in
      let histories : List History = set s.views id l ++ r ∷ [] in let mine = k.each id v at in
      let same : (f : History → ℕ) → f r + f l ≡ f v → sum_by f histories ≡ sum_by f s.views = λ f e. let a = sum_at f s.views id v l at in let b = sum_by_push f (set s.views id l) r in omega arith in
      let reported_same : (x : ℕ) → reported x histories ≡ reported x s.views = λ x. same (λ (u : History). times x u.reports) (omega arith) in
      let seen_is : (0 < v.seats → (v.seen ≡ n) ⊎ (0 < reported v.seen histories)) = λ live. ⊎_elim (λ (a : v.seen ≡ n). inl a) (λ (b : 0 < reported v.seen s.views). let m = reported_same v.seen in inr (omega arith)) (mine.seen_is live) in
      let left : HistoryClaims n next least histories l = record {
        pieces = λ live. mine.pieces (omega arith);
        ended = mine.ended;
        counted = omega arith;
        among = mine.among;
        seen_is = λ live. seen_is (omega arith);
        seen_above = λ live. mine.seen_above (omega arith);
        spent = λ x z. absurd (omega arith);
      } in
      let right : HistoryClaims n next least histories r = record {
        pieces = λ live. mine.pieces (omega arith);
        ended = λ f. absurd (omega arith);
        counted = omega arith;
        among = λ x. omega arith;
        seen_is = λ live. seen_is (omega arith);
        seen_above = λ live. mine.seen_above (omega arith);
        spent = λ x z. absurd (omega arith);
      } in record {
        words = h.words;
        pieces_fit = h.pieces_fit;
        seats_fit = h.seats_fit;
        kept = record {
          once = λ x. let a = same (λ (u : History). times x u.draws) (omega arith) in let b = k.once x in omega arith;
          bounded = let a = same (λ (u : History). u.finished) (omega arith) in let b = k.bounded in omega arith;
          seated = let a = same (λ (u : History). u.seats) (omega arith) in let b = k.seated in omega arith;
          least_is = ⊎_elim (λ (a : least ≡ n). inl a) (λ (b : 0 < reported least s.views). let m = reported_same least in inr (omega arith)) k.least_is;
          lowest = λ x p. let e = reported_same x in k.lowest x (omega arith);
          within = k.within;
          each = λ j u e. ⊎_elim
              (λ was. each_set (HistoryClaims n next least histories) s.views id l (λ i y at'. grown n next least s.views next least histories y (omega arith) (omega arith) (λ x. let e = reported_same x in omega arith) (k.each i y at')) left j u was)
              (λ (t : r ≡ u). subst (HistoryClaims n next least histories) t right)
              (at_snoc (set s.views id l) r u j e);
        };
      }

  pub gathers : (id : ℕ) (v : History) (other : ℕ) (w : History) → 0 < v.seats → 0 < w.seats → Joins (KeepsRule size) id v other w (together v w) (fresh 0 0)
  gathers id v other w live live' s h at apart there = let k = h.kept in let b : History = together v w in let o : History = fresh 0 0 in let n : ℕ = size.pieces in let next : ℕ = get_or s.words 0 0 in let least : ℕ = get_or s.words 1 0 in
      let histories : List History = set (set s.views id b) other o in
      let there' : get_elem? s.views other ≡ some w = ⊎_elim (λ (t : (other ≡ id) × (b ≡ w)). absurd (apart t.0)) (λ (t : (other ≢ id) × (get_elem? s.views other ≡ some w)). t.1) (at_set s.views id other b w there) in
      let mine = k.each id v at in let theirs = k.each other w there' in
      let same : (f : History → ℕ) → f b ≡ f v + f w → f o ≡ 0 → sum_by f histories ≡ sum_by f s.views = λ f e z. let a = sum_at f s.views id v b at in let c = sum_at f (set s.views id b) other w o there in omega arith in
      let reported_same : (x : ℕ) → reported x histories ≡ reported x s.views = λ x. same (λ (u : History). times x u.reports) (times-append x v.reports w.reports) refl in
      let both : HistoryClaims n next least histories b = record {
        pieces = λ _. mine.pieces live;
        ended = λ f. dite (dec_le v.finished 0) (λ none. theirs.ended (omega arith)) (λ some. mine.ended (omega arith));
        counted = let a = mine.counted in let c = theirs.counted in omega arith;
        among = λ x. let a = mine.among x in let c = theirs.among x in let d = times-append x v.reports w.reports in let e = times-append x v.draws w.draws in omega arith;
        seen_is = λ _. dite (dec_le v.seen w.seen)
            (λ le. subst (λ z. (z ≡ n) ⊎ (0 < reported z histories)) (omega arith) (⊎_elim (λ (a : v.seen ≡ n). inl a) (λ (c : 0 < reported v.seen s.views). let m = reported_same v.seen in inr (omega arith)) (mine.seen_is live)))
            (λ gt. subst (λ z. (z ≡ n) ⊎ (0 < reported z histories)) (omega arith) (⊎_elim (λ (a : w.seen ≡ n). inl a) (λ (c : 0 < reported w.seen s.views). let m = reported_same w.seen in inr (omega arith)) (theirs.seen_is live')));
        seen_above = λ _. let a = mine.seen_above live in let c = theirs.seen_above live' in omega arith;
        spent = λ x z. absurd (omega arith);
      } in
      let spent : HistoryClaims n next least histories o = record {
        pieces = λ l. absurd (omega arith);
        ended = λ f. absurd (omega arith);
        counted = omega arith;
        among = λ x. omega arith;
        seen_is = λ l. absurd (omega arith);
        seen_above = λ l. absurd (omega arith);
        spent = λ x z. refl;
      } in record {
        words = h.words;
        pieces_fit = h.pieces_fit;
        seats_fit = h.seats_fit;
        kept = record {
          once = λ x. let a = same (λ (u : History). times x u.draws) (times-append x v.draws w.draws) refl in let c = k.once x in omega arith;
          bounded = let a = same (λ (u : History). u.finished) refl refl in let c = k.bounded in omega arith;
          seated = let a = same (λ (u : History). u.seats) refl refl in let c = k.seated in omega arith;
          least_is = ⊎_elim (λ (a : least ≡ n). inl a) (λ (c : 0 < reported least s.views). let m = reported_same least in inr (omega arith)) k.least_is;
          lowest = λ x p. let e = reported_same x in k.lowest x (omega arith);
          within = k.within;
          each = each_set (HistoryClaims n next least histories) (set s.views id b) other o
              (each_set (HistoryClaims n next least histories) s.views id b (λ i y at'. grown n next least s.views next least histories y (omega arith) (omega arith) (λ x. let e = reported_same x in omega arith) (k.each i y at')) both) spent;
        };
      }

  -- what the seat that represents all seats knows at the end
  pub record EndClaims (next least : ℕ) (v : History) : Type 0 where
    pub once : (x : ℕ) → times x v.draws ≡ once_below x (min next size.pieces)
    pub ended : 0 < v.finished → size.pieces < next
    pub least_is : (least ≡ size.pieces) ⊎ (0 < times least v.reports)
    pub lowest : (x : ℕ) → 0 < times x v.reports → least ≤ x
    pub within : least ≤ size.pieces
    pub seen : least ≤ v.seen

  pub closes : (id : ℕ) (v : History) (ws : List ℕ) (xs : List (Unit {0})) → v.seats ≡ size.seats → 0 < size.seats → Final (Seen (KeepsRule size) id v) ws xs → EndClaims (get_or ws 0 0) (get_or ws 1 0) v
  closes id v ws xs whole some_seats f = subst (λ us. EndClaims (get_or us 0 0) (get_or us 1 0) v) f.2 (let s = f.0 in let h = f.1.0 in let at = f.1.1 in let k = h.kept in let mine = k.each id v at in
      let all : seats s.views ≡ v.seats = k.seated ∙ sym whole in
      let draws_are : (x : ℕ) → drawn x s.views ≡ times x v.draws = λ x. sum_whole (λ (u : History). times x u.draws) (λ (u : History). u.seats) s.views id v at all (λ j u e z. (k.each j u e).spent x z) in
      let reports_are : (x : ℕ) → reported x s.views ≡ times x v.reports = λ x. sum_whole (λ (u : History). times x u.reports) (λ (u : History). u.seats) s.views id v at all
      (λ j u e z. let a = (k.each j u e).spent x z in let b = (k.each j u e).among x in omega arith) in record {
        once = λ x. sym (draws_are x) ∙ k.once x;
        ended = mine.ended;
        least_is = ⊎_elim (λ (a : get_or s.words 1 0 ≡ size.pieces). inl a) (λ (b : 0 < reported (get_or s.words 1 0) s.views). let e = reports_are (get_or s.words 1 0) in inr (omega arith)) k.least_is;
        lowest = λ x p. let e = reports_are x in k.lowest x (omega arith);
        within = k.within;
        seen = mine.seen_above (omega arith);
      })
