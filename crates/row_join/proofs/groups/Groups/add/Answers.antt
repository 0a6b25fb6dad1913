use Rattle.std.proofs.Common.{◌≡◌, ◌++◌, ◌∷◌, [], ◌<◌, ℕ, List, length, map, set, get_or, nat_eq, sym, ap, ◌∙◌, arith}
use Rattle.std.proofs.lemmas.List.{length-map, map-append}
use Rattle.std.specs.Cmp.Lexicographic.{pointwise}
use Rattle.row_join.specs.Places.{group_of, place_if}
use Rattle.row_join.proofs.GroupLaws.{place_added-old, place_added-new}
use Rattle.row_join.proofs.groups.Groups.add.Goals as goal
use Rattle.row_join.proofs.groups.Groups.add.Goals.{then-at-len, else-at-len}

pub returns-clause-added : goal.returns-clause-added
returns-clause-added c found =
    let old = c.self.inside in
    let new = c.if-at-len.self-inside in
    let ok = c.in_ok-at.ensures in
    let at = c.in_ok-at.at in
    let n = c.args.numbers.now in
    let lists : List (List ℕ) = map (λ l. l.items) old.groups.items in
    let made : List (List ℕ) = map (λ l. l.items) c.push_at.new.groups.items in
    let long : length old.keys.keys ≡ length lists = c.self.invariant ∙ sym (length-map old.groups.items (λ l. l.items)) in
    let count : c.len.result ≡ length old.keys.keys = omega (arith, c.len.ensures, c.reserve.new.self.ok.0, ap length c.in_ok-reserve.ensures.items, c.self.invariant) in
    let put = λ (ls : List (List ℕ)). set ls at (get_or ls at [] ++ c.args.place ∷ []) in
    elim c.if-at-len.branch [
      | then-at-len w ↦
          let here : at ≡ length old.keys.keys = omega (arith, w.if-at-len.true, count) in
          place_added-new old.keys.keys new.keys.keys n lists made at c.args.place long (ap (λ s. s.keys.keys) w.self-inside-is ∙ ok.keys) ok.place here
          (c.in_ok-push_at.ensures.added
          ∙ ap put (ap (λ s. map (λ l. l.items) s.groups.items) w.self-inside-is
          ∙ ap (map (λ l. l.items)) w.push_reserved.ensures.items
          ∙ map-append (λ l. l.items) c.reserve.new.self.items (w.new.result ∷ [])
          ∙ (λ j. map (λ l. l.items) (c.in_ok-reserve.ensures.items j) ++ w.new.ensures.items j ∷ [])))
          found
          ∙ ap (λ t. group_of t.list found ++ place_if (pointwise nat_eq found n) c.args.place) c.self.view_is
      | else-at-len w ↦
          let here : at < length old.keys.keys = omega (arith, w.if-at-len.false, count, ok.within) in
          place_added-old old.keys.keys new.keys.keys n lists made at c.args.place long (ap (λ s. s.keys.keys) w.self-inside-is ∙ ok.keys) ok.place here
          (c.in_ok-push_at.ensures.added
          ∙ ap put (ap (λ s. map (λ l. l.items) s.groups.items) w.self-inside-is
          ∙ ap (map (λ l. l.items)) c.in_ok-reserve.ensures.items))
          found
          ∙ ap (λ t. group_of t.list found ++ place_if (pointwise nat_eq found n) c.args.place) c.self.view_is
    ]
