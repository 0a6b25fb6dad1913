use Rattle.std.proofs.Common.{◌≡◌, ℕ, List, ◌++◌, nat_eq, not, sym, ap, ◌∙◌, true, false, length, get_or, [], arith}
use Rattle.std.proofs.lemmas.List.{append-nil}
use Rattle.std.specs.Cmp.Lexicographic.{pointwise}
use Rattle.algebra_model.specs.Keys.{is_keyed}
use Rattle.row_join.specs.Places.{group_of, has_key, place_if, places_below}
use Rattle.row_join.proofs.PlaceLaws.{places-turn, has_key-numbers, has_key-unkeyed, read_wide}
use Rattle.row_join.proofs.hashed_places.HashedPlaces.build.Goals as goal
use Rattle.row_join.proofs.hashed_places.HashedPlaces.build.Goals.{then-branch+in_ok-add, else-branch+in_ok-push}

pub loop-place-preserved : goal.loop-place-preserved
loop-place-preserved c =
    let key = c.args.key.now in
    let rows = c.args.rows.now.rows in
    let n = c.loop-place.place in
    let row = get_or rows n [] in
    let read = c.in_ok-read_key.ensures in
    elim c.if-branch.branch [
      | then-branch+in_ok-add w ↦ record {
        keyed = λ f.
            places-turn (has_key key f) rows n (pointwise nat_eq f c.read_key.new.numbers.items)
            (has_key-numbers key c.read_key.new.numbers.items row (read.read w.if-branch.true) f)
            (group_of c.loop-place.groups.list f) (group_of c.if-branch.groups.list f) (c.loop-place.invariant.keyed f)
            (ap (λ g. group_of g.list f) w.groups-is ∙ w.in_ok-add.ensures.added f
            ∙ ap (λ (ns : List ℕ). group_of c.loop-place.groups.list f ++ place_if (pointwise nat_eq f ns) n) w.deref.ensures.value);
        apart =
            places-turn (λ μ. not (is_keyed key μ)) rows n false
            (ap not (sym read.keyed ∙ w.if-branch.true))
            c.loop-place.apart.items c.if-branch.apart.items c.loop-place.invariant.apart
            (ap (λ a. a.items) w.apart-is ∙ sym (append-nil c.loop-place.apart.items));
        wide = ap (λ g. g.width) w.groups-is ∙ w.in_ok-add.ensures.width ∙ c.loop-place.invariant.wide;
      }
      | else-branch+in_ok-push w ↦ record {
        keyed = λ f.
            places-turn (has_key key f) rows n false
            (has_key-unkeyed key row (sym read.keyed ∙ w.if-branch.false) f)
            (group_of c.loop-place.groups.list f) (group_of c.if-branch.groups.list f) (c.loop-place.invariant.keyed f)
            (ap (λ g. group_of g.list f) w.groups-is ∙ sym (append-nil (group_of c.loop-place.groups.list f)));
        apart =
            places-turn (λ μ. not (is_keyed key μ)) rows n true
            (ap not (sym read.keyed ∙ w.if-branch.false))
            c.loop-place.apart.items c.if-branch.apart.items c.loop-place.invariant.apart
            (ap (λ a. a.items) w.apart-is ∙ w.in_ok-push.ensures.items);
        wide = ap (λ g. g.width) w.groups-is ∙ c.loop-place.invariant.wide;
      }
    ]

pub add-requires : goal.add-requires
add-requires c =
    let read = c.in_ok-read_key.ensures in
    record {
      wide = ap length c.deref.ensures.value ∙ read_wide c.args.key.now (get_or c.args.rows.now.rows c.loop-place.place []) c.read_key.new.numbers.items (read.read c.if-branch.true) ∙ sym c.loop-place.invariant.wide;
    }

pub returns : goal.returns
returns c =
    let key = c.args.key.now in
    let rows = c.args.rows.now.rows in
    let was = c.loop-place.invariant in
    let all : c.loop-place.place ≡ length rows = omega arith in
    record {
      table = (
        λ f. was.keyed f ∙ ap (λ (n : ℕ). places_below n (has_key key f) rows) all,
        was.apart ∙ ap (λ (n : ℕ). places_below n (λ μ. not (is_keyed key μ)) rows) all,
      );
    }
