use Rattle.std.proofs.Common.{ap, ◌∙◌}
use Rattle.row_join.specs.Places.{group_of}
use Rattle.row_join.proofs.GroupLaws.{found_group, no_group}
use Rattle.row_join.proofs.groups.Groups.places.Goals as goal

pub returns-in-Some : goal.returns-in-Some
returns-in-Some c =
    let r = c.self.inside in
    let n = c.args.numbers.now in
    record {
      value = c.deref.ensures ∙ ap (λ l. l.items) c.index.ensures
          ∙ found_group (λ l. l.items) r.keys.keys r.groups.items n c.in-Some.at c.index.result.now c.self.invariant c.in-Some.ensures.value.0 c.in-Some.ensures.value.1
          ∙ ap (λ t. group_of t.list n) c.self.view_is;
    }

pub returns-in-None : goal.returns-in-None
returns-in-None c =
    let r = c.self.inside in
    let n = c.args.numbers.now in
    record {
      value = no_group (λ l. l.items) r.keys.keys r.groups.items n c.self.invariant c.in-None.ensures.value
          ∙ ap (λ t. group_of t.list n) c.self.view_is;
    }
