use Rattle.std.proofs.Common.{◌≡◌, ◌∙◌, [], ◌∷◌, ◌++◌, true, false, sym, ap, subst, take, arith}
use Rattle.std.proofs.lemmas.Result.{IfOk-weaker}
use Rattle.std.proofs.lemmas.List.{take_all}
use Rattle.sparql_tree.specs.declared.group.Element.{size-Element}
use Rattle.sparql_tree.specs.GroupTree.{element_of, group_of}
use Rattle.sparql_read.specs.NameSet.{HaveSame}
use Rattle.sparql_tree.specs.BlankReuse.{basic_patterns, closed_patterns, open_pattern, patterns_inside, shares_labels}
use Rattle.sparql_read.specs.LabelSteps.{AddsElement, AddsPatterns, IsOpenRun}
use Rattle.sparql_read.proofs.GroupLaws.{union_deeper, union_denotes}
use Rattle.sparql_read.proofs.LabelLaws.{element_runs_on, element_ends_run, labels_clash, labels_more, last_clash, patterns_before, patterns_then, run_added}
use Rattle.sparql_read.proofs.labels.+labels.Goals as goal

pub add_element-returns-then-ends_run : goal.add_element-returns-then-ends_run
add_element-returns-then-ends_run t c = record {
  labels = IfOk-weaker c.add_inside.result _ _
      (λ b h. element_ends_run (element_of c.args.element.now) b c.args.earlier.now c.args.labels.now c.absorb.new.self _ _ c.if-ends_run.ensures.value
      (subst (λ ls. HaveSame c.absorb.new.self (c.args.earlier.now ++ ls)) c.replace-run.ensures.value c.in_ok-absorb.ensures.names)
      (c.replace-run.ensures.after ∙ c.new.ensures.value) h)
      c.add_inside.ensures.labels;
}

pub add_element-returns : goal.add_element-returns
add_element-returns t c = record {
  labels = IfOk-weaker c.add_run.result _ _
      (λ b h. element_runs_on (element_of c.args.element.now) b c.args.earlier.now c.args.labels.now _ c.if-ends_run.ensures.value h)
      c.add_run.ensures.labels;
}

pub add_group-returns-then-not-branch : goal.add_group-returns-then-not-branch
add_group-returns-then-not-branch t c =
    let f : c.in_ok-add_element.field-0 ≡ false = grind (arith, c.if-not-branch.true) in
    record {
      labels = labels_clash c.args.elements.now c.loop-element.element-index c.element-item.result c.args.earlier.now c.loop-element.earlier c.loop-element.labels
          c.add_element.new.earlier c.add_element.new.labels c.loop-element-test.true c.element-item.is c.loop-element.invariant
          (subst (λ b. AddsElement (element_of c.element-item.result) b c.loop-element.earlier c.loop-element.labels c.add_element.new.earlier c.add_element.new.labels) f c.in_ok-add_element.ensures.labels);
    }

pub add_group-loop-element-preserved : goal.add_group-loop-element-preserved
add_group-loop-element-preserved t c =
    let f : c.in_ok-add_element.field-0 ≡ true = grind (arith, c.if-not-branch.false) in
    labels_more c.args.elements.now c.loop-element.element-index c.element-item.result c.args.earlier.now c.loop-element.earlier c.loop-element.labels
    c.add_element.new.earlier c.add_element.new.labels c.loop-element-test.true c.element-item.is c.loop-element.invariant
    (subst (λ b. AddsElement (element_of c.element-item.result) b c.loop-element.earlier c.loop-element.labels c.add_element.new.earlier c.add_element.new.labels) f c.in_ok-add_element.ensures.labels)

pub add_group-returns : goal.add_group-returns
add_group-returns t c =
    let es = c.args.elements.now in
    let e : take c.loop-element.element-index es ≡ es = take_all c.loop-element.element-index es c.loop-element-test.false in
    let i = subst (λ us. AddsPatterns (closed_patterns (group_of us)) true c.args.earlier.now c.loop-element.earlier × IsOpenRun c.loop-element.earlier c.loop-element.labels (open_pattern (group_of us))) e c.loop-element.invariant in
    record {
      labels = patterns_then c.args.earlier.now (closed_patterns (group_of es)) (open_pattern (group_of es) ∷ []) i.0
          (run_added (open_pattern (group_of es)) i.1 c.in_ok-absorb.ensures.names);
    }

pub add_inside-returns-then-not-branch : goal.add_inside-returns-then-not-branch
add_inside-returns-then-not-branch t c =
    let xs = c.args.earlier.now in
    let left = element_of c.in-Union.left.value in
    let g = group_of c.in-Union.right.items in
    let f : c.in_ok-add_group-in-Union.field-0 ≡ false = grind (arith, c.if-not-branch.true) in
    let h = subst (λ b. AddsPatterns (basic_patterns (group_of c.deref-in-Union.result.now)) b xs c.add_group-in-Union.new.earlier) f c.in_ok-add_group-in-Union.ensures.labels in
    record {
      labels = ap (λ e. shares_labels xs (patterns_inside e)) (ap element_of c.in-Union.is ∙ union_denotes c.in-Union.left c.in-Union.right)
          ∙ last_clash xs (patterns_inside left) (basic_patterns g) (sym (ap (λ es. shares_labels xs (basic_patterns (group_of es))) c.deref-in-Union.ensures.value) ∙ h);
    }

pub add_inside-returns-else-not-branch : goal.add_inside-returns-else-not-branch
add_inside-returns-else-not-branch t c =
    let xs = c.args.earlier.now in
    let ys = c.add_group-in-Union.new.earlier in
    let zs = c.add_left.new.earlier in
    let left = element_of c.in-Union.left.value in
    let g = group_of c.in-Union.right.items in
    let f : c.in_ok-add_group-in-Union.field-0 ≡ true = grind (arith, c.if-not-branch.false) in
    let h = subst (λ b. AddsPatterns (basic_patterns (group_of c.deref-in-Union.result.now)) b xs ys) f c.in_ok-add_group-in-Union.ensures.labels in
    let r = subst (λ es. AddsPatterns (basic_patterns (group_of es)) true xs ys) c.deref-in-Union.ensures.value h in
    let e = ap element_of c.in-Union.is ∙ union_denotes c.in-Union.left c.in-Union.right in
    record {
      labels = IfOk-weaker c.add_left.result _ _
          (λ b k. subst (λ e. AddsPatterns (patterns_inside e) b xs zs) (sym e)
          (patterns_before b (patterns_inside left) (basic_patterns g) xs ys zs r
          (subst (λ e. AddsPatterns (patterns_inside (element_of e)) b ys zs) c.deref-in-Union-2.ensures k)))
          c.add_left.ensures.labels;
    }

pub add_left-groups-preserved : goal.add_left-groups-preserved
add_left-groups-preserved t c =
    let xs = c.groups.earlier in
    let ys = c.add_group.new.earlier in
    let left = element_of c.in-Union.left.value in
    let g = group_of c.in-Union.right.items in
    let f : c.in_ok-add_group.field-0 ≡ true = grind (arith, c.if-not-branch.false) in
    let h = subst (λ b. AddsPatterns (basic_patterns (group_of c.deref.result.now)) b xs ys) f c.in_ok-add_group.ensures.labels in
    let r = subst (λ es. AddsPatterns (basic_patterns (group_of es)) true xs ys) c.deref.ensures.value h in
    let e = ap element_of c.in-Union.is ∙ union_denotes c.in-Union.left c.in-Union.right in
    record {
      no_deeper = rw c.deref-rest.ensures (omega (arith, union_deeper c.in-Union.left c.in-Union.right, ap size-Element c.in-Union.is));
      adds = λ b zs k. c.groups.invariant.adds b zs (subst (λ e. AddsPatterns (patterns_inside e) b xs zs) (sym e)
          (patterns_before b (patterns_inside left) (basic_patterns g) xs ys zs r
          (subst (λ e. AddsPatterns (patterns_inside (element_of e)) b ys zs) c.deref-rest.ensures k)));
    }

pub add_left-returns-then-not-branch : goal.add_left-returns-then-not-branch
add_left-returns-then-not-branch t c =
    let xs = c.groups.earlier in
    let left = element_of c.in-Union.left.value in
    let g = group_of c.in-Union.right.items in
    let f : c.in_ok-add_group.field-0 ≡ false = grind (arith, c.if-not-branch.true) in
    let h = subst (λ b. AddsPatterns (basic_patterns (group_of c.deref.result.now)) b xs c.add_group.new.earlier) f c.in_ok-add_group.ensures.labels in
    record {
      labels = c.groups.invariant.adds false c.add_group.new.earlier
          (ap (λ e. shares_labels xs (patterns_inside e)) (ap element_of c.in-Union.is ∙ union_denotes c.in-Union.left c.in-Union.right)
          ∙ last_clash xs (patterns_inside left) (basic_patterns g) (sym (ap (λ es. shares_labels xs (basic_patterns (group_of es))) c.deref.ensures.value) ∙ h));
    }

pub add_left-returns : goal.add_left-returns
add_left-returns t c = record {
  labels = IfOk-weaker c.add_inside.result _ _ (λ b k. c.groups.invariant.adds b c.add_inside.new.earlier k) c.add_inside.ensures.labels;
}
