use Rattle.std.proofs.Common.{◌∙◌, sym, ap}
use Rattle.std.specs.Prelude.{string_bytes}
use Rattle.rdf_core.specs.LexicalReading.{parts_at, with_char}
use Rattle.rdf_core.proofs.EnclosedSteps.{stops, closes, goes_on, at_close, at_raw, at_other, at_escape, at_wrong_escape, no_close, all_read}
use Rattle.rdf_core.proofs.lexical.enclosed.read_parts.Goals as goal

pub returns-then-is_close-clause-value : goal.returns-then-is_close-clause-value
returns-then-is_close-clause-value c =
    rw c.from_string.ensures.value (closes c.args.kind c.args.close (string_bytes c.loop-c.value) c.loop-c.rest.now c.args.text.now _ c.loop-c.invariant
    (at_close c.args.kind c.args.close c.in-Some.c _ _ c.in-Some.ensures.0 (sym c.is_close.ensures ∙ c.if-is_close.true)))

pub returns-in_default-escape-clause-value : goal.returns-in_default-escape-clause-value
returns-in_default-escape-clause-value c =
    stops c.args.kind c.args.close (string_bytes c.loop-c.value) c.loop-c.rest.now c.args.text.now c.loop-c.invariant
    (at_wrong_escape c.args.kind c.args.close c.in-Some.c _ _ c.in-Some.ensures.0 (sym c.is_close.ensures ∙ c.if-is_close.false) c.if-c-eq92.true c.in_default-escape.ensures)

pub loop-c-preserved-then-c-eq92 : goal.loop-c-preserved-then-c-eq92
loop-c-preserved-then-c-eq92 c =
    let e = c.in-Some-escape.ensures in
    goes_on c.args.kind c.args.close (string_bytes c.loop-c.value) c.loop-c.rest.now c.args.text.now c.in-Some-escape.meant c.in-Some-escape.remaining.now (string_bytes c.push.new.self) c.loop-c.invariant
    (at_escape c.args.kind c.args.close c.in-Some.c _ _ c.in-Some-escape.meant e.skipped c.in-Some.ensures.0 (sym c.is_close.ensures ∙ c.if-is_close.false) c.if-c-eq92.true e.is ∙ ap (λ cs. with_char c.in-Some-escape.meant (parts_at c.args.kind c.args.close 0 cs)) (sym e.left))
    c.in_ok-push.ensures.bytes e.utf8

pub loop-c-preserved : goal.loop-c-preserved
loop-c-preserved c =
    goes_on c.args.kind c.args.close (string_bytes c.loop-c.value) c.loop-c.rest.now c.args.text.now c.in-Some.c c.in-Some.after.now (string_bytes c.push-then-is_raw.new.self) c.loop-c.invariant
    (at_raw c.args.kind c.args.close c.in-Some.c _ _ c.in-Some.ensures.0 (sym c.is_close.ensures ∙ c.if-is_close.false) c.if-c-eq92.false (sym c.is_raw.ensures ∙ c.if-is_raw.true))
    c.in_ok-push-2.ensures.bytes c.in-Some.ensures.1

pub returns-else-is_raw-clause-value : goal.returns-else-is_raw-clause-value
returns-else-is_raw-clause-value c =
    stops c.args.kind c.args.close (string_bytes c.loop-c.value) c.loop-c.rest.now c.args.text.now c.loop-c.invariant
    (at_other c.args.kind c.args.close c.in-Some.c _ _ c.in-Some.ensures.0 (sym c.is_close.ensures ∙ c.if-is_close.false) c.if-c-eq92.false (sym c.is_raw.ensures ∙ c.if-is_raw.false))

pub returns-in-Some-close-clause-value : goal.returns-in-Some-close-clause-value
returns-in-Some-close-clause-value c =
    no_close c.args.kind c.args.close c.in-Some-close.field-0 (string_bytes c.loop-c.value) c.loop-c.rest.now c.args.text.now c.in-Some-close.is c.loop-c.invariant c.in_default.ensures

pub returns-clause-value : goal.returns-clause-value
returns-clause-value c =
    rw c.from_string-in-None.ensures.value (all_read c.args.kind c.args.close (string_bytes c.loop-c.value) c.loop-c.rest.now c.args.text.now c.in-None.is c.loop-c.invariant c.in_default.ensures)
