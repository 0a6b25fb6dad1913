use Rattle.std.proofs.Common.{sym, subst, arith}
use Rattle.std.proofs.lemmas.Str.{IsCharBoundary-from_drop}
use Rattle.nquads_scan.specs.Rewriting.{IsEscapeThen}
use Rattle.nquads_scan.proofs.RewritingSteps.{echar_split}
use Rattle.nquads_scan.proofs.rewriting.cut_escape.Goals as goal

pub range_from-requires : goal.range_from-requires
range_from-requires c =
    let e = echar_split c.args.text.now c.as_bytes-bytes.result.now c.in_ok-c.c c.as_bytes-bytes.ensures.value c.utf8.text c.if-bytes-lt2.false c.if-bytes-ne92.false c.in_ok-c.ensures.value in
    λ _. IsCharBoundary-from_drop c.args.text.now 2 (omega arith) e.utf8

pub returns : goal.returns
returns c =
    subst (IsEscapeThen c.args.text.now c.in_ok-c.c) (sym c.range_from.ensures.value)
    (echar_split c.args.text.now c.as_bytes-bytes.result.now c.in_ok-c.c c.as_bytes-bytes.ensures.value c.utf8.text c.if-bytes-lt2.false c.if-bytes-ne92.false c.in_ok-c.ensures.value)
