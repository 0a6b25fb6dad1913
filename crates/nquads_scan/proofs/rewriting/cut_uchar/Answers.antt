use Rattle.std.proofs.Common.{sym, subst, arith}
use Rattle.std.proofs.lemmas.Str.{IsCharBoundary-from_drop}
use Rattle.nquads_scan.specs.Rewriting.{IsEscapeThen}
use Rattle.nquads_scan.proofs.RewritingSteps.{uchar_split}
use Rattle.nquads_scan.proofs.rewriting.cut_uchar.Goals as goal

pub range_from-requires : goal.range_from-requires
range_from-requires c =
    let e = uchar_split c.args.text.now c.as_bytes-bytes.result.now c.args.len c.as_bytes-bytes.ensures.value c.utf8.text c.requires.backslash c.requires.letter c.if-bytes-len.false c.in_ok-c.c c.in_ok-c.ensures in
    λ _. IsCharBoundary-from_drop c.args.text.now c.args.len (omega arith) e.utf8

pub returns : goal.returns
returns c =
    subst (IsEscapeThen c.args.text.now c.in_ok-c.c) (sym c.range_from.ensures.value)
    (uchar_split c.args.text.now c.as_bytes-bytes.result.now c.args.len c.as_bytes-bytes.ensures.value c.utf8.text c.requires.backslash c.requires.letter c.if-bytes-len.false c.in_ok-c.c c.in_ok-c.ensures)
