use Rattle.std.proofs.Common.{◌≡◌, ◌<◌, ◌∙◌, List, ℕ, true, length, get_or, sym, ap, refl, arith}
use Rattle.std.proofs.lemmas.List.Folds.{list_all_more}
use Rattle.std.proofs.lemmas.Str.{IsCharBoundary-after_ascii, IsCharBoundary-start}
use Rattle.rdf_core.proofs.EscapeLaws.{and_is}
use Rattle.nquads_core.specs.Terminal.{is_blank}
use Rattle.nquads_scan.proofs.ByteLaws.{blank_ascii}
use Rattle.nquads_scan.proofs.blanks.after_blanks.Goals as goal

pub loop-at-init : goal.loop-at-init
loop-at-init c = record { within = omega arith; boundary = IsCharBoundary-start c.args.text.now c.utf8.text; blank = refl }

pub loop-at-preserved : goal.loop-at-preserved
loop-at-preserved c =
    let text = c.args.text.now in
    let at = c.loop-at.at in
    let l : at < length text = omega (arith, c.loop-at-test.true, ap length c.as_bytes-bytes.ensures.value) in
    let blank : is_blank (get_or text at 0) ≡ true = ap (λ (y : List ℕ). is_blank (get_or y at 0)) (sym c.as_bytes-bytes.ensures.value) ∙ sym c.if-is_blank.ensures in record {
      within = omega (arith, l);
      boundary = IsCharBoundary-after_ascii text at c.utf8.text l (blank_ascii (get_or text at 0) blank);
      blank = list_all_more is_blank text at 0 l ∙ and_is _ (is_blank (get_or text at 0)) c.loop-at.invariant.blank blank;
    }
