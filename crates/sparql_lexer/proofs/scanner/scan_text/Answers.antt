use Rattle.std.proofs.Common.{arith, refl}
use Rattle.sparql_lexer.specs.Terminal.{terminals}
use Rattle.sparql_lexer.proofs.ColonlessLaws.{run_start, run_left, blanks_place}
use Rattle.sparql_lexer.proofs.ScanLaws.{reads_suffix, reads_shorter, scans_start, scans_stop, scans_read}
use Rattle.sparql_lexer.proofs.scanner.scan_text.Goals as goal

pub terminals-init : goal.terminals-init
terminals-init c = (λ ts end d. scans_start c.args.text.now c.new-tokens.result.items c.new-tokens.ensures.items ts end d, run_start c.args.text.now)

pub clear_end-requires : goal.clear_end-requires
clear_end-requires c = c.run_end-end.ensures c.terminals.rest.now (blanks_place c.terminals.rest.now c.skip_blanks-place.result.now c.skip_blanks-place.ensures.value) c.terminals.invariant.1

pub returns-in_default : goal.returns-in_default
returns-in_default c = scans_stop c.args.text.now c.terminals.rest.now c.skip_blanks-place.result.now (terminals c.terminals.tokens.items) c.terminals.invariant.0 c.skip_blanks-place.ensures.value c.in_default.ensures

pub slice_bounds-push-count : goal.slice_bounds-push-count
slice_bounds-push-count c = let h = reads_shorter c.in-Some.kind c.skip_blanks-place.result.now c.in-Some.remaining.now c.in-Some.ensures.reads in omega (arith, h)

pub terminals-smaller : goal.terminals-smaller
terminals-smaller c = let h = reads_shorter c.in-Some.kind c.skip_blanks-place.result.now c.in-Some.remaining.now c.in-Some.ensures.reads in omega (arith, h, c.skip_blanks-place.ensures.shorter)

pub terminals-preserved : goal.terminals-preserved
terminals-preserved c = (
  scans_read c.args.text.now c.terminals.rest.now c.skip_blanks-place.result.now c.in-Some.remaining.now c.terminals.tokens.items c.push.new.self.items _ c.terminals.invariant.0 c.skip_blanks-place.ensures.value c.in-Some.ensures refl c.in_ok-push.ensures.items,
  run_left c.skip_blanks-place.result.now c.in-Some.remaining.now c.run_end-end.result.now (reads_suffix c.in-Some.kind c.skip_blanks-place.result.now c.in-Some.remaining.now c.in-Some.ensures.reads) (c.run_end-end.ensures c.terminals.rest.now (blanks_place c.terminals.rest.now c.skip_blanks-place.result.now c.skip_blanks-place.ensures.value) c.terminals.invariant.1),
)
