use Rattle.std.proofs.Common.{◌≡◌, ◌-◌, ◌^◌, ◌<◌, length, drop}
use Rattle.rdf_core.specs.LexicalReading.{hex_at}
use Rattle.nquads_scan.proofs.rewriting.named_char.Given as goal

abbrev pub invariant-loop-b : goal.invariant-loop-b
invariant-loop-b l = record {
  left : hex_at (length l.digits - l.b-index) l.value (drop l.b-index l.digits) ≡ hex_at (length l.digits) 0 l.digits;
  fits : l.value < 16 ^ l.b-index;
}
