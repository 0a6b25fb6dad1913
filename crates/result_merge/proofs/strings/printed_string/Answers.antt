use Rattle.std.proofs.Common.{◌≡◌, ◌∙◌, ap, IfOk, List, ℕ, subst}
use Rattle.serde_json.specs.Written.{compact_text, has_float}
use Rattle.result_json.proofs.PrintedLaws.{string_is}
use Rattle.result_merge.proofs.strings.printed_string.Goals as goal

pub printed-requires : goal.printed-requires
printed-requires c = record { no_float = ap has_float c.in_ok-try_from_str.ensures }

pub returns : goal.returns
returns c = record {
  text = subst (λ (text : List ℕ). IfOk c.printed.result (λ v. v.items ≡ text)) (ap compact_text c.in_ok-try_from_str.ensures ∙ string_is _) c.printed.ensures.text;
}
