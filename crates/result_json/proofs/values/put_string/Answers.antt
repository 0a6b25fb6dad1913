use Rattle.std.proofs.Common.{◌++◌, ◌∙◌, List, ℕ, ap, sym}
use Rattle.result_json.proofs.PrintedLaws.{plain_string}
use Rattle.result_json.proofs.values.put_string.Goals as goal

pub returns : goal.returns
returns c = record {
  text = plain_string c.args.text.now (sym c.if-not-is_plain_text.ensures.value) c.args.out.now.items c.push.new.self.items c.extend_from_slice-2.new.self.items c.push-2.new.self.items
      c.in_ok-push.ensures.items (c.in_ok-extend_from_slice.ensures.items ∙ ap (λ (x : List ℕ). c.push.new.self.items ++ x) c.as_bytes.ensures.value) c.in_ok-push-2.ensures.items;
}
