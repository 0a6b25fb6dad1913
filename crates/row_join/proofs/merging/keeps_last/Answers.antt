use Rattle.std.proofs.Common.{◌≡◌, ◌-◌, [], ℕ, get_or, length, sym, ap, ◌∙◌}
use Rattle.std.proofs.lemmas.Option.{get_or_from_slice_get}
use Rattle.std.proofs.lemmas.Result.{IfOk-weaker}
use Rattle.row_join.specs.Numbers.{passes}
use Rattle.row_join.proofs.merging.keeps_last.Goals as goal

pub returns-then-is_certain : goal.returns-then-is_certain
returns-then-is_certain g c =
    let rows = c.args.made.now.rows in
    record { value = sym (c.is_certain.ensures.all c.if-is_certain.true (get_or rows (length rows - 1) [])) }

pub keeps-requires : goal.keeps-requires
keeps-requires g c =
    let knows = g.T.RowTest.knows c.args.test.now in
    let rows = c.args.made.now.rows in
    let items = c.read.new.row.items in
    let is = ap (λ (n : ℕ). get_or rows (n - 1) []) (sym c.len.ensures.value) ∙ get_or_from_slice_get rows (c.len.result - 1) items [] c.in_ok-read.ensures.found in
    record { known = ap (passes knows) (c.as_slice.ensures.value ∙ sym is) ∙ c.requires.known }

pub returns : goal.returns
returns g c =
    let keeps = g.T.RowTest.keeps c.args.test.now in
    let rows = c.args.made.now.rows in
    let items = c.read.new.row.items in
    let is = ap (λ (n : ℕ). get_or rows (n - 1) []) (sym c.len.ensures.value) ∙ get_or_from_slice_get rows (c.len.result - 1) items [] c.in_ok-read.ensures.found in
    record {
      value = IfOk-weaker c.keeps.result (λ kept. kept ≡ keeps c.as_slice.result.now) (λ kept. kept ≡ keeps (get_or rows (length rows - 1) []))
          (λ kept h. h ∙ ap keeps (c.as_slice.ensures.value ∙ sym is)) c.keeps.ensures.value;
    }
