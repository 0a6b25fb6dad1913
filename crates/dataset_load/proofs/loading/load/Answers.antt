use Rattle.std.proofs.Common.{◌≡◌, ℕ, List, ap, ◌∙◌, subst, IfOk, IfErr}
use Rattle.std.specs.Borrow.{Bor}
use Rattle.nquads_core.specs.Lines.{lines}
use Rattle.nquads_core.specs.Pieces.{IsBadLine}
use Rattle.dataset_load.specs.Fault.{IfBadLine}
use Rattle.dataset_load.specs.Lines.{all_lines, texts}
use Rattle.dataset_load.specs.Loaded.{IsLoaded}
use Rattle.dataset_load.proofs.loading.load.Goals as goal

pub returns-clause-loaded : goal.returns-clause-loaded
returns-clause-loaded g c =
    let e : all_lines (texts c.as_slice.result.now) ≡ lines (c.args.doc.now) =
    ap (λ (ps : List (Bor (List ℕ))). all_lines (texts ps)) c.as_slice.ensures.value ∙ c.in_ok-pieces.ensures.lines in
    subst (λ (ls : List (List ℕ)). IfOk c.load_pieces.result (IsLoaded ls)) e c.load_pieces.ensures.loaded

pub returns-clause-bad_line : goal.returns-clause-bad_line
returns-clause-bad_line g c =
    let e : all_lines (texts c.as_slice.result.now) ≡ lines (c.args.doc.now) =
    ap (λ (ps : List (Bor (List ℕ))). all_lines (texts ps)) c.as_slice.ensures.value ∙ c.in_ok-pieces.ensures.lines in
    subst (λ (ls : List (List ℕ)). IfErr c.load_pieces.result (IfBadLine (IsBadLine ls))) e c.load_pieces.ensures.bad_line
