-- The row that a reference names. Only private clauses use this definition.
use Rattle.std.specs.Prelude.{ℕ, [], get_or}
use Rattle.algebra_model.specs.Solution.{Solution}
use Rattle.row_join.specs.declared.row_ref.RowRef.{RowRef}

-- the row at its place in its list
abbrev pub row_of : RowRef → Solution ℕ
row_of row = get_or row.rows.now.rows row.at []
