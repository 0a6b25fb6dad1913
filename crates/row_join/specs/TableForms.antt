-- The table that either form of the index shows. Only the view of `Keyed` uses it.
use Rattle.row_join.specs.Places.{PlaceTable}
use Rattle.row_join.specs.declared.keyed.TableForm.{TableForm}
use Rattle.row_join.specs.declared.keyed.TableForm.TheVariants.{Numbered, Hashed}

-- the table of places in either form
abbrev pub table_of : TableForm → PlaceTable
table_of (Numbered table) = table
table_of (Hashed table) = table
