-- How a builder lends one of its tables.
use Rattle.std.specs.Borrow.{Lends, MutBor, Fml}
use Rattle.assemble.specs.declared.rows.Rows.{Rows}
use Rattle.assemble.specs.declared.table.Table.{Table}
use Rattle.assemble.specs.declared.builder.PanelBuilder.{PanelBuilder}
use Rattle.assemble.specs.contracts.builder.PanelBuilder.{the_row}
use Rattle.assemble.specs.contracts.rows.Rows as rows
use Rattle.assemble.specs.Files.{with_rows}

-- the builder ends with that table as it is last behind r
abbrev pub LendsRows : MutBor PanelBuilder → Table → MutBor Rows → Fml
LendsRows b t r = Lends the_row rows.the_row b r (with_rows b.now t)
