-- The bytes of a packed file: the header with the table sizes, the tables, and
-- the text.
use Rattle.std.specs.Prelude.{◌≡◌, ℕ, List, [], ◌++◌, codes, vec_items}
use Rattle.std.specs.Global.{Vec}
use Rattle.assemble.specs.Numbers.{le16}
use Rattle.assemble.specs.declared.rows.Rows.{Rows}
use Rattle.assemble.specs.declared.table.Table.{Table}
use Rattle.assemble.specs.declared.table.Table.TheVariants as table
use Rattle.assemble.specs.declared.builder.PanelBuilder.{PanelBuilder}

-- one table of a builder, and the builder with another in its place
abbrev pub rows_of : PanelBuilder → Table → Rows
rows_of b table.Names = b.names
rows_of b table.Values = b.values
rows_of b table.Functions = b.functions
rows_of b table.Blocks = b.blocks
rows_of b table.Predecessors = b.predecessors
rows_of b table.Phis = b.phis
rows_of b table.Instructions = b.instructions
rows_of b table.Mentions = b.mentions

abbrev pub with_rows : PanelBuilder → Table → Rows → PanelBuilder
with_rows b table.Names r = record b { names = r }
with_rows b table.Values r = record b { values = r }
with_rows b table.Functions r = record b { functions = r }
with_rows b table.Blocks r = record b { blocks = r }
with_rows b table.Predecessors r = record b { predecessors = r }
with_rows b table.Phis r = record b { phis = r }
with_rows b table.Instructions r = record b { instructions = r }
with_rows b table.Mentions r = record b { mentions = r }

abbrev pub with_kind : PanelBuilder → ℕ → PanelBuilder
with_kind b k = record b { kind = k }

abbrev pub with_text : PanelBuilder → Vec ℕ → PanelBuilder
with_text b t = record b { text = t }

abbrev pub Blank : Rows → Type 0
Blank r = (vec_items r.bytes ≡ []) × (r.count ≡ 0)

-- nothing in it yet
abbrev pub Empty : PanelBuilder → Type 0
Empty b =
    (b.kind ≡ 0) × (vec_items b.text ≡ []) × Blank b.names × Blank b.values × Blank b.functions
    × Blank b.blocks × Blank b.predecessors × Blank b.phis × Blank b.instructions × Blank b.mentions

-- PC, eight counts, the text's length, the kind
abbrev pub header_after : List ℕ → PanelBuilder → ℕ → List ℕ
header_after xs b text =
    xs ++ codes "PC" ++ le16 b.names.count ++ le16 b.values.count ++ le16 b.functions.count
    ++ le16 b.blocks.count ++ le16 b.predecessors.count ++ le16 b.phis.count
    ++ le16 b.instructions.count ++ le16 b.mentions.count ++ le16 text ++ le16 b.kind

abbrev pub tables_after : List ℕ → PanelBuilder → List ℕ
tables_after xs b =
    xs ++ vec_items b.names.bytes ++ vec_items b.values.bytes ++ vec_items b.functions.bytes
    ++ vec_items b.blocks.bytes ++ vec_items b.predecessors.bytes ++ vec_items b.phis.bytes
    ++ vec_items b.instructions.bytes ++ vec_items b.mentions.bytes

-- and the text behind TX
abbrev pub file_after : List ℕ → PanelBuilder → ℕ → List ℕ
file_after xs b text = tables_after (header_after xs b text) b ++ codes "TX" ++ vec_items b.text
