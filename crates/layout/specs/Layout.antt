-- Where the tables of a packed file stand: the header, then each table's
-- records, then the text behind its mark.
use Rattle.std.specs.Prelude.{List, ℕ, ◌+◌, ◌*◌}
use Rattle.component.specs.declared.records.Sizes.{Sizes}
use Rattle.fields.specs.Fields.{le16}
use Rattle.layout.specs.declared.Extent.{Extent}
use Rattle.layout.specs.declared.Layout.{Layout}
use Rattle.layout.specs.declared.Mark.{Mark}
use Rattle.layout.specs.declared.Table.{Table}
use Rattle.layout.specs.declared.Table.TheVariants as table

-- two letters, as their bytes
abbrev pub letters : ℕ → ℕ → Mark
letters a b = record { first = a; second = b }

abbrev pub mark_of : Table → Mark
mark_of table.Names = letters 78 77
mark_of table.Values = letters 86 65
mark_of table.Functions = letters 70 78
mark_of table.Blocks = letters 66 76
mark_of table.Predecessors = letters 80 82
mark_of table.Phis = letters 80 72
mark_of table.Instructions = letters 73 78
mark_of table.Mentions = letters 77 69

-- `PC`
abbrev pub header_mark : Mark
header_mark = letters 80 67

-- `TX`
abbrev pub text_mark : Mark
text_mark = letters 84 88

-- the header: `PC`, eight table sizes, text length, kind
abbrev pub names_at : List ℕ → ℕ
names_at bs = 22

abbrev pub values_at : List ℕ → ℕ
values_at bs = names_at bs + 6 * le16 bs 2

abbrev pub functions_at : List ℕ → ℕ
functions_at bs = values_at bs + 16 * le16 bs 4

abbrev pub blocks_at : List ℕ → ℕ
blocks_at bs = functions_at bs + 10 * le16 bs 6

abbrev pub predecessors_at : List ℕ → ℕ
predecessors_at bs = blocks_at bs + 20 * le16 bs 8

abbrev pub phis_at : List ℕ → ℕ
phis_at bs = predecessors_at bs + 4 * le16 bs 10

abbrev pub instructions_at : List ℕ → ℕ
instructions_at bs = phis_at bs + 8 * le16 bs 12

abbrev pub mentions_at : List ℕ → ℕ
mentions_at bs = instructions_at bs + 24 * le16 bs 14

-- the text stands behind its mark
abbrev pub text_at : List ℕ → ℕ
text_at bs = mentions_at bs + 18 * le16 bs 16 + 2

-- how long the file has to be
abbrev pub end_of : List ℕ → ℕ
end_of bs = text_at bs + le16 bs 18

abbrev pub extent : ℕ → ℕ → Extent
extent at n = record { start = at; count = n }

abbrev pub layout_of : List ℕ → Layout
layout_of bs = record {
  names = extent (names_at bs) (le16 bs 2);
  values = extent (values_at bs) (le16 bs 4);
  functions = extent (functions_at bs) (le16 bs 6);
  blocks = extent (blocks_at bs) (le16 bs 8);
  predecessors = extent (predecessors_at bs) (le16 bs 10);
  phis = extent (phis_at bs) (le16 bs 12);
  instructions = extent (instructions_at bs) (le16 bs 14);
  mentions = extent (mentions_at bs) (le16 bs 16);
  text = extent (text_at bs) (le16 bs 18);
}

abbrev pub size_of : Table → ℕ
size_of table.Names = 6
size_of table.Values = 16
size_of table.Functions = 10
size_of table.Blocks = 20
size_of table.Predecessors = 4
size_of table.Phis = 8
size_of table.Instructions = 24
size_of table.Mentions = 18

abbrev pub extent_in : Layout → Table → Extent
extent_in l table.Names = l.names
extent_in l table.Values = l.values
extent_in l table.Functions = l.functions
extent_in l table.Blocks = l.blocks
extent_in l table.Predecessors = l.predecessors
extent_in l table.Phis = l.phis
extent_in l table.Instructions = l.instructions
extent_in l table.Mentions = l.mentions

-- how many records each table has
abbrev pub sizes_in : Layout → Sizes
sizes_in l = record {
  names = l.names.count;
  values = l.values.count;
  functions = l.functions.count;
  blocks = l.blocks.count;
  predecessors = l.predecessors.count;
  phis = l.phis.count;
  instructions = l.instructions.count;
  mentions = l.mentions.count;
}

-- the byte at which record `i` of a table begins
abbrev pub record_at : Table → Extent → ℕ → ℕ
record_at t e i = e.start + size_of t * i
