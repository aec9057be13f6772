-- What a packed file means.
use Rattle.std.specs.Prelude.{ℕ, ◌+◌, ◌*◌, List, map}
use Rattle.std.specs.List.{range_with_len, between}
use Rattle.component.specs.Meaning.{Meaning}
use Rattle.component.specs.declared.records.ReactFunctionType.{ReactFunctionType}
use Rattle.fields.specs.Fields.{le16, function_of}
use Rattle.fields.specs.Records.{value_of, function_at, block_of, predecessor_of, phi_of, instruction_of, mention_of}
use Rattle.layout.specs.declared.Extent.{Extent}
use Rattle.layout.specs.declared.Layout.{Layout}
use Rattle.layout.specs.declared.Table.TheVariants as table
use Rattle.layout.specs.Layout.{layout_of, size_of}

-- the bytes of record `i`, from its mark on, where each record has `size` bytes
abbrev pub record_part : ℕ → List ℕ → Extent → ℕ → List ℕ
record_part size bs e i = between (e.start + size * i) (e.start + size * i + size) bs

-- a table, by what the bytes of a record mean
abbrev pub table_of : {X : Type 0} → (List ℕ → X) → ℕ → List ℕ → Extent → List X
table_of read size bs e = map (λ i. read (record_part size bs e i)) (range_with_len 0 e.count)

abbrev pub text_of : List ℕ → Extent → List ℕ
text_of bs e = between e.start (e.start + e.count) bs

-- `NM` start in text, length
abbrev pub name_in : List ℕ → List ℕ → List ℕ
name_in text b = between (le16 b 2) (le16 b 2 + le16 b 4) text

abbrev pub meaning_at : List ℕ → ReactFunctionType → Layout → Meaning
meaning_at bs k l = record {
  kind = k;
  names = table_of (name_in (text_of bs l.text)) (size_of table.Names) bs l.names;
  values = table_of value_of (size_of table.Values) bs l.values;
  functions = table_of function_at (size_of table.Functions) bs l.functions;
  blocks = table_of block_of (size_of table.Blocks) bs l.blocks;
  predecessors = table_of predecessor_of (size_of table.Predecessors) bs l.predecessors;
  phis = table_of phi_of (size_of table.Phis) bs l.phis;
  instructions = table_of instruction_of (size_of table.Instructions) bs l.instructions;
  mentions = table_of mention_of (size_of table.Mentions) bs l.mentions;
}

-- the meaning of a packed file
abbrev pub decoded : List ℕ → Meaning
decoded bs = meaning_at bs (function_of (le16 bs 20)) (layout_of bs)
