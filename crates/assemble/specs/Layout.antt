-- What a table's bytes xs are after a record is appended: its mark, then its
-- fields in their order.
use Rattle.std.specs.Prelude.{ℕ, List, ◌++◌}
use Rattle.assemble.specs.Numbers.{le16, le32}
use Rattle.assemble.specs.Tables.{mark_of}
use Rattle.assemble.specs.declared.records.Run.{Run}
use Rattle.assemble.specs.declared.records.Range.{Range}
use Rattle.assemble.specs.declared.records.NameRecord.{NameRecord}
use Rattle.assemble.specs.declared.records.ValueRecord.{ValueRecord}
use Rattle.assemble.specs.declared.records.FunctionRecord.{FunctionRecord}
use Rattle.assemble.specs.declared.records.BlockRecord.{BlockRecord}
use Rattle.assemble.specs.declared.records.PredecessorRecord.{PredecessorRecord}
use Rattle.assemble.specs.declared.records.PhiRecord.{PhiRecord}
use Rattle.assemble.specs.declared.records.InstructionRecord.{InstructionRecord}
use Rattle.assemble.specs.declared.records.MentionRecord.{MentionRecord}
use Rattle.assemble.specs.declared.records.Record.{Record}
use Rattle.assemble.specs.declared.records.Record.TheVariants as any
use Rattle.assemble.specs.declared.table.Table.{Table}
use Rattle.assemble.specs.declared.table.Table.TheVariants as table

abbrev pub run_after : List ℕ → Run → List ℕ
run_after xs x = xs ++ le16 x.start ++ le16 x.count

abbrev pub range_after : List ℕ → Range → List ℕ
range_after xs x = xs ++ le32 x.start ++ le32 x.end

abbrev pub name_after : List ℕ → NameRecord → List ℕ
name_after xs x = xs ++ mark_of table.Names ++ le16 x.start ++ le16 x.length

abbrev pub value_after : List ℕ → ValueRecord → List ℕ
value_after xs x = range_after (xs ++ mark_of table.Values ++ le16 x.form ++ le16 x.name ++ le16 x.kind) x.range

abbrev pub function_after : List ℕ → FunctionRecord → List ℕ
function_after xs x = run_after (run_after (xs ++ mark_of table.Functions) x.params) x.blocks

abbrev pub block_after : List ℕ → BlockRecord → List ℕ
block_after xs x = run_after (run_after (run_after (xs ++ mark_of table.Blocks ++ le16 x.id) x.predecessors) x.phis) x.instructions ++ le16 x.returns ++ le16 x.value

abbrev pub predecessor_after : List ℕ → PredecessorRecord → List ℕ
predecessor_after xs x = xs ++ mark_of table.Predecessors ++ le16 x.id

abbrev pub phi_after : List ℕ → PhiRecord → List ℕ
phi_after xs x = run_after (xs ++ mark_of table.Phis ++ le16 x.value) x.operands

abbrev pub instruction_after : List ℕ → InstructionRecord → List ℕ
instruction_after xs x = run_after (run_after (run_after (xs ++ mark_of table.Instructions ++ le16 x.kind ++ le32 x.order) x.lvalues) x.operands ++ le16 x.subject) x.arguments ++ le16 x.function

abbrev pub mention_after : List ℕ → MentionRecord → List ℕ
mention_after xs x = range_after (xs ++ mark_of table.Mentions ++ le16 x.value ++ le16 x.form ++ le16 x.effect ++ le16 x.spanned) x.span

abbrev pub record_after : List ℕ → Record → List ℕ
record_after xs (any.Name x) = name_after xs x
record_after xs (any.Value x) = value_after xs x
record_after xs (any.Function x) = function_after xs x
record_after xs (any.Block x) = block_after xs x
record_after xs (any.Predecessor x) = predecessor_after xs x
record_after xs (any.Phi x) = phi_after xs x
record_after xs (any.Instruction x) = instruction_after xs x
record_after xs (any.Mention x) = mention_after xs x

abbrev pub table_of : Record → Table
table_of (any.Name x) = table.Names
table_of (any.Value x) = table.Values
table_of (any.Function x) = table.Functions
table_of (any.Block x) = table.Blocks
table_of (any.Predecessor x) = table.Predecessors
table_of (any.Phi x) = table.Phis
table_of (any.Instruction x) = table.Instructions
table_of (any.Mention x) = table.Mentions
