-- What a cursor has left to list.
use Rattle.std.specs.Prelude.{ℕ, ◌+◌, ◌-◌}
use Rattle.cursor.specs.declared.progress.Progress.{Progress}
use Rattle.cursor.specs.declared.progress.Cursor.{Cursor}
use Rattle.cursor.specs.declared.Line.{Line}
use Rattle.cursor.specs.declared.Line.TheVariants as line
use Rattle.component.specs.declared.records.Sizes.{Sizes}

-- the records of a table that have not been listed
abbrev pub unlisted : Progress → ℕ
unlisted p = p.size - p.next

-- the records of a table that have not had their turn
abbrev pub waiting : Progress → ℕ
waiting p = p.size - p.end

abbrev pub records_left : Cursor → ℕ
records_left c = unlisted c.values + unlisted c.functions + unlisted c.blocks + unlisted c.phis + unlisted c.instructions

abbrev pub unturned : Cursor → ℕ
unturned c = waiting c.blocks + waiting c.phis + waiting c.instructions

-- falls with each line, a heading too
abbrev pub left : Cursor → ℕ
left c = records_left c + unturned c

-- how many records a line lists
abbrev pub listed : Line → ℕ
listed (line.Value n) = 1
listed (line.Function n) = 1
listed (line.Block n) = 1
listed (line.Phi n) = 1
listed (line.Instruction n) = 1
listed line.OutsideFunctions = 0
listed line.OutsideBlocks = 0

-- how many records are listed of tables of these sizes
abbrev pub listed_of : Sizes → ℕ
listed_of s = s.values + s.functions + s.blocks + s.phis + s.instructions
