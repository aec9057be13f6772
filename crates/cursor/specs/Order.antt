-- Which line comes next, and what it takes a cursor past.
use Rattle.std.specs.Prelude.{◌≡◌, ℕ, ◌+◌, cond, ◌||◌, Some, None, Option, nat_lt}
use Rattle.cursor.specs.declared.progress.Progress.{Progress}
use Rattle.cursor.specs.declared.progress.Cursor.{Cursor}
use Rattle.cursor.specs.declared.Line.{Line}
use Rattle.cursor.specs.declared.Line.TheVariants as line
use Rattle.component.specs.declared.records.Sizes.{Sizes}

-- the next record of the list whose turn it is, or where it has none, another
-- line
abbrev pub next_in : Progress → (ℕ → Line) → Option Line → Option Line
next_in p one other = cond (nat_lt p.next p.end) (Some (one p.next)) other

-- the heading of records in no list that had its turn
abbrev pub heading : Cursor → Option Line
heading c =
    cond (nat_lt c.blocks.end c.blocks.size) (Some line.OutsideFunctions)
    (cond (nat_lt c.phis.end c.phis.size || nat_lt c.instructions.end c.instructions.size) (Some line.OutsideBlocks) None)

-- values first; then what is innermost
abbrev pub line_at : Cursor → Option Line
line_at c =
    next_in c.values line.Value (next_in c.phis line.Phi (next_in c.instructions line.Instruction
    (next_in c.blocks line.Block (next_in c.functions line.Function (heading c)))))

-- what holds of each table of two cursors
abbrev pub Tables : (values functions blocks phis instructions : Progress → Progress → Type 0) → Cursor → Cursor → Type 0
Tables v f b h i c d =
    v c.values d.values × f c.functions d.functions × b c.blocks d.blocks × h c.phis d.phis
    × i c.instructions d.instructions

-- record `n` is listed: it is the next one
abbrev pub One : ℕ → Progress → Progress → Type 0
One n p q = (n ≡ p.next) × (q.next ≡ n + 1) × (q.size ≡ p.size)

abbrev pub Zero : Progress → Progress → Type 0
Zero p q = (q.next ≡ p.next) × (q.size ≡ p.size)

abbrev pub NoRecord : Cursor → Cursor → Type 0
NoRecord = Tables Zero Zero Zero Zero Zero

-- a line lists the next record of its table, and none of the others
abbrev pub Passed : Option Line → Cursor → Cursor → Type 0
Passed (Some (line.Value n)) = Tables (One n) Zero Zero Zero Zero
Passed (Some (line.Function n)) = Tables Zero (One n) Zero Zero Zero
Passed (Some (line.Block n)) = Tables Zero Zero (One n) Zero Zero
Passed (Some (line.Phi n)) = Tables Zero Zero Zero (One n) Zero
Passed (Some (line.Instruction n)) = Tables Zero Zero Zero Zero (One n)
Passed (Some line.OutsideFunctions) = NoRecord
Passed (Some line.OutsideBlocks) = NoRecord
Passed None = NoRecord

abbrev pub Same : Progress → Progress → Type 0
Same p q = q.end ≡ p.end

abbrev pub Rest : Progress → Progress → Type 0
Rest p q = q.end ≡ p.size

abbrev pub NoTurn : Cursor → Cursor → Type 0
NoTurn = Tables Same Same Same Same Same

-- a heading gives the rest of its tables their turn, and a record none
abbrev pub Turned : Option Line → Cursor → Cursor → Type 0
Turned (Some (line.Value n)) = NoTurn
Turned (Some (line.Function n)) = NoTurn
Turned (Some (line.Block n)) = NoTurn
Turned (Some (line.Phi n)) = NoTurn
Turned (Some (line.Instruction n)) = NoTurn
Turned (Some line.OutsideFunctions) = Tables Same Same Rest Same Same
Turned (Some line.OutsideBlocks) = Tables Same Same Same Rest Rest
Turned None = NoTurn

-- nothing of a table of `size` records is listed, and those below `end` have
-- their turn
abbrev pub Fresh : ℕ → ℕ → Progress → Type 0
Fresh end size p = (p.next ≡ 0) × (p.end ≡ end) × (p.size ≡ size)

-- the cursor before the first line
abbrev pub First : Sizes → Cursor → Type 0
First s c =
    Fresh s.values s.values c.values × Fresh s.functions s.functions c.functions × Fresh 0 s.blocks c.blocks
    × Fresh 0 s.phis c.phis × Fresh 0 s.instructions c.instructions
