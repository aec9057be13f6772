-- Which lists have their turn behind a line.
use Rattle.std.specs.Prelude.{◌≡◌, Some, None, Option}
use Rattle.std.specs.List.{slice_get}
use Rattle.std.specs.Option.{option_map}
use Rattle.component.specs.declared.records.Function.{Function}
use Rattle.component.specs.declared.records.Block.{Block}
use Rattle.component.specs.declared.records.Run.{Run}
use Rattle.component.specs.Meaning.{Meaning}
use Rattle.cursor.specs.declared.progress.Progress.{Progress}
use Rattle.cursor.specs.declared.progress.Cursor.{Cursor}
use Rattle.cursor.specs.declared.Line.{Line}
use Rattle.cursor.specs.declared.Line.TheVariants as line
use Rattle.cursor.specs.Lists.{after}
use Rattle.cursor.specs.Order.{Tables, Same, NoTurn, Turned}

-- a list has its turn, if there is one and it follows
abbrev pub Entered : Option Run → Progress → Progress → Type 0
Entered None p q = Same p q
Entered (Some list) p q = q.end ≡ after list p.end p.size

-- behind a function's line its blocks, behind a block's its phis and instructions
abbrev pub ListsEntered : Meaning → Line → Cursor → Cursor → Type 0
ListsEntered m (line.Function n) =
    Tables Same Same (Entered (option_map (λ (f : Function). f.blocks) (slice_get m.functions n))) Same Same
ListsEntered m (line.Block n) =
    Tables Same Same Same (Entered (option_map (λ (b : Block). b.phis) (slice_get m.blocks n)))
    (Entered (option_map (λ (b : Block). b.instructions) (slice_get m.blocks n)))
ListsEntered m (line.Value n) = NoTurn
ListsEntered m (line.Phi n) = NoTurn
ListsEntered m (line.Instruction n) = NoTurn
ListsEntered m line.OutsideFunctions = NoTurn
ListsEntered m line.OutsideBlocks = NoTurn

-- a record's lists have their turn, or behind a heading the rest of its tables
abbrev pub Behind : Meaning → Option Line → Cursor → Cursor → Type 0
Behind m (Some line.OutsideFunctions) = Turned (Some line.OutsideFunctions)
Behind m (Some line.OutsideBlocks) = Turned (Some line.OutsideBlocks)
Behind m (Some (line.Value n)) = ListsEntered m (line.Value n)
Behind m (Some (line.Function n)) = ListsEntered m (line.Function n)
Behind m (Some (line.Block n)) = ListsEntered m (line.Block n)
Behind m (Some (line.Phi n)) = ListsEntered m (line.Phi n)
Behind m (Some (line.Instruction n)) = ListsEntered m (line.Instruction n)
Behind m None = NoTurn
