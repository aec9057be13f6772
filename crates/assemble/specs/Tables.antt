-- What each table's records have in common.
use Rattle.std.specs.Prelude.{◌≡◌, ◌≢◌, ℕ, List, codes, Result, MatchResult}
use Rattle.assemble.specs.declared.table.Table.{Table}
use Rattle.assemble.specs.declared.table.UnknownRecord.{UnknownRecord}
use Rattle.assemble.specs.declared.table.Table.TheVariants.{Names, Values, Functions, Blocks, Predecessors, Phis, Instructions, Mentions}

-- the two characters before a record
abbrev pub mark_of : Table → List ℕ
mark_of Names = codes "NM"
mark_of Values = codes "VA"
mark_of Functions = codes "FN"
mark_of Blocks = codes "BL"
mark_of Predecessors = codes "PR"
mark_of Phis = codes "PH"
mark_of Instructions = codes "IN"
mark_of Mentions = codes "ME"

-- how many bytes a record has behind its mark
abbrev pub width_of : Table → ℕ
width_of Names = 4
width_of Values = 14
width_of Functions = 8
width_of Blocks = 18
width_of Predecessors = 2
width_of Phis = 6
width_of Instructions = 22
width_of Mentions = 16

-- what one of its records is called
abbrev pub word_of : Table → List ℕ
word_of Names = codes "name"
word_of Values = codes "value"
word_of Functions = codes "function"
word_of Blocks = codes "block"
word_of Predecessors = codes "predecessor"
word_of Phis = codes "phi"
word_of Instructions = codes "instruction"
word_of Mentions = codes "mention"

-- the table whose records the word names, or the error where it names none
abbrev pub IsNamed : List ℕ → Result Table UnknownRecord → Type 0
IsNamed word r = MatchResult r (λ t. word ≡ word_of t) (λ _. (t : Table) → word ≢ word_of t)
