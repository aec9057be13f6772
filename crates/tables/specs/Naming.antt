-- The names of lent tables.
use Rattle.std.specs.Prelude.{ℕ, List, take, drop}
use Rattle.tables.specs.declared.NameSpan.{NameSpan}

-- a name is what there is of `length` bytes of the text from `start` on
abbrev pub name_in : List ℕ → NameSpan → List ℕ
name_in text s = take s.length (drop s.start text)
