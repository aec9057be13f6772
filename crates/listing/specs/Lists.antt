-- Which part of a list is shown.
use Rattle.std.specs.Prelude.{ℕ, min}
use Rattle.component.specs.declared.records.Run.{Run}

-- at most 32 entries
abbrev pub shown : Run → ℕ
shown r = min r.count 32
