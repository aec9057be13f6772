-- Which lists are expanded.
use Rattle.std.specs.Prelude.{ℕ, ◌+◌, cond, ◌&&◌, Some, None, Option, ◌==◌, nat_le}
use Rattle.std.specs.Option.{unwrap_or}
use Rattle.component.specs.declared.records.Run.{Run}

-- the end of a list that starts at `next` and stays in a table of `size`
-- records
abbrev pub end_of : Run → ℕ → ℕ → Option ℕ
end_of r next size = cond (r.start == next && nat_le (r.start + r.count) size) (Some (r.start + r.count)) None

-- the first record that is left after a list: the list's end, or where the
-- list does not follow, the same as before
abbrev pub after : Run → ℕ → ℕ → ℕ
after r next size = unwrap_or (end_of r next size) next
