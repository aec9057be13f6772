-- What is wrong with a file's length, with a mark, or with the codes of a record.
use Rattle.std.specs.Prelude.{ℕ, ◌+◌, min, cond, ◌&&◌, List, length, Some, None, Option, ◌==◌, nat_le, nat_lt, slice_index}
use Rattle.std.specs.Option.{option_or}
use Rattle.component.specs.Refusals.{fault_unless}
use Rattle.component.specs.declared.fault.Fault.{Fault}
use Rattle.component.specs.declared.fault.Reason.TheVariants.{FileLength, RecordMark, FieldCode}
use Rattle.fields.specs.Fields.{le16}
use Rattle.layout.specs.declared.Mark.{Mark}
use Rattle.layout.specs.declared.Table.{Table}
use Rattle.layout.specs.declared.Table.TheVariants as table
use Rattle.layout.specs.Layout.{end_of}

-- the place of a wrong length is the first byte that is missing or over; a
-- file without a whole header misses its next byte
abbrev pub length_fault : List ℕ → Option Fault
length_fault bs =
    cond (nat_lt (length bs) 22) (Some (record { reason = FileLength; place = length bs }))
    (fault_unless (length bs == end_of bs) FileLength (min (length bs) (end_of bs)))

abbrev pub mark_fault : List ℕ → ℕ → Mark → Option Fault
mark_fault bs at m =
    fault_unless (slice_index bs at == m.first && slice_index bs (at + 1) == m.second) RecordMark at

-- a code field at `at` whose codes are those below `limit`
abbrev pub code_fault : List ℕ → ℕ → ℕ → Option Fault
code_fault bs at limit = fault_unless (nat_lt (le16 bs at) limit) FieldCode at

-- a name ends within the text's `n` bytes
abbrev pub name_fault : List ℕ → ℕ → ℕ → Option Fault
name_fault bs n at =
    fault_unless (nat_le (le16 bs (at + 2) + le16 bs (at + 4)) n) FieldCode (at + 2)

-- form, type
abbrev pub value_fault : List ℕ → ℕ → Option Fault
value_fault bs at = option_or (code_fault bs (at + 2) 3) (code_fault bs (at + 6) 5)

-- form; and but for a hole, effect and span
abbrev pub mention_fault : List ℕ → ℕ → Option Fault
mention_fault bs at =
    option_or (code_fault bs (at + 4) 3)
    (cond (le16 bs (at + 4) == 2) None (option_or (code_fault bs (at + 6) 8) (code_fault bs (at + 8) 2)))

-- the codes of the record at `at`, in a file whose text has `n` bytes
abbrev pub record_fault : Table → List ℕ → ℕ → ℕ → Option Fault
record_fault table.Names bs n at = name_fault bs n at
record_fault table.Values bs n at = value_fault bs at
record_fault table.Functions bs n at = None
record_fault table.Blocks bs n at = code_fault bs (at + 16) 2
record_fault table.Predecessors bs n at = None
record_fault table.Phis bs n at = None
record_fault table.Instructions bs n at = code_fault bs (at + 2) 7
record_fault table.Mentions bs n at = mention_fault bs at
