-- Why bytes are no packed file: first its length, then the first wrong mark,
-- then the first code past its last or name past the text.
use Rattle.std.specs.Prelude.{◌≡◌, ℕ, List, Some, None, Ok, Err, Option, Result}
use Rattle.std.specs.Option.{option_or}
use Rattle.component.specs.Refusals.{first_in}
use Rattle.component.specs.declared.fault.Fault.{Fault}
use Rattle.layout.specs.declared.Extent.{Extent}
use Rattle.layout.specs.declared.Layout.{Layout}
use Rattle.layout.specs.declared.Table.{Table}
use Rattle.layout.specs.declared.Table.TheVariants as table
use Rattle.layout.specs.Layout.{header_mark, text_mark, mark_of, layout_of, extent_in, record_at}
use Rattle.checks.specs.Faults.{length_fault, mark_fault, code_fault, record_fault}

abbrev pub mark_of_record : Table → List ℕ → Extent → ℕ → Option Fault
mark_of_record t bs e i = mark_fault bs (record_at t e i) (mark_of t)

abbrev pub codes_of_record : Table → List ℕ → ℕ → Extent → ℕ → Option Fault
codes_of_record t bs n e i = record_fault t bs n (record_at t e i)

-- the first of a table
abbrev pub marks_in : List ℕ → Layout → Table → Option Fault
marks_in bs l t = first_in (mark_of_record t bs (extent_in l t)) (extent_in l t).count

abbrev pub codes_in : List ℕ → Layout → Table → Option Fault
codes_in bs l t = first_in (codes_of_record t bs l.text.count (extent_in l t)) (extent_in l t).count

-- the first in file order: of the header, of each table, of the text
abbrev pub in_file_order : Option Fault → (Table → Option Fault) → Option Fault → Option Fault
in_file_order header of text =
    option_or header
    (option_or (of table.Names) (option_or (of table.Values) (option_or (of table.Functions) (option_or (of table.Blocks)
    (option_or (of table.Predecessors) (option_or (of table.Phis) (option_or (of table.Instructions) (option_or (of table.Mentions) text))))))))

-- the text's mark stands behind the last mention
abbrev pub marks_fault : List ℕ → Layout → Option Fault
marks_fault bs l =
    in_file_order (mark_fault bs 0 header_mark) (marks_in bs l)
    (mark_fault bs (record_at table.Mentions l.mentions l.mentions.count) text_mark)

-- the header's code is the kind of function 0; the text has none
abbrev pub codes_fault : List ℕ → Layout → Option Fault
codes_fault bs l = in_file_order (code_fault bs 20 3) (codes_in bs l) None

-- why the bytes are no packed file; none where they are one
abbrev pub fault_of : List ℕ → Option Fault
fault_of bs = option_or (length_fault bs) (option_or (marks_fault bs (layout_of bs)) (codes_fault bs (layout_of bs)))

-- one run over records: a wrong mark ends it, and else it answers the first
-- wrong code
abbrev pub Scanned : Result (Option Fault) Fault → Option Fault → Option Fault → Type 0
Scanned (Ok found) marks codes = (marks ≡ None) × (found ≡ codes)
Scanned (Err e) marks codes = marks ≡ Some e
