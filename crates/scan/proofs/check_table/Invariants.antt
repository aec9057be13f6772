use Rattle.std.proofs.Common.{◌≡◌, None}
use Rattle.std.specs.Option.{option_or}
use Rattle.component.specs.Refusals.{first_in}
use Rattle.scan.specs.Faults.{mark_of_record, codes_of_record}
use Rattle.layout.specs.Layout.{extent_in}
use Rattle.scan.proofs.check_table.Given as goal

-- no wrong mark so far, and the first wrong code so far
abbrev pub invariant-loop-i : goal.invariant-loop-i
invariant-loop-i l =
    (first_in (mark_of_record l.table l.bytes (extent_in l.layout l.table)) l.i ≡ None)
    × (l.found ≡ option_or l.initial.found (first_in (codes_of_record l.table l.bytes l.layout.text.count (extent_in l.layout l.table)) l.i))
