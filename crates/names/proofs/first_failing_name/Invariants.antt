use Rattle.std.proofs.Common.{◌≡◌, None}
use Rattle.rules.specs.Lists.{first_failing}
use Rattle.rules.specs.Rules.{name_stands}
use Rattle.names.specs.Slots.{Holds}
use Rattle.names.proofs.first_failing_name.Given as goal

-- the names before n stand, and the table holds them
abbrev pub invariant-loop-n : goal.invariant-loop-n
invariant-loop-n g l =
    let ns = (g.C.Component.meaning l.component).names in
    Holds ns l.table l.n × (first_failing (name_stands ns) l.n ≡ None)
