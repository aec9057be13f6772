use Rattle.std.proofs.Common.{◌≡◌, ℕ, Bool, None}
use Rattle.rules.specs.Lists.{TestsBelow, first_failing}
use Rattle.rules.proofs.firsts.first_failing.Given as goal

-- no record before this one breaks the rule
abbrev pub invariant-loop-n : goal.invariant-loop-n
invariant-loop-n g l =
    goal.F-IsAlwaysCallable g l.keeps
    × ((p : ℕ → Bool) → TestsBelow (goal.F-post g l.keeps) p l.size → first_failing p l.n ≡ None)
