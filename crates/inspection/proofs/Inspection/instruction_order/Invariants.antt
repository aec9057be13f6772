use Rattle.std.proofs.Common.{◌≡◌, ℕ, ◌<◌, false, slice_index_or, None}
use Rattle.rules.specs.Lists.{first_failing}
use Rattle.rules.specs.Rules.{taken_before, instruction_follows}
use Rattle.inspection.proofs.Inspection.instruction_order.Given as goal

-- the instructions before n are in order, and their bodies are noted
abbrev pub invariant-loop-n : goal.invariant-loop-n
invariant-loop-n g l =
    record {
      noted : (f : ℕ) → f < 256 → slice_index_or l.taken f false ≡ taken_before l.self l.n f;
      none : first_failing (instruction_follows l.self) l.n ≡ None;
    }
