use Rattle.std.proofs.Common.{◌≡◌, ℕ, ◌≤◌, slice_index}
use Rattle.component.specs.Meaning.{sizes_of}
use Rattle.rules.specs.Lists.{test_in, first_failing}
use Rattle.rules.specs.Rules.{places_before, mention_fits}
use Rattle.inspection.proofs.Inspection.read_mentions.Given as goal

-- the mentions before n are read, and their places counted
abbrev pub invariant-loop-n : goal.invariant-loop-n
invariant-loop-n g l =
    record {
      places : l.places ≡ places_before l.self.mentions l.n;
      few : l.places ≤ l.n;
      counted : (k : ℕ) → k ≤ l.n → slice_index l.before k ≡ places_before l.self.mentions k;
      found : l.found ≡ first_failing (test_in (mention_fits (sizes_of l.self)) l.self.mentions) l.n;
    }
