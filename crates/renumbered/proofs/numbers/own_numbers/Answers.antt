use Rattle.std.proofs.Common.{rules}
use Rattle.renumbered.proofs.Numberings.{number_own}
use Rattle.renumbered.proofs.numbers.own_numbers.Goals as goal

pub returns : goal.returns
returns c = number_own _ (λ k h. let q = c.from_fn.ensures.items.at k 0 h in search rules)
