use Rattle.nesting.proofs.Visits.{all_visited}
use Rattle.nesting.proofs.visiting_stands.Goals as goal

pub returns : goal.returns
returns c = all_visited
