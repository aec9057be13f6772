use Rattle.nesting.proofs.Bodies.{all_nested}
use Rattle.nesting.proofs.nesting_stands.Goals as goal

pub returns : goal.returns
returns c = all_nested
