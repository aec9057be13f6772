use Rattle.std.proofs.Common.{ap, ◌∙◌}
use Rattle.rules.specs.Admission.{admission}
use Rattle.admission.proofs.admit.Goals as goal

pub returns-clause-judged : goal.returns-clause-judged
returns-clause-judged g c = c.admit_inspected.ensures ∙ ap admission c.new.ensures
