use Rattle.component.proofs.Answers.{answers_tell}
use Rattle.admission.proofs.Accepts.{admitted_exactly}
use Rattle.admission.proofs.Refusing.{first_rule_broken, first_record_failing}
use Rattle.admission.proofs.Renumbered.{renumbering_judged_alike}
use Rattle.admission.proofs.admission_laws.Goals as goal

pub returns : goal.returns
returns c =
    record {
      exactly = admitted_exactly;
      rule = first_rule_broken;
      place = first_record_failing;
      answers = answers_tell;
      renumbered = renumbering_judged_alike;
      nesting = c.nesting_stands.ensures;
      visiting = c.visiting_stands.ensures;
    }
