use Rattle.renumbered.proofs.Laws.{twice_is_none, exchanges_permute}
use Rattle.renumbered.proofs.exchange_laws.Goals as goal

pub returns : goal.returns
returns c = record { twice = twice_is_none; permute = exchanges_permute }
