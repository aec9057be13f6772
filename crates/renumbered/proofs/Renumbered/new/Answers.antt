use Rattle.std.proofs.Common.{refl}
use Rattle.renumbered.proofs.Layers.{layered_own}
use Rattle.renumbered.proofs.Renumbered.new.Goals as goal

pub returns : goal.returns
returns g c =
    record {
      inner = refl;
      meaning = layered_own c.new.result (g.C.Component.meaning c.args.inner) c.new.ensures.numbers c.new.ensures.origins;
    }
