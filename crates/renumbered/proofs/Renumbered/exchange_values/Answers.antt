use Rattle.std.proofs.Common.{refl, arith}
use Rattle.renumbered.proofs.Layers.{layered_exchanged}
use Rattle.renumbered.proofs.Renumbered.exchange_values.Goals as goal

pub returns : goal.returns
returns g c =
    record {
      inner = refl;
      meaning =
          layered_exchanged c.args.self.now.numbers c.exchange.new.self c.args.a c.args.b
          c.exchange.ensures.numbers c.exchange.ensures.origins
          (g.C.Component.meaning c.args.self.now.inner) (omega arith) (omega arith);
    }
