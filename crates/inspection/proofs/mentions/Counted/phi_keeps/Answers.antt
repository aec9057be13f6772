use Rattle.std.proofs.Common.{rules}
use Rattle.rules.proofs.Breaches.{phi_by_table}
use Rattle.inspection.proofs.mentions.Counted.phi_keeps.Goals as goal

pub returns-in-Some : goal.returns-in-Some
returns-in-Some g c =
    let s = c.args.self.now in
    let same = phi_by_table s.inspection.now c.places.result.sizes c.places.ensures.sizes s.before.now s.counted c.args.n in
    search rules
