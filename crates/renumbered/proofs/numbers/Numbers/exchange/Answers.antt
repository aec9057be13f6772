use Rattle.std.proofs.Common.{◌≡◌, length, rules}
use Rattle.renumbered.proofs.Numberings.{tables_exchanged}
use Rattle.renumbered.proofs.numbers.Numbers.exchange.Goals as goal

pub invariant_of-self : goal.invariant_of-self
invariant_of-self c =
    let t = c.args.self.now in
    let nlen : length t.numbers ≡ 2048 = search rules in
    let olen : length t.origins ≡ 2048 = search rules in
    let known = tables_exchanged t.numbers t.origins _ _ c.args.a c.args.b c.requires.first c.requires.second nlen olen t.back t.forth c.exchange_entries.ensures c.exchange_entries-2.ensures in
    record { back = known.2; forth = known.3 }

pub returns : goal.returns
returns c =
    let t = c.args.self.now in
    let nlen : length t.numbers ≡ 2048 = search rules in
    let olen : length t.origins ≡ 2048 = search rules in
    let known = tables_exchanged t.numbers t.origins _ _ c.args.a c.args.b c.requires.first c.requires.second nlen olen t.back t.forth c.exchange_entries.ensures c.exchange_entries-2.ensures in
    record { numbers = known.0; origins = known.1 }
