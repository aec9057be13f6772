use Rattle.std.proofs.Common.{length, rules, ◌∙◌, arith}
use Rattle.std.proofs.lemmas.Iterator.{YieldsList-from_range}
use Rattle.std.proofs.lemmas.Iterator.Consumers.{fold_from_yields_List}
use Rattle.std.specs.List.{slice_get}
use Rattle.rules.specs.Rules.{name_at}
use Rattle.names.specs.Names.{mixed_in}
use Rattle.names.proofs.Bytes.{hash_by_bytes}
use Rattle.names.proofs.hash_of.Goals as goal

pub returns : goal.returns
returns g c =
    let bs = name_at (g.C.Component.meaning c.args.component.now).names c.args.n in
    fold_from_yields_List _ (λ h i. mixed_in h (slice_get bs i)) 2166136261 c.fold.result c.fold.ensures.ran (YieldsList-from_range 0 c.args.len (length bs) (cc) (omega (arith, c.requires))) (λ a x b q k. search rules)
    ∙ hash_by_bytes bs
