use Rattle.std.proofs.Common.{ap, ◌∙◌}
use Rattle.std.specs.Option.{unwrap_or}
use Rattle.std.proofs.lemmas.Option.{unwrap_or-slice_get}
use Rattle.renumbered.specs.Layer.{blank}
use Rattle.renumbered.proofs.value_or_blank.Goals as goal

pub returns : goal.returns
returns g c =
    let vs = (g.C.Component.meaning c.args.inner.now).values in
    c.unwrap_or.ensures ∙ ap (λ o. unwrap_or o blank) c.value.ensures ∙ unwrap_or-slice_get vs c.args.n blank
