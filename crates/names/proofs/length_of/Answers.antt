use Rattle.std.proofs.Common.{◌∙◌, ap}
use Rattle.std.specs.Option.{unwrap_or}
use Rattle.names.proofs.Bytes.{length_asked}
use Rattle.names.proofs.length_of.Goals as goal

pub returns : goal.returns
returns g c =
    c.unwrap_or.ensures ∙ ap (λ l. unwrap_or l 0) c.name_length.ensures ∙ length_asked (g.C.Component.meaning c.args.component.now).names c.args.n
