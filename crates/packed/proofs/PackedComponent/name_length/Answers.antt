use Rattle.std.proofs.Common.{◌∙◌}
use Rattle.packed.proofs.Names.{length_some, length_none}
use Rattle.packed.proofs.PackedComponent.name_length.Goals as goal

pub returns-in_err-name : goal.returns-in_err-name
returns-in_err-name c =
    let p = c.args.self.now in
    c.from_residual.ensures ∙ length_none p.bytes.now p.layout c.args.n c.in_err-name.ensures

pub returns : goal.returns
returns c =
    let p = c.args.self.now in
    length_some p.bytes.now p.layout c.args.n _ c.in_ok-name.ensures.0 c.in_ok-name.ensures.1
