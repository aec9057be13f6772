use Rattle.std.proofs.Common.{◌∙◌}
use Rattle.packed.proofs.Names.{byte_some, byte_none}
use Rattle.packed.proofs.PackedComponent.name_byte.Goals as goal

pub returns-in_err-name : goal.returns-in_err-name
returns-in_err-name c =
    let p = c.args.self.now in
    c.from_residual.ensures ∙ byte_none p.bytes.now p.layout c.args.n c.args.i c.in_err-name.ensures

pub returns : goal.returns
returns c =
    let p = c.args.self.now in
    c.byte_of.ensures ∙ byte_some p.bytes.now p.layout c.args.n _ c.args.i c.in_ok-name.ensures.0 c.in_ok-name.ensures.1
