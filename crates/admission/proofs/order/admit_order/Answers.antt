use Rattle.std.proofs.Common.{arith}
use Rattle.admission.proofs.Fits.{fitting, body_inside}
use Rattle.admission.proofs.order.admit_order.Goals as goal

pub instruction_order-requires : goal.instruction_order-requires
instruction_order-requires g c i f b =
    let m = c.args.inspection.now in omega (arith, body_inside m (fitting m c.requires.fitting) i f b, c.requires.few)
