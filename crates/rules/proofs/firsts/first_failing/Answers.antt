use Rattle.std.proofs.Common.{sym, ◌∙◌, arith}
use Rattle.rules.proofs.Failing.{first_here}
use Rattle.rules.proofs.firsts.first_failing.Goals as goal

pub returns-then-not-keeps : goal.returns-then-not-keeps
returns-then-not-keeps g c p h =
    let fails = sym (h c.loop-n.n c.keeps.result (omega arith) c.keeps.ensures) ∙ c.if-not-keeps.true in
    sym (first_here p c.args.size c.loop-n.n (c.loop-n.invariant.1 p h) fails (omega arith))
