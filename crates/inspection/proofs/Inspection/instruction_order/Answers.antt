use Rattle.std.proofs.Common.{◌≡◌, false, length, sym, refl, ap, ◌∙◌, arith, rules}
use Rattle.std.proofs.lemmas.List.{get_or-replicate}
use Rattle.component.specs.declared.records.Sizes.{Sizes}
use Rattle.component.specs.Meaning.{Meaning}
use Rattle.rules.specs.Rules.{body_of, instruction_follows}
use Rattle.rules.proofs.Failing.{first_here}
use Rattle.inspection.proofs.Bodies.{follows_by_row}
use Rattle.inspection.proofs.Inspection.instruction_order.Goals as goal

pub loop-n-init : goal.loop-n-init
loop-n-init g c = record { noted = λ f l. get_or-replicate 256 f false false l; none = refl }

pub returns-then-not-instruction_follows : goal.returns-then-not-instruction_follows
returns-then-not-instruction_follows g c =
    let m = c.args.self.now in
    let n = c.loop-n.n in
    let body : c.body_in-body.result ≡ body_of m n = search rules in
    let same = follows_by_row m c.loop-n.taken n c.requires c.loop-n.invariant.noted c.body_in-body.result c.instructions_end-end.result body c.instructions_end-end.ensures in
    let size = ap (λ (s : Sizes). s.instructions) c.self.invariant ∙ ap (λ (k : Meaning). length k.instructions) c.self.view_is in
    sym (first_here (instruction_follows m) (length m.instructions) n c.loop-n.invariant.none (sym same ∙ sym c.if-not-instruction_follows.ensures) (omega arith))
