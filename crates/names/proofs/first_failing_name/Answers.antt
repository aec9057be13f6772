use Rattle.std.proofs.Common.{◌≡◌, ◌+◌, is_some, length, sym, refl, ap, ◌∙◌, subst, arith}
use Rattle.rules.specs.Lists.{first_failing}
use Rattle.rules.specs.Rules.{name_stands}
use Rattle.rules.specs.Admission.{name_breach}
use Rattle.rules.proofs.Failing.{none_more, first_here}
use Rattle.names.specs.Slots.{Slots, Holds, free_slot, with_name}
use Rattle.names.proofs.Probes.{empty, added, not_added}
use Rattle.names.proofs.Twins.{stands_apart, fails_twin, fails_length}
use Rattle.names.proofs.first_failing_name.Goals as goal

pub loop-n-init : goal.loop-n-init
loop-n-init g c =
    let ns = (g.C.Component.meaning c.args.component.now).names in
    (subst (λ (t : Slots). Holds ns t 0) (sym c.new-table.ensures) (empty ns), refl)

pub returns-in_default : goal.returns-in_default
unfolding name_breach
returns-in_default g c =
    let ns = (g.C.Component.meaning c.args.component.now).names in
    let n = c.loop-n.n in
    sym (first_here (name_stands ns) (length ns) n c.loop-n.invariant.1 (fails_length ns n (sym c.in_default.ensures.fits)) (omega arith))

pub returns-then-not-insert : goal.returns-then-not-insert
unfolding name_breach
returns-then-not-insert g c =
    let ns = (g.C.Component.meaning c.args.component.now).names in
    let n = c.loop-n.n in
    let t = c.loop-n.table in
    let none = sym (sym c.if-not-insert.true ∙ c.insert.ensures.new ∙ ap (λ x. is_some (free_slot t x)) c.in-Some.ensures.name) in
    let w = not_added ns t n c.loop-n.invariant.0 (omega arith) none in
    sym (first_here (name_stands ns) (length ns) n c.loop-n.invariant.1 (fails_twin ns n w.1) (omega arith))

pub loop-n-preserved : goal.loop-n-preserved
loop-n-preserved g c =
    let ns = (g.C.Component.meaning c.args.component.now).names in
    let n = c.loop-n.n in
    let t = c.loop-n.table in
    let some = sym (sym c.if-not-insert.false ∙ c.insert.ensures.new ∙ ap (λ x. is_some (free_slot t x)) c.in-Some.ensures.name) in
    let w = added ns t n c.loop-n.invariant.0 some in (
      subst (λ (t : Slots). Holds ns t (n + 1)) (sym (c.insert.ensures.slots ∙ ap (with_name t) c.in-Some.ensures.name)) w.0,
      none_more (name_stands ns) n c.loop-n.invariant.1 (stands_apart ns n (sym c.in-Some.ensures.fits) (λ k l e. w.1 (k, l, e))),
    )

pub returns : goal.returns
unfolding name_breach
returns g c =
    let ns = (g.C.Component.meaning c.args.component.now).names in
    let all : length ns ≡ c.loop-n.n = omega arith in
    sym (ap (first_failing (name_stands ns)) all ∙ c.loop-n.invariant.1)
