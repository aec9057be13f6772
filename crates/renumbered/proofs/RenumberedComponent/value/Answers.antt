use Rattle.std.proofs.Common.{◌<◌, ◌≤◌, length, ap, arith}
use Rattle.component.specs.declared.records.Sizes.{Sizes}
use Rattle.component.proofs.Tables.{slice_get_tabled, slice_get_tabled_past}
use Rattle.renumbered.specs.Layer.{value_at}
use Rattle.renumbered.proofs.RenumberedComponent.value.Goals as goal

pub returns-then-n-sizes : goal.returns-then-n-sizes
returns-then-n-sizes g c =
    let t = c.args.self.now.numbers.origins in
    let vs = (g.C.Component.meaning c.args.self.now.inner).values in
    let h : c.args.n < length vs = omega (arith, ap (λ (s : Sizes). s.values) c.sizes.ensures) in
    slice_get_tabled (value_at t vs) (length vs) c.args.n _ h c.value_of_number.ensures

pub returns-else-n-sizes : goal.returns-else-n-sizes
returns-else-n-sizes g c =
    let t = c.args.self.now.numbers.origins in
    let vs = (g.C.Component.meaning c.args.self.now.inner).values in
    let h : length vs ≤ c.args.n = omega (arith, ap (λ (s : Sizes). s.values) c.sizes.ensures) in
    slice_get_tabled_past (value_at t vs) (length vs) c.args.n h
