use Rattle.std.proofs.Common.{◌∙◌}
use Rattle.std.proofs.lemmas.List.{length-map}
use Rattle.std.proofs.lemmas.List.FromFn.{length-map-range_with_len}
use Rattle.renumbered.proofs.RenumberedComponent.sizes.Goals as goal

pub returns : goal.returns
returns g c = c.sizes.ensures ∙ simp (length-map-range_with_len, length-map)
