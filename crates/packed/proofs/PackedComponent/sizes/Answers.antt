use Rattle.std.proofs.Common.{◌∙◌}
use Rattle.std.proofs.lemmas.List.FromFn.{length-map-range_with_len}
use Rattle.packed.proofs.PackedComponent.sizes.Goals as goal

pub returns : goal.returns
returns c = c.sizes.ensures ∙ simp length-map-range_with_len
