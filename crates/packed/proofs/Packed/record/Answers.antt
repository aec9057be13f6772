use Rattle.std.proofs.Common.{rules, ◌∙◌}
use Rattle.component.proofs.Tables.{slice_get_tabled, slice_get_tabled_past}
use Rattle.packed.proofs.Packed.record.Goals as goal

pub returns-in_err-record_part : goal.returns-in_err-record_part
returns-in_err-record_part g c = c.from_residual.ensures ∙ slice_get_tabled_past _ _ _ c.in_err-record_part.ensures

pub returns : goal.returns
returns g c = slice_get_tabled _ _ _ _ c.in_ok-record_part.ensures.0 (search rules)
