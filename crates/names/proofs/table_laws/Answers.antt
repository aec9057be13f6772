use Rattle.names.proofs.Probes.{empty, is_free, has_twin, added, not_added}
use Rattle.names.proofs.table_laws.Goals as goal

pub returns : goal.returns
returns c = record { empty = empty; free = is_free; twin = has_twin; added = added; not_added = not_added }
