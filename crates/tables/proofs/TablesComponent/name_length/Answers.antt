use Rattle.std.proofs.Common.{rules, map, length, Some, ap, ◌∙◌}
use Rattle.std.proofs.lemmas.Option.{slice_get_read, slice_get-get_or}
use Rattle.component.proofs.Tables.{slice_get_map_some}
use Rattle.tables.specs.Naming.{name_in}
use Rattle.tables.proofs.TablesComponent.name_length.Goals as goal

pub returns : goal.returns
returns c =
    let f = name_in c.args.self.now.text.now in
    let names = c.args.self.now.names.now in
    ap Some c.len.ensures ∙ slice_get_map_some length (map f names) c.args.n _ (slice_get_map_some f names c.args.n _ (search (rules, slice_get_read, slice_get-get_or)))
