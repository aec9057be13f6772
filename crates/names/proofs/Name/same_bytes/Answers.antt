use Rattle.std.proofs.Common.{length, eqb, rules, ap, ◌∙◌, arith}
use Rattle.std.proofs.lemmas.Iterator.{YieldsList-from_range}
use Rattle.std.proofs.lemmas.Iterator.Search.{all_from_yields_List}
use Rattle.std.specs.List.{slice_get}
use Rattle.std.specs.Option.{option_eq}
use Rattle.rules.specs.Rules.{name_at}
use Rattle.names.specs.Names.{bytes_of}
use Rattle.names.proofs.Bytes.{alike_by_bytes}
use Rattle.names.proofs.Name.same_bytes.Goals as goal

pub returns : goal.returns
returns g c =
    let xs = bytes_of c.args.self.now in
    let ys = name_at c.args.self.now.names c.args.k in
    all_from_yields_List (λ i. option_eq eqb (slice_get xs i) (slice_get ys i)) _ _ c.all.result c.all.ensures.ran (YieldsList-from_range 0 c.self.inside.len (length xs) (cc) (omega (arith, ap (λ x. length (bytes_of x)) c.self.view_is))) (λ x b q k. search rules)
    ∙ alike_by_bytes xs ys c.requires
