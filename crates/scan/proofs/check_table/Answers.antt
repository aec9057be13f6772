use Rattle.std.proofs.Common.{◌+◌, ◌*◌, ◌<◌, sym, ap, ◌∙◌, arith}
use Rattle.std.specs.Option.{option_or}
use Rattle.std.proofs.lemmas.Result.{err_from_is_err_and}
use Rattle.component.specs.Refusals.{first_in}
use Rattle.component.proofs.Firsts.{first_in_more, first_in_none, first_in_hit, option_or_assoc}
use Rattle.layout.specs.declared.Extent.{Extent}
use Rattle.layout.specs.Layout.{extent_in}
use Rattle.checks.specs.Faults.{record_fault}
use Rattle.scan.specs.Faults.{mark_of_record, codes_of_record}
use Rattle.scan.proofs.Records.{mark_at_record, codes_at_record}
use Rattle.scan.proofs.check_table.Goals as goal

pub returns-in_err-check_mark : goal.returns-in_err-check_mark
returns-in_err-check_mark c =
    let t = c.args.table in
    let bs = c.args.bytes.now in
    let e = extent_in c.args.layout.now t in
    let i = c.loop-i.i in
    let m = mark_at_record t bs e _ _ i c.extent-extent.ensures c.record_size-size.ensures _ c.mark-mark.ensures in
    let l : i < e.count = omega (arith, ap (λ (x : Extent). x.count) c.extent-extent.ensures) in
    let p = err_from_is_err_and c.from_residual.result c.from_residual.ensures.1 in
    rw (p.1, p.2)
    (first_in_hit (mark_of_record t bs e) e.count i _ c.loop-i.invariant.0 (sym m ∙ sym c.in_err-check_mark.ensures) l)

pub loop-i-preserved : goal.loop-i-preserved
loop-i-preserved c =
    let t = c.args.table in
    let bs = c.args.bytes.now in
    let e = extent_in c.args.layout.now t in
    let n = c.args.layout.now.text.count in
    let i = c.loop-i.i in
    let m = mark_at_record t bs e _ _ i c.extent-extent.ensures c.record_size-size.ensures _ c.mark-mark.ensures in
    let d = codes_at_record t bs e _ _ i c.extent-extent.ensures c.record_size-size.ensures n in
    let f = codes_of_record t bs n e in (
      first_in_none (mark_of_record t bs e) i c.loop-i.invariant.0 (sym m ∙ sym c.in_ok-check_mark.ensures),
      c.note_wrong.ensures
          ∙ ap (λ o. option_or o (record_fault t bs n (c.extent-extent.result.start + c.record_size-size.result * i))) c.loop-i.invariant.1
          ∙ ap (option_or (option_or c.args.earlier (first_in f i))) d
          ∙ option_or_assoc c.args.earlier (first_in f i) (f i)
          ∙ ap (option_or c.args.earlier) (sym (first_in_more f i)),
    )
