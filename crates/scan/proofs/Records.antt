-- The faults of a record, where its place was worked out from equal parts.
use Rattle.std.proofs.Common.{◌≡◌, ℕ, ◌+◌, ◌*◌, List, ap, ◌∙◌}
use Rattle.layout.specs.declared.Extent.{Extent}
use Rattle.layout.specs.declared.Table.{Table}
use Rattle.layout.specs.declared.Mark.{Mark}
use Rattle.layout.specs.Layout.{mark_of, size_of, record_at}
use Rattle.checks.specs.Faults.{mark_fault, record_fault}
use Rattle.scan.specs.Faults.{mark_of_record, codes_of_record}

module _ (t : Table) (bs : List ℕ) (e x : Extent) (size i : ℕ) (same : x ≡ e) (sized : size ≡ size_of t) where
  same_place : x.start + size * i ≡ record_at t e i
  same_place = ap (λ (y : Extent). y.start + size * i) same ∙ ap (λ n. e.start + n * i) sized

  pub mark_at_record : (m : Mark) → m ≡ mark_of t → mark_fault bs (x.start + size * i) m ≡ mark_of_record t bs e i
  mark_at_record m marked = ap (λ k. mark_fault bs k m) same_place ∙ ap (λ n. mark_fault bs (record_at t e i) n) marked

  pub codes_at_record : (n : ℕ) → record_fault t bs n (x.start + size * i) ≡ codes_of_record t bs n e i
  codes_at_record n = ap (λ k. record_fault t bs n k) same_place
