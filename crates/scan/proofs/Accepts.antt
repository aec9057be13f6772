-- No fault is given exactly where the bytes are a packed file.
use Rattle.std.proofs.Common.{◌≡◌, ℕ, ◌+◌, ◌<◌, Bool, true, false, cond, eqb, ltb, List, length, get_or, Some, None, Option, refl, inl, inr, arith}
use Rattle.std.specs.Option.{option_or}
use Rattle.std.proofs.lemmas.Bool.{and_from, and_parts, cases_Bool, cases_eq, eq-eqb, eqb-true, le-leb, le-ltb, leb-true, lt-ltb, ltb-true, ne_eqb}
use Rattle.component.specs.declared.fault.Fault.{Fault}
use Rattle.component.proofs.Firsts.{first_in_all, first_in_each, option_or_none}
use Rattle.fields.specs.Fields.{le16}
use Rattle.layout.specs.declared.Mark.{Mark}
use Rattle.layout.specs.declared.Table.{Table}
use Rattle.layout.specs.declared.Table.TheVariants as table
use Rattle.layout.specs.Layout.{header_mark, text_mark, mark_of, layout_of, end_of, extent_in}
use Rattle.checks.specs.Faults.{mark_fault, code_fault, record_fault, length_fault}
use Rattle.scan.specs.Faults.{mark_of_record, codes_of_record, marks_in, codes_in, in_file_order, marks_fault, codes_fault, fault_of}
use Rattle.scan.specs.Files.{Marked, Coded, PackedFile, AcceptedExactly, place_of}

-- a test that gives no fault was true
passed : (b : Bool) (f : Fault) → cond b None (Some f) ≡ None → b ≡ true
passed true f e = refl
passed false f e = let z : ◌≡◌ {A = ℕ} 0 1 = cc in absurd (omega arith)

both_none : {X : Type 0} (a b : Option X) → a ≡ None → b ≡ None → option_or a b ≡ None
both_none a b p q = rw p q

module _ (bs : List ℕ) where
  marked : (at : ℕ) (m : Mark) → mark_fault bs at m ≡ None → Marked bs at m
  marked at m e =
      let p = and_parts _ _ (passed _ _ e) in (eqb-true _ _ p.0, eqb-true _ _ p.1)

  unmarked : (at : ℕ) (m : Mark) → Marked bs at m → mark_fault bs at m ≡ None
  unmarked at m h =
      let p = and_from _ _ (eq-eqb (get_or bs at 0) m.first h.0) (eq-eqb (get_or bs (at + 1) 0) m.second h.1) in rw p refl

  below : (at limit : ℕ) → code_fault bs at limit ≡ None → le16 bs at < limit
  below at limit e = ltb-true _ _ (passed _ _ e)

  code_none : (at limit : ℕ) → le16 bs at < limit → code_fault bs at limit ≡ None
  code_none at limit h = let p = lt-ltb (le16 bs at) limit h in rw p refl

  coded : (t : Table) (n at : ℕ) → record_fault t bs n at ≡ None → Coded t bs n at
  coded table.Names n at e = leb-true _ _ (passed _ _ e)
  coded table.Values n at e =
      let p = option_or_none (code_fault bs (at + 2) 3) (code_fault bs (at + 6) 5) e in (below (at + 2) 3 p.0, below (at + 6) 5 p.1)
  coded table.Functions n at e = tt
  coded table.Blocks n at e = below (at + 16) 2 e
  coded table.Predecessors n at e = tt
  coded table.Phis n at e = tt
  coded table.Instructions n at e = below (at + 2) 7 e
  coded table.Mentions n at e =
      let rest = option_or (code_fault bs (at + 6) 8) (code_fault bs (at + 8) 2) in
      let p = option_or_none (code_fault bs (at + 4) 3) (cond (eqb (le16 bs (at + 4)) 2) None rest) e in (
        below (at + 4) 3 p.0,
        λ ne.
            let t = ne_eqb (le16 bs (at + 4)) 2 ne in
            let q : rest ≡ None = rw t at p.1 in
            let r = option_or_none (code_fault bs (at + 6) 8) (code_fault bs (at + 8) 2) q in
            (below (at + 6) 8 r.0, below (at + 8) 2 r.1),
      )

  uncoded : (t : Table) (n at : ℕ) → Coded t bs n at → record_fault t bs n at ≡ None
  uncoded table.Names n at h = let p = le-leb (le16 bs (at + 2) + le16 bs (at + 4)) n h in rw p refl
  uncoded table.Values n at h = both_none _ _ (code_none (at + 2) 3 h.0) (code_none (at + 6) 5 h.1)
  uncoded table.Functions n at h = refl
  uncoded table.Blocks n at h = code_none (at + 16) 2 h
  uncoded table.Predecessors n at h = refl
  uncoded table.Phis n at h = refl
  uncoded table.Instructions n at h = code_none (at + 2) 7 h
  uncoded table.Mentions n at h =
      both_none (code_fault bs (at + 4) 3) _ (code_none (at + 4) 3 h.0)
      (elim (cases_eq (le16 bs (at + 4)) 2) [
        | inl e ↦ let p = eq-eqb (le16 bs (at + 4)) 2 e in rw p refl
        | inr ne ↦
            let p = ne_eqb (le16 bs (at + 4)) 2 ne in
            rw p (both_none (code_fault bs (at + 6) 8) (code_fault bs (at + 8) 2) (code_none (at + 6) 8 (h.1 ne).0) (code_none (at + 8) 2 (h.1 ne).1))
      ])

-- what holds of each table holds of any
by_table : (P : Table → Type 0) → P table.Names → P table.Values → P table.Functions → P table.Blocks → P table.Predecessors → P table.Phis → P table.Instructions → P table.Mentions → (t : Table) → P t
by_table P a b c d e f g h table.Names = a
by_table P a b c d e f g h table.Values = b
by_table P a b c d e f g h table.Functions = c
by_table P a b c d e f g h table.Blocks = d
by_table P a b c d e f g h table.Predecessors = e
by_table P a b c d e f g h table.Phis = f
by_table P a b c d e f g h table.Instructions = g
by_table P a b c d e f g h table.Mentions = h

module _ (first : Option Fault) (each : Table → Option Fault) (last : Option Fault) where
  in_order_none : in_file_order first each last ≡ None → (first ≡ None) × ((t : Table) → each t ≡ None) × (last ≡ None)
  in_order_none e =
      let o = option_or_none first _ e in let a = option_or_none (each table.Names) _ o.1 in let b = option_or_none (each table.Values) _ a.1 in
      let c = option_or_none (each table.Functions) _ b.1 in let d = option_or_none (each table.Blocks) _ c.1 in
      let f = option_or_none (each table.Predecessors) _ d.1 in let g = option_or_none (each table.Phis) _ f.1 in
      let h = option_or_none (each table.Instructions) _ g.1 in let i = option_or_none (each table.Mentions) _ h.1 in
      (o.0, by_table (λ t. each t ≡ None) a.0 b.0 c.0 d.0 f.0 g.0 h.0 i.0, i.1)

  none_in_order : first ≡ None → ((t : Table) → each t ≡ None) → last ≡ None → in_file_order first each last ≡ None
  none_in_order p h q =
      let a = h table.Names in let b = h table.Values in let c = h table.Functions in let d = h table.Blocks in
      let e = h table.Predecessors in let f = h table.Phis in let g = h table.Instructions in let i = h table.Mentions in
      rw (p, a, b, c, d, e, f, g, i) q

module _ (bs : List ℕ) where
  accepted : fault_of bs ≡ None → PackedFile bs
  accepted e =
      let l = layout_of bs in
      let parts = option_or_none (length_fault bs) (option_or (marks_fault bs l) (codes_fault bs l)) e in
      let rest = option_or_none (marks_fault bs l) (codes_fault bs l) parts.1 in
      let marks = in_order_none _ (marks_in bs l) _ rest.0 in
      let codes = in_order_none _ (codes_in bs l) _ rest.1 in
      record {
        whole = whole_length parts.0;
        header = marked bs 0 header_mark marks.0;
        marks = λ t i h. marked bs (place_of bs t i) (mark_of t) (first_in_each (mark_of_record t bs (extent_in l t)) (extent_in l t).count (marks.1 t) i h);
        text = marked bs _ text_mark marks.2;
        kind = below bs 20 3 codes.0;
        codes = λ t i h. coded bs t (le16 bs 18) (place_of bs t i) (first_in_each (codes_of_record t bs (le16 bs 18) (extent_in l t)) (extent_in l t).count (codes.1 t) i h);
      }
    where
      whole_length : length_fault bs ≡ None → length bs ≡ end_of bs
      whole_length p =
          elim (cases_Bool (ltb (length bs) 22)) [
            | inl q ↦ let z : ◌≡◌ {A = ℕ} 0 1 = (let r = rw q at p in cc) in absurd (omega arith)
            | inr q ↦ eqb-true (length bs) (end_of bs) (passed _ _ (rw q at p))
          ]

  packed_none : PackedFile bs → fault_of bs ≡ None
  packed_none f =
      let l = layout_of bs in
      let short = le-ltb (length bs) 22 (let w = f.whole in omega arith) in
      let long = eq-eqb (length bs) (end_of bs) f.whole in
      let lengths : length_fault bs ≡ None = rw (short, long) refl in
      let marks : marks_fault bs l ≡ None =
      none_in_order _ (marks_in bs l) _ (unmarked bs 0 header_mark f.header)
      (λ t. first_in_all (mark_of_record t bs (extent_in l t)) (extent_in l t).count (λ i h. unmarked bs (place_of bs t i) (mark_of t) (f.marks t i h)))
      (unmarked bs _ text_mark f.text) in
      let codes : codes_fault bs l ≡ None =
      none_in_order _ (codes_in bs l) None (code_none bs 20 3 f.kind)
      (λ t. first_in_all (codes_of_record t bs (le16 bs 18) (extent_in l t)) (extent_in l t).count (λ i h. uncoded bs t (le16 bs 18) (place_of bs t i) (f.codes t i h)))
      refl in
      rw (lengths, marks) codes

  pub accepted_exactly : AcceptedExactly bs
  accepted_exactly = (accepted, packed_none)
