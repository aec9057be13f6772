-- Files that are the same but for fields without a use are refused alike and
-- mean the same.
use Rattle.std.proofs.Common.{◌≡◌, ℕ, zero, suc, ◌+◌, ◌-◌, ◌*◌, ◌<◌, ◌≤◌, min, true, ltb, List, map, length, get_or, drop, Some, sym, refl, ap, ◌∙◌, inl, inr, arith, lit<}
use Rattle.std.specs.List.{range_with_len, between}
use Rattle.std.proofs.lemmas.List.{ext_get_or, get_or-take, get_or-drop, length-take, length-drop}
use Rattle.std.proofs.lemmas.Bool.{cases_Bool, cases_eq, eq-eqb, le-ltb, ltb-false, ne_eqb}
use Rattle.component.proofs.Firsts.{first_in_same}
use Rattle.component.specs.declared.fault.Reason.TheVariants.{FileLength}
use Rattle.fields.specs.Fields.{le16, function_of}
use Rattle.fields.specs.Records.{value_of, function_at, block_of, predecessor_of, phi_of, instruction_of, mention_of}
use Rattle.layout.specs.declared.Layout.{Layout}
use Rattle.layout.specs.declared.Table.{Table}
use Rattle.layout.specs.declared.Table.TheVariants as table
use Rattle.layout.specs.Layout.{layout_of, end_of, size_of, extent_in, record_at}
use Rattle.checks.specs.Faults.{length_fault}
use Rattle.scan.specs.Faults.{mark_of_record, codes_of_record, marks_in, codes_in, marks_fault, codes_fault, fault_of}
use Rattle.packed.specs.Laws.{OverlongByHeader}
use Rattle.packed.specs.Decoding.{record_part, table_of, text_of, name_in, meaning_at, decoded}
use Rattle.packed.specs.Unused.{SameButUnused, used, record_of}
use Rattle.packed.proofs.Used.{Agree, same_name_record, same_value, same_function, same_block, same_predecessor, same_phi, same_instruction, same_mention}

-- two tables whose records are the same one by one
same_tabled : {X : Type 0} (f g : ℕ → X) (a n : ℕ) → ((i : ℕ) → a ≤ i → i < a + n → f i ≡ g i) → map f (range_with_len a n) ≡ map g (range_with_len a n)
same_tabled f g a zero h = refl
same_tabled f g a (suc n) h =
    let here = h a (omega arith) (omega arith) in
    let rest = same_tabled f g (a + 1) n (λ i l u. h i (omega arith) (omega arith)) in
    cc

get_or_part : (bs : List ℕ) (a n k : ℕ) → k < n → get_or (between a (a + n) bs) k 0 ≡ get_or bs (a + k) 0
get_or_part bs a n k h = let l : k < a + n - a = omega arith in get_or-take (a + n - a) (drop a bs) k 0 l ∙ get_or-drop a bs k 0

-- a file longer than any packed file
overlong : (bs : List ℕ) → end_of bs ≤ 7012269 → 7012269 < length bs → fault_of bs ≡ Some (record { reason = FileLength; place = end_of bs })
overlong bs bound long =
    let whole = le-ltb (length bs) 22 (omega arith) in
    let over = ne_eqb (length bs) (end_of bs) (λ e. omega arith) in
    let place : min (length bs) (end_of bs) ≡ end_of bs = omega arith in
    rw (whole, over, place) refl

-- the header says where the tables stand
module _ (bs cs : List ℕ) (header : (k : ℕ) → k < 22 → get_or cs k 0 ≡ get_or bs k 0) where
  header16 : (i : ℕ) → i + 1 < 22 → le16 cs i ≡ le16 bs i
  header16 i h =
      ap (λ x. x + 256 * get_or cs (i + 1) 0) (header i (omega arith)) ∙ ap (λ y. get_or bs i 0 + 256 * y) (header (i + 1) h)

  layout_by_header : layout_of cs ≡ layout_of bs
  layout_by_header =
      let a = header16 2 (lit< tt) in let b = header16 4 (lit< tt) in let c = header16 6 (lit< tt) in
      let d = header16 8 (lit< tt) in let e = header16 10 (lit< tt) in let f = header16 12 (lit< tt) in
      let g = header16 14 (lit< tt) in let h = header16 16 (lit< tt) in let i = header16 18 (lit< tt) in
      cc

  end_by_header : end_of cs ≡ end_of bs
  end_by_header = ap (λ (y : Layout). y.text.start + y.text.count) layout_by_header

  overlong_alike : end_of bs ≤ 7012269 → 7012269 < length bs → 7012269 < length cs → fault_of cs ≡ fault_of bs
  overlong_alike bound long long' =
      let same = end_by_header in
      overlong cs (omega arith) long' ∙ ap (λ n. Some (record { reason = FileLength; place = n })) same ∙ sym (overlong bs bound long)

pub overlong_by_header : (bs : List ℕ) → end_of bs ≤ 7012269 → OverlongByHeader bs
overlong_by_header bs bound long = (overlong bs bound long, λ cs long' header. overlong_alike bs cs header bound long long')

module _ (bs cs : List ℕ) (s : SameButUnused bs cs) where
  abbrev l : Layout
  l = layout_of bs

  same_layout : layout_of cs ≡ l
  same_layout = layout_by_header bs cs s.header

  -- each record, by the bytes that it takes
  agree : (t : Table) (i : ℕ) → i < (extent_in l t).count → Agree t (record_of bs t i) (record_part (size_of t) cs (extent_in l t) i)
  agree t i h k u v =
      let at = record_at t (extent_in l t) i in
      get_or_part cs at (size_of t) k u ∙ s.records t i k h u v ∙ sym (get_or_part bs at (size_of t) k u)

  same_table : {X : Type 0} (t : Table) (read read' : List ℕ → X)
      → ((b c : List ℕ) → Agree t b c → read' c ≡ read b)
      → table_of read' (size_of t) cs (extent_in l t) ≡ table_of read (size_of t) bs (extent_in l t)
  same_table t read read' same =
      same_tabled (λ i. read' (record_part (size_of t) cs (extent_in l t) i)) (λ i. read (record_part (size_of t) bs (extent_in l t) i)) 0
      (extent_in l t).count
      (λ i _ h. same (record_of bs t i) (record_part (size_of t) cs (extent_in l t) i) (agree t i (omega arith)))

  same_text : text_of cs l.text ≡ text_of bs l.text
  same_text =
      let a = l.text.start in let n = l.text.count in
      let same : length cs ≡ length bs = s.as_long in
      ext_get_or 0 (text_of cs l.text) (text_of bs l.text) (simp (length-take, length-drop) (omega arith))
      (λ k h.
      let u : k < n = omega (arith, simp (length-take, length-drop) at h) in
      get_or_part cs a n k u ∙ s.text (a + k) (omega arith) ∙ sym (get_or_part bs a n k u))

  pub same_meaning : decoded cs ≡ decoded bs
  same_meaning =
      let kind = header16 bs cs s.header 20 (lit< tt) in
      let text = same_text in
      let names = same_table table.Names (name_in (text_of bs l.text)) (name_in (text_of cs l.text))
      (λ b c a. let e = same_name_record b c a in rw (e.0, e.1, text) refl) in
      let values = same_table table.Values value_of value_of same_value in
      let functions = same_table table.Functions function_at function_at same_function in
      let blocks = same_table table.Blocks block_of block_of same_block in
      let predecessors = same_table table.Predecessors predecessor_of predecessor_of same_predecessor in
      let phis = same_table table.Phis phi_of phi_of same_phi in
      let instructions = same_table table.Instructions instruction_of instruction_of same_instruction in
      let mentions = same_table table.Mentions mention_of mention_of same_mention in
      let tables : meaning_at cs (function_of (le16 bs 20)) l ≡ meaning_at bs (function_of (le16 bs 20)) l = cc in
      ap (λ k. meaning_at cs (function_of k) (layout_of cs)) kind
      ∙ ap (meaning_at cs (function_of (le16 bs 20))) same_layout
      ∙ tables

  -- a two-byte field of a record, where it stands in the file
  module _ (t : Table) (i : ℕ) (h : i < (extent_in l t).count) where
    abbrev at : ℕ
    at = record_at t (extent_in l t) i

    abbrev part : List ℕ
    part = record_of bs t i

    same_byte : (k : ℕ) → k < size_of t → used t part k ≡ true → get_or cs (at + k) 0 ≡ get_or bs (at + k) 0
    same_byte k u v = s.records t i k h u v

    file16 : (k : ℕ) → k + 1 < size_of t → used t part k ≡ true → used t part (k + 1) ≡ true → le16 cs (at + k) ≡ le16 bs (at + k)
    file16 k u v w =
        let next : at + k + 1 ≡ at + (k + 1) = omega arith in
        let x = same_byte k (omega arith) v in
        let y : get_or cs (at + k + 1) 0 ≡ get_or bs (at + k + 1) 0 = rw next (same_byte (k + 1) u w) in
        cc

    part16 : (k : ℕ) → k + 1 < size_of t → le16 part k ≡ le16 bs (at + k)
    part16 k u =
        let next : at + k + 1 ≡ at + (k + 1) = omega arith in
        let x = get_or_part bs at (size_of t) k (omega arith) in
        let y : get_or part (k + 1) 0 ≡ get_or bs (at + k + 1) 0 = rw next (get_or_part bs at (size_of t) (k + 1) u) in
        cc

    same_mark : used t part 0 ≡ true → used t part 1 ≡ true → 1 < size_of t → mark_of_record t cs (extent_in l t) i ≡ mark_of_record t bs (extent_in l t) i
    same_mark v w u =
        let zero_more : at + 0 ≡ at = omega arith in
        let x : get_or cs at 0 ≡ get_or bs at 0 = rw zero_more at (same_byte 0 (omega arith) v) in
        let y = same_byte 1 u w in
        cc

  -- the codes of a record are in fields that it uses
  same_codes : (t : Table) (i : ℕ) → i < (extent_in l t).count
      → codes_of_record t cs l.text.count (extent_in l t) i ≡ codes_of_record t bs l.text.count (extent_in l t) i
  same_codes table.Names i h =
      let x = file16 table.Names i h 2 (lit< tt) refl refl in let y = file16 table.Names i h 4 (lit< tt) refl refl in rw (x, y) refl
  same_codes table.Values i h =
      let x = file16 table.Values i h 2 (lit< tt) refl refl in let y = file16 table.Values i h 6 (lit< tt) refl refl in rw (x, y) refl
  same_codes table.Functions i h = refl
  same_codes table.Blocks i h = let x = file16 table.Blocks i h 16 (lit< tt) refl refl in rw x refl
  same_codes table.Predecessors i h = refl
  same_codes table.Phis i h = refl
  same_codes table.Instructions i h = let x = file16 table.Instructions i h 2 (lit< tt) refl refl in rw x refl
  same_codes table.Mentions i h =
      let form = file16 table.Mentions i h 4 (lit< tt) refl refl in
      let read = part16 table.Mentions i h 4 (lit< tt) in
      let code = le16 bs (at table.Mentions i h + 4) in
      elim (cases_Bool (ltb (le16 (part table.Mentions i h) 4) 2)) [
        | inl u ↦
            let effect = file16 table.Mentions i h 6 (lit< tt) u u in
            let span = file16 table.Mentions i h 8 (lit< tt) u u in
            rw (form, effect, span) refl
        | inr u ↦
            let past : 2 ≤ code = omega (arith, ltb-false _ _ u, read) in
            elim (cases_eq code 2) [
              | inl e ↦ let hole = eq-eqb code 2 e in rw (form, hole) refl
              | inr e ↦ let bad = le-ltb code 3 (omega arith) in rw (form, bad) refl
            ]
      ]

  -- and so are marks
  same_marks : (t : Table) (i : ℕ) → i < (extent_in l t).count
      → mark_of_record t cs (extent_in l t) i ≡ mark_of_record t bs (extent_in l t) i
  same_marks table.Names i h = same_mark table.Names i h refl refl (lit< tt)
  same_marks table.Values i h = same_mark table.Values i h refl refl (lit< tt)
  same_marks table.Functions i h = same_mark table.Functions i h refl refl (lit< tt)
  same_marks table.Blocks i h = same_mark table.Blocks i h refl refl (lit< tt)
  same_marks table.Predecessors i h = same_mark table.Predecessors i h refl refl (lit< tt)
  same_marks table.Phis i h = same_mark table.Phis i h refl refl (lit< tt)
  same_marks table.Instructions i h = same_mark table.Instructions i h refl refl (lit< tt)
  same_marks table.Mentions i h = same_mark table.Mentions i h refl refl (lit< tt)

  marks_same : (t : Table) → marks_in cs l t ≡ marks_in bs l t
  marks_same t =
      first_in_same (mark_of_record t cs (extent_in l t)) (mark_of_record t bs (extent_in l t)) (extent_in l t).count (same_marks t)

  codes_same : (t : Table) → codes_in cs l t ≡ codes_in bs l t
  codes_same t =
      first_in_same (codes_of_record t cs l.text.count (extent_in l t)) (codes_of_record t bs l.text.count (extent_in l t))
      (extent_in l t).count (same_codes t)

  same_length : length_fault cs ≡ length_fault bs
  same_length =
      let long = s.as_long in
      let ends = end_by_header bs cs s.header in
      rw (long, ends) refl

  all_marks : marks_fault cs l ≡ marks_fault bs l
  all_marks =
      let p = s.header 0 (lit< tt) in let q = s.header 1 (lit< tt) in
      let mark_place = record_at table.Mentions l.mentions l.mentions.count in
      let x = s.text mark_place (omega arith) in let y = s.text (mark_place + 1) (omega arith) in
      let a = marks_same table.Names in let b = marks_same table.Values in let c = marks_same table.Functions in
      let d = marks_same table.Blocks in let e = marks_same table.Predecessors in let f = marks_same table.Phis in
      let g = marks_same table.Instructions in let h = marks_same table.Mentions in
      cc

  all_codes : codes_fault cs l ≡ codes_fault bs l
  all_codes =
      let kind = header16 bs cs s.header 20 (lit< tt) in
      let a = codes_same table.Names in let b = codes_same table.Values in let c = codes_same table.Functions in
      let d = codes_same table.Blocks in let e = codes_same table.Predecessors in let f = codes_same table.Phis in
      let g = codes_same table.Instructions in let h = codes_same table.Mentions in
      cc

  pub same_fault : fault_of cs ≡ fault_of bs
  same_fault =
      let n = same_length in
      let m = ap (marks_fault cs) same_layout ∙ all_marks in
      let k = ap (codes_fault cs) same_layout ∙ all_codes in
      rw (n, m, k) refl
