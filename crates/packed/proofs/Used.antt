-- A record means what its used fields say.
use Rattle.std.proofs.Common.{◌≡◌, ℕ, ◌+◌, ◌*◌, ◌<◌, true, cond, not, eqb, ltb, List, get_or, refl, ap, ◌∙◌, inl, inr, arith, lit<}
use Rattle.std.proofs.lemmas.Bool.{and_from, cases_Bool, eqb-true, lt-ltb, or_left, or_right}
use Rattle.component.specs.declared.records.InstructionValue.{InstructionValue}
use Rattle.component.specs.declared.records.InstructionValue.TheVariants as kind
use Rattle.component.specs.declared.records.Run.{Run}
use Rattle.fields.specs.Fields.{le16, le32, run_at, name_of}
use Rattle.fields.specs.Records.{value_of, function_at, block_of, returned_of, predecessor_of, phi_of, instruction_value_of, instruction_of, span_of, place_of, mention_of}
use Rattle.layout.specs.declared.Table.{Table}
use Rattle.layout.specs.declared.Table.TheVariants as table
use Rattle.layout.specs.Layout.{size_of}
use Rattle.packed.specs.Unused.{used, has_subject, has_arguments}

-- two records that are the same in the used bytes of the one
abbrev pub Agree : Table → List ℕ → List ℕ → Type 0
Agree t b c = (k : ℕ) → k < size_of t → used t b k ≡ true → get_or c k 0 ≡ get_or b k 0

module _ (t : Table) (b c : List ℕ) (a : Agree t b c) (i : ℕ) where
  -- a used field of two bytes, of four, and a used list
  pub same16 : i + 1 < size_of t → used t b i ≡ true → used t b (i + 1) ≡ true → le16 c i ≡ le16 b i
  same16 h p q = ap (λ x. x + 256 * get_or c (i + 1) 0) (a i (omega arith) p) ∙ ap (λ y. get_or b i 0 + 256 * y) (a (i + 1) h q)

module _ (t : Table) (b c : List ℕ) (a : Agree t b c) (i : ℕ) (h : i + 2 + 1 < size_of t)
    (p : used t b i ≡ true) (q : used t b (i + 1) ≡ true) (r : used t b (i + 2) ≡ true) (s : used t b (i + 2 + 1) ≡ true) where
  low : le16 c i ≡ le16 b i
  low = same16 t b c a i (omega arith) p q

  high : le16 c (i + 2) ≡ le16 b (i + 2)
  high = same16 t b c a (i + 2) h r s

  pub same32 : le32 c i ≡ le32 b i
  same32 = ap (λ x. x + 65536 * le16 c (i + 2)) low ∙ ap (λ y. le16 b i + 65536 * y) high

  pub same_run : run_at c i ≡ run_at b i
  same_run = let x = low in let y = high in cc

-- an instruction's kind, subject, arguments and function
abbrev kind_with : ℕ → ℕ → Run → ℕ → InstructionValue
kind_with k s r f =
    cond (eqb k 0) kind.Other (cond (eqb k 1) (kind.LoadLocal s) (cond (eqb k 2) (kind.FunctionExpression f)
    (cond (eqb k 3) (kind.CallExpression s r) (cond (eqb k 4) (kind.MethodCall s r) (cond (eqb k 5) (kind.ArrayExpression r) kind.LoadGlobal)))))

module _ (k s s' : ℕ) (r r' : Run) (f f' : ℕ) (subject : has_subject k ≡ true → s' ≡ s)
    (arguments : has_arguments k ≡ true → r' ≡ r) (function : eqb k 2 ≡ true → f' ≡ f) where
  same_kind : kind_with k s' r' f' ≡ kind_with k s r f
  same_kind =
      elim (cases_Bool (eqb k 0)) [
        | inl e ↦ rw e refl
        | inr e0 ↦
            elim (cases_Bool (eqb k 1)) [
              | inl e ↦ let x = subject (or_left _ _ e) in rw (e0, e, x) refl
              | inr e1 ↦
                  elim (cases_Bool (eqb k 2)) [
                    | inl e ↦ let x = function e in rw (e0, e1, e, x) refl
                    | inr e2 ↦
                        elim (cases_Bool (eqb k 3)) [
                          | inl e ↦ let x = subject (or_right _ _ (or_left _ _ e)) in let y = arguments (or_left _ _ e) in rw (e0, e1, e2, e, x, y) refl
                          | inr e3 ↦
                              elim (cases_Bool (eqb k 4)) [
                                | inl e ↦ let x = subject (or_right (eqb k 1) _ (or_right (eqb k 3) _ e)) in let y = arguments (or_right _ _ (or_left _ _ e)) in
                                    rw (e0, e1, e2, e3, e, x, y) refl
                                | inr e4 ↦
                                    elim (cases_Bool (eqb k 5)) [
                                      | inl e ↦ let y = arguments (or_right (eqb k 3) _ (or_right (eqb k 4) _ e)) in rw (e0, e1, e2, e3, e4, e, y) refl
                                      | inr e5 ↦ rw (e0, e1, e2, e3, e4, e5) refl
                                    ]
                              ]
                        ]
                  ]
            ]
      ]

module _ (b c : List ℕ) where
  pub same_name_record : Agree table.Names b c → (le16 c 2 ≡ le16 b 2) × (le16 c 4 ≡ le16 b 4)
  same_name_record a = (same16 table.Names b c a 2 (lit< tt) refl refl, same16 table.Names b c a 4 (lit< tt) refl refl)

  pub same_value : Agree table.Values b c → value_of c ≡ value_of b
  same_value a =
      let form = same16 table.Values b c a 2 (lit< tt) refl refl in
      let kind = same16 table.Values b c a 6 (lit< tt) refl refl in
      let start = same32 table.Values b c a 8 (lit< tt) refl refl refl refl in
      let end = same32 table.Values b c a 12 (lit< tt) refl refl refl refl in
      let name : name_of (le16 c 2) (le16 c 4) ≡ name_of (le16 b 2) (le16 b 4) =
      elim (cases_Bool (eqb (le16 b 2) 0)) [
        | inl e ↦ rw (form, e) refl
        | inr e ↦ let n = same16 table.Values b c a 4 (lit< tt) (ap not e) (ap not e) in rw (form, n) refl
      ] in
      cc

  pub same_function : Agree table.Functions b c → function_at c ≡ function_at b
  same_function a =
      let params = same_run table.Functions b c a 2 (lit< tt) refl refl refl refl in
      let blocks = same_run table.Functions b c a 6 (lit< tt) refl refl refl refl in
      cc

  pub same_block : Agree table.Blocks b c → block_of c ≡ block_of b
  same_block a =
      let id = same16 table.Blocks b c a 2 (lit< tt) refl refl in
      let predecessors = same_run table.Blocks b c a 4 (lit< tt) refl refl refl refl in
      let phis = same_run table.Blocks b c a 8 (lit< tt) refl refl refl refl in
      let instructions = same_run table.Blocks b c a 12 (lit< tt) refl refl refl refl in
      let code = same16 table.Blocks b c a 16 (lit< tt) refl refl in
      let returned : returned_of c ≡ returned_of b =
      elim (cases_Bool (eqb (le16 b 16) 0)) [
        | inl e ↦ rw (code, e) refl
        | inr e ↦ let n = same16 table.Blocks b c a 18 (lit< tt) (ap not e) (ap not e) in rw (code, n) refl
      ] in
      cc

  pub same_predecessor : Agree table.Predecessors b c → predecessor_of c ≡ predecessor_of b
  same_predecessor a = let id = same16 table.Predecessors b c a 2 (lit< tt) refl refl in cc

  pub same_phi : Agree table.Phis b c → phi_of c ≡ phi_of b
  same_phi a =
      let value = same16 table.Phis b c a 2 (lit< tt) refl refl in
      let operands = same_run table.Phis b c a 4 (lit< tt) refl refl refl refl in
      cc

  pub same_instruction : Agree table.Instructions b c → instruction_of c ≡ instruction_of b
  same_instruction a =
      let code = same16 table.Instructions b c a 2 (lit< tt) refl refl in
      let order = same32 table.Instructions b c a 4 (lit< tt) refl refl refl refl in
      let lvalues = same_run table.Instructions b c a 8 (lit< tt) refl refl refl refl in
      let operands = same_run table.Instructions b c a 12 (lit< tt) refl refl refl refl in
      let kinds = same_kind (le16 b 2) (le16 b 16) (le16 c 16) (run_at b 18) (run_at c 18) (le16 b 22) (le16 c 22)
      (λ u. same16 table.Instructions b c a 16 (lit< tt) u u)
      (λ u. same_run table.Instructions b c a 18 (lit< tt) u u u u)
      (λ u. same16 table.Instructions b c a 22 (lit< tt) u u) in
      let value : instruction_value_of c ≡ instruction_value_of b =
      ap (λ k. kind_with k (le16 c 16) (run_at c 18) (le16 c 22)) code ∙ kinds in
      cc

  -- what a mention that is no hole says of its place
  same_place : Agree table.Mentions b c → ltb (le16 b 4) 2 ≡ true → place_of c ≡ place_of b
  same_place a u =
      let value = same16 table.Mentions b c a 2 (lit< tt) u u in
      let effect = same16 table.Mentions b c a 6 (lit< tt) u u in
      let code = same16 table.Mentions b c a 8 (lit< tt) u u in
      let span : span_of c ≡ span_of b =
      elim (cases_Bool (eqb (le16 b 8) 0)) [
        | inl e ↦ rw (code, e) refl
        | inr e ↦
            let v = and_from (ltb (le16 b 4) 2) (not (eqb (le16 b 8) 0)) u (ap not e) in
            let start = same32 table.Mentions b c a 10 (lit< tt) v v v v in
            let end = same32 table.Mentions b c a 14 (lit< tt) v v v v in
            rw (code, start, end) refl
      ] in
      cc

  pub same_mention : Agree table.Mentions b c → mention_of c ≡ mention_of b
  same_mention a =
      let form = same16 table.Mentions b c a 4 (lit< tt) refl refl in
      elim (cases_Bool (eqb (le16 b 4) 0)) [
        | inl e ↦
            let n = eqb-true _ _ e in let p = same_place a (lt-ltb (le16 b 4) 2 (omega arith)) in rw (form, e, p) refl
        | inr e0 ↦
            elim (cases_Bool (eqb (le16 b 4) 1)) [
              | inl e ↦
                  let n = eqb-true _ _ e in let p = same_place a (lt-ltb (le16 b 4) 2 (omega arith)) in rw (form, e0, e, p) refl
              | inr e1 ↦ rw (form, e0, e1) refl
            ]
      ]
