-- What the tests of sizes and records say where they pass.
use Rattle.std.proofs.Common.{◌≡◌, ℕ, zero, suc, ◌<◌, ◌≤◌, Bool, true, cond, ◌&&◌, eqb, List, length, Some, None, Option, sym, refl, ap, ◌∙◌, inl, inr, arith}
use Rattle.std.specs.List.{slice_get}
use Rattle.std.proofs.lemmas.Option.{slice_get_past}
use Rattle.std.proofs.lemmas.Bool.{and_parts, ltb-true, leb-true, ne_eqb, cond-false, cases_lt}
use Rattle.component.specs.declared.records.Instruction.{Instruction}
use Rattle.component.specs.declared.records.InstructionValue.{InstructionValue}
use Rattle.component.specs.declared.records.InstructionValue.TheVariants as kind
use Rattle.component.specs.declared.records.Function.{Function}
use Rattle.component.specs.declared.records.Block.{Block}
use Rattle.component.specs.declared.records.Sizes.{Sizes}
use Rattle.component.specs.declared.fault.Reason.{Reason}
use Rattle.component.specs.Meaning.{Meaning, sizes_of}
use Rattle.component.proofs.Firsts.{option_or_none}
use Rattle.rules.specs.Lists.{refused, test_of, test_in, end_of, run_of, inside, starts_at}
use Rattle.rules.specs.Rules.{kind_fits, instruction_fits, function_fits, block_fits, places_from, lvalues_fit, operands_fit, body_in, body_from, body_of, blocks_of, phis_of, instructions_of, returned_fits}
use Rattle.rules.specs.Admission.{Fitting, number_fault, value_breach, function_breach, block_breach, phi_breach, instruction_breach, mention_breach}
use Rattle.rules.proofs.Failing.{each_passes}

-- nothing is refused without a place
pub refused_none : (r : Reason) (o : Option ℕ) → refused r o ≡ None → o ≡ None
refused_none r None e = refl
refused_none r (Some i) e = cc

-- there is a function 0
root_first : (n : ℕ) (o : Option ℕ) → cond (eqb n 0) (Some 0) o ≡ None → (0 < n) × (o ≡ None)
root_first zero o e = cc
root_first (suc n) o e = (omega arith, sym (cond-false (eqb (suc n) 0) (Some 0) o (ne_eqb (suc n) 0 (λ z. omega arith))) ∙ e)

pub fitting : (m : Meaning) → number_fault m ≡ None → Fitting m
fitting m e =
    let a = option_or_none (refused _ (value_breach m)) _ e in
    let b = option_or_none (refused _ (function_breach m)) _ a.1 in
    let c = option_or_none (refused _ (block_breach m)) _ b.1 in
    let d = option_or_none (refused _ (phi_breach m)) _ c.1 in
    let f = option_or_none (refused _ (instruction_breach m)) _ d.1 in
    let r = root_first (length m.functions) _ (refused_none _ (function_breach m) b.0) in
    record {
      root = r.0;
      values = each_passes _ (length m.values) (refused_none _ (value_breach m) a.0);
      functions = each_passes _ (length m.functions) r.1;
      blocks = each_passes _ (length m.blocks) (refused_none _ (block_breach m) c.0);
      phis = each_passes _ (length m.phis) (refused_none _ (phi_breach m) d.0);
      instructions = each_passes _ (length m.instructions) (refused_none _ (instruction_breach m) f.0);
      mentions = each_passes _ (length m.mentions) (refused_none _ (mention_breach m) f.1);
    }

-- the function of a function expression is in the table
body_kind : (s : Sizes) (q : ℕ → ℕ → Bool) (k : InstructionValue) (f : ℕ) → kind_fits s q k ≡ true → body_in k ≡ Some f → f < s.functions
body_kind s q kind.Other f e b = cc
body_kind s q (kind.LoadLocal p) f e b = cc
body_kind s q (kind.FunctionExpression g) f e b = let z : g ≡ f = cc in omega (arith, ltb-true g s.functions e)
body_kind s q (kind.CallExpression p a) f e b = cc
body_kind s q (kind.MethodCall p a) f e b = cc
body_kind s q (kind.ArrayExpression a) f e b = cc
body_kind s q kind.LoadGlobal f e b = cc

body_record : (s : Sizes) (q : ℕ → ℕ → Bool) (o : Option Instruction) (f : ℕ) → test_of (instruction_fits s q) o ≡ true → body_from o ≡ Some f → f < s.functions
body_record s q None f e b = cc
body_record s q (Some i) f e b =
    let p = and_parts (lvalues_fit q s.mentions i.lvalues) (operands_fit q s.mentions i.operands && kind_fits s q i.value) e in
    let r = and_parts (operands_fit q s.mentions i.operands) (kind_fits s q i.value) p.1 in
    body_kind s q i.value f r.1 b

-- a test of a record passes at every number
test_anywhere : {R : Type 0} (p : R → Bool) (xs : List R) → ((n : ℕ) → n < length xs → test_in p xs n ≡ true) → (n : ℕ) → test_in p xs n ≡ true
test_anywhere p xs h n =
    elim (cases_lt n (length xs)) [
      | inl l ↦ h n l
      | inr l ↦ ap (test_of p) (slice_get_past xs n l)
    ]

pub body_inside : (m : Meaning) → Fitting m → (i f : ℕ) → body_of m i ≡ Some f → f < length m.functions
body_inside m h i f b =
    body_record (sizes_of m) (places_from m.mentions) (slice_get m.instructions i) f
    (test_anywhere (instruction_fits (sizes_of m) (places_from m.mentions)) m.instructions h.instructions i) b

-- the lists of a record that fits end inside their tables
function_ends : (s : Sizes) (o : Option Function) → test_of (function_fits s) o ≡ true → end_of (run_of (λ (x : Function). x.blocks) o) ≤ s.blocks
function_ends s None e = omega arith
function_ends s (Some x) e =
    let p = and_parts (inside s.mentions x.params) (inside s.blocks x.blocks) e in
    leb-true (end_of x.blocks) s.blocks p.1

block_ends : (s : Sizes) (o : Option Block) → test_of (block_fits s) o ≡ true → (end_of (run_of (λ (x : Block). x.phis) o) ≤ s.phis) × (end_of (run_of (λ (x : Block). x.instructions) o) ≤ s.instructions)
block_ends s None e = (omega arith, omega arith)
block_ends s (Some x) e =
    let p = and_parts (inside s.predecessors x.predecessors) (inside s.phis x.phis && (inside s.instructions x.instructions && returned_fits s.values x.returned)) e in
    let q = and_parts (inside s.phis x.phis) (inside s.instructions x.instructions && returned_fits s.values x.returned) p.1 in
    let r = and_parts (inside s.instructions x.instructions) (returned_fits s.values x.returned) q.1 in
    (leb-true (end_of x.phis) s.phis q.0, leb-true (end_of x.instructions) s.instructions r.0)

module _ (m : Meaning) (h : Fitting m) where
  pub blocks_end_inside : (n : ℕ) → starts_at (blocks_of m) n ≤ length m.blocks
  blocks_end_inside zero = omega arith
  blocks_end_inside (suc n) =
      function_ends (sizes_of m) (slice_get m.functions n) (test_anywhere (function_fits (sizes_of m)) m.functions h.functions n)

  pub phis_end_inside : (n : ℕ) → starts_at (phis_of m) n ≤ length m.phis
  phis_end_inside zero = omega arith
  phis_end_inside (suc n) =
      (block_ends (sizes_of m) (slice_get m.blocks n) (test_anywhere (block_fits (sizes_of m)) m.blocks h.blocks n)).0

  pub instructions_end_inside : (n : ℕ) → starts_at (instructions_of m) n ≤ length m.instructions
  instructions_end_inside zero = omega arith
  instructions_end_inside (suc n) =
      (block_ends (sizes_of m) (slice_get m.blocks n) (test_anywhere (block_fits (sizes_of m)) m.blocks h.blocks n)).1

-- a function expression is in the table
pub body_here : (m : Meaning) (i f : ℕ) → body_of m i ≡ Some f → i < length m.instructions
body_here m i f b =
    elim (cases_lt i (length m.instructions)) [
      | inl l ↦ l
      | inr l ↦ let e = ap body_from (slice_get_past m.instructions i l) in cc
    ]
