-- Lists of places, by how many places stand before each mention.
use Rattle.std.proofs.Common.{◌≡◌, ℕ, zero, suc, ◌+◌, ◌≤◌, Bool, true, false, cond, ◌&&◌, ltb, leb, List, length, refl, ap, ◌∙◌, arith}
use Rattle.std.specs.List.{slice_get}
use Rattle.std.proofs.lemmas.Bool.{leb-true, ltb-true}
use Rattle.std.proofs.lemmas.Bool.Decides.{nat_tests}
use Rattle.component.specs.declared.records.Mention.{Mention}
use Rattle.component.specs.declared.records.Run.{Run}
use Rattle.component.specs.declared.records.Phi.{Phi}
use Rattle.component.specs.declared.records.Instruction.{Instruction}
use Rattle.component.specs.declared.records.InstructionValue.{InstructionValue}
use Rattle.component.specs.declared.records.InstructionValue.TheVariants as kind
use Rattle.component.specs.declared.records.Sizes.{Sizes}
use Rattle.rules.specs.Lists.{inside, end_of}
use Rattle.rules.specs.Rules.{PlacesCounted, place_at, places_from, places_before, places_after, counted_places, operands_fit, subject_fits, phi_fits, kind_fits, instruction_fits}

-- the second of two tests counts only where the first passes
and_same : (a b d : Bool) → (a ≡ true → b ≡ d) → (a && b) ≡ (a && d)
and_same true b d h = h refl
and_same false b d h = refl

-- the tests of one place more
longer : (c n : ℕ) (b : Bool) → leb (c + 1) (cond b (n + 1) 0) ≡ (leb c n && b)
longer c n true = grind (arith, nat_tests)
longer c n false = grind (arith, nat_tests)

module _ (ms : List Mention) where
  pub counted : (s c : ℕ) → leb c (places_before ms (s + c)) ≡ places_from ms s c
  counted s zero = grind (arith, nat_tests)
  counted s (suc c) =
      let e : s + suc c ≡ suc (s + c) = omega arith in
      let f : suc c ≡ c + 1 = omega arith in
      ap (λ k. leb (suc c) (places_before ms k)) e
      ∙ ap (λ k. leb k (places_after (places_before ms (s + c)) (slice_get ms (s + c)))) f
      ∙ longer c (places_before ms (s + c)) (place_at ms (s + c))
      ∙ ap (λ b. b && place_at ms (s + c)) (counted s c)

  module _ (t : List ℕ) (h : PlacesCounted ms t) where
    by_table : (s c : ℕ) → s + c ≤ length ms → counted_places t s c ≡ places_from ms s c
    by_table s c l = ap (leb c) (h (s + c) l) ∙ counted s c

    operands_same : (n : ℕ) (r : Run) → n ≡ length ms → operands_fit (counted_places t) n r ≡ operands_fit (places_from ms) n r
    operands_same n r e =
        and_same (inside n r) _ _
        (λ i. ap (λ b. leb r.count 32 && b) (by_table r.start r.count (omega (arith, leb-true (end_of r) n i))))

    subject_same : (n p : ℕ) → n ≡ length ms → subject_fits (counted_places t) n p ≡ subject_fits (places_from ms) n p
    subject_same n p e = and_same (ltb p n) _ _ (λ i. by_table p 1 (omega (arith, ltb-true p n i)))

    kind_same : (s : Sizes) (i : InstructionValue) → s.mentions ≡ length ms → kind_fits s (counted_places t) i ≡ kind_fits s (places_from ms) i
    kind_same s kind.Other e = refl
    kind_same s (kind.LoadLocal p) e = subject_same s.mentions p e
    kind_same s (kind.FunctionExpression f) e = refl
    kind_same s (kind.CallExpression p a) e = ap (λ b. b && inside s.mentions a) (subject_same s.mentions p e)
    kind_same s (kind.MethodCall p a) e = ap (λ b. b && inside s.mentions a) (subject_same s.mentions p e)
    kind_same s (kind.ArrayExpression a) e = refl
    kind_same s kind.LoadGlobal e = refl

    pub phi_same : (s : Sizes) (p : Phi) → s.mentions ≡ length ms → phi_fits s (counted_places t) p ≡ phi_fits s (places_from ms) p
    phi_same s p e = ap (λ b. ltb p.value s.values && b) (operands_same s.mentions p.operands e)

    pub instruction_same : (s : Sizes) (i : Instruction) → s.mentions ≡ length ms → instruction_fits s (counted_places t) i ≡ instruction_fits s (places_from ms) i
    instruction_same s i e =
        let a = operands_same s.mentions i.lvalues e in
        let b = operands_same s.mentions i.operands e in
        let d = kind_same s i.value e in
        cc
