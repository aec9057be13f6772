-- The tests of phis and instructions, by a table of places.
use Rattle.std.proofs.Common.{◌≡◌, ℕ, Bool, List, Some, None, Option, refl, ap, ◌∙◌}
use Rattle.std.specs.List.{slice_get}
use Rattle.component.specs.declared.records.Sizes.{Sizes}
use Rattle.component.specs.Meaning.{Meaning, sizes_of}
use Rattle.rules.specs.Lists.{test_of, test_in, first_failing}
use Rattle.rules.specs.Rules.{PlacesCounted, counted_places, places_from, phi_fits, instruction_fits}
use Rattle.rules.proofs.Failing.{same_first}
use Rattle.rules.proofs.Places.{phi_same, instruction_same}

-- two tests that agree on every record
test_same : {R : Type 0} (p q : R → Bool) → ((x : R) → p x ≡ q x) → (o : Option R) → test_of p o ≡ test_of q o
test_same p q h None = refl
test_same p q h (Some x) = h x

pub first_same : {R : Type 0} (p q : R → Bool) (xs : List R) (n : ℕ) → ((x : R) → p x ≡ q x) → first_failing (test_in p xs) n ≡ first_failing (test_in q xs) n
first_same p q xs n h = same_first (test_in p xs) (test_in q xs) n (λ i l. test_same p q h (slice_get xs i))

module _ (m : Meaning) (s : Sizes) (e : s ≡ sizes_of m) (t : List ℕ) (h : PlacesCounted m.mentions t) where
  pub phi_by_table : (n : ℕ) → test_in (phi_fits s (counted_places t)) m.phis n ≡ test_in (phi_fits (sizes_of m) (places_from m.mentions)) m.phis n
  phi_by_table n =
      ap (λ (z : Sizes). test_in (phi_fits z (counted_places t)) m.phis n) e
      ∙ test_same _ _ (λ x. phi_same m.mentions t h (sizes_of m) x refl) (slice_get m.phis n)

  pub instruction_by_table : (n : ℕ) → test_in (instruction_fits s (counted_places t)) m.instructions n ≡ test_in (instruction_fits (sizes_of m) (places_from m.mentions)) m.instructions n
  instruction_by_table n =
      ap (λ (z : Sizes). test_in (instruction_fits z (counted_places t)) m.instructions n) e
      ∙ test_same _ _ (λ x. instruction_same m.mentions t h (sizes_of m) x refl) (slice_get m.instructions n)
