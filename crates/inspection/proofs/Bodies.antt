-- A row of the functions that are bodies of the instructions before one.
use Rattle.std.proofs.Common.{◌≡◌, ℕ, ◌<◌, Bool, false, not, ◌&&◌, eqb, ltb, List, length, slice_index_or, Some, None, Option, sym, refl, ap, ◌∙◌}
use Rattle.component.specs.Meaning.{Meaning}
use Rattle.rules.specs.Lists.{starts_at}
use Rattle.rules.specs.Rules.{body_of, body_free, taken_before, instructions_of, instruction_follows}

-- below 256 the row t says which functions are bodies before instruction n
module _ (m : Meaning) (t : List Bool) (n : ℕ) (low : (i f : ℕ) → body_of m i ≡ Some f → f < 256) (row : (f : ℕ) → f < 256 → slice_index_or t f false ≡ taken_before m n f) where
  free_by_row : (o : Option ℕ) → ((g : ℕ) → o ≡ Some g → g < 256) → body_free (λ f. slice_index_or t f false) o ≡ body_free (taken_before m n) o
  free_by_row None h = refl
  free_by_row (Some g) h = ap (λ x. not (eqb g 0) && not x) (row g (h g refl))

  pub follows_by_row : (b : Option ℕ) (end : ℕ) → b ≡ body_of m n → end ≡ starts_at (instructions_of m) (length m.blocks) → (ltb n end && body_free (λ f. slice_index_or t f false) b) ≡ instruction_follows m n
  follows_by_row b end is e =
      ap (λ k. ltb n k && body_free (λ f. slice_index_or t f false) b) e
      ∙ ap (λ x. ltb n (starts_at (instructions_of m) (length m.blocks)) && x) (free_by_row b (λ g z. low n g (sym is ∙ z)) ∙ ap (body_free (taken_before m n)) is)
