-- The first number at which a test fails.
use Rattle.std.proofs.Common.{◌≡◌, ℕ, ◌+◌, ◌<◌, Bool, true, false, cond, Some, None, refl, ap}
use Rattle.std.proofs.lemmas.Bool.{cond-true, cond-false}
use Rattle.component.proofs.Firsts.{first_in_none, first_in_hit, first_in_same, first_in_each, first_in_all}
use Rattle.rules.specs.Lists.{failing, first_failing}

-- a test that does not fail passes
pub passing : (b : Bool) (n : ℕ) → cond b None (Some n) ≡ None → b ≡ true
passing true n e = refl
passing false n e = cc

module _ (p : ℕ → Bool) where
  -- one more that passes
  pub none_more : (i : ℕ) → first_failing p i ≡ None → p i ≡ true → first_failing p (i + 1) ≡ None
  none_more i h e = first_in_none (failing p) i h (cond-true (p i) None (Some i) e)

  -- the first that fails
  pub first_here : (n i : ℕ) → first_failing p i ≡ None → p i ≡ false → i < n → first_failing p n ≡ Some i
  first_here n i h e l = first_in_hit (failing p) n i i h (cond-false (p i) None (Some i) e) l

  pub each_passes : (n : ℕ) → first_failing p n ≡ None → (i : ℕ) → i < n → p i ≡ true
  each_passes n h i l = passing (p i) i (first_in_each (failing p) n h i l)

  pub none_fails : (n : ℕ) → ((i : ℕ) → i < n → p i ≡ true) → first_failing p n ≡ None
  none_fails n h = first_in_all (failing p) n (λ i l. cond-true (p i) None (Some i) (h i l))

-- two tests that agree below n
pub same_first : (p q : ℕ → Bool) (n : ℕ) → ((i : ℕ) → i < n → p i ≡ q i) → first_failing p n ≡ first_failing q n
same_first p q n h = first_in_same (failing p) (failing q) n (λ i l. ap (λ b. cond b None (Some i)) (h i l))
