-- The order of steps needs no bound of levels.
use Rattle.std.proofs.Common.{◌≡◌, ℕ, zero, suc, ◌-◌, ◌≤◌, List, [], ◌∷◌, ◌++◌, map, Some, None, Option, sym, refl, ap, ◌∙◌, inl, arith}
use Rattle.component.specs.Meaning.{Meaning}
use Rattle.rules.specs.Rules.{blocks_of, phis_of, instructions_of, body_of}
use Rattle.nesting.specs.declared.Step.{Step}
use Rattle.nesting.specs.declared.Step.TheVariants.{Phi, Instruction}
use Rattle.nesting.specs.Nesting.{Mem, numbers, listed, block_bodies, bodies, Below}
use Rattle.nesting.specs.Order.{body_steps, instruction_steps, block_steps, function_steps, steps_to, steps}
use Rattle.nesting.proofs.Lists.{joined_same, mem_joined}
use Rattle.nesting.proofs.Levels.{Tree, from_kid, on_below, level_few}

body_same : (o p : ℕ → List Step) (x : Option ℕ) → ((g : ℕ) → Mem g (listed x) → o g ≡ p g) → body_steps o x ≡ body_steps p x
body_same o p None h = refl
body_same o p (Some g) h = h g (inl refl)

module _ (M : Meaning) where
  -- the steps of a function rest on its bodies alone
  function_same : (f : ℕ) (o p : ℕ → List Step) → ((g : ℕ) → Mem g (bodies M f) → o g ≡ p g) → function_steps o M f ≡ function_steps p M f
  function_same f o p h =
      joined_same (block_steps o M) (block_steps p M) (numbers (blocks_of M f))
      (λ b mb. ap (λ l. map Phi (numbers (phis_of M b)) ++ l)
      (joined_same (instruction_steps o M) (instruction_steps p M) (numbers (instructions_of M b))
      (λ i mi. ap (λ l. l ++ (Instruction i ∷ []))
      (body_same o p (body_of M i)
      (λ g mg. h g (mem_joined (block_bodies M) (numbers (blocks_of M f)) b g mb (mem_joined (λ j. listed (body_of M j)) (numbers (instructions_of M b)) i g mi mg)))))))

  step : (n f : ℕ) → steps_to (suc n) M f ≡ function_steps (steps_to n M) M f
  unfolding steps_to
  step n f = refl

  -- the steps of a body, below a function with n levels
  unfoldable pub pre : ℕ → ℕ → List Step
  pre zero g = []
  pre (suc a) g = steps_to a M g

  pub by_pre : (a f : ℕ) → steps_to a M f ≡ function_steps (pre a) M f
  unfolding steps_to pre
  by_pre zero f = refl
  by_pre (suc a) f = refl

  -- with as many levels as there are below f, more levels change nothing
  stable : (j f : ℕ) → ((d u : ℕ) → Below (bodies M) f d u → d ≤ j) → (a b : ℕ) → j ≤ a → j ≤ b → steps_to a M f ≡ steps_to b M f
  stable zero f h a b la lb =
      by_pre a f
      ∙ function_same f (pre a) (pre b) (λ g m. absurd (omega (arith, h 1 g (from_kid (bodies M) f g 0 g m refl))))
      ∙ sym (by_pre b f)
  stable (suc j) f h zero b la lb = absurd (omega arith)
  stable (suc j) f h (suc a) zero la lb = absurd (omega arith)
  stable (suc j) f h (suc a) (suc b) la lb =
      step a f
      ∙ function_same f (steps_to a M) (steps_to b M)
      (λ g m. stable j g (λ n u p. omega (arith, h (suc n) u (from_kid (bodies M) f g n u m p))) a b (omega arith) (omega arith))
      ∙ sym (step b f)

  module _ (t : Tree (bodies M)) where
    -- THE LAW of the order, with no bound of levels
    pub whole : (f d : ℕ) → Below (bodies M) 0 d f → steps M f ≡ function_steps (steps M) M f
    unfolding steps
    whole f d p =
        step 254 f
        ∙ function_same f (steps_to 254 M) (steps_to 255 M)
        (λ g k.
        let low = level_few (bodies M) t (suc d) g (f, p, k) in
        stable (255 - suc d) g
        (λ n u q. let r = on_below (bodies M) 0 (suc d) g n u (f, p, k) q in omega (arith, r.1, level_few (bodies M) t r.0 u r.2))
        254 255 (omega arith) (omega arith))
