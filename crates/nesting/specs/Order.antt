-- The order in which the phis and instructions of a component are met.
use Rattle.std.specs.Prelude.{◌≡◌, ℕ, zero, suc, List, [], ◌∷◌, ◌++◌, map, Some, None, Option}
use Rattle.std.specs.List.{flat_map}
use Rattle.component.specs.Meaning.{Meaning}
use Rattle.rules.specs.Rules.{blocks_of, phis_of, instructions_of, body_of}
use Rattle.rules.specs.Admission.{Admitted}
use Rattle.nesting.specs.declared.Step.{Step}
use Rattle.nesting.specs.declared.Step.TheVariants.{Phi, Instruction}
use Rattle.nesting.specs.Nesting.{Mem, Twice, numbers, bodies, Below, Owns, entered}

-- the steps of a body, if there is one, where o gives the steps of a function
abbrev pub body_steps : (ℕ → List Step) → Option ℕ → List Step
body_steps o None = []
body_steps o (Some g) = o g

-- a function expression stands behind its body
abbrev pub instruction_steps : (ℕ → List Step) → Meaning → ℕ → List Step
instruction_steps o m i = body_steps o (body_of m i) ++ (Instruction i ∷ [])

-- the phis of a block stand before its instructions
abbrev pub block_steps : (ℕ → List Step) → Meaning → ℕ → List Step
block_steps o m b = map Phi (numbers (phis_of m b)) ++ flat_map (instruction_steps o m) (numbers (instructions_of m b))

-- a function is walked block by block
abbrev pub function_steps : (ℕ → List Step) → Meaning → ℕ → List Step
function_steps o m f = flat_map (block_steps o m) (numbers (blocks_of m f))

-- the steps of function f with the bodies of n levels below it
unfoldable pub steps_to : ℕ → Meaning → ℕ → List Step
steps_to zero m f = function_steps (λ _. []) m f
steps_to (suc n) m f = function_steps (steps_to n m) m f

-- the steps of function f with all bodies below it
unfoldable pub steps : Meaning → ℕ → List Step
steps m f = steps_to 255 m f

-- function f has the step in one of its blocks
abbrev pub Has : Meaning → ℕ → Step → Type 0
Has m f (Phi p) = Owns m (phis_of m) p f
Has m f (Instruction i) = Owns m (instructions_of m) i f

-- what is known of the steps of an admitted component
pub record Visiting (m : Meaning) : Type 0 where
  -- the steps of a function are its own, each body's in its place
  pub whole : (f d : ℕ) → Below (bodies m) 0 d f → steps m f ≡ function_steps (steps m) m f
  -- what the functions entered from function 0 on have is met, and nothing else
  pub all_met : (f : ℕ) (s : Step) → Mem f (entered m) → Has m f s → Mem s (steps m 0)
  pub none_else : (s : Step) → Mem s (steps m 0) → (f : ℕ) × Mem f (entered m) × Has m f s
  -- nothing is met twice
  pub met_once : Twice (steps m 0) → ⊥

-- it is known of every admitted component
abbrev pub VisitingStands : Type 0
VisitingStands = (m : Meaning) → Admitted m → Visiting m
