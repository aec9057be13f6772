-- How the functions of an admitted component are nested, and where its blocks,
-- phis and instructions belong.
use Rattle.std.specs.Prelude.{◌≡◌, ℕ, zero, suc, ◌<◌, ◌≤◌, ◌⊎◌, List, [], ◌∷◌, length, Some, None, Option}
use Rattle.std.specs.List.{range_with_len, flat_map}
use Rattle.component.specs.declared.records.Run.{Run}
use Rattle.component.specs.Meaning.{Meaning}
use Rattle.rules.specs.Lists.{end_of}
use Rattle.rules.specs.Rules.{blocks_of, phis_of, instructions_of, body_of}
use Rattle.rules.specs.Admission.{Admitted}

-- x is an element
abbrev pub Mem : {X : Type 0} → X → List X → Type 0
Mem x [] = ⊥
Mem x (y ∷ ys) = (x ≡ y) ⊎ Mem x ys

-- some element comes twice
abbrev pub Twice : {X : Type 0} → List X → Type 0
Twice [] = ⊥
Twice (x ∷ xs) = Mem x xs ⊎ Twice xs

-- record k is in the list r
abbrev pub In : ℕ → Run → Type 0
In k r = (r.start ≤ k) × (k < end_of r)

-- exactly one number has P, and it is below n
abbrev pub One : ℕ → (ℕ → Type 0) → Type 0
One n P = (k : ℕ) × (k < n) × P k × ((j : ℕ) → P j → j ≡ k)

-- the records of a list, in order
abbrev pub numbers : Run → List ℕ
numbers r = range_with_len r.start r.count

-- a number that may be absent, as a list
abbrev pub listed : Option ℕ → List ℕ
listed None = []
listed (Some f) = f ∷ []

-- the functions of the function expressions of block b, in order
abbrev pub block_bodies : Meaning → ℕ → List ℕ
block_bodies m b = flat_map (λ i. listed (body_of m i)) (numbers (instructions_of m b))

-- the functions of the function expressions in the own blocks of function f, in order
abbrev pub bodies : Meaning → ℕ → List ℕ
bodies m f = flat_map (block_bodies m) (numbers (blocks_of m f))

-- g is d levels below f, where k gives the functions one level below
abbrev pub Below : (ℕ → List ℕ) → ℕ → ℕ → ℕ → Type 0
Below k f zero g = g ≡ f
Below k f (suc d) g = (e : ℕ) × Below k f d e × Mem g (k e)

-- f, and then what is entered from each function one level below it, down to n levels
unfoldable pub entered_to : ℕ → (ℕ → List ℕ) → ℕ → List ℕ
entered_to zero k f = f ∷ []
entered_to (suc n) k f = f ∷ flat_map (entered_to n k) (k f)

-- the functions that are entered from function 0 on, in order
abbrev pub entered : Meaning → List ℕ
entered m = entered_to 255 (bodies m) 0

-- function f has a block whose list, among `lists`, has record k
abbrev pub Owns : Meaning → (ℕ → Run) → ℕ → ℕ → Type 0
Owns m lists k f = (b : ℕ) × In b (blocks_of m f) × In k (lists b)

-- what is known of the nesting of an admitted component
pub record Nesting (m : Meaning) : Type 0 where
  -- no function is entered twice
  pub entered_once : Twice (entered m) → ⊥
  -- with more levels the same functions are entered
  pub none_left : (n : ℕ) → 255 ≤ n → entered_to n (bodies m) 0 ≡ entered m
  -- the functions that are entered are those at some level below function 0
  pub reached : (f d : ℕ) → Below (bodies m) 0 d f → Mem f (entered m)
  pub has_level : (f : ℕ) → Mem f (entered m) → (d : ℕ) × Below (bodies m) 0 d f
  -- at most 255 levels, and one level of a function
  pub shallow : (f d : ℕ) → Below (bodies m) 0 d f → d ≤ 255
  pub one_level : (f d e : ℕ) → Below (bodies m) 0 d f → Below (bodies m) 0 e f → d ≡ e
  -- a block is in the list of one function
  pub block_function : (b : ℕ) → b < length m.blocks → One (length m.functions) (λ f. In b (blocks_of m f))
  -- a phi is in the list of one block, and belongs to one function
  pub phi_block : (p : ℕ) → p < length m.phis → One (length m.blocks) (λ b. In p (phis_of m b))
  pub phi_function : (p : ℕ) → p < length m.phis → One (length m.functions) (Owns m (phis_of m) p)
  -- and so is an instruction
  pub instruction_block : (i : ℕ) → i < length m.instructions → One (length m.blocks) (λ b. In i (instructions_of m b))
  pub instruction_function : (i : ℕ) → i < length m.instructions → One (length m.functions) (Owns m (instructions_of m) i)

-- it is known of every admitted component
abbrev pub NestingStands : Type 0
NestingStands = (m : Meaning) → Admitted m → Nesting m
