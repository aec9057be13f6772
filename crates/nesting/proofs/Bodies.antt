-- The function expressions of an admitted component nest its functions.
use Rattle.std.proofs.Common.{◌≡◌, ℕ, ◌<◌, Bool, true, length, Some, None, Option, sym, refl, ap, ◌∙◌, subst, inl, inr, ⊎_elim, arith}
use Rattle.std.specs.List.{slice_get}
use Rattle.std.proofs.lemmas.Option.{slice_get_past}
use Rattle.std.proofs.lemmas.Bool.{cases_lt, and_parts, ltb-true}
use Rattle.component.specs.declared.records.Function.{Function}
use Rattle.component.specs.declared.records.Block.{Block}
use Rattle.component.specs.declared.records.Instruction.{Instruction}
use Rattle.component.specs.declared.records.InstructionValue.{InstructionValue}
use Rattle.component.specs.declared.records.InstructionValue.TheVariants as kind
use Rattle.component.specs.declared.records.Sizes.{Sizes}
use Rattle.component.specs.Meaning.{Meaning, sizes_of}
use Rattle.rules.specs.Lists.{test_of}
use Rattle.rules.specs.Rules.{kind_fits, operands_fit, lvalues_fit, instruction_fits, places_from, blocks_of, phis_of, instructions_of, body_in, body_from, body_of}
use Rattle.rules.specs.Admission.{Admitted}
use Rattle.nesting.specs.Nesting.{Mem, Twice, In, One, numbers, listed, block_bodies, bodies, NestingStands}
use Rattle.nesting.proofs.Lists.{from_joined, joined_once, mem_counting, counting_once}
use Rattle.nesting.proofs.Runs.{in_table, one_list, one_home, through}
use Rattle.nesting.proofs.Levels.{Tree, entered_below, below_entered, one_level, level_few, entered_once, enough}

from_listed : (x : Option ℕ) (g : ℕ) → Mem g (listed x) → x ≡ Some g
from_listed None g m = absurd m
from_listed (Some e) g (inl q) = ap (λ (n : ℕ). Some n) (sym q)
from_listed (Some e) g (inr z) = absurd z

listed_once : (x : Option ℕ) → Twice (listed x) → ⊥
listed_once None d = d
listed_once (Some e) (inl z) = z
listed_once (Some e) (inr z) = z

-- ---- a body is a function of the table

never : {A : Type 0} (g : ℕ) → None ≡ Some g → A
never g e = let z : ◌≡◌ {A = ℕ} 0 1 = cc in absurd (omega arith)

kind_inside : (s : Sizes) (q : ℕ → ℕ → Bool) (x : InstructionValue) (g : ℕ) → kind_fits s q x ≡ true → body_in x ≡ Some g → g < s.functions
kind_inside s q kind.Other g t e = never g e
kind_inside s q (kind.LoadLocal p) g t e = never g e
kind_inside s q (kind.FunctionExpression f) g t e = let n : f ≡ g = cc in omega (arith, ltb-true f s.functions t)
kind_inside s q (kind.CallExpression p a) g t e = never g e
kind_inside s q (kind.MethodCall p a) g t e = never g e
kind_inside s q (kind.ArrayExpression a) g t e = never g e
kind_inside s q kind.LoadGlobal g t e = never g e

from_inside : (s : Sizes) (q : ℕ → ℕ → Bool) (x : Option Instruction) (g : ℕ) → test_of (instruction_fits s q) x ≡ true → body_from x ≡ Some g → g < s.functions
from_inside s q None g t e = never g e
from_inside s q (Some i) g t e =
    let a = and_parts (lvalues_fit q s.mentions i.lvalues) _ t in
    let b = and_parts (operands_fit q s.mentions i.operands) _ a.1 in
    kind_inside s q i.value g b.1 e

-- an instruction of block b whose body is g
unfoldable pub Makes : Meaning → ℕ → ℕ → Type 0
Makes m b g = (i : ℕ) × Mem i (numbers (instructions_of m b)) × (body_of m i ≡ Some g)

module _ (m : Meaning) (a : Admitted m) where
  body_inside : (i g : ℕ) → body_of m i ≡ Some g → g < length m.functions
  body_inside i g e =
      ⊎_elim
      (λ l. from_inside (sizes_of m) (places_from m.mentions) (slice_get m.instructions i) g (a.fitting.instructions i l) e)
      (λ l. never g (sym (ap body_from (slice_get_past m.instructions i l)) ∙ e))
      (cases_lt i (length m.instructions))

  -- ---- where a record belongs

  real_function : (f i : ℕ) → In i (blocks_of m f) → f < length m.functions
  real_function = in_table (λ (x : Function). x.blocks) m.functions

  real_phis : (b i : ℕ) → In i (phis_of m b) → b < length m.blocks
  real_phis = in_table (λ (x : Block). x.phis) m.blocks

  real_instructions : (b i : ℕ) → In i (instructions_of m b) → b < length m.blocks
  real_instructions = in_table (λ (x : Block). x.instructions) m.blocks

  block_function : (b : ℕ) → b < length m.blocks → One (length m.functions) (λ f. In b (blocks_of m f))
  block_function b h =
      one_home (blocks_of m) (length m.functions) a.ordered.blocks real_function b (omega (arith, a.ordered.all_blocks))

  phi_block : (p : ℕ) → p < length m.phis → One (length m.blocks) (λ b. In p (phis_of m b))
  phi_block p h =
      one_home (phis_of m) (length m.blocks) a.ordered.phis real_phis p (omega (arith, a.ordered.all_phis))

  instruction_block : (i : ℕ) → i < length m.instructions → One (length m.blocks) (λ b. In i (instructions_of m b))
  instruction_block i h =
      one_home (instructions_of m) (length m.blocks) a.ordered.instructions real_instructions i (omega (arith, a.ordered.all_instructions))

  -- ---- lists share nothing

  pub same_function : (b f e : ℕ) → Mem b (numbers (blocks_of m f)) → Mem b (numbers (blocks_of m e)) → f ≡ e
  same_function b f e x y =
      one_list (blocks_of m) (length m.functions) a.ordered.blocks real_function b f e (mem_counting _ _ b x) (mem_counting _ _ b y)

  pub same_phis : (p b c : ℕ) → Mem p (numbers (phis_of m b)) → Mem p (numbers (phis_of m c)) → b ≡ c
  same_phis p b c x y =
      one_list (phis_of m) (length m.blocks) a.ordered.phis real_phis p b c (mem_counting _ _ p x) (mem_counting _ _ p y)

  pub same_block : (i b c : ℕ) → Mem i (numbers (instructions_of m b)) → Mem i (numbers (instructions_of m c)) → b ≡ c
  same_block i b c x y =
      one_list (instructions_of m) (length m.blocks) a.ordered.instructions real_instructions i b c (mem_counting _ _ i x) (mem_counting _ _ i y)

  -- ---- bodies

  in_block : (b g : ℕ) → Mem g (block_bodies m b) → Makes m b g
  unfolding Makes
  in_block b g x =
      let r = from_joined (λ i. listed (body_of m i)) (numbers (instructions_of m b)) g x in
      (r.0, r.1, from_listed (body_of m r.0) g r.2)

  pub made_in : (f g : ℕ) → Mem g (bodies m f) → (b : ℕ) × Mem b (numbers (blocks_of m f)) × Makes m b g
  made_in f g x =
      let r = from_joined (block_bodies m) (numbers (blocks_of m f)) g x in
      (r.0, r.1, in_block r.0 g r.2)

  -- a body stands in one block
  one_block : (b c g : ℕ) → Makes m b g → Makes m c g → b ≡ c
  unfolding Makes
  one_block b c g x y =
      let P : ℕ → Type 0 = λ i. Mem i (numbers (instructions_of m c)) in
      same_block x.0 b c x.1 (subst P (a.ordered.once y.0 x.0 g y.2 x.2) y.1)

  one_function : (g f e : ℕ) → Mem g (bodies m f) → Mem g (bodies m e) → f ≡ e
  one_function g f e p q =
      let x = made_in f g p in
      let y = made_in e g q in
      let P : ℕ → Type 0 = λ b. Mem b (numbers (blocks_of m e)) in
      same_function x.0 f e x.1 (subst P (one_block y.0 x.0 g y.2 x.2) y.1)

  not_root : (b : ℕ) → Makes m b 0 → ⊥
  unfolding Makes
  not_root b x = a.ordered.root x.0 x.2

  few : (b g : ℕ) → Makes m b g → g < 256
  unfolding Makes
  few b g x = omega (arith, a.sized.functions, body_inside x.0 g x.2)

  block_once : (b : ℕ) → Twice (block_bodies m b) → ⊥
  block_once b =
      joined_once (λ i. listed (body_of m i)) (numbers (instructions_of m b))
      (counting_once _ _)
      (λ i x. listed_once (body_of m i))
      (λ i j g x y p q. a.ordered.once i j g (from_listed (body_of m i) g p) (from_listed (body_of m j) g q))

  pub tree : Tree (bodies m)
  tree =
      record {
        one = one_function;
        root = λ f x. let r = made_in f 0 x in not_root r.0 r.2;
        few = λ f g x. let r = made_in f g x in few r.0 g r.2;
        apart = λ f. joined_once (block_bodies m) (numbers (blocks_of m f)) (counting_once _ _) (λ b x. block_once b)
            (λ b c g x y p q. one_block b c g (in_block b g p) (in_block c g q));
      }

pub all_nested : NestingStands
all_nested m a =
    let k = bodies m in
    let t = tree m a in
    record {
      entered_once = entered_once k t 255 0 0 refl;
      none_left = enough k t;
      reached = λ f d b. below_entered k 255 0 d f (level_few k t d f b) b;
      has_level = entered_below k 255 0;
      shallow = λ f d b. level_few k t d f b;
      one_level = λ f d e p q. one_level k t d e f p q;
      block_function = block_function m a;
      phi_block = phi_block m a;
      phi_function = λ p h. through (blocks_of m) (phis_of m) _ _ p (phi_block m a p h) (block_function m a);
      instruction_block = instruction_block m a;
      instruction_function = λ i h. through (blocks_of m) (instructions_of m) _ _ i (instruction_block m a i h) (block_function m a);
    }
