-- The steps from function 0 on: all that the entered functions have, nothing twice.
use Rattle.std.proofs.Common.{◌≡◌, ℕ, zero, suc, ◌≤◌, ◌⊎◌, List, [], ◌∷◌, map, Some, None, Option, sym, refl, ap, ◌∙◌, subst, inl, inr, ⊎_elim, arith}
use Rattle.std.specs.List.{flat_map}
use Rattle.component.specs.Meaning.{Meaning}
use Rattle.rules.specs.Rules.{blocks_of, phis_of, instructions_of, body_of}
use Rattle.rules.specs.Admission.{Admitted}
use Rattle.nesting.specs.declared.Step.{Step}
use Rattle.nesting.specs.declared.Step.TheVariants.{Phi, Instruction}
use Rattle.nesting.specs.Nesting.{Mem, Twice, numbers, listed, block_bodies, bodies, Below, entered}
use Rattle.nesting.specs.Order.{body_steps, instruction_steps, block_steps, function_steps, steps_to, steps, Has, VisitingStands}
use Rattle.nesting.proofs.Lists.{mem_split, mem_left, mem_right, mem_joined, from_joined, twice_split, joined_once, mem_counting, counting_mem, counting_once}
use Rattle.nesting.proofs.Levels.{Tree, from_kid, to_kid, on_below, one_top, one_level, level_few, entered_below, below_entered}
use Rattle.nesting.proofs.Bodies.{Makes, made_in, same_function, same_phis, same_block, tree}
use Rattle.nesting.proofs.Orders.{pre, by_pre, whole}

mem_map : {X : Type 0} (h : ℕ → X) (xs : List ℕ) (y : X) → Mem y (map h xs) → (x : ℕ) × Mem x xs × (y ≡ h x)
mem_map h [] y m = absurd m
mem_map h (x ∷ xs) y (inl e) = (x, inl refl, e)
mem_map h (x ∷ xs) y (inr m) = let r = mem_map h xs y m in (r.0, inr r.1, r.2)

map_mem : {X : Type 0} (h : ℕ → X) (xs : List ℕ) (x : ℕ) → Mem x xs → Mem (h x) (map h xs)
map_mem h [] x m = absurd m
map_mem h (y ∷ xs) x (inl e) = inl (ap h e)
map_mem h (y ∷ xs) x (inr m) = inr (map_mem h xs x m)

map_once : (xs : List ℕ) → (Twice xs → ⊥) → Twice (map Phi xs) → ⊥
map_once [] o d = d
map_once (x ∷ xs) o (inl m) =
    let r = mem_map Phi xs (Phi x) m in
    let p : Phi x ≡ Phi r.0 = r.2 in
    let e : x ≡ r.0 = cc in
    let P : ℕ → Type 0 = λ z. Mem z xs in
    o (inl (subst P (sym e) r.1))
map_once (x ∷ xs) o (inr d) = map_once xs (λ t. o (inr t)) d

from_body : (o : ℕ → List Step) (x : Option ℕ) (z : Step) → Mem z (body_steps o x) → (g : ℕ) × (x ≡ Some g) × Mem z (o g)
from_body o None z m = absurd m
from_body o (Some g) z m = (g, refl, m)

to_body : (x : Option ℕ) (g : ℕ) → x ≡ Some g → Mem g (listed x)
to_body x g e = let P : Option ℕ → Type 0 = λ y. Mem g (listed y) in subst P (sym e) (inl refl)

none_there : (M : Meaning) (g : ℕ) (v : Step) → Mem v (pre M 0 g) → ⊥
unfolding pre
none_there M g v m = m

never_twice : (M : Meaning) (g : ℕ) → Twice (pre M 0 g) → ⊥
unfolding pre
never_twice M g d = d

there : (M : Meaning) (k g : ℕ) (v : Step) → Mem v (pre M (suc k) g) → Mem v (steps_to k M g)
unfolding pre
there M k g v m = m

twice_there : (M : Meaning) (k g : ℕ) → Twice (pre M (suc k) g) → Twice (steps_to k M g)
unfolding pre
twice_there M k g d = d

module _ (M : Meaning) (q : Admitted M) (t : Tree (bodies M)) where
  Own : ℕ → Step → Type 0
  Own b (Phi p) = Mem p (numbers (phis_of M b))
  Own b (Instruction i) = Mem i (numbers (instructions_of M b))

  one_own : (b c : ℕ) (v : Step) → Own b v → Own c v → b ≡ c
  unfolding Own
  one_own b c (Phi p) m n = same_phis M q p b c m n
  one_own b c (Instruction i) m n = same_block M q i b c m n

  Home : ℕ → Step → Type 0
  Home f v = (b : ℕ) × Mem b (numbers (blocks_of M f)) × Own b v

  home : (f b : ℕ) (v : Step) → Mem b (numbers (blocks_of M f)) → Own b v → Home f v
  unfolding Home
  home f b v m o = (b, m, o)

  one_home : (f e : ℕ) (v : Step) → Home f v → Home e v → f ≡ e
  unfolding Home
  one_home f e v x y =
      let P : ℕ → Type 0 = λ b. Mem b (numbers (blocks_of M e)) in
      same_function M q x.0 f e x.1 (subst P (one_own y.0 x.0 v y.2 x.2) y.1)

  own_phi : (b p : ℕ) (v : Step) → v ≡ Phi p → Mem p (numbers (phis_of M b)) → Own b v
  unfolding Own
  own_phi b p v e m = let P : Step → Type 0 = λ w. Own b w in subst P (sym e) m

  own_instruction : (b i : ℕ) (v : Step) → v ≡ Instruction i → Mem i (numbers (instructions_of M b)) → Own b v
  unfolding Own
  own_instruction b i v e m = let P : Step → Type 0 = λ w. Own b w in subst P (sym e) m

  kid : (f b i g : ℕ) → Mem b (numbers (blocks_of M f)) → Mem i (numbers (instructions_of M b)) → body_of M i ≡ Some g → Mem g (bodies M f)
  kid f b i g mb mi e =
      mem_joined (block_bodies M) (numbers (blocks_of M f)) b g mb (mem_joined (λ j. listed (body_of M j)) (numbers (instructions_of M b)) i g mi (to_body (body_of M i) g e))

  module _ (o : ℕ → List Step) where
    in_instruction : (i : ℕ) (v : Step) → Mem v (instruction_steps o M i) → (v ≡ Instruction i) ⊎ ((g : ℕ) × (body_of M i ≡ Some g) × Mem v (o g))
    in_instruction i v m =
        ⊎_elim (λ a. inr (from_body o (body_of M i) v a)) (λ b. ⊎_elim (λ e. inl e) (λ z. absurd z) b) (mem_split v (body_steps o (body_of M i)) (Instruction i ∷ []) m)

    -- a step in a block is the block's own, or in a body
    in_block : (b : ℕ) (v : Step) → Mem v (block_steps o M b) → Own b v ⊎ ((i : ℕ) × Mem i (numbers (instructions_of M b)) × ((g : ℕ) × (body_of M i ≡ Some g) × Mem v (o g)))
    in_block b v m =
        ⊎_elim
        (λ x. let r = mem_map Phi (numbers (phis_of M b)) v x in inl (own_phi b r.0 v r.2 r.1))
        (λ y.
        let r = from_joined (instruction_steps o M) (numbers (instructions_of M b)) v y in
        ⊎_elim (λ e. inl (own_instruction b r.0 v e r.1)) (λ g. inr (r.0, r.1, g)) (in_instruction r.0 v r.2))
        (mem_split v (map Phi (numbers (phis_of M b))) (flat_map (instruction_steps o M) (numbers (instructions_of M b))) m)

    in_function : (f : ℕ) (v : Step) → Mem v (function_steps o M f) → Home f v ⊎ ((g : ℕ) × Mem g (bodies M f) × Mem v (o g))
    in_function f v m =
        let r = from_joined (block_steps o M) (numbers (blocks_of M f)) v m in
        ⊎_elim (λ w. inl (home f r.0 v r.1 w)) (λ y. inr (y.2.0, kid f r.0 y.0 y.2.0 r.1 y.1 y.2.1, y.2.2)) (in_block r.0 v r.2)

  -- what is met stands at a function at some level below
  found : (k f : ℕ) (v : Step) → Mem v (steps_to k M f) → (u : ℕ) × ((n : ℕ) × Below (bodies M) f n u × Home u v)
  found zero f v m =
      let P : List Step → Type 0 = λ l. Mem v l in
      ⊎_elim (λ h. (f, (0, refl, h))) (λ g. absurd (none_there M g.0 v g.2)) (in_function (pre M 0) f v (subst P (by_pre M 0 f) m))
  found (suc k) f v m =
      let P : List Step → Type 0 = λ l. Mem v l in
      ⊎_elim
      (λ h. (f, (0, refl, h)))
      (λ g. let r = found k g.0 v (there M k g.0 v g.2) in (r.0, (suc r.1.0, from_kid (bodies M) f g.0 r.1.0 r.0 g.1 r.1.1, r.1.2)))
      (in_function (pre M (suc k)) f v (subst P (by_pre M (suc k) f) m))

  -- ---- nothing twice

  module _ (o : ℕ → List Step) (f l : ℕ) (p : Below (bodies M) 0 l f)
      (none : (g : ℕ) → Mem g (bodies M f) → Twice (o g) → ⊥)
      (where' : (g : ℕ) (v : Step) → Mem g (bodies M f) → Mem v (o g) → (u : ℕ) × ((n : ℕ) × Below (bodies M) g n u × Home u v)) where
    -- what is a function's own is in no body of it
    not_both : (v : Step) (g : ℕ) → Home f v → Mem g (bodies M f) → Mem v (o g) → ⊥
    not_both v g h k m =
        let r = where' g v k m in
        let P : ℕ → Type 0 = λ u. Below (bodies M) g r.1.0 u in
        let b = subst P (one_home r.0 f v r.1.2 h) r.1.1 in
        let w = on_below (bodies M) 0 l f (suc r.1.0) f p (from_kid (bodies M) f g r.1.0 f k b) in
        omega (arith, w.1, one_level (bodies M) t l w.0 f p w.2)

    -- bodies that share a step are one
    one_kid : (v : Step) (g h : ℕ) → Mem g (bodies M f) → Mem h (bodies M f) → Mem v (o g) → Mem v (o h) → g ≡ h
    one_kid v g h kg kh mg mh =
        let x = where' g v kg mg in
        let y = where' h v kh mh in
        let P : ℕ → Type 0 = λ u. Below (bodies M) g x.1.0 u in
        let bx = subst P (one_home x.0 y.0 v x.1.2 y.1.2) x.1.1 in
        let a = on_below (bodies M) 0 (suc l) g x.1.0 y.0 (f, p, kg) bx in
        let b = on_below (bodies M) 0 (suc l) h y.1.0 y.0 (f, p, kh) y.1.1 in
        let e : x.1.0 ≡ y.1.0 = omega (arith, a.1, b.1, one_level (bodies M) t a.0 b.0 y.0 a.2 b.2) in
        let Q : ℕ → Type 0 = λ n. Below (bodies M) g n y.0 in
        one_top (bodies M) t y.1.0 g h y.0 (subst Q e bx) y.1.1

    module _ (b : ℕ) (mb : Mem b (numbers (blocks_of M f))) where
      body_twice : (i : ℕ) → Mem i (numbers (instructions_of M b)) → (x : Option ℕ) → body_of M i ≡ x → Twice (body_steps o x) → ⊥
      body_twice i mi None e d = d
      body_twice i mi (Some g) e d = none g (kid f b i g mb mi e) d

      instruction_once : (i : ℕ) → Mem i (numbers (instructions_of M b)) → Twice (instruction_steps o M i) → ⊥
      instruction_once i mi d =
          ⊎_elim
          (λ x. body_twice i mi (body_of M i) refl x)
          (λ y. ⊎_elim (λ z. ⊎_elim (λ w. w) (λ w. w) z)
          (λ z.
          let r = from_body o (body_of M i) z.0 z.1 in
          not_both z.0 r.0 (home f b z.0 mb (own_instruction b i z.0 (⊎_elim (λ e. e) (λ n. absurd n) z.2) mi)) (kid f b i r.0 mb mi r.1) r.2)
          y)
          (twice_split (body_steps o (body_of M i)) (Instruction i ∷ []) d)

      one_instruction : (i j : ℕ) (v : Step) → Mem i (numbers (instructions_of M b)) → Mem j (numbers (instructions_of M b)) → Mem v (instruction_steps o M i) → Mem v (instruction_steps o M j) → i ≡ j
      one_instruction i j v mi mj x y =
          ⊎_elim
          (λ a. ⊎_elim
          (λ c. let e : Instruction i ≡ Instruction j = sym a ∙ c in let n : i ≡ j = cc in n)
          (λ c. absurd (not_both v c.0 (home f b v mb (own_instruction b i v a mi)) (kid f b j c.0 mb mj c.1) c.2))
          (in_instruction o j v y))
          (λ a. ⊎_elim
          (λ c. absurd (not_both v a.0 (home f b v mb (own_instruction b j v c mj)) (kid f b i a.0 mb mi a.1) a.2))
          (λ c.
          let e = one_kid v a.0 c.0 (kid f b i a.0 mb mi a.1) (kid f b j c.0 mb mj c.1) a.2 c.2 in
          q.ordered.once i j c.0 (a.1 ∙ ap (λ (g : ℕ). Some g) e) c.1)
          (in_instruction o j v y))
          (in_instruction o i v x)

      block_once : Twice (block_steps o M b) → ⊥
      block_once d =
          ⊎_elim
          (λ x. map_once (numbers (phis_of M b)) (counting_once _ _) x)
          (λ y. ⊎_elim
          (λ z. joined_once (instruction_steps o M) (numbers (instructions_of M b)) (counting_once _ _) instruction_once (λ i j v. one_instruction i j v) z)
          (λ z.
          let r = mem_map Phi (numbers (phis_of M b)) z.0 z.1 in
          let w = from_joined (instruction_steps o M) (numbers (instructions_of M b)) z.0 z.2 in
          ⊎_elim
          (λ e. let a : Phi r.0 ≡ Instruction w.0 = sym r.2 ∙ e in let n : ◌≡◌ {A = ℕ} 0 1 = cc in omega arith)
          (λ g. not_both z.0 g.0 (home f b z.0 mb (own_phi b r.0 z.0 r.2 r.1)) (kid f b w.0 g.0 mb w.1 g.1) g.2)
          (in_instruction o w.0 z.0 w.2))
          y)
          (twice_split (map Phi (numbers (phis_of M b))) (flat_map (instruction_steps o M) (numbers (instructions_of M b))) d)

    one_block : (b c : ℕ) (v : Step) → Mem b (numbers (blocks_of M f)) → Mem c (numbers (blocks_of M f)) → Mem v (block_steps o M b) → Mem v (block_steps o M c) → b ≡ c
    one_block b c v mb mc x y =
        ⊎_elim
        (λ a. ⊎_elim
        (λ d. one_own b c v a d)
        (λ d. absurd (not_both v d.2.0 (home f b v mb a) (kid f c d.0 d.2.0 mc d.1 d.2.1) d.2.2))
        (in_block o c v y))
        (λ a. ⊎_elim
        (λ d. absurd (not_both v a.2.0 (home f c v mc d) (kid f b a.0 a.2.0 mb a.1 a.2.1) a.2.2))
        (λ d.
        let e = one_kid v a.2.0 d.2.0 (kid f b a.0 a.2.0 mb a.1 a.2.1) (kid f c d.0 d.2.0 mc d.1 d.2.1) a.2.2 d.2.2 in
        let i = q.ordered.once a.0 d.0 d.2.0 (a.2.1 ∙ ap (λ (g : ℕ). Some g) e) d.2.1 in
        let P : ℕ → Type 0 = λ j. Mem j (numbers (instructions_of M b)) in
        same_block M q d.0 b c (subst P i a.1) d.1)
        (in_block o c v y))
        (in_block o b v x)

    function_once : Twice (function_steps o M f) → ⊥
    function_once = joined_once (block_steps o M) (numbers (blocks_of M f)) (counting_once _ _) block_once one_block

  at_once : (k f l : ℕ) → Below (bodies M) 0 l f → Twice (steps_to k M f) → ⊥
  at_once zero f l p d =
      let P : List Step → Type 0 = λ x. Twice x in
      function_once (pre M 0) f l p (λ g k e. never_twice M g e) (λ g v k m. absurd (none_there M g v m)) (subst P (by_pre M 0 f) d)
  at_once (suc k) f l p d =
      let P : List Step → Type 0 = λ x. Twice x in
      function_once (pre M (suc k)) f l p (λ g m e. at_once k g (suc l) (f, p, m) (twice_there M k g e)) (λ g v m n. found k g v (there M k g v n)) (subst P (by_pre M (suc k) f) d)

  -- THE LAW: from a function that is reached, nothing is met twice
  pub met_once : (f l : ℕ) → Below (bodies M) 0 l f → Twice (steps M f) → ⊥
  unfolding steps
  met_once f l p d = at_once 255 f l p d

  -- ---- all that the entered functions have

  has_home : (f : ℕ) (v : Step) → Has M f v → Home f v
  unfolding Home Own
  has_home f (Phi p) h = (h.0, counting_mem _ _ h.0 h.1, counting_mem _ _ p h.2)
  has_home f (Instruction i) h = (h.0, counting_mem _ _ h.0 h.1, counting_mem _ _ i h.2)

  home_has : (f : ℕ) (v : Step) → Home f v → Has M f v
  unfolding Home Own
  home_has f (Phi p) h = (h.0, mem_counting _ _ h.0 h.1, mem_counting _ _ p h.2)
  home_has f (Instruction i) h = (h.0, mem_counting _ _ h.0 h.1, mem_counting _ _ i h.2)

  module _ (o : ℕ → List Step) where
    own_met : (b : ℕ) (v : Step) → Own b v → Mem v (block_steps o M b)
    unfolding Own
    own_met b (Phi p) h = mem_left (Phi p) (map Phi (numbers (phis_of M b))) _ (map_mem Phi (numbers (phis_of M b)) p h)
    own_met b (Instruction i) h =
        mem_right (Instruction i) (map Phi (numbers (phis_of M b))) _
        (mem_joined (instruction_steps o M) (numbers (instructions_of M b)) i (Instruction i) h
        (mem_right (Instruction i) (body_steps o (body_of M i)) (Instruction i ∷ []) (inl refl)))

    home_met : (f : ℕ) (v : Step) → Home f v → Mem v (function_steps o M f)
    unfolding Home
    home_met f v h = mem_joined (block_steps o M) (numbers (blocks_of M f)) h.0 v h.1 (own_met h.0 v h.2)

    makes_met : (b g : ℕ) (v : Step) → Makes M b g → Mem v (o g) → Mem v (block_steps o M b)
    unfolding Makes
    makes_met b g v h m =
        let P : Option ℕ → Type 0 = λ x. Mem v (body_steps o x) in
        mem_right v (map Phi (numbers (phis_of M b))) _
        (mem_joined (instruction_steps o M) (numbers (instructions_of M b)) h.0 v h.1
        (mem_left v (body_steps o (body_of M h.0)) _ (subst P (sym h.2) m)))

    kid_met : (f g : ℕ) (v : Step) → Mem g (bodies M f) → Mem v (o g) → Mem v (function_steps o M f)
    kid_met f g v k m =
        let r = made_in M q f g k in
        mem_joined (block_steps o M) (numbers (blocks_of M f)) r.0 v r.1 (makes_met r.0 g v r.2 m)

  -- what a function has at most n levels below is met
  below_met : (n f d u : ℕ) (v : Step) → d ≤ n → Below (bodies M) f d u → Home u v → Mem v (steps_to n M f)
  unfolding steps_to
  below_met zero f zero u v l e h = let P : ℕ → Type 0 = λ z. Home z v in home_met (λ _. []) f v (subst P e h)
  below_met zero f (suc d) u v l b h = absurd (omega arith)
  below_met (suc n) f zero u v l e h = let P : ℕ → Type 0 = λ z. Home z v in home_met (steps_to n M) f v (subst P e h)
  below_met (suc n) f (suc d) u v l b h =
      let r = to_kid (bodies M) f d u b in
      kid_met (steps_to n M) f r.0 v r.1 (below_met n r.0 d u v (omega arith) r.2 h)

  pub all_met : (f : ℕ) (v : Step) → Mem f (entered M) → Has M f v → Mem v (steps M 0)
  unfolding steps
  all_met f v m h =
      let r = entered_below (bodies M) 255 0 f m in
      below_met 255 0 r.0 f v (level_few (bodies M) t r.0 f r.1) r.1 (has_home f v h)

  pub none_else : (v : Step) → Mem v (steps M 0) → (f : ℕ) × Mem f (entered M) × Has M f v
  unfolding steps
  none_else v m =
      let r = found 255 0 v m in
      (r.0, below_entered (bodies M) 255 0 r.1.0 r.0 (level_few (bodies M) t r.1.0 r.0 r.1.1) r.1.1, home_has r.0 v r.1.2)

pub all_visited : VisitingStands
all_visited m a =
    record {
      whole = whole m (tree m a);
      all_met = all_met m a (tree m a);
      none_else = none_else m a (tree m a);
      met_once = met_once m a (tree m a) 0 0 refl;
    }
