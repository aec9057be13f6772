-- Levels of nesting, over any k that gives the functions one level below.
use Rattle.std.proofs.Common.{◌≡◌, ℕ, zero, suc, ◌+◌, ◌<◌, ◌≤◌, List, [], ◌∷◌, length, sym, refl, ap, ◌∙◌, subst, inl, inr, arith}
use Rattle.std.specs.List.{flat_map}
use Rattle.nesting.specs.Nesting.{Mem, Twice, Below, entered_to}
use Rattle.nesting.proofs.Lists.{joined_same, mem_joined, from_joined, joined_once, pigeons}

-- a function stands below one other at most and once, function 0 below none, and
-- there are at most 256
pub record Tree (k : ℕ → List ℕ) : Type 0 where
  pub one : (g f e : ℕ) → Mem g (k f) → Mem g (k e) → f ≡ e
  pub root : (f : ℕ) → Mem 0 (k f) → ⊥
  pub few : (f g : ℕ) → Mem g (k f) → g < 256
  pub apart : (f : ℕ) → Twice (k f) → ⊥

module _ (k : ℕ → List ℕ) where
  -- one level more at the top
  pub from_kid : (f g d u : ℕ) → Mem g (k f) → Below k g d u → Below k f (suc d) u
  from_kid f g zero u h e = let P : ℕ → Type 0 = λ z. Mem z (k f) in (f, refl, subst P (sym e) h)
  from_kid f g (suc d) u h b = (b.0, from_kid f g d b.0 h b.1, b.2)

  -- the first level apart
  pub to_kid : (f d u : ℕ) → Below k f (suc d) u → (g : ℕ) × Mem g (k f) × Below k g d u
  to_kid f zero u b = let P : ℕ → Type 0 = λ z. Mem u (k z) in (u, subst P b.1 b.2, refl)
  to_kid f (suc d) u b = let r = to_kid f d b.0 b.1 in (r.0, r.1, (b.0, r.2, b.2))

  -- one way after another
  pub on_below : (f a u b w : ℕ) → Below k f a u → Below k u b w → (n : ℕ) × (n ≡ a + b) × Below k f n w
  on_below f a u zero w p e = let P : ℕ → Type 0 = λ z. Below k f a z in (a, omega arith, subst P (sym e) p)
  on_below f a u (suc b) w p q =
      let r = on_below f a u b q.0 p q.1 in
      (suc r.0, omega (arith, r.1), (q.0, r.2, q.2))

  -- ---- what is entered

  -- what is entered stands at some level below
  pub entered_below : (n f x : ℕ) → Mem x (entered_to n k f) → (d : ℕ) × Below k f d x
  unfolding entered_to
  entered_below zero f x (inl e) = (0, e)
  entered_below zero f x (inr z) = absurd z
  entered_below (suc n) f x (inl e) = (0, e)
  entered_below (suc n) f x (inr m) =
      let g = from_joined (entered_to n k) (k f) x m in
      let r = entered_below n g.0 x g.2 in
      (suc r.0, from_kid f g.0 r.0 x g.1 r.1)

  -- what stands at most n levels below is entered
  pub below_entered : (n f d x : ℕ) → d ≤ n → Below k f d x → Mem x (entered_to n k f)
  unfolding entered_to
  below_entered zero f zero x l e = inl e
  below_entered zero f (suc d) x l b = absurd (omega arith)
  below_entered (suc n) f zero x l e = inl e
  below_entered (suc n) f (suc d) x l b =
      let r = to_kid f d x b in
      inr (mem_joined (entered_to n k) (k f) r.0 x r.1 (below_entered n r.0 d x (omega arith) r.2))

  one_more : (n f : ℕ) → entered_to (suc n) k f ≡ f ∷ flat_map (entered_to n k) (k f)
  unfolding entered_to
  one_more n f = refl

  no_more : (f : ℕ) → entered_to 0 k f ≡ f ∷ []
  unfolding entered_to
  no_more f = refl

  none_below : (f n : ℕ) → k f ≡ [] → entered_to n k f ≡ f ∷ []
  none_below f zero e = no_more f
  none_below f (suc n) e = one_more n f ∙ ap (λ l. f ∷ flat_map (entered_to n k) l) e

  empty : (l : List ℕ) → ((g : ℕ) → Mem g l → ⊥) → l ≡ []
  empty [] h = refl
  empty (g ∷ l) h = absurd (h g (inl refl))

  -- with as many levels as there are below f, more levels change nothing
  pub stable : (j f : ℕ) → ((d u : ℕ) → Below k f d u → d ≤ j) → (a b : ℕ) → j ≤ a → j ≤ b → entered_to a k f ≡ entered_to b k f
  stable zero f h a b la lb =
      let e = empty (k f) (λ g m. omega (arith, h 1 g (from_kid f g 0 g m refl))) in
      none_below f a e ∙ sym (none_below f b e)
  stable (suc j) f h zero b la lb = absurd (omega arith)
  stable (suc j) f h (suc a) zero la lb = absurd (omega arith)
  stable (suc j) f h (suc a) (suc b) la lb =
      one_more a f
      ∙ ap (λ l. f ∷ l)
      (joined_same (entered_to a k) (entered_to b k) (k f)
      (λ g m. stable j g (λ d u p. omega (arith, h (suc d) u (from_kid f g d u m p))) a b (omega arith) (omega arith)))
      ∙ sym (one_more b f)

  module _ (t : Tree k) where
    -- ways of one length to one function begin at one function
    pub one_top : (d f e u : ℕ) → Below k f d u → Below k e d u → f ≡ e
    one_top zero f e u p q = sym p ∙ q
    one_top (suc d) f e u p q =
        let P : ℕ → Type 0 = λ z. Below k f d z in
        one_top d f e q.0 (subst P (t.one u p.0 q.0 p.2 q.2) p.1) q.1

    -- a function stands at one level
    pub one_level : (m n u : ℕ) → Below k 0 m u → Below k 0 n u → m ≡ n
    one_level zero zero u p q = refl
    one_level zero (suc n) u p q = let P : ℕ → Type 0 = λ z. Mem z (k q.0) in absurd (t.root q.0 (subst P p q.2))
    one_level (suc m) zero u p q = let P : ℕ → Type 0 = λ z. Mem z (k p.0) in absurd (t.root p.0 (subst P q p.2))
    one_level (suc m) (suc n) u p q =
        let P : ℕ → Type 0 = λ z. Below k 0 m z in
        ap suc (one_level m n q.0 (subst P (t.one u p.0 q.0 p.2 q.2) p.1) q.1)

    -- the functions on the way to u: they do not repeat
    way : (d u : ℕ) → Below k 0 d u
        → (vs : List ℕ) × (length vs ≡ suc d) × ((x : ℕ) → Mem x vs → (j : ℕ) × (j ≤ d) × Below k 0 j x) × (Twice vs → ⊥)
    way zero u p = (u ∷ [], refl, (λ x. elim [ inl e ↦ (0, omega arith, e ∙ p) | inr z ↦ absurd z ]), elim [ inl z ↦ z | inr z ↦ z ])
    way (suc d) u p =
        let r = way d p.0 p.1 in
        let P : ℕ → Type 0 = λ z. Below k 0 (suc d) z in (
          u ∷ r.0,
          ap suc r.1,
          (λ x. elim [ inl e ↦ (suc d, omega arith, subst P (sym e) p) | inr i ↦ (let h = r.2 x i in (h.0, omega (arith, h.1), h.2)) ]),
          elim [ inl i ↦ (let h = r.2 u i in omega (arith, h.1, one_level (suc d) h.0 u p h.2)) | inr x ↦ r.3 x ],
        )

    few_below : (j x : ℕ) → Below k 0 j x → x < 256
    few_below zero x p = omega arith
    few_below (suc j) x p = t.few p.0 x p.2

    -- THE LAW of depth
    pub level_few : (d u : ℕ) → Below k 0 d u → d ≤ 255
    level_few d u p =
        let r = way d u p in
        omega (arith, r.1, pigeons 256 r.0 (λ x i. few_below (r.2 x i).0 x (r.2 x i).2) r.3)

    -- no function is entered twice
    pub entered_once : (n f d : ℕ) → Below k 0 d f → Twice (entered_to n k f) → ⊥
    unfolding entered_to
    entered_once zero f d p (inl z) = z
    entered_once zero f d p (inr z) = z
    entered_once (suc n) f d p (inl i) =
        let g = from_joined (entered_to n k) (k f) f i in
        let r = entered_below n g.0 f g.2 in
        let w = on_below 0 d f (suc r.0) f p (from_kid f g.0 r.0 f g.1 r.1) in
        omega (arith, w.1, one_level d w.0 f p w.2)
    entered_once (suc n) f d p (inr x) =
        joined_once (entered_to n k) (k f) (t.apart f)
        (λ g i. entered_once n g (suc d) (f, p, i))
        (λ g h z i j a b.
        let x = entered_below n g z a in
        let y = entered_below n h z b in
        let v = on_below 0 (suc d) g x.0 z (f, p, i) x.1 in
        let w = on_below 0 (suc d) h y.0 z (f, p, j) y.1 in
        let e : x.0 ≡ y.0 = omega (arith, v.1, w.1, one_level v.0 w.0 z v.2 w.2) in
        let P : ℕ → Type 0 = λ q. Below k g q z in
        one_top y.0 g h z (subst P e x.1) y.1)
        x

    -- 255 levels are enough
    pub enough : (n : ℕ) → 255 ≤ n → entered_to n k 0 ≡ entered_to 255 k 0
    enough n l = stable 255 0 level_few n 255 l (omega arith)
