-- Members of lists, and lists without a repeated element.
use Rattle.std.proofs.Common.{◌≡◌, ℕ, zero, suc, ◌+◌, ◌<◌, ◌≤◌, ◌⊎◌, List, [], ◌∷◌, ◌++◌, length, sym, refl, ap, ◌∙◌, subst, inl, inr, ⊎_elim, arith}
use Rattle.std.specs.List.{range_with_len, flat_map}
use Rattle.std.proofs.lemmas.Bool.{cases_eq}
use Rattle.nesting.specs.Nesting.{Mem, Twice}

pub mem_split : {X : Type 0} (x : X) (xs ys : List X) → Mem x (xs ++ ys) → Mem x xs ⊎ Mem x ys
mem_split x [] ys m = inr m
mem_split x (y ∷ xs) ys (inl e) = inl (inl e)
mem_split x (y ∷ xs) ys (inr m) = ⊎_elim (λ a. inl (inr a)) (λ b. inr b) (mem_split x xs ys m)

pub mem_left : {X : Type 0} (x : X) (xs ys : List X) → Mem x xs → Mem x (xs ++ ys)
mem_left x [] ys m = absurd m
mem_left x (y ∷ xs) ys (inl e) = inl e
mem_left x (y ∷ xs) ys (inr m) = inr (mem_left x xs ys m)

pub mem_right : {X : Type 0} (x : X) (xs ys : List X) → Mem x ys → Mem x (xs ++ ys)
mem_right x [] ys m = m
mem_right x (y ∷ xs) ys m = inr (mem_right x xs ys m)

-- ---- joined lists

pub joined_same : {X Y : Type 0} (F G : X → List Y) (xs : List X) → ((x : X) → Mem x xs → F x ≡ G x) → flat_map F xs ≡ flat_map G xs
joined_same F G [] h = refl
joined_same F G (x ∷ xs) h =
    ap (λ l. l ++ flat_map F xs) (h x (inl refl)) ∙ ap (λ l. G x ++ l) (joined_same F G xs (λ y m. h y (inr m)))

pub mem_joined : {X Y : Type 0} (F : X → List Y) (xs : List X) (x : X) (y : Y) → Mem x xs → Mem y (F x) → Mem y (flat_map F xs)
mem_joined F [] x y m h = absurd m
mem_joined {X} F (w ∷ xs) x y (inl e) h = let P : X → Type 0 = λ z. Mem y (F z) in mem_left y (F w) (flat_map F xs) (subst P e h)
mem_joined F (w ∷ xs) x y (inr m) h = mem_right y (F w) (flat_map F xs) (mem_joined F xs x y m h)

pub from_joined : {X Y : Type 0} (F : X → List Y) (xs : List X) (y : Y) → Mem y (flat_map F xs) → (x : X) × Mem x xs × Mem y (F x)
from_joined F [] y m = absurd m
from_joined F (x ∷ xs) y m =
    let r = from_joined F xs y in
    ⊎_elim (λ a. (x, inl refl, a)) (λ b. ((r b).0, inr (r b).1, (r b).2)) (mem_split y (F x) (flat_map F xs) m)

pub twice_split : {Y : Type 0} (us vs : List Y) → Twice (us ++ vs) → Twice us ⊎ (Twice vs ⊎ ((z : Y) × Mem z us × Mem z vs))
twice_split [] vs d = inr (inl d)
twice_split (a ∷ us) vs (inl m) = ⊎_elim (λ x. inl (inl x)) (λ y. inr (inr (a, inl refl, y))) (mem_split a us vs m)
twice_split (a ∷ us) vs (inr d) =
    ⊎_elim (λ x. inl (inr x)) (λ r. ⊎_elim (λ y. inr (inl y)) (λ z. inr (inr (z.0, inr z.1, z.2))) r) (twice_split us vs d)

-- joined lists repeat nothing, where none does, and two of them share nothing
pub joined_once : {X Y : Type 0} (F : X → List Y) (xs : List X) → (Twice xs → ⊥) → ((x : X) → Mem x xs → Twice (F x) → ⊥)
    → ((x y : X) (z : Y) → Mem x xs → Mem y xs → Mem z (F x) → Mem z (F y) → x ≡ y) → Twice (flat_map F xs) → ⊥
joined_once F [] o h k d = d
joined_once {X} F (x ∷ xs) o h k d =
    let r = joined_once F xs (λ t. o (inr t)) (λ y m. h y (inr m)) (λ y w z a b. k y w z (inr a) (inr b)) in
    let P : X → Type 0 = λ y. Mem y xs in
    ⊎_elim
    (λ a. h x (inl refl) a)
    (λ q.
    ⊎_elim r
    (λ z. let g = from_joined F xs z.0 z.2 in o (inl (subst P (sym (k x g.0 z.0 (inl refl) (inr g.1) z.1 g.2)) g.1)))
    q)
    (twice_split (F x) (flat_map F xs) d)

-- ---- numbers in a row

pub mem_counting : (a n i : ℕ) → Mem i (range_with_len a n) → (a ≤ i) × (i < a + n)
mem_counting a zero i m = absurd m
mem_counting a (suc n) i (inl e) = (omega arith, omega arith)
mem_counting a (suc n) i (inr m) = let r = mem_counting (a + 1) n i m in (omega arith, omega arith)

pub counting_mem : (a n i : ℕ) → (a ≤ i) × (i < a + n) → Mem i (range_with_len a n)
counting_mem a zero i h = absurd (omega (arith, h.0, h.1))
counting_mem a (suc n) i h =
    ⊎_elim (λ e. inl e) (λ e. inr (counting_mem (a + 1) n i (omega (arith, h.0), omega (arith, h.1)))) (cases_eq i a)

pub counting_once : (a n : ℕ) → Twice (range_with_len a n) → ⊥
counting_once a zero d = d
counting_once a (suc n) (inl m) = let r = mem_counting (a + 1) n a m in omega arith
counting_once a (suc n) (inr d) = counting_once (a + 1) n d

-- ---- numbers below n that do not repeat are at most n

-- all but n
drop_one : (n : ℕ) (xs : List ℕ) → (Twice xs → ⊥)
    → (ys : List ℕ) × (length xs ≤ length ys + 1) × ((x : ℕ) → Mem x ys → Mem x xs × (x ≡ n → ⊥)) × (Twice ys → ⊥)
drop_one n [] o = ([], omega arith, (λ x m. absurd m), o)
drop_one n (x ∷ xs) o =
    let r = drop_one n xs (λ t. o (inr t)) in
    ⊎_elim
    (λ e. (xs, omega arith, (λ y m. (inr m, λ q. let P : ℕ → Type 0 = λ z. Mem z xs in o (inl (subst P (q ∙ sym e) m)))), λ t. o (inr t)))
    (λ e. (
      x ∷ r.0,
      omega (arith, r.1),
      (λ y. elim [ inl q ↦ (inl q, λ p. e (sym q ∙ p)) | inr m ↦ (inr (r.2 y m).0, (r.2 y m).1) ]),
      elim [ inl m ↦ o (inl (r.2 x m).0) | inr t ↦ r.3 t ],
    ))
    (cases_eq x n)

pub pigeons : (n : ℕ) (xs : List ℕ) → ((x : ℕ) → Mem x xs → x < n) → (Twice xs → ⊥) → length xs ≤ n
pigeons zero [] h o = omega arith
pigeons zero (x ∷ xs) h o = absurd (omega (arith, h x (inl refl)))
pigeons (suc n) xs h o =
    let r = drop_one n xs o in
    omega (arith, r.1, pigeons n r.0 (λ x m. let a = h x (r.2 x m).0 in let b = (r.2 x m).1 in omega arith) r.3)
