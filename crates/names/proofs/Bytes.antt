-- The bytes of a name, asked one by one.
use Rattle.std.proofs.Common.{◌≡◌, ℕ, zero, suc, Some, None, sym, ◌+◌, ◌≢◌, Bool, false, ◌&&◌, eqb, List, [], ◌∷◌, map, length, fold, refl, ap, ◌∙◌, arith}
use Rattle.std.specs.List.{slice_get, list_all, range_with_len}
use Rattle.std.specs.Option.{unwrap_or, option_eq}
use Rattle.std.proofs.lemmas.List.Folds.{fold-map, list_all-map}
use Rattle.std.proofs.lemmas.Bool.{and_right}
use Rattle.std.proofs.Math.Dec.{eqb-suc-zero}
use Rattle.rules.specs.Rules.{alike, name_at}
use Rattle.names.specs.Names.{mixed, mixed_in, hashed}

pub length_asked : (ns : List (List ℕ)) (n : ℕ) → unwrap_or (slice_get (map length ns) n) 0 ≡ length (name_at ns n)
length_asked [] n = refl
length_asked (x ∷ xs) zero = refl
length_asked (x ∷ xs) (suc n) = length_asked xs n

range_up : (a b n : ℕ) → b ≡ suc a → range_with_len b n ≡ map suc (range_with_len a n)
range_up a b zero e = refl
range_up a b (suc n) e = ap (λ k. k ∷ range_with_len (b + 1) n) e ∙ ap (λ l. suc a ∷ l) (range_up (a + 1) (b + 1) n (omega (arith, e)))

hash_from : (h : ℕ) (bs : List ℕ) → fold (λ a i. mixed_in a (slice_get bs i)) h (range_with_len 0 (length bs)) ≡ fold mixed h bs
hash_from h [] = refl
hash_from h (b ∷ bs) =
    let f : ℕ → ℕ → ℕ = λ a i. mixed_in a (slice_get (b ∷ bs) i) in
    ap (fold f (mixed h b)) (range_up 0 1 (length bs) (omega arith)) ∙ fold-map f suc (mixed h b) (range_with_len 0 (length bs)) ∙ hash_from (mixed h b) bs

-- a name's hash, byte by byte
pub hash_by_bytes : (bs : List ℕ) → fold (λ h i. mixed_in h (slice_get bs i)) 2166136261 (range_with_len 0 (length bs)) ≡ hashed bs
unfolding hashed
hash_by_bytes bs = hash_from 2166136261 bs

-- names of one length, byte by byte
pub alike_by_bytes : (xs ys : List ℕ) → length xs ≡ length ys → list_all (λ i. option_eq eqb (slice_get xs i) (slice_get ys i)) (range_with_len 0 (length xs)) ≡ alike xs ys
alike_by_bytes [] [] e = refl
alike_by_bytes [] (y ∷ ys) e = absurd (omega (arith, e))
alike_by_bytes (x ∷ xs) [] e = absurd (omega (arith, e))
alike_by_bytes (x ∷ xs) (y ∷ ys) e =
    let p : ℕ → Bool = λ i. option_eq eqb (slice_get (x ∷ xs) i) (slice_get (y ∷ ys) i) in
    ap (λ b. eqb x y && b)
    (ap (list_all p) (range_up 0 1 (length xs) (omega arith)) ∙ list_all-map p suc (range_with_len 0 (length xs)) ∙ alike_by_bytes xs ys (omega (arith, e)))

pub alike_lengths : (xs ys : List ℕ) → length xs ≢ length ys → alike xs ys ≡ false
alike_lengths [] [] e = absurd (e refl)
alike_lengths [] (y ∷ ys) e = refl
alike_lengths (x ∷ xs) [] e = refl
alike_lengths (x ∷ xs) (y ∷ ys) e = and_right (eqb x y) (alike xs ys) (alike_lengths xs ys (λ q. e (ap suc q)))

-- a name that has length l
pub alike_other : (ns : List (List ℕ)) (xs : List ℕ) (n l : ℕ) → slice_get (map length ns) n ≡ Some l → length xs ≢ l → alike xs (name_at ns n) ≡ false
alike_other ns xs n l q f =
    alike_lengths xs (name_at ns n) (λ e. f (e ∙ sym (length_asked ns n) ∙ ap (λ o. unwrap_or o 0) q))

alike_empty : (xs ys : List ℕ) → length ys ≡ 0 → alike xs ys ≡ eqb (length xs) 0
alike_empty [] [] e = refl
alike_empty (x ∷ xs) [] e = sym (eqb-suc-zero (length xs))
alike_empty xs (y ∷ ys) e = absurd (omega (arith, e))

-- a number that is no name's
pub alike_none : (ns : List (List ℕ)) (xs : List ℕ) (n : ℕ) → slice_get (map length ns) n ≡ None → alike xs (name_at ns n) ≡ eqb (length xs) 0
alike_none ns xs n q =
    alike_empty xs (name_at ns n) (sym (length_asked ns n) ∙ ap (λ o. unwrap_or o 0) q)
