-- Names that are like an earlier one, by comparing each pair.
use Rattle.std.proofs.Common.{◌≡◌, ℕ, zero, suc, ◌<◌, Bool, true, false, not, eqb, List, [], ◌∷◌, length, sym, refl, ap, ◌∙◌, ⊎_elim, arith}
use Rattle.std.proofs.lemmas.Bool.{eqb-true, eq-eqb, and_parts, and_from, and_left, and_right, or_left, or_right, or_from, cases_eq, cases_Bool}
use Rattle.rules.specs.Lists.{any_below}
use Rattle.rules.specs.Rules.{alike, name_at, repeated, length_fits, name_stands}
use Rattle.names.specs.Slots.{Twin}

pub alike_same : (xs ys : List ℕ) → alike xs ys ≡ true → xs ≡ ys
alike_same [] [] e = refl
alike_same [] (y ∷ ys) e = cc
alike_same (x ∷ xs) [] e = cc
alike_same (x ∷ xs) (y ∷ ys) e =
    let p = and_parts (eqb x y) (alike xs ys) e in
    ap (λ (a : ℕ). a ∷ xs) (eqb-true x y p.0) ∙ ap (λ l. y ∷ l) (alike_same xs ys p.1)

alike_itself : (xs : List ℕ) → alike xs xs ≡ true
alike_itself [] = refl
alike_itself (x ∷ xs) = and_from (eqb x x) (alike xs xs) (eq-eqb x x refl) (alike_itself xs)

pub same_alike : (xs ys : List ℕ) → xs ≡ ys → alike xs ys ≡ true
same_alike xs ys e = ap (λ l. alike xs l) (sym e) ∙ alike_itself xs

pub some_below : (p : ℕ → Bool) (n k : ℕ) → k < n → p k ≡ true → any_below p n ≡ true
some_below p zero k h e = absurd (omega arith)
some_below p (suc n) k h e =
    ⊎_elim
    (λ q. or_right (any_below p n) (p n) (ap p (sym q) ∙ e))
    (λ q. or_left (any_below p n) (p n) (some_below p n k (omega arith) e))
    (cases_eq k n)

pub none_below : (p : ℕ → Bool) (n : ℕ) → ((k : ℕ) → k < n → p k ≡ true → ⊥) → any_below p n ≡ false
none_below p zero h = refl
none_below p (suc n) h =
    or_from (any_below p n) (p n) (none_below p n (λ k l. h k (omega arith)))
    (⊎_elim (λ e. absurd (h n (omega arith) e)) (λ e. e) (cases_Bool (p n)))

module _ (ns : List (List ℕ)) (n : ℕ) where
  -- no earlier name is like name n
  pub stands_apart : length_fits (length (name_at ns n)) ≡ true → ((k : ℕ) → k < n → name_at ns k ≡ name_at ns n → ⊥) → name_stands ns n ≡ true
  stands_apart e h =
      and_from (length_fits (length (name_at ns n))) (not (repeated ns n)) e
      (ap not (none_below (λ k. alike (name_at ns k) (name_at ns n)) n (λ k l z. h k l (alike_same (name_at ns k) (name_at ns n) z))))

  pub fails_twin : Twin ns n → name_stands ns n ≡ false
  fails_twin w =
      let r = some_below (λ k. alike (name_at ns k) (name_at ns n)) n w.0 w.1 (same_alike (name_at ns w.0) (name_at ns n) w.2) in
      and_right (length_fits (length (name_at ns n))) (not (repeated ns n)) (ap not r)

  pub fails_length : length_fits (length (name_at ns n)) ≡ false → name_stands ns n ≡ false
  fails_length e = and_left (length_fits (length (name_at ns n))) (not (repeated ns n)) e
