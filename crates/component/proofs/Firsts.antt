-- The first refusal among many.
use Rattle.std.proofs.Common.{◌≡◌, ℕ, zero, suc, ◌+◌, ◌<◌, Some, None, Option, sym, refl, ap, ◌∙◌, inl, inr, add-one, arith}
use Rattle.std.specs.Option.{option_or}
use Rattle.std.proofs.lemmas.Bool.{cases_eq}
use Rattle.component.specs.Refusals.{first_in}

pub option_or_assoc : {X : Type 0} (a b c : Option X) → option_or (option_or a b) c ≡ option_or a (option_or b c)
option_or_assoc None b c = refl
option_or_assoc (Some x) b c = refl

pub option_or_none : {X : Type 0} (a b : Option X) → option_or a b ≡ None → (a ≡ None) × (b ≡ None)
option_or_none None b e = (refl, e)
option_or_none (Some x) b e = let z : ◌≡◌ {A = ℕ} 0 1 = cc in absurd (omega arith)

module _ {X : Type 0} (f : ℕ → Option X) where
  -- one more at the end
  pub first_in_more : (i : ℕ) → first_in f (i + 1) ≡ option_or (first_in f i) (f i)
  first_in_more i = rw add-one refl

  -- one more that gives nothing
  pub first_in_none : (i : ℕ) → first_in f i ≡ None → f i ≡ None → first_in f (i + 1) ≡ None
  first_in_none i h e = first_in_more i ∙ ap (λ o. option_or o (f i)) h ∙ e

  -- the first that gives one
  pub first_in_hit : (n i : ℕ) (x : X) → first_in f i ≡ None → f i ≡ Some x → i < n → first_in f n ≡ Some x
  first_in_hit zero i x h e l = absurd (omega arith)
  first_in_hit (suc n) i x h e l =
      elim (cases_eq i n) [
        | inl q ↦ ap (λ o. option_or o (f n)) (ap (first_in f) (sym q) ∙ h) ∙ ap f (sym q) ∙ e
        | inr q ↦ ap (λ o. option_or o (f n)) (first_in_hit n i x h e (omega arith))
      ]

-- two that give the same below n
pub first_in_same : {X : Type 0} (f g : ℕ → Option X) (n : ℕ) → ((i : ℕ) → i < n → f i ≡ g i) → first_in f n ≡ first_in g n
first_in_same f g zero h = refl
first_in_same f g (suc n) h =
    let rest = first_in_same f g n (λ i l. h i (omega arith)) in let last = h n (omega arith) in cc

-- none below n is each none
pub first_in_each : {X : Type 0} (f : ℕ → Option X) (n : ℕ) → first_in f n ≡ None → (i : ℕ) → i < n → f i ≡ None
first_in_each f zero h i l = absurd (omega arith)
first_in_each f (suc n) h i l =
    let both = option_or_none (first_in f n) (f n) h in
    elim (cases_eq i n) [
      | inl q ↦ ap f q ∙ both.1
      | inr q ↦ first_in_each f n both.0 i (omega arith)
    ]

pub first_in_all : {X : Type 0} (f : ℕ → Option X) (n : ℕ) → ((i : ℕ) → i < n → f i ≡ None) → first_in f n ≡ None
first_in_all f zero h = refl
first_in_all f (suc n) h = let rest = first_in_all f n (λ i l. h i (omega arith)) in rw rest (h n (omega arith))
