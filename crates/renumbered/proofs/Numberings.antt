-- Tables of numbers, and two of them exchanged.
use Rattle.std.proofs.Common.{◌≡◌, ℕ, ◌<◌, ◌≤◌, ◌≢◌, List, length, get_or, set, sym, refl, ap, ◌∙◌, inl, inr, arith}
use Rattle.std.specs.List.{swap as exchanged}
use Rattle.std.proofs.lemmas.List.Edits.{swap_is}
use Rattle.std.proofs.lemmas.Bool.{cases_eq, cases_lt, eq-eqb, ne_eqb, lt-ltb, le-ltb}
use Rattle.component.specs.Exchange.{swap}
use Rattle.component.proofs.Exchange.{swap_twice, swap_below, swap_past, exchanged_at}
use Rattle.renumbered.specs.Numbering.{number_in, Undoes}

pub number_below : (t : List ℕ) (v : ℕ) → v < 2048 → number_in t v ≡ get_or t v 0
number_below t v h = rw (lt-ltb v 2048 h) refl

pub number_past : (t : List ℕ) (v : ℕ) → 2048 ≤ v → number_in t v ≡ v
number_past t v h = rw (le-ltb v 2048 h) refl

-- a table that has each number at its place
pub number_own : (t : List ℕ) → ((k : ℕ) → k < 2048 → get_or t k 0 ≡ k) → (v : ℕ) → number_in t v ≡ v
number_own t filled v =
    elim (cases_lt v 2048) [
      | inl h ↦ number_below t v h ∙ filled v h
      | inr h ↦ number_past t v h
    ]

-- a table that can be undone leads no number out
pub number_inside : (s t : List ℕ) → Undoes s t → (v : ℕ) → v < 2048 → number_in t v < 2048
number_inside s t back v h =
    elim (cases_lt (number_in t v) 2048) [
      | inl l ↦ l
      | inr l ↦ let e = back v in let f = number_past s (number_in t v) l in omega arith
    ]

-- two entries exchanged are two numbers exchanged before the table is asked
pub number_exchanged : (t : List ℕ) (a b v : ℕ) → length t ≡ 2048 → a < 2048 → b < 2048 → number_in (exchanged t a b) v ≡ number_in t (swap a b v)
number_exchanged t a b v len ha hb =
    elim (cases_lt v 2048) [
      | inl h ↦
          number_below (exchanged t a b) v h
          ∙ exchanged_at t a b v 0 (omega arith) (omega arith)
          ∙ sym (number_below t (swap a b v) (swap_below a b 2048 v ha hb h))
      | inr h ↦
          let e : swap a b v ≡ v = swap_past a b 2048 v ha hb h in
          number_past (exchanged t a b) v h ∙ sym (ap (number_in t) e ∙ number_past t v h)
    ]

-- to exchange what leads to a and b exchanges a and b
pub swap_led : (f g : ℕ → ℕ) → ((v : ℕ) → f (g v) ≡ v) → ((v : ℕ) → g (f v) ≡ v) → (a b v : ℕ) → f (swap (g a) (g b) v) ≡ swap a b (f v)
swap_led f g fg gf a b v =
    elim (cases_eq v (g a)) [
      | inl e ↦
          let q : f v ≡ a = ap f e ∙ fg a in
          rw (eq-eqb v (g a) e, eq-eqb (f v) a q) (fg b)
      | inr ne ↦
          let p : f v ≢ a = λ q. ne (sym (gf v) ∙ ap g q) in
          elim (cases_eq v (g b)) [
            | inl e ↦
                let q : f v ≡ b = ap f e ∙ fg b in
                rw (ne_eqb v (g a) ne, eq-eqb v (g b) e, ne_eqb (f v) a p, eq-eqb (f v) b q) (fg a)
            | inr nf ↦
                let q : f v ≢ b = λ q. nf (sym (gf v) ∙ ap g q) in
                rw (ne_eqb v (g a) ne, ne_eqb v (g b) nf, ne_eqb (f v) a p, ne_eqb (f v) b q) refl
          ]
    ]

-- the two tables after an exchange of the numbers a and b
module _ (ns os ns' os' : List ℕ) (a b : ℕ) (ha : a < 2048) (hb : b < 2048)
    (nlen : length ns ≡ 2048) (olen : length os ≡ 2048) (back : Undoes os ns) (forth : Undoes ns os)
    (n_is : ns' ≡ set (set ns (get_or os a 0) (get_or ns (get_or os b 0) 0)) (get_or os b 0) (get_or ns (get_or os a 0) 0))
    (o_is : os' ≡ set (set os a (get_or os b 0)) b (get_or os a 0)) where
  origins_exchanged : (n : ℕ) → number_in os' n ≡ number_in os (swap a b n)
  origins_exchanged n =
      ap (λ t. number_in t n) (o_is ∙ swap_is os a b 0 (omega arith) (omega arith))
      ∙ number_exchanged os a b n olen ha hb

  numbers_exchanged : (v : ℕ) → number_in ns' v ≡ swap a b (number_in ns v)
  numbers_exchanged v =
      let i = get_or os a 0 in
      let j = get_or os b 0 in
      let ei : number_in os a ≡ i = number_below os a ha in
      let ej : number_in os b ≡ j = number_below os b hb in
      let hi : i < 2048 = rw ei at (number_inside ns os forth a ha) in
      let hj : j < 2048 = rw ej at (number_inside ns os forth b hb) in
      ap (λ t. number_in t v) (n_is ∙ swap_is ns i j 0 (omega arith) (omega arith))
      ∙ number_exchanged ns i j v nlen hi hj
      ∙ ap (λ k. number_in ns (swap k j v)) (sym ei)
      ∙ ap (λ k. number_in ns (swap (number_in os a) k v)) (sym ej)
      ∙ swap_led (number_in ns) (number_in os) forth back a b v

  back_exchanged : Undoes os' ns'
  back_exchanged v =
      origins_exchanged (number_in ns' v)
      ∙ ap (λ k. number_in os (swap a b k)) (numbers_exchanged v)
      ∙ ap (number_in os) (swap_twice a b (number_in ns v))
      ∙ back v

  forth_exchanged : Undoes ns' os'
  forth_exchanged n =
      numbers_exchanged (number_in os' n)
      ∙ ap (λ k. swap a b (number_in ns k)) (origins_exchanged n)
      ∙ ap (swap a b) (forth (swap a b n))
      ∙ swap_twice a b n

  -- what each answers then, and that they still undo one another
  pub tables_exchanged : ((v : ℕ) → number_in ns' v ≡ swap a b (number_in ns v)) × ((n : ℕ) → number_in os' n ≡ number_in os (swap a b n)) × Undoes os' ns' × Undoes ns' os'
  tables_exchanged = (numbers_exchanged, origins_exchanged, back_exchanged, forth_exchanged)
