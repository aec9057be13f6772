-- Exchanges of two numbers: of places in a list, and of values in a component.
use Rattle.std.proofs.Common.{◌≡◌, ℕ, ◌<◌, ◌≤◌, ltb, List, [], ◌∷◌, map, length, get_or, Some, None, Option, sym, refl, ap, ◌∙◌, inl, inr, arith}
use Rattle.std.proofs.lemmas.Simd.{map-map}
use std.Path.{fun_ext}
use Rattle.std.specs.List.{swap as exchanged, slice_get}
use Rattle.std.proofs.lemmas.List.{same_lists}
use Rattle.std.proofs.lemmas.Option.{slice_get-get_or, slice_get_past}
use Rattle.std.proofs.lemmas.List.Edits.{swapped_from_swap, length-swap}
use Rattle.std.proofs.lemmas.Bool.{cases_eq, cases_lt, eq-eqb, ne_eqb}
use Rattle.std.proofs.lemmas.Bool.Decides.{nat_tests}
use Rattle.component.specs.declared.records.Value.{Value}
use Rattle.component.specs.declared.records.Block.{Block}
use Rattle.component.specs.declared.records.Mention.{Mention}
use Rattle.component.specs.declared.records.Mention.TheVariants as mention
use Rattle.component.specs.Meaning.{Meaning}
use Rattle.component.specs.Exchange.{swap, mention_to, returned_to, block_to, phi_to, renumber, exchange}

pub swap_twice : (a b v : ℕ) → swap a b (swap a b v) ≡ v
swap_twice a b v = grind (arith, nat_tests)

pub swap_below : (a b n v : ℕ) → a < n → b < n → v < n → swap a b v < n
swap_below a b n v ha hb h = grind (arith, nat_tests)

pub swap_past : (a b n v : ℕ) → a < n → b < n → n ≤ v → swap a b v ≡ v
swap_past a b n v ha hb h = grind (arith, nat_tests)

pub swap_ltb : (a b n v : ℕ) → a < n → b < n → ltb (swap a b v) n ≡ ltb v n
swap_ltb a b n v ha hb = grind (arith, nat_tests)

-- the places of a list
pub exchanged_length : {X : Type 0} (xs : List X) (a b : ℕ) → length (exchanged xs a b) ≡ length xs
exchanged_length xs a b = length-swap xs a b

pub exchanged_at : {X : Type 0} (xs : List X) (a b k : ℕ) (d : X) → a < length xs → b < length xs → get_or (exchanged xs a b) k d ≡ get_or xs (swap a b k) d
exchanged_at xs a b k d ha hb =
    let s = swapped_from_swap xs (exchanged xs a b) a b d ha hb refl in
    elim (cases_eq k a) [
      | inl e ↦ rw (eq-eqb k a e) (rw e s.0)
      | inr ne ↦ elim (cases_eq k b) [
        | inl e ↦ rw (ne_eqb k a ne, eq-eqb k b e) (rw e s.1)
        | inr nf ↦ rw (ne_eqb k a ne, ne_eqb k b nf) (s.2 k ne nf)
      ]
    ]

pub slice_get_exchanged : {X : Type 0} (xs : List X) (a b k : ℕ) → a < length xs → b < length xs → slice_get (exchanged xs a b) k ≡ slice_get xs (swap a b k)
slice_get_exchanged [] a b k ha hb = absurd (omega arith)
slice_get_exchanged (x ∷ ys) a b k ha hb =
    let xs = x ∷ ys in
    let len = exchanged_length xs a b in
    elim (cases_lt k (length xs)) [
      | inl h ↦
          slice_get-get_or (exchanged xs a b) k x (omega arith)
          ∙ ap Some (exchanged_at xs a b k x ha hb)
          ∙ sym (slice_get-get_or xs (swap a b k) x (swap_below a b (length xs) k ha hb h))
      | inr h ↦
          slice_get_past (exchanged xs a b) k (omega arith)
          ∙ sym (ap (slice_get xs) (swap_past a b (length xs) k ha hb h) ∙ slice_get_past xs k h)
    ]

-- a list exchanged twice is itself
pub exchanged_twice : {X : Type 0} (xs : List X) (a b : ℕ) → a < length xs → b < length xs → exchanged (exchanged xs a b) a b ≡ xs
exchanged_twice xs a b ha hb =
    let one = exchanged_length xs a b in
    let two = exchanged_length (exchanged xs a b) a b in
    same_lists _ _ (omega arith) (λ k d h.
    exchanged_at (exchanged xs a b) a b k d (omega arith) (omega arith)
    ∙ exchanged_at xs a b (swap a b k) d ha hb
    ∙ ap (λ (u : ℕ). get_or xs u d) (swap_twice a b k))

-- records renumbered twice
pub mention_again : (g f : ℕ → ℕ) (m : Mention) → mention_to g (mention_to f m) ≡ mention_to (λ v. g (f v)) m
mention_again g f (mention.Place p) = refl
mention_again g f (mention.Spread p) = refl
mention_again g f mention.Hole = refl

pub returned_again : (g f : ℕ → ℕ) (o : Option ℕ) → returned_to g (returned_to f o) ≡ returned_to (λ v. g (f v)) o
returned_again g f None = refl
returned_again g f (Some v) = refl

pub block_again : (g f : ℕ → ℕ) (b : Block) → block_to g (block_to f b) ≡ block_to (λ v. g (f v)) b
block_again g f b = λ i. record {
  id = b.id;
  predecessors = b.predecessors;
  phis = b.phis;
  instructions = b.instructions;
  returned = returned_again g f b.returned i;
}

-- records with each number as it was
pub mention_own : (m : Mention) → mention_to (λ v. v) m ≡ m
mention_own (mention.Place p) = refl
mention_own (mention.Spread p) = refl
mention_own mention.Hole = refl

pub returned_own : (o : Option ℕ) → returned_to (λ v. v) o ≡ o
returned_own None = refl
returned_own (Some v) = refl

pub block_own : (b : Block) → block_to (λ v. v) b ≡ b
block_own b = λ i. record {
  id = b.id;
  predecessors = b.predecessors;
  phis = b.phis;
  instructions = b.instructions;
  returned = returned_own b.returned i;
}

-- a table changed entry by entry
pub map_same : {X Y : Type 0} (f g : X → Y) → ((x : X) → f x ≡ g x) → (xs : List X) → map f xs ≡ map g xs
map_same f g h xs = ap (λ k. map k xs) (fun_ext h)

pub map_own : {X : Type 0} (f : X → X) → ((x : X) → f x ≡ x) → (xs : List X) → map f xs ≡ xs
map_own f h [] = refl
map_own f h (x ∷ xs) = let one = h x in let rest = map_own f h xs in cc

pub map_again : {X Y Z : Type 0} (g : Y → Z) (f : X → Y) (k : X → Z) → ((x : X) → g (f x) ≡ k x) → (xs : List X) → map g (map f xs) ≡ map k xs
map_again g f k h xs = map-map g f xs ∙ map_same (λ x. g (f x)) k h xs

-- a component renumbered twice
pub renumber_again : (g f : ℕ → ℕ) (us vs : List Value) (m : Meaning) → renumber g us (renumber f vs m) ≡ renumber (λ v. g (f v)) us m
renumber_again g f us vs m = λ i. record {
  kind = m.kind;
  names = m.names;
  values = us;
  functions = m.functions;
  blocks = map_again (block_to g) (block_to f) (block_to (λ v. g (f v))) (block_again g f) m.blocks i;
  predecessors = m.predecessors;
  phis = map_again (phi_to g) (phi_to f) (phi_to (λ v. g (f v))) (λ p. refl) m.phis i;
  instructions = m.instructions;
  mentions = map_again (mention_to g) (mention_to f) (mention_to (λ v. g (f v))) (mention_again g f) m.mentions i;
}

-- a component with each number as it was
pub renumber_own : (m : Meaning) → renumber (λ v. v) m.values m ≡ m
renumber_own m = λ i. record {
  kind = m.kind;
  names = m.names;
  values = m.values;
  functions = m.functions;
  blocks = map_own (block_to (λ v. v)) block_own m.blocks i;
  predecessors = m.predecessors;
  phis = map_own (phi_to (λ v. v)) (λ p. refl) m.phis i;
  instructions = m.instructions;
  mentions = map_own (mention_to (λ v. v)) mention_own m.mentions i;
}

-- the same numbers and the same values
pub renumber_same : (f g : ℕ → ℕ) (us vs : List Value) (m : Meaning) → ((v : ℕ) → f v ≡ g v) → us ≡ vs → renumber f us m ≡ renumber g vs m
renumber_same f g us vs m h e = ap (λ k. renumber k us m) (fun_ext h) ∙ ap (λ ws. renumber g ws m) e

-- an exchange of what was renumbered
pub exchange_renumber : (a b : ℕ) (f : ℕ → ℕ) (vs : List Value) (m : Meaning) → exchange a b (renumber f vs m) ≡ renumber (λ v. swap a b (f v)) (exchanged vs a b) m
exchange_renumber a b f vs m = renumber_again (swap a b) f (exchanged vs a b) vs m

pub exchange_twice : (a b : ℕ) (m : Meaning) → a < length m.values → b < length m.values → exchange a b (exchange a b m) ≡ m
exchange_twice a b m ha hb =
    exchange_renumber a b (swap a b) (exchanged m.values a b) m
    ∙ renumber_same (λ v. swap a b (swap a b v)) (λ v. v) _ m.values m (swap_twice a b) (exchanged_twice m.values a b ha hb)
    ∙ renumber_own m
