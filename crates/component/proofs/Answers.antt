-- A meaning by its answers.
use Rattle.std.proofs.Common.{◌≡◌, ℕ, suc, List, [], ◌∷◌, map, length, get_or, refl, ap, arith}
use Rattle.std.specs.List.{slice_get}
use Rattle.component.specs.declared.records.Sizes.{Sizes}
use Rattle.component.specs.Meaning.{Meaning, sizes_of}
use Rattle.component.specs.Answers.{AnsweredAlike, AnswersTell}

-- a table by its records
pub same_by_slice_get : {X : Type 0} (xs ys : List X) → ((k : ℕ) → slice_get xs k ≡ slice_get ys k) → xs ≡ ys
same_by_slice_get [] [] h = refl
same_by_slice_get [] (y ∷ ys) h = let e = h 0 in let z : ◌≡◌ {A = ℕ} 0 1 = cc in absurd (omega arith)
same_by_slice_get (x ∷ xs) [] h = let e = h 0 in let z : ◌≡◌ {A = ℕ} 0 1 = cc in absurd (omega arith)
same_by_slice_get (x ∷ xs) (y ∷ ys) h = let e = h 0 in let rest = same_by_slice_get xs ys (λ k. h (suc k)) in cc

-- names by their number and their bytes
same_names : (xs ys : List (List ℕ)) → length xs ≡ length ys → ((k i : ℕ) → slice_get (get_or xs k []) i ≡ slice_get (get_or ys k []) i) → xs ≡ ys
same_names [] [] e h = refl
same_names [] (y ∷ ys) e h = absurd (omega arith)
same_names (x ∷ xs) [] e h = absurd (omega arith)
same_names (x ∷ xs) (y ∷ ys) e h =
    let one = same_by_slice_get x y (h 0) in let rest = same_names xs ys (omega arith) (λ k. h (suc k)) in cc

alike : (m n : Meaning) → m ≡ n → AnsweredAlike m n
alike m n e =
    record {
      kind = ap (λ (x : Meaning). x.kind) e;
      sizes = ap sizes_of e;
      name_length = λ k. ap (λ (x : Meaning). slice_get (map length x.names) k) e;
      name_byte = λ k i. ap (λ (x : Meaning). slice_get (get_or x.names k []) i) e;
      value = λ k. ap (λ (x : Meaning). slice_get x.values k) e;
      function = λ k. ap (λ (x : Meaning). slice_get x.functions k) e;
      block = λ k. ap (λ (x : Meaning). slice_get x.blocks k) e;
      predecessor = λ k. ap (λ (x : Meaning). slice_get x.predecessors k) e;
      phi = λ k. ap (λ (x : Meaning). slice_get x.phis k) e;
      instruction = λ k. ap (λ (x : Meaning). slice_get x.instructions k) e;
      mention = λ k. ap (λ (x : Meaning). slice_get x.mentions k) e;
    }

same : (m n : Meaning) → AnsweredAlike m n → m ≡ n
same m n h = λ i. record {
  kind = h.kind i;
  names = same_names m.names n.names (ap (λ (s : Sizes). s.names) h.sizes) h.name_byte i;
  values = same_by_slice_get m.values n.values h.value i;
  functions = same_by_slice_get m.functions n.functions h.function i;
  blocks = same_by_slice_get m.blocks n.blocks h.block i;
  predecessors = same_by_slice_get m.predecessors n.predecessors h.predecessor i;
  phis = same_by_slice_get m.phis n.phis h.phi i;
  instructions = same_by_slice_get m.instructions n.instructions h.instruction i;
  mentions = same_by_slice_get m.mentions n.mentions h.mention i;
}

pub answers_tell : AnswersTell
answers_tell m n = (alike m n, same m n)
