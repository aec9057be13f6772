-- A layer's meaning at its start and after an exchange.
use Rattle.std.proofs.Common.{◌≡◌, ℕ, ◌<◌, List, length, get_or, sym, ap, ◌∙◌, arith}
use Rattle.std.specs.List.{swap as exchanged}
use Rattle.std.proofs.lemmas.List.{same_lists, get_or_default}
use Rattle.std.proofs.lemmas.List.FromFn.{length-map-range_with_len, get_or-map-range_with_len}
use Rattle.component.specs.declared.records.Value.{Value}
use Rattle.component.specs.Meaning.{Meaning}
use Rattle.component.specs.Exchange.{swap, exchange}
use Rattle.component.proofs.Exchange.{swap_below, exchanged_length, exchanged_at, renumber_own, renumber_same, exchange_renumber}
use Rattle.renumbered.specs.declared.numbers.Numbers.{Numbers}
use Rattle.renumbered.specs.Numbering.{number_in}
use Rattle.renumbered.specs.Layer.{blank, value_at, reordered, layered}

pub reordered_length : (os : List ℕ) (vs : List Value) → length (reordered os vs) ≡ length vs
reordered_length os vs = length-map-range_with_len (value_at os vs) 0 (length vs)

pub reordered_at : (os : List ℕ) (vs : List Value) (k : ℕ) (d : Value) → k < length vs → get_or (reordered os vs) k d ≡ value_at os vs k
reordered_at os vs k d h = get_or-map-range_with_len (value_at os vs) 0 (length vs) k k d h (omega arith)

-- with each value's own number
pub layered_own : (t : Numbers) (m : Meaning) → ((v : ℕ) → number_in t.numbers v ≡ v) → ((n : ℕ) → number_in t.origins n ≡ n) → layered t m ≡ m
layered_own t m own first =
    let vs = m.values in
    let ws = reordered t.origins vs in
    let same : ws ≡ vs = same_lists _ _ (reordered_length t.origins vs) (λ k d h.
    let l : k < length vs = omega (arith, reordered_length t.origins vs) in
    reordered_at t.origins vs k d l ∙ ap (λ i. get_or vs i blank) (first k) ∙ get_or_default vs k blank d l) in
    renumber_same (number_in t.numbers) (λ v. v) ws vs m own same ∙ renumber_own m

-- after an exchange of the numbers a and b
module _ (s t : Numbers) (a b : ℕ)
    (numbers : (v : ℕ) → number_in t.numbers v ≡ swap a b (number_in s.numbers v))
    (origins : (n : ℕ) → number_in t.origins n ≡ number_in s.origins (swap a b n)) where
  pub reordered_exchanged : (vs : List Value) → a < length vs → b < length vs → reordered t.origins vs ≡ exchanged (reordered s.origins vs) a b
  reordered_exchanged vs ha hb =
      let ws = reordered s.origins vs in
      let old = reordered_length s.origins vs in
      let new = reordered_length t.origins vs in
      let len = exchanged_length ws a b in
      same_lists _ _ (omega arith) (λ k d h.
      let l : k < length vs = omega arith in
      reordered_at t.origins vs k d l
      ∙ ap (λ i. get_or vs i blank) (origins k)
      ∙ sym (reordered_at s.origins vs (swap a b k) d (swap_below a b (length vs) k ha hb l))
      ∙ sym (exchanged_at ws a b k d (omega arith) (omega arith)))

  pub layered_exchanged : (m : Meaning) → a < length m.values → b < length m.values → layered t m ≡ exchange a b (layered s m)
  layered_exchanged m ha hb =
      let ws = reordered s.origins m.values in
      renumber_same (number_in t.numbers) (λ v. swap a b (number_in s.numbers v)) _ (exchanged ws a b) m numbers (reordered_exchanged m.values ha hb)
      ∙ sym (exchange_renumber a b (number_in s.numbers) ws m)
