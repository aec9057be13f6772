-- What holds of exchanges in every component.
use Rattle.std.specs.Prelude.{◌≡◌, ℕ, ◌<◌, ◌≤◌, List, length, slice_index_or}
use Rattle.component.specs.Meaning.{Meaning}
use Rattle.component.specs.Exchange.{Exchange, ExchangesOf, renumber, exchange, exchanges}
use Rattle.component.specs.declared.records.Value.{Value}

-- an exchange undoes itself
abbrev pub TwiceIsNone : Type 0
TwiceIsNone =
    (m : Meaning) (a b : ℕ) → a < length m.values → b < length m.values → exchange a b (exchange a b m) ≡ m

-- k is m with its values permuted: value v of m is value `to v` of k, and
-- everything else of k is as in m but for these numbers
pub record Permuted (m k : Meaning) : Type 0 where
  pub to : ℕ → ℕ
  pub from : ℕ → ℕ
  pub to_from : (v : ℕ) → to (from v) ≡ v
  pub from_to : (v : ℕ) → from (to v) ≡ v
  pub inside : (v : ℕ) → v < length m.values → to v < length m.values
  pub outside : (v : ℕ) → length m.values ≤ v → to v ≡ v
  pub as_many : length k.values ≡ length m.values
  pub moved : (v : ℕ) (d : Value) → slice_index_or k.values (to v) d ≡ slice_index_or m.values v d
  pub the_rest : k ≡ renumber to k.values m

-- exchanges only permute the values
abbrev pub ExchangesPermute : Type 0
ExchangesPermute = (m : Meaning) (xs : List Exchange) → ExchangesOf (length m.values) xs → Permuted m (exchanges xs m)
