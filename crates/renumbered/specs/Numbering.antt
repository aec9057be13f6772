-- Tables of 2,048 numbers.
use Rattle.std.specs.Prelude.{◌≡◌, ℕ, cond, List, nat_lt, slice_index}

-- the number that a table has for v: v itself past the end
abbrev pub number_in : List ℕ → ℕ → ℕ
number_in t v = cond (nat_lt v 2048) (slice_index t v) v

-- s leads back from where t leads
abbrev pub Undoes : List ℕ → List ℕ → Type 0
Undoes s t = (v : ℕ) → number_in s (number_in t v) ≡ v
