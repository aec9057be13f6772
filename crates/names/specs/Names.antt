-- A component's names, and their hashes.
use Rattle.std.specs.Prelude.{ℕ, ◌*◌, ◌%◌, List, Some, None, fold, Option, bit_xor}
use Rattle.rules.specs.Rules.{name_at}

-- a name by its number among a component's names
pub record NumberedName : Type 0 where
  pub names : List (List ℕ)
  pub number : ℕ

-- name n of the names ns
abbrev pub numbered : List (List ℕ) → ℕ → NumberedName
numbered ns n = record { names = ns; number = n }

abbrev pub bytes_of : NumberedName → List ℕ
bytes_of x = name_at x.names x.number

-- one byte of the FNV-1a hash
abbrev pub mixed : ℕ → ℕ → ℕ
mixed h b = (bit_xor h b * 16777619) % 4294967296

abbrev pub mixed_in : ℕ → Option ℕ → ℕ
mixed_in h None = h
mixed_in h (Some b) = mixed h b

-- a name's hash; that it is a function of the bytes is all that is used of it
unfoldable pub hashed : List ℕ → ℕ
hashed bs = fold mixed 2166136261 bs

-- the hash of name n
abbrev pub hash_at : List (List ℕ) → ℕ → ℕ
hash_at ns n = hashed (name_at ns n)
