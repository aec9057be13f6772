-- What a component answers, and when two answer alike.
use Rattle.std.specs.Prelude.{◌≡◌, ℕ, [], map, length, slice_index_or}
use Rattle.std.specs.List.{slice_get}
use Rattle.component.specs.Meaning.{Meaning, sizes_of}

-- every question gets the same answer
pub record AnsweredAlike (m n : Meaning) : Type 0 where
  pub kind : m.kind ≡ n.kind
  pub sizes : sizes_of m ≡ sizes_of n
  pub name_length : (k : ℕ) → slice_get (map length m.names) k ≡ slice_get (map length n.names) k
  pub name_byte : (k i : ℕ) → slice_get (slice_index_or m.names k []) i ≡ slice_get (slice_index_or n.names k []) i
  pub value : (k : ℕ) → slice_get m.values k ≡ slice_get n.values k
  pub function : (k : ℕ) → slice_get m.functions k ≡ slice_get n.functions k
  pub block : (k : ℕ) → slice_get m.blocks k ≡ slice_get n.blocks k
  pub predecessor : (k : ℕ) → slice_get m.predecessors k ≡ slice_get n.predecessors k
  pub phi : (k : ℕ) → slice_get m.phis k ≡ slice_get n.phis k
  pub instruction : (k : ℕ) → slice_get m.instructions k ≡ slice_get n.instructions k
  pub mention : (k : ℕ) → slice_get m.mentions k ≡ slice_get n.mentions k

-- components answer every question alike exactly when they mean the same
abbrev pub AnswersTell : Type 0
AnswersTell = (m n : Meaning) → (m ≡ n → AnsweredAlike m n) × (AnsweredAlike m n → m ≡ n)
