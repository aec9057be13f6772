-- Which bytes of a record are in a field that the record has a use for, and
-- when two files are the same but for the others.
use Rattle.std.specs.Prelude.{◌≡◌, ℕ, ◌+◌, ◌<◌, ◌≤◌, Bool, true, cond, not, ◌&&◌, ◌||◌, List, length, ◌==◌, nat_le, nat_lt, slice_index}
use Rattle.fields.specs.Fields.{le16}
use Rattle.layout.specs.declared.Table.{Table}
use Rattle.layout.specs.declared.Table.TheVariants as table
use Rattle.layout.specs.Layout.{layout_of, size_of, extent_in, record_at}
use Rattle.packed.specs.Decoding.{record_part}

-- byte `k` is one of the `n` bytes from `at` on
abbrev pub in_field : ℕ → ℕ → ℕ → Bool
in_field at n k = nat_le at k && nat_lt k (at + n)

-- the kinds of instruction that have a subject: load-local, call, method call
abbrev pub has_subject : ℕ → Bool
has_subject c = c == 1 || (c == 3 || c == 4)

-- the kinds that have arguments: call, method call, array
abbrev pub has_arguments : ℕ → Bool
has_arguments c = c == 3 || (c == 4 || c == 5)

-- byte `k` of a record that has the bytes `b` is in a field that it uses:
-- a value without a name has no use for the name's number, a block without an
-- explicit return none for its value, an instruction none for what its kind
-- lacks, a mention without a span none for the span's ends, and a hole none for
-- any field but its form
abbrev pub used : Table → List ℕ → ℕ → Bool
used table.Names b k = true
used table.Values b k = cond (in_field 4 2 k) (not (le16 b 2 == 0)) true
used table.Functions b k = true
used table.Blocks b k = cond (in_field 18 2 k) (not (le16 b 16 == 0)) true
used table.Predecessors b k = true
used table.Phis b k = true
used table.Instructions b k =
    cond (in_field 16 2 k) (has_subject (le16 b 2))
    (cond (in_field 18 4 k) (has_arguments (le16 b 2))
    (cond (in_field 22 2 k) (le16 b 2 == 2) true))
used table.Mentions b k =
    cond (in_field 0 2 k || in_field 4 2 k) true
    (cond (in_field 10 8 k) (nat_lt (le16 b 4) 2 && not (le16 b 8 == 0)) (nat_lt (le16 b 4) 2))

-- record `i` of a table of the file
abbrev pub record_of : List ℕ → Table → ℕ → List ℕ
record_of bs t i = record_part (size_of t) bs (extent_in (layout_of bs) t) i

-- two files that are the same but for fields without a use
pub record SameButUnused (bs cs : List ℕ) : Type 0 where
  pub as_long : length cs ≡ length bs
  pub header : (k : ℕ) → k < 22 → slice_index cs k ≡ slice_index bs k
  pub records : (t : Table) (i k : ℕ) → i < (extent_in (layout_of bs) t).count → k < size_of t
      → used t (record_of bs t i) k ≡ true
      → slice_index cs (record_at t (extent_in (layout_of bs) t) i + k) ≡ slice_index bs (record_at t (extent_in (layout_of bs) t) i + k)
  pub text : (k : ℕ) → record_at table.Mentions (layout_of bs).mentions (layout_of bs).mentions.count ≤ k
      → slice_index cs k ≡ slice_index bs k
