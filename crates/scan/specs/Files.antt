-- A packed file, by what has to hold of its bytes.
use Rattle.std.specs.Prelude.{◌≡◌, ℕ, ◌+◌, ◌<◌, ◌≤◌, List, length, None, ◌≢◌, slice_index}
use Rattle.fields.specs.Fields.{le16}
use Rattle.layout.specs.declared.Mark.{Mark}
use Rattle.layout.specs.declared.Table.{Table}
use Rattle.layout.specs.declared.Table.TheVariants as table
use Rattle.layout.specs.Layout.{header_mark, text_mark, mark_of, layout_of, end_of, extent_in, record_at}
use Rattle.scan.specs.Faults.{fault_of}

-- a mark stands at a byte
abbrev pub Marked : List ℕ → ℕ → Mark → Type 0
Marked bs at m = (slice_index bs at ≡ m.first) × (slice_index bs (at + 1) ≡ m.second)

-- the codes that the record at a byte uses are codes that there are, and a name
-- ends within the text's n bytes
abbrev pub Coded : Table → List ℕ → ℕ → ℕ → Type 0
Coded table.Names bs n at = le16 bs (at + 2) + le16 bs (at + 4) ≤ n
Coded table.Values bs n at = (le16 bs (at + 2) < 3) × (le16 bs (at + 6) < 5)
Coded table.Functions bs n at = Unit {0}
Coded table.Blocks bs n at = le16 bs (at + 16) < 2
Coded table.Predecessors bs n at = Unit {0}
Coded table.Phis bs n at = Unit {0}
Coded table.Instructions bs n at = le16 bs (at + 2) < 7
Coded table.Mentions bs n at =
    (le16 bs (at + 4) < 3) × ((le16 bs (at + 4) ≢ 2) → (le16 bs (at + 6) < 8) × (le16 bs (at + 8) < 2))

-- the byte at which record i of a table of the file begins
abbrev pub place_of : List ℕ → Table → ℕ → ℕ
place_of bs t i = record_at t (extent_in (layout_of bs) t) i

pub record PackedFile (bs : List ℕ) : Type 0 where
  pub whole : length bs ≡ end_of bs
  pub header : Marked bs 0 header_mark
  pub marks : (t : Table) (i : ℕ) → i < (extent_in (layout_of bs) t).count → Marked bs (place_of bs t i) (mark_of t)
  pub text : Marked bs (record_at table.Mentions (layout_of bs).mentions (layout_of bs).mentions.count) text_mark
  pub kind : le16 bs 20 < 3
  pub codes : (t : Table) (i : ℕ) → i < (extent_in (layout_of bs) t).count → Coded t bs (le16 bs 18) (place_of bs t i)

-- no fault is given exactly where the bytes are a packed file
abbrev pub AcceptedExactly : List ℕ → Type 0
AcceptedExactly bs = (fault_of bs ≡ None → PackedFile bs) × (PackedFile bs → fault_of bs ≡ None)
