-- What holds of every file, whatever its bytes are.
use Rattle.std.specs.Prelude.{◌≡◌, ℕ, ◌<◌, List, length, Some, slice_index}
use Rattle.component.specs.declared.fault.Reason.TheVariants.{FileLength}
use Rattle.layout.specs.Layout.{end_of}
use Rattle.scan.specs.Faults.{fault_of}
use Rattle.packed.specs.Decoding.{decoded}
use Rattle.packed.specs.Unused.{SameButUnused}

-- fields without a use are not read: a file that differs only there is refused
-- alike, and means the same
abbrev pub UnusedNotRead : List ℕ → Type 0
UnusedNotRead bs = (cs : List ℕ) → SameButUnused bs cs → (fault_of cs ≡ fault_of bs) × (decoded cs ≡ decoded bs)

-- a file longer than any packed file is refused at the length that its header
-- wants, and another with the same header is refused alike: 7,012,270 bytes of it
-- are enough to refuse it
abbrev pub OverlongByHeader : List ℕ → Type 0
OverlongByHeader bs =
    7012269 < length bs
    → (fault_of bs ≡ Some (record { reason = FileLength; place = end_of bs }))
    × ((cs : List ℕ) → 7012269 < length cs → ((k : ℕ) → k < 22 → slice_index cs k ≡ slice_index bs k) → fault_of cs ≡ fault_of bs)
