-- What the search of the table finds, and what adding a name does.
use Rattle.std.specs.Prelude.{◌≡◌, ℕ, ◌+◌, ◌≤◌, true, false, List, replicate, Some, None, is_some}
use Rattle.names.specs.Names.{numbered}
use Rattle.names.specs.Slots.{Slots, Free, Twin, Holds, free_slot, with_name}

-- a table of free slots holds no name
abbrev pub EmptyTable : Type 0
EmptyTable = (ns : List (List ℕ)) → Holds ns (replicate 4096 None) 0

-- a slot that the search gives is the free one where the name belongs
abbrev pub SlotIsFree : Type 0
SlotIsFree =
    (ns : List (List ℕ)) (t : Slots) (n s : ℕ) → Holds ns t n → free_slot t (numbered ns n) ≡ Some s → Free ns t n s

-- if it gives none, an earlier name is like the name
abbrev pub NoSlotHasTwin : Type 0
NoSlotHasTwin =
    (ns : List (List ℕ)) (t : Slots) (n : ℕ) → Holds ns t n → n ≤ 2048 → free_slot t (numbered ns n) ≡ None → Twin ns n

-- a name that is added is like no earlier one, and the table holds it
abbrev pub NameAdded : Type 0
NameAdded =
    (ns : List (List ℕ)) (t : Slots) (n : ℕ) → Holds ns t n → is_some (free_slot t (numbered ns n)) ≡ true
    → Holds ns (with_name t (numbered ns n)) (n + 1) × (Twin ns n → ⊥)

-- one that is not added is like an earlier one, and the table stays
abbrev pub NameNotAdded : Type 0
NameNotAdded =
    (ns : List (List ℕ)) (t : Slots) (n : ℕ) → Holds ns t n → n ≤ 2048 → is_some (free_slot t (numbered ns n)) ≡ false
    → (with_name t (numbered ns n) ≡ t) × Twin ns n
