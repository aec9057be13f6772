-- Names in a table of 4,096 slots: each stands at the first slot from its hash on
-- that was free.
use Rattle.std.specs.Prelude.{◌≡◌, ℕ, ◌+◌, ◌%◌, ◌<◌, ◌≤◌, ◌==◌, ◌≢◌, ◌&&◌, Bool, true, List, [], ◌∷◌, length, map, count_by, Some, None, Option, find, is_some, is_none, slice_index_or, slice_set, if◌then◌else◌}
use Rattle.std.specs.List.{range_with_len}
use Rattle.rules.specs.Rules.{alike, name_at}
use Rattle.names.specs.declared.Entry.{Entry}
use Rattle.names.specs.Names.{NumberedName, numbered, bytes_of, hashed, hash_at}

abbrev pub Slots : Type 0
Slots = List (Option Entry)

-- what slot s holds
abbrev pub at : Slots → ℕ → Option Entry
at t s = slice_index_or t s None

-- the d-th slot from h on
abbrev pub slot : ℕ → ℕ → ℕ
slot h d = (h + d) % 4096

abbrev pub entry_of : NumberedName → Entry
entry_of x = record { name = x.number; hash = hashed (bytes_of x) }

-- How the slots are kept: optional numbers of names, and hashes beside them.

abbrev pub entry_with : Option ℕ → ℕ → Option Entry
entry_with None h = None
entry_with (Some k) h = Some (record { name = k; hash = h })

abbrev pub entries : List (Option ℕ) → List ℕ → Slots
entries [] hs = []
entries (k ∷ ks) [] = []
entries (k ∷ ks) (h ∷ hs) = entry_with k h ∷ entries ks hs

-- What the table means.

abbrev pub used : Slots → ℕ
used t = count_by is_some t

-- name k can be found from its hash on
abbrev pub Home : List (List ℕ) → Slots → ℕ → Type 0
Home ns t k = (d : ℕ) × (at t (slot (hash_at ns k) d) ≡ Some (entry_of (numbered ns k))) × ((e : ℕ) → e < d → at t (slot (hash_at ns k) e) ≢ None)

-- the slots before d from name n's hash on hold other names
abbrev pub Passed : List (List ℕ) → Slots → ℕ → ℕ → Type 0
Passed ns t n d =
    (e : ℕ) → e < d
    → (x : Entry) × (at t (slot (hash_at ns n) e) ≡ Some x) × (name_at ns x.name ≢ name_at ns n)

-- s is the free slot where name n belongs
abbrev pub Free : List (List ℕ) → Slots → ℕ → ℕ → Type 0
Free ns t n s = (d : ℕ) × (s ≡ slot (hash_at ns n) d) × (at t s ≡ None) × Passed ns t n d

-- an earlier name is like name n
abbrev pub Twin : List (List ℕ) → ℕ → Type 0
Twin ns n = (k : ℕ) × (k < n) × (name_at ns k ≡ name_at ns n)

-- the table holds the names below n and no other, with their hashes
pub record Holds (ns : List (List ℕ)) (t : Slots) (n : ℕ) : Type 0 where
  pub long : length t ≡ 4096
  pub low : (s : ℕ) (e : Entry) → at t s ≡ Some e → e.name < n
  pub hash : (s : ℕ) (e : Entry) → at t s ≡ Some e → e.hash ≡ hash_at ns e.name
  pub few : used t ≤ n
  pub home : (k : ℕ) → k < n → Home ns t k

-- What the code does with it, step by step; specs/Laws says what that means.

-- the name of the entry has the same hash, and is like name x
abbrev pub matches : NumberedName → Entry → Bool
matches x e = e.hash == hashed (bytes_of x) && alike (bytes_of x) (name_at x.names e.name)

-- the search for name x ends at a free slot, or at an entry that matches
abbrev pub ends_search : NumberedName → Option Entry → Bool
ends_search x None = true
ends_search x (Some e) = matches x e

-- the slot at which that search ends, from the hash on
unfoldable pub last_slot : Slots → NumberedName → Option ℕ
last_slot t x = find (λ s. ends_search x (at t s)) (map (slot (hashed (bytes_of x))) (range_with_len 0 4096))

abbrev pub if_free : Slots → Option ℕ → Option ℕ
if_free t None = None
if_free t (Some s) = if is_none (at t s) then Some s else None

-- that slot, if it is free
unfoldable pub free_slot : Slots → NumberedName → Option ℕ
free_slot t x = if_free t (last_slot t x)

abbrev pub written : Slots → NumberedName → Option ℕ → Slots
written t x None = t
written t x (Some s) = slice_set t s (Some (entry_of x))

-- the slots with name x, if none like it stands there
abbrev pub with_name : Slots → NumberedName → Slots
with_name t x = written t x (free_slot t x)
