-- Entries, kept as optional numbers of names and hashes beside them.
use Rattle.std.proofs.Common.{◌≡◌, ℕ, zero, suc, ◌<◌, List, [], ◌∷◌, length, get_or, set, Some, None, Option, refl, ap, arith}
use Rattle.names.specs.declared.Entry.{Entry}
use Rattle.names.specs.Slots.{Slots, at, entry_with, entries}

in_entries : (ks : List (Option ℕ)) (hs : List ℕ) (s : ℕ) → s < length ks → s < length hs → at (entries ks hs) s ≡ entry_with (get_or ks s None) (get_or hs s 0)
in_entries [] hs s l m = absurd (omega arith)
in_entries (k ∷ ks) [] s l m = absurd (omega arith)
in_entries (k ∷ ks) (h ∷ hs) zero l m = refl
in_entries (k ∷ ks) (h ∷ hs) (suc s) l m = in_entries ks hs s (omega arith) (omega arith)

written_in : (ks : List (Option ℕ)) (hs : List ℕ) (s : ℕ) (e : Entry) → entries (set ks s (Some e.name)) (set hs s e.hash) ≡ set (entries ks hs) s (Some e)
written_in [] hs s e = refl
written_in (k ∷ ks) [] zero e = refl
written_in (k ∷ ks) [] (suc s) e = refl
written_in (k ∷ ks) (h ∷ hs) zero e = refl
written_in (k ∷ ks) (h ∷ hs) (suc s) e = ap (λ l. entry_with k h ∷ l) (written_in ks hs s e)

pub free_at : (ks : List (Option ℕ)) (hs : List ℕ) (t : Slots) (s : ℕ) → entries ks hs ≡ t → s < length ks → s < length hs → get_or ks s None ≡ None → at t s ≡ None
free_at ks hs t s q l m e = cc (in_entries ks hs s l m)

pub entry_at : (ks : List (Option ℕ)) (hs : List ℕ) (t : Slots) (s k : ℕ) → entries ks hs ≡ t → s < length ks → s < length hs → get_or ks s None ≡ Some k → at t s ≡ Some (record { name = k; hash = get_or hs s 0 })
entry_at ks hs t s k q l m e = cc (in_entries ks hs s l m)

-- an entry is written into slot s
pub entry_written : (ks : List (Option ℕ)) (hs : List ℕ) (t : Slots) (s : ℕ) (e : Entry) → entries ks hs ≡ t → entries (set ks s (Some e.name)) (set hs s e.hash) ≡ set t s (Some e)
entry_written ks hs t s e q = cc (written_in ks hs s e)
