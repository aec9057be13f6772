-- The names of a packed file by number.
use Rattle.std.proofs.Common.{◌≡◌, ℕ, ◌<◌, ◌≤◌, List, [], map, length, get_or, Some, None, ap}
use Rattle.std.specs.List.{slice_get}
use Rattle.component.proofs.Tables.{slice_get_tabled, slice_get_tabled_past, slice_get_map_some, slice_get_map_none, get_or_slice_get_some, get_or_slice_get_none}
use Rattle.layout.specs.declared.Layout.{Layout}
use Rattle.packed.specs.Decoding.{record_part, table_of, name_in, text_of}

module _ (bs : List ℕ) (l : Layout) (n : ℕ) where
  abbrev pub names : List (List ℕ)
  names = table_of (name_in (text_of bs l.text)) 6 bs l.names

  abbrev name_at : ℕ → List ℕ
  name_at i = name_in (text_of bs l.text) (record_part 6 bs l.names i)

  abbrev pub name : List ℕ
  name = name_at n

  pub name_some : (s : List ℕ) → n < l.names.count → s ≡ name → Some s ≡ slice_get names n
  name_some s h e = slice_get_tabled name_at l.names.count n s h e

  pub name_none : l.names.count ≤ n → None ≡ slice_get names n
  name_none h = slice_get_tabled_past name_at l.names.count n h

  pub length_some : (s : List ℕ) → n < l.names.count → s ≡ name → Some (length s) ≡ slice_get (map length names) n
  length_some s h e = slice_get_map_some length names n s (name_some s h e)

  pub length_none : l.names.count ≤ n → None ≡ slice_get (map length names) n
  length_none h = slice_get_map_none length names n (name_none h)

  pub byte_some : (s : List ℕ) (i : ℕ) → n < l.names.count → s ≡ name → slice_get s i ≡ slice_get (get_or names n []) i
  byte_some s i h e = ap (λ t. slice_get t i) (get_or_slice_get_some names n s [] (name_some s h e))

  pub byte_none : (i : ℕ) → l.names.count ≤ n → None ≡ slice_get (get_or names n []) i
  byte_none i h = ap (λ t. slice_get t i) (get_or_slice_get_none names n [] (name_none h))
