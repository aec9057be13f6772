-- Records of a table by number.
use Rattle.std.proofs.Common.{◌≡◌, ℕ, ◌<◌, ◌≤◌, List, map, length, get_or, Some, None, sym, ap, ◌∙◌, arith}
use Rattle.std.specs.Option.{option_map, unwrap_or}
use Rattle.std.specs.List.{range_with_len, slice_get}
use Rattle.std.proofs.lemmas.Option.{slice_get-get_or, slice_get_past, slice_get-map, get_or_from_slice_get, unwrap_or-slice_get}
use Rattle.std.proofs.lemmas.List.FromFn.{length-map-range_with_len, get_or-map-range_with_len}

-- of a table that is made from a function of the number
module _ {X : Type 0} (f : ℕ → X) (n i : ℕ) where
  pub slice_get_tabled : (x : X) → i < n → x ≡ f i → Some x ≡ slice_get (map f (range_with_len 0 n)) i
  slice_get_tabled x h e =
      let l : i < length (map f (range_with_len 0 n)) = omega (arith, length-map-range_with_len f 0 n) in
      sym (slice_get-get_or _ _ x l ∙ ap Some (get_or-map-range_with_len f 0 n i i x h (omega arith) ∙ sym e))

  pub slice_get_tabled_past : n ≤ i → None ≡ slice_get (map f (range_with_len 0 n)) i
  slice_get_tabled_past h =
      let l : length (map f (range_with_len 0 n)) ≤ i = omega (arith, length-map-range_with_len f 0 n) in
      sym (slice_get_past _ _ l)

-- of a table that is made from another
module _ {X Y : Type 0} (f : X → Y) (xs : List X) (n : ℕ) where
  pub slice_get_map_some : (x : X) → Some x ≡ slice_get xs n → Some (f x) ≡ slice_get (map f xs) n
  slice_get_map_some x e = ap (option_map f) e ∙ sym (slice_get-map f xs n)

  pub slice_get_map_none : None ≡ slice_get xs n → None ≡ slice_get (map f xs) n
  slice_get_map_none e = ap (option_map f) e ∙ sym (slice_get-map f xs n)

-- what the answer says of an entry by default
module _ {X : Type 0} (xs : List X) (n : ℕ) where
  pub get_or_slice_get_some : (x d : X) → Some x ≡ slice_get xs n → x ≡ get_or xs n d
  get_or_slice_get_some x d e = sym (get_or_from_slice_get xs n x d (sym e))

  pub get_or_slice_get_none : (d : X) → None ≡ slice_get xs n → d ≡ get_or xs n d
  get_or_slice_get_none d e = ap (λ o. unwrap_or o d) e ∙ unwrap_or-slice_get xs n d
