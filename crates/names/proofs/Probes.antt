-- The steps of looking for a name in the table.
use Rattle.std.proofs.Common.{◌≡◌, ℕ, zero, suc, ◌+◌, ◌-◌, ◌%◌, ◌<◌, ◌≤◌, Bool, true, false, cond, if◌then◌else◌, is_none, ◌≢◌, ◌⊎◌, List, [], ◌∷◌, map, length, get_or, set, replicate, find, Some, None, Option, is_some, sym, refl, ap, ◌∙◌, subst, inl, inr, ⊎_elim, arith, length-set}
use Rattle.std.specs.List.{range_with_len, slice_get, position_or_len}
use Rattle.std.proofs.lemmas.List.{length-replicate}
use Rattle.std.proofs.lemmas.List.Sums.{sum_by-set, sum_by-cons, passes_at_first, fails_before_first}
use Rattle.std.proofs.lemmas.List.Folds.{find_at}
use Rattle.std.proofs.lemmas.List.FromFn.{length-map-range_with_len, get_or-map-range_with_len}
use Rattle.std.proofs.lemmas.Option.{slice_get_within, slice_get-get_or}
use Rattle.std.proofs.lemmas.Bool.{cases_eq, cases_lt, cases_order}
use Rattle.std.proofs.lemmas.Grind.{common_steps}
use Rattle.rules.specs.Rules.{name_at}
use Rattle.names.specs.declared.Entry.{Entry}
use Rattle.names.specs.Names.{numbered, hash_at}
use Rattle.names.specs.Slots.{Slots, at, slot, entry_of, used, Home, Passed, Free, Twin, Holds, matches, ends_search, last_slot, if_free, free_slot, written}
use Rattle.names.specs.Laws.{EmptyTable, SlotIsFree, NoSlotHasTwin, NameAdded, NameNotAdded}
use Rattle.names.proofs.Twins.{alike_same, same_alike}

-- no slot before d from its hash on ends the search for name n
abbrev Unended : List (List ℕ) → Slots → ℕ → ℕ → Type 0
Unended ns t n d = (e : ℕ) → e < d → ends_search (numbered ns n) (at t (slot (hash_at ns n) e)) ≡ false

abbrev one : Option Entry → ℕ
one o = cond (is_some o) 1 0

at_most : (o : Option Entry) → one o ≤ 1
at_most o = grind (arith, common_steps)

all_used : (t : Slots) → ((s : ℕ) → s < length t → at t s ≢ None) → length t ≤ used t
all_used [] h = omega arith
all_used (None ∷ t) h = absurd (h 0 (omega arith) refl)
all_used (Some e ∷ t) h =
    let r = all_used t (λ s l. h (suc s) (omega arith)) in
    omega (arith, r, sum_by-cons one (Some e) t)

-- the slots from any start on are all the slots
onto : (h s : ℕ) → s < 4096 → (d : ℕ) × (d < 4096) × (slot h d ≡ s)
onto h s l = ((s + (4096 - h % 4096)) % 4096, omega arith, omega arith)

-- what holds an entry is not free
taken : (x : Entry) (o : Option Entry) → o ≡ Some x → o ≢ None
taken x o e q = cc

-- a table with so few names has a free slot
pub not_full : (ns : List (List ℕ)) (t : Slots) (i d : ℕ) → Holds ns t i → i ≤ 2048 → 4096 ≤ d → Passed ns t i d → ⊥
not_full ns t i d o l e p =
    let all : (s : ℕ) → s < length t → at t s ≢ None =
    λ s m q.
    let w = onto (hash_at ns i) s (omega (arith, o.long)) in
    let v = p w.0 (omega (arith, w.1)) in
    taken v.0 (at t (slot (hash_at ns i) w.0)) v.1 (ap (at t) w.2 ∙ q) in
    omega (arith, all_used t all, o.few, o.long)

after_set : (t : Slots) (v : ℕ) (x : Option Entry) (u : ℕ) → v < length t → ((u ≡ v) × (at (set t v x) u ≡ x)) ⊎ ((u ≢ v) × (at (set t v x) u ≡ at t u))
after_set t v x u h =
    grind (arith, common_steps)

-- an entry of a name like name i matches it
matching : (ns : List (List ℕ)) (k i : ℕ) (e : Entry) → e.name ≡ k → e.hash ≡ hash_at ns k → name_at ns k ≡ name_at ns i → matches (numbered ns i) e ≡ true
matching ns k i e a b q =
    grind (arith, common_steps, same_alike (name_at ns i) (name_at ns e.name))

-- a slot that does not end the search holds another name
holds_other : (ns : List (List ℕ)) (t : Slots) (i u : ℕ) → Holds ns t i → (v : Option Entry) → at t u ≡ v → ends_search (numbered ns i) v ≡ false → (x : Entry) × (at t u ≡ Some x) × (name_at ns x.name ≢ name_at ns i)
holds_other ns t i u o None q e = absurd (cc)
holds_other ns t i u o (Some x) q e = (x, q, λ r. cc (e, matching ns x.name i x refl (o.hash u x q) r))

passed : (ns : List (List ℕ)) (t : Slots) (i d : ℕ) → Holds ns t i → Unended ns t i d → Passed ns t i d
passed ns t i d o p e l =
    let u = slot (hash_at ns i) e in
    holds_other ns t i u o (at t u) refl (p e l)

-- name i is written into its slot
module _ (ns : List (List ℕ)) (t : Slots) (i s : ℕ) (o : Holds ns t i) (low : s < 4096) (f : Free ns t i s) where
  abbrev new : Option Entry
  new = Some (entry_of (numbered ns i))

  abbrev after : Slots
  after = set t s new

  fits : s < length t
  fits = omega (arith, o.long)

  -- a slot that is taken stays taken
  stays : (u : ℕ) → at t u ≢ None → at after u ≢ None
  stays u h q =
      grind (arith, common_steps, fits)

  kept : (k : ℕ) → Home ns t k → Home ns after k
  kept k w = (
    w.0,
    grind (arith, common_steps, after_set t s new (slot (hash_at ns k) w.0) fits, w.1, f.2),
    λ e l. stays (slot (hash_at ns k) e) (w.2 e l),
  )

  mine : Home ns after i
  mine = (
    f.0,
    grind (arith, common_steps, f.1, fits),
    λ e l. let x = f.3 e l in stays (slot (hash_at ns i) e) (taken x.0 (at t (slot (hash_at ns i) e)) x.1),
  )

  pub put : Holds ns after (i + 1)
  put =
      record {
        long = length-set t s new ∙ o.long;
        low = λ u e q. grind (arith, common_steps, after_set t s new u fits, o.low u e);
        hash = λ u e q. grind (arith, common_steps, after_set t s new u fits, o.hash u e);
        few = omega (arith, sum_by-set one t s new None fits, at_most new, o.few);
        home = λ k l.
            ⊎_elim
            (λ e. let P : ℕ → Type 0 = λ z. Home ns after z in subst P (sym e) mine)
            (λ ne. kept k (o.home k (omega arith)))
            (cases_eq k i);
      }

  -- no earlier name is like name i
  pub other : Twin ns i → ⊥
  other z =
      let k = z.0 in
      let e = z.2 in
      let w = o.home k z.1 in
      ⊎_elim
      (λ q. grind (arith, common_steps, w.1, f.1, f.2, e))
      (⊎_elim (λ a. let x = f.3 w.0 a in grind (arith, common_steps, w.1, x.1, x.2, e)) (λ a. grind (arith, common_steps, w.2 f.0 a, f.1, f.2, e)))
      (cases_order w.0 f.0)

none_at : (n s : ℕ) → at (replicate n None) s ≡ None
none_at zero s = refl
none_at (suc n) zero = refl
none_at (suc n) (suc s) = none_at n s

used_none : (n : ℕ) → used (replicate n None) ≡ 0
used_none zero = refl
used_none (suc n) = sum_by-cons one None (replicate n None) ∙ omega (arith, used_none n)

pub empty : EmptyTable
empty ns =
    record {
      long = length-replicate {A = Option Entry} 4096 None;
      low = λ s e q. absurd (cc (none_at 4096 s));
      hash = λ s e q. absurd (cc (none_at 4096 s));
      few = omega (arith, used_none 4096);
      home = λ k l. absurd (omega arith);
    }

-- where a search ends

free_end : (t : Slots) (l : Option ℕ) (s : ℕ) → if_free t l ≡ Some s → (l ≡ Some s) × (at t s ≡ None)
free_end t l s e = grind (arith, common_steps)

by_taken : (u : ℕ) (o : Option Entry) → (if is_none o then Some u else None) ≡ None → (e : Entry) × (o ≡ Some e)
by_taken u None q = cc
by_taken u (Some e) q = (e, refl)

taken_end : (t : Slots) (l : Option ℕ) → if_free t l ≡ None → (l ≡ None) ⊎ ((s : ℕ) × (e : Entry) × (l ≡ Some s) × (at t s ≡ Some e))
taken_end t None q = inl refl
taken_end t (Some u) q = let w = by_taken u (at t u) q in inr (u, w.0, refl, w.1)

module _ (ns : List (List ℕ)) (t : Slots) (i : ℕ) where
  abbrev ends : ℕ → Bool
  ends s = ends_search (numbered ns i) (at t s)

  stopped : (n s : ℕ) → find ends (map (slot (hash_at ns i)) (range_with_len 0 n)) ≡ Some s → (ends s ≡ true) × ((d : ℕ) × (s ≡ slot (hash_at ns i) d) × Unended ns t i d)
  stopped n s e =
      let xs = map (slot (hash_at ns i)) (range_with_len 0 n) in
      let d = position_or_len ends xs in
      let r : slice_get xs d ≡ Some s = sym (find_at ends xs) ∙ e in
      let l : d < length xs = slice_get_within xs d s r in
      let len = length-map-range_with_len (slot (hash_at ns i)) 0 n in
      let s_is : get_or xs d s ≡ s = cc (slice_get-get_or xs d s l) in (
        ap ends (sym s_is) ∙ passes_at_first ends xs s l,
        (
          d,
          sym s_is ∙ get_or-map-range_with_len (slot (hash_at ns i)) 0 n d d s (omega arith) (omega arith),
          λ u m. ap ends (sym (get_or-map-range_with_len (slot (hash_at ns i)) 0 n u u s (omega arith) (omega arith))) ∙ fails_before_first ends xs u s m,
        ),
      )

  never : (n : ℕ) → find ends (map (slot (hash_at ns i)) (range_with_len 0 n)) ≡ None → Unended ns t i n
  never n e u m =
      let xs = map (slot (hash_at ns i)) (range_with_len 0 n) in
      let d = position_or_len ends xs in
      let len = length-map-range_with_len (slot (hash_at ns i)) 0 n in
      let past : (d < n) → ⊥ = λ l. cc (sym e ∙ find_at ends xs ∙ slice_get-get_or xs d 0 (omega arith)) in
      ap ends (sym (get_or-map-range_with_len (slot (hash_at ns i)) 0 n u u 0 m (omega arith))) ∙ fails_before_first ends xs u 0 (⊎_elim (λ l. absurd (past l)) (λ l. omega arith) (cases_lt d n))

  last_stopped : (s : ℕ) → last_slot t (numbered ns i) ≡ Some s → (ends s ≡ true) × ((d : ℕ) × (s ≡ slot (hash_at ns i) d) × Unended ns t i d)
  unfolding last_slot
  last_stopped s e = stopped 4096 s e

  last_never : last_slot t (numbered ns i) ≡ None → Unended ns t i 4096
  unfolding last_slot
  last_never e = never 4096 e

  free : Holds ns t i → (s : ℕ) → free_slot t (numbered ns i) ≡ Some s → Free ns t i s
  unfolding free_slot
  free o s e =
      let c = free_end t (last_slot t (numbered ns i)) s e in
      let w = last_stopped s c.0 in
      (w.1.0, w.1.1, c.1, passed ns t i w.1.0 o w.1.2)

  taken_twin : Holds ns t i → (s : ℕ) (e : Entry) → at t s ≡ Some e → ends s ≡ true → Twin ns i
  taken_twin o s e q r =
      (e.name, o.low s e q, grind (arith, common_steps, alike_same (name_at ns i) (name_at ns e.name)))

  twin : Holds ns t i → i ≤ 2048 → free_slot t (numbered ns i) ≡ None → Twin ns i
  unfolding free_slot
  twin o l e =
      ⊎_elim
      (λ q. absurd (not_full ns t i 4096 o l (omega arith) (passed ns t i 4096 o (last_never q))))
      (λ w. taken_twin o w.0 w.1 w.3 (last_stopped w.0 w.2).0)
      (taken_end t (last_slot t (numbered ns i)) e)

  not_added_when : Holds ns t i → i ≤ 2048 → (l : Option ℕ) → free_slot t (numbered ns i) ≡ l → is_some l ≡ false → (written t (numbered ns i) l ≡ t) × Twin ns i
  not_added_when o l None q e = (refl, twin o l q)
  not_added_when o l (Some s) q e = absurd (cc)

  added_when : Holds ns t i → (l : Option ℕ) → free_slot t (numbered ns i) ≡ l → is_some l ≡ true → Holds ns (written t (numbered ns i) l) (i + 1) × (Twin ns i → ⊥)
  added_when o None q e = absurd (cc)
  added_when o (Some s) q e =
      let f = free o s q in
      let low : s < 4096 = omega (arith, f.1) in
      (put ns t i s o low f, other ns t i s o low f)

pub is_free : SlotIsFree
is_free ns t n s o e = free ns t n o s e

pub has_twin : NoSlotHasTwin
has_twin ns t n o l e = twin ns t n o l e

pub added : NameAdded
added ns t n o e = added_when ns t n o (free_slot t (numbered ns n)) refl e

pub not_added : NameNotAdded
not_added ns t n o l e = not_added_when ns t n o l (free_slot t (numbered ns n)) refl e
