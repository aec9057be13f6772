-- A component is admitted exactly when it keeps every rule.
use Rattle.std.proofs.Common.{◌≡◌, ℕ, zero, suc, ◌<◌, ◌≤◌, Bool, true, not, eqb, ltb, leb, length, Some, None, Option, sym, refl, ap, ◌∙◌, inl, inr, ⊎_elim, arith}
use Rattle.std.proofs.lemmas.Bool.{and_parts, and_from, ltb-true, leb-true, lt-ltb, le-ltb, le-leb, eqb-true, eq-eqb, ne_eqb, both_ways, not-true, not_from_false, cond-true, cond-false, cases_lt, cases_order}
use Rattle.component.specs.Meaning.{Meaning, sizes_of}
use Rattle.component.proofs.Firsts.{option_or_none}
use Rattle.rules.specs.Lists.{refused, starts_at, follows, rest_from}
use Rattle.rules.specs.Rules.{sizes_fit, blocks_of, phis_of, instructions_of, block_follows, function_follows, is_body, body_of, body_free, taken_before, instruction_follows, alike, name_at, length_fits, repeated, name_stands}
use Rattle.rules.specs.Admission.{admission, number_fault, order_fault, name_breach, size_breach, function_breach, function_order, block_order, phi_order, instruction_order, Sized, Fitting, Ordered, Named, Admitted}
use Rattle.rules.proofs.Failing.{passing, each_passes, none_fails}
use Rattle.names.proofs.Twins.{same_alike, some_below, none_below, stands_apart}
use Rattle.admission.specs.Laws.{AdmittedExactly}
use Rattle.admission.proofs.Fits.{refused_none, fitting, body_here, blocks_end_inside, phis_end_inside, instructions_end_inside}

-- sizes

module _ (m : Meaning) where
  pub sized : size_breach m ≡ None → Sized m
  sized e =
      let s = sizes_of m in
      let a = and_parts (leb s.names 2048) _ (passing (sizes_fit s) 0 e) in
      let b = and_parts (leb s.values 2048) _ a.1 in
      let c = and_parts (leb s.functions 256) _ b.1 in
      let d = and_parts (leb s.blocks 2048) _ c.1 in
      let f = and_parts (leb s.predecessors 4096) _ d.1 in
      let g = and_parts (leb s.phis 2048) _ f.1 in
      let h = and_parts (leb s.instructions 8192) (leb s.mentions 32768) g.1 in
      record {
        names = leb-true s.names 2048 a.0;
        values = leb-true s.values 2048 b.0;
        functions = leb-true s.functions 256 c.0;
        blocks = leb-true s.blocks 2048 d.0;
        predecessors = leb-true s.predecessors 4096 f.0;
        phis = leb-true s.phis 2048 g.0;
        instructions = leb-true s.instructions 8192 h.0;
        mentions = leb-true s.mentions 32768 h.1;
      }

  pub size_none : Sized m → size_breach m ≡ None
  size_none h =
      let s = sizes_of m in
      let g = and_from (leb s.instructions 8192) (leb s.mentions 32768) (le-leb s.instructions 8192 h.instructions) (le-leb s.mentions 32768 h.mentions) in
      let f = and_from (leb s.phis 2048) _ (le-leb s.phis 2048 h.phis) g in
      let d = and_from (leb s.predecessors 4096) _ (le-leb s.predecessors 4096 h.predecessors) f in
      let c = and_from (leb s.blocks 2048) _ (le-leb s.blocks 2048 h.blocks) d in
      let b = and_from (leb s.functions 256) _ (le-leb s.functions 256 h.functions) c in
      let a = and_from (leb s.values 2048) _ (le-leb s.values 2048 h.values) b in
      cond-true (sizes_fit s) None (Some 0) (and_from (leb s.names 2048) _ (le-leb s.names 2048 h.names) a)

  -- numbers

  pub number_none : Fitting m → number_fault m ≡ None
  number_none h =
      let v = none_fails _ (length m.values) h.values in
      let f : function_breach m ≡ None =
      cond-false (eqb (length m.functions) 0) (Some 0) _ (ne_eqb (length m.functions) 0 (λ z. omega (arith, h.root)))
      ∙ none_fails _ (length m.functions) h.functions in
      let b = none_fails _ (length m.blocks) h.blocks in
      let p = none_fails _ (length m.phis) h.phis in
      let i = none_fails _ (length m.instructions) h.instructions in
      let k = none_fails _ (length m.mentions) h.mentions in
      rw (v, f, b, p, i, k) refl

  -- order

  reaches : (k n : ℕ) → rest_from k n ≡ None → n ≤ k
  reaches k n e =
      elim (cases_lt k n) [
        | inl l ↦ let z = sym (cond-true (ltb k n) (Some k) None (lt-ltb k n l)) ∙ e in cc
        | inr l ↦ l
      ]

  -- what is below k, as far as n, leaves no rest
  covers : (k n : ℕ) → ((i : ℕ) → i < n → i < k) → n ≤ k
  covers k zero h = omega arith
  covers k (suc n) h = let l = h n (omega arith) in omega arith

  free_zero : (t : ℕ → Bool) (o : Option ℕ) → body_free t o ≡ true → o ≡ Some 0 → ⊥
  free_zero t None e z = cc
  free_zero t (Some f) e z =
      let p = and_parts (not (eqb f 0)) (not (t f)) e in
      let q : f ≡ 0 = cc in
      both_ways (eqb f 0) (not-true (eqb f 0) p.0) (eq-eqb f 0 q)

  free_taken : (t : ℕ → Bool) (o : Option ℕ) (f : ℕ) → body_free t o ≡ true → o ≡ Some f → t f ≡ true → ⊥
  free_taken t None f e z u = cc
  free_taken t (Some g) f e z u =
      let p = and_parts (not (eqb g 0)) (not (t g)) e in
      let q : g ≡ f = cc in
      both_ways (t g) (not-true (t g) p.1) (ap t q ∙ u)

  is_body_of : (o : Option ℕ) (f : ℕ) → o ≡ Some f → is_body f o ≡ true
  is_body_of None f e = cc
  is_body_of (Some g) f e = let q : g ≡ f = cc in eq-eqb g f q

  body_is : (o : Option ℕ) (f : ℕ) → is_body f o ≡ true → o ≡ Some f
  body_is None f e = cc
  body_is (Some g) f e = ap (λ (k : ℕ). Some k) (eqb-true g f e)

  module _ (h : Fitting m) (e : order_fault m ≡ None) where
    parts : (function_order m ≡ None) × (block_order m ≡ None) × (phi_order m ≡ None) × (instruction_order m ≡ None)
    parts =
        let a = option_or_none (refused _ (function_order m)) _ e in
        let b = option_or_none (refused _ (block_order m)) _ a.1 in
        let c = option_or_none (refused _ (phi_order m)) _ b.1 in
        (refused_none _ (function_order m) a.0, refused_none _ (block_order m) b.0, refused_none _ (phi_order m) c.0, refused_none _ (instruction_order m) c.1)

    at_block : (n : ℕ) → n < length m.blocks → (n < starts_at (blocks_of m) (length m.functions)) × (follows (phis_of m) n ≡ true) × (follows (instructions_of m) n ≡ true)
    at_block n l =
        let t = each_passes (block_follows m) (length m.blocks) parts.1 n l in
        let p = and_parts (ltb n (starts_at (blocks_of m) (length m.functions))) _ t in
        let q = and_parts (follows (phis_of m) n) (follows (instructions_of m) n) p.1 in
        (ltb-true n _ p.0, q.0, q.1)

    at_instruction : (n : ℕ) → n < length m.instructions → (n < starts_at (instructions_of m) (length m.blocks)) × (body_free (taken_before m n) (body_of m n) ≡ true)
    at_instruction n l =
        let t = each_passes (instruction_follows m) (length m.instructions) parts.3 n l in
        let p = and_parts (ltb n (starts_at (instructions_of m) (length m.blocks))) _ t in
        (ltb-true n _ p.0, p.1)

    earlier : (i j f : ℕ) → i < j → body_of m i ≡ Some f → body_of m j ≡ Some f → ⊥
    earlier i j f l a b =
        let taken = some_below (λ k. is_body f (body_of m k)) j i l (is_body_of (body_of m i) f a) in
        free_taken (taken_before m j) (body_of m j) f (at_instruction j (body_here m j f b)).1 b taken

    pub ordered : Ordered m
    ordered =
        let blocks_cover = covers (starts_at (blocks_of m) (length m.functions)) (length m.blocks) (λ n l. (at_block n l).0) in
        let phis_cover = reaches (starts_at (phis_of m) (length m.blocks)) (length m.phis) parts.2 in
        let instructions_cover = covers (starts_at (instructions_of m) (length m.blocks)) (length m.instructions) (λ n l. (at_instruction n l).0) in
        record {
          blocks = λ n l. eqb-true (blocks_of m n).start (starts_at (blocks_of m) n) (each_passes (function_follows m) (length m.functions) parts.0 n l);
          phis = λ n l. eqb-true (phis_of m n).start (starts_at (phis_of m) n) (at_block n l).1;
          instructions = λ n l. eqb-true (instructions_of m n).start (starts_at (instructions_of m) n) (at_block n l).2;
          all_blocks = omega (arith, blocks_end_inside m h (length m.functions), blocks_cover);
          all_phis = omega (arith, phis_end_inside m h (length m.blocks), phis_cover);
          all_instructions = omega (arith, instructions_end_inside m h (length m.blocks), instructions_cover);
          root = λ i b. free_zero (taken_before m i) (body_of m i) (at_instruction i (body_here m i 0 b)).1 b;
          once = λ i j f a b.
              ⊎_elim (λ q. q) (λ r. absurd (⊎_elim (λ l. earlier i j f l a b) (λ l. earlier j i f l b a) r)) (cases_order i j);
        }

  module _ (h : Ordered m) where
    free_here : (n : ℕ) (o : Option ℕ) → body_of m n ≡ o → body_free (taken_before m n) o ≡ true
    free_here n None e = refl
    free_here n (Some f) e =
        let fresh = none_below (λ k. is_body f (body_of m k)) n (λ k l t. let q = h.once k n f (body_is (body_of m k) f t) e in omega arith) in
        and_from (not (eqb f 0)) (not (taken_before m n f)) (not_from_false (eqb f 0) (ne_eqb f 0 (λ z. h.root n (e ∙ ap (λ (k : ℕ). Some k) z)))) (not_from_false (taken_before m n f) fresh)

    pub order_none : order_fault m ≡ None
    order_none =
        let f = none_fails (function_follows m) (length m.functions) (λ n l. eq-eqb (blocks_of m n).start (starts_at (blocks_of m) n) (h.blocks n l)) in
        let b = none_fails (block_follows m) (length m.blocks)
        (λ n l.
        and_from (ltb n (starts_at (blocks_of m) (length m.functions))) _ (lt-ltb n _ (omega (arith, h.all_blocks)))
        (and_from (follows (phis_of m) n) (follows (instructions_of m) n) (eq-eqb (phis_of m n).start (starts_at (phis_of m) n) (h.phis n l)) (eq-eqb (instructions_of m n).start (starts_at (instructions_of m) n) (h.instructions n l)))) in
        let p : phi_order m ≡ None = cond-false (ltb (starts_at (phis_of m) (length m.blocks)) (length m.phis)) _ None (le-ltb _ _ (omega (arith, h.all_phis))) in
        let i = none_fails (instruction_follows m) (length m.instructions)
        (λ n l.
        and_from (ltb n (starts_at (instructions_of m) (length m.blocks))) _ (lt-ltb n _ (omega (arith, h.all_instructions))) (free_here n (body_of m n) refl)) in
        rw (f, b, p, i) refl

  -- names

  pub named : name_breach m ≡ None → Named m
  unfolding name_breach
  named e =
      let ns = m.names in
      let parts : (n : ℕ) → n < length ns → (length_fits (length (name_at ns n)) ≡ true) × (not (repeated ns n) ≡ true) =
      λ n l. and_parts (length_fits (length (name_at ns n))) (not (repeated ns n)) (each_passes (name_stands ns) (length ns) e n l) in
      record {
        some = λ n l. omega (arith, ltb-true 0 (length (name_at ns n)) (and_parts (ltb 0 (length (name_at ns n))) (leb (length (name_at ns n)) 64) (parts n l).0).0);
        few = λ n l. leb-true (length (name_at ns n)) 64 (and_parts (ltb 0 (length (name_at ns n))) (leb (length (name_at ns n)) 64) (parts n l).0).1;
        apart = λ j k l b z.
            both_ways (repeated ns k) (not-true (repeated ns k) (parts k b).1)
            (some_below (λ i. alike (name_at ns i) (name_at ns k)) k j l (same_alike (name_at ns j) (name_at ns k) z));
      }

  pub name_none : Named m → name_breach m ≡ None
  unfolding name_breach
  name_none h =
      let ns = m.names in
      none_fails (name_stands ns) (length ns)
      (λ n l.
      stands_apart ns n
      (and_from (ltb 0 (length (name_at ns n))) (leb (length (name_at ns n)) 64) (lt-ltb 0 (length (name_at ns n)) (omega (arith, h.some n l))) (le-leb (length (name_at ns n)) 64 (h.few n l)))
      (λ k b z. h.apart k n b l z))

  pub admitted : admission m ≡ None → Admitted m
  admitted e =
      let a = option_or_none (refused _ (size_breach m)) _ e in
      let b = option_or_none (number_fault m) _ a.1 in
      let c = option_or_none (order_fault m) _ b.1 in
      let fits = fitting m b.0 in
      record {
        sized = sized (refused_none _ (size_breach m) a.0);
        fitting = fits;
        ordered = ordered fits c.0;
        named = named (refused_none _ (name_breach m) c.1);
      }

  pub admission_none : Admitted m → admission m ≡ None
  admission_none h =
      let a = size_none h.sized in
      let b = number_none h.fitting in
      let c = order_none h.ordered in
      let d = name_none h.named in
      rw (a, b, c, d) refl

pub admitted_exactly : AdmittedExactly
admitted_exactly m = (admitted m, admission_none m)
