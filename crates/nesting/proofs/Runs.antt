-- Lists that follow each other: each record is in exactly one of them.
use Rattle.std.proofs.Common.{◌≡◌, ℕ, zero, suc, ◌<◌, ◌≤◌, List, length, sym, ap, subst, ⊎_elim, arith}
use Rattle.std.proofs.lemmas.Option.{slice_get_past}
use Rattle.std.proofs.lemmas.Bool.{cases_eq, cases_lt}
use Rattle.component.specs.declared.records.Run.{Run}
use Rattle.rules.specs.Lists.{end_of, run_of, run_in, starts_at}
use Rattle.nesting.specs.Nesting.{In, One}

-- a list that has a record is the list of a record
pub in_table : {R : Type 0} (g : R → Run) (xs : List R) (k i : ℕ) → In i (run_in g xs k) → k < length xs
in_table g xs k i h =
    ⊎_elim
    (λ l. l)
    (λ l. let P : Run → Type 0 = λ r. In i r in let z = subst P (ap (run_of g) (slice_get_past xs k l)) h in absurd (omega (arith, z.1)))
    (cases_lt k (length xs))

module _ (f : ℕ → Run) (n : ℕ) (follow : (k : ℕ) → k < n → (f k).start ≡ starts_at f k) where
  -- a list ends where a later one starts, or before
  ends_before : (j k : ℕ) → j < k → k < n → end_of (f j) ≤ (f k).start
  ends_before j zero l s = absurd (omega arith)
  ends_before j (suc k) l s =
      let e = follow (suc k) s in
      ⊎_elim
      (λ q. let P : ℕ → Type 0 = λ z. end_of (f z) ≤ (f (suc k)).start in subst P (sym q) (omega arith))
      (λ q. let r = ends_before j k (omega arith) (omega arith) in omega arith)
      (cases_eq j k)

  module _ (real : (k i : ℕ) → In i (f k) → k < n) where
    -- they share nothing
    pub one_list : (i j k : ℕ) → In i (f j) → In i (f k) → j ≡ k
    one_list i j k a b =
        ⊎_elim
        (λ e. e)
        (λ ne. ⊎_elim
        (λ l. absurd (omega (arith, a.1, b.0, ends_before j k l (real k i b))))
        (λ l. absurd (omega (arith, b.1, a.0, ends_before k j (omega arith) (real j i a))))
        (cases_lt j k))
        (cases_eq j k)

    -- every record before the end of the last is in one of them
    covered : (i k : ℕ) → k ≤ n → i < starts_at f k → (j : ℕ) × (j < n) × In i (f j)
    covered i zero l h = absurd (omega arith)
    covered i (suc k) l h =
        let e = follow k (omega arith) in
        ⊎_elim (λ b. covered i k (omega arith) (omega arith)) (λ b. (k, omega arith, (b, h))) (cases_lt i (f k).start)

    pub one_home : (i : ℕ) → i < starts_at f n → One n (λ k. In i (f k))
    one_home i h = let r = covered i n (omega arith) h in (r.0, r.1, r.2, λ j b. one_list i j r.0 b r.2)

-- where k is in one list of G, and that list's record in one of F, exactly one list of F owns k
pub through : (F G : ℕ → Run) (n b k : ℕ) → One b (λ c. In k (G c)) → ((c : ℕ) → c < b → One n (λ f. In c (F f)))
    → One n (λ f. (c : ℕ) × In c (F f) × In k (G c))
through F G n b k x h =
    let y = h x.0 x.1 in
    (y.0, y.1, (x.0, y.2, x.2), λ j z. let P : ℕ → Type 0 = λ c. In c (F j) in y.3 j (subst P (x.3 z.0 z.2) z.1))
