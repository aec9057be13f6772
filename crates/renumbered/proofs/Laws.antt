-- What holds of exchanges in every component.
use Rattle.std.proofs.Common.{◌≡◌, ℕ, ◌<◌, [], ◌∷◌, length, get_or, sym, refl, ap, ◌∙◌, arith}
use Rattle.std.specs.List.{swap as exchanged}
use Rattle.component.specs.Meaning.{Meaning}
use Rattle.component.specs.Exchange.{swap, exchange, exchanges}
use Rattle.component.proofs.Exchange.{swap_twice, swap_below, swap_past, exchanged_length, exchanged_at, renumber_own, renumber_again, exchange_twice}
use Rattle.renumbered.specs.Laws.{TwiceIsNone, Permuted, ExchangesPermute}

pub twice_is_none : TwiceIsNone
twice_is_none m a b ha hb = exchange_twice a b m ha hb

pub permuted_own : (m : Meaning) → Permuted m m
permuted_own m = record {
  to = λ v. v;
  from = λ v. v;
  to_from = λ v. refl;
  from_to = λ v. refl;
  inside = λ v h. h;
  outside = λ v h. refl;
  as_many = refl;
  moved = λ v d. refl;
  the_rest = sym (renumber_own m);
}

-- one exchange before a permutation
pub permuted_more : (m k : Meaning) (a b : ℕ) → a < length m.values → b < length m.values → Permuted (exchange a b m) k → Permuted m k
permuted_more m k a b ha hb p =
    let vs = m.values in
    let n = length vs in
    let ws = exchanged vs a b in
    let len : length ws ≡ n = exchanged_length vs a b in
    record {
      to = λ v. p.to (swap a b v);
      from = λ v. swap a b (p.from v);
      to_from = λ v. ap p.to (swap_twice a b (p.from v)) ∙ p.to_from v;
      from_to = λ v. ap (swap a b) (p.from_to (swap a b v)) ∙ swap_twice a b v;
      inside = λ v h. let l : swap a b v < n = swap_below a b n v ha hb h in omega (arith, p.inside (swap a b v) (omega arith));
      outside = λ v h. ap p.to (swap_past a b n v ha hb h) ∙ p.outside v (omega arith);
      as_many = p.as_many ∙ len;
      moved = λ v d. p.moved (swap a b v) d ∙ exchanged_at vs a b (swap a b v) d ha hb ∙ ap (λ i. get_or vs i d) (swap_twice a b v);
      the_rest = p.the_rest ∙ renumber_again p.to (swap a b) k.values ws m;
    }

pub exchanges_permute : ExchangesPermute
exchanges_permute m [] h = permuted_own m
exchanges_permute m (x ∷ xs) h =
    let len = exchanged_length m.values x.one x.other in
    permuted_more m (exchanges (x ∷ xs) m) x.one x.other h.0 h.1
    (exchanges_permute (exchange x.one x.other m) xs (rw len h.2))
