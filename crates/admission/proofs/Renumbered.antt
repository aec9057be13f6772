-- A component is judged as its renumbering is.
use Rattle.std.proofs.Common.{◌≡◌, ℕ, zero, suc, ◌+◌, ◌<◌, Bool, cond, ◌&&◌, eqb, ltb, leb, ◌⊎◌, List, [], ◌∷◌, map, length, Some, None, Option, sym, refl, ap, ◌∙◌, subst, inl, inr, arith}
use lib.ListN.{length-map}
use Rattle.std.specs.Option.{option_or}
use Rattle.component.specs.declared.records.Run.{Run}
use Rattle.component.specs.declared.records.Block.{Block}
use Rattle.component.specs.declared.records.Phi.{Phi}
use Rattle.component.specs.declared.records.Mention.{Mention}
use Rattle.component.specs.declared.records.Mention.TheVariants as mention
use Rattle.component.specs.declared.records.InstructionValue.{InstructionValue}
use Rattle.component.specs.declared.records.InstructionValue.TheVariants as kind
use Rattle.component.specs.declared.records.Instruction.{Instruction}
use Rattle.component.specs.declared.records.Sizes.{Sizes}
use Rattle.component.specs.declared.fault.Reason.TheVariants.{TableSize, RecordNumber, NameText}
use Rattle.component.specs.declared.fault.Fault.{Fault}
use Rattle.component.specs.Meaning.{Meaning, sizes_of}
use Rattle.component.specs.Exchange.{Exchange, ExchangesOf, swap, mention_to, returned_to, block_to, phi_to, exchange, exchanges}
use Rattle.component.proofs.Exchange.{swap_twice, swap_below, swap_ltb, exchanged_length, slice_get_exchanged}
use Rattle.rules.specs.Lists.{inside, test_of, test_in, run_in, starts_at, follows, all_below, refused, first_failing}
use Rattle.rules.specs.Rules.{sizes_fit, value_fits, function_fits, block_fits, phi_fits, instruction_fits, mention_fits, kind_fits, operands_fit, subject_fits, returned_fits, place_at, places_from, phis_of, instructions_of, block_follows, instruction_follows, body_free, body_of, taken_before}
use Rattle.rules.specs.Admission.{admission, size_breach, value_breach, function_breach, block_breach, phi_breach, instruction_breach, mention_breach, block_order, phi_order, instruction_order, order_fault, name_breach}
use Rattle.rules.proofs.Breaches.{first_same}
use Rattle.rules.proofs.Failing.{same_first, each_passes, none_fails}
use Rattle.admission.specs.Laws.{reason_of, JudgedAlike, RenumberingJudgedAlike}

-- tests of a table that was changed entry by entry
test_map : {R : Type 0} (g : R → R) (p q : R → Bool) → ((x : R) → p (g x) ≡ q x) → (xs : List R) (n : ℕ) → test_in p (map g xs) n ≡ test_in q xs n
test_map g p q h [] n = refl
test_map g p q h (x ∷ xs) zero = h x
test_map g p q h (x ∷ xs) (suc n) = test_map g p q h xs n

run_map : {R : Type 0} (g : R → R) (f : R → Run) → ((x : R) → f (g x) ≡ f x) → (xs : List R) (n : ℕ) → run_in f (map g xs) n ≡ run_in f xs n
run_map g f h [] n = refl
run_map g f h (x ∷ xs) zero = h x
run_map g f h (x ∷ xs) (suc n) = run_map g f h xs n

first_map : {R : Type 0} (g : R → R) (p q : R → Bool) → ((x : R) → p (g x) ≡ q x) → (xs : List R) → first_failing (test_in p (map g xs)) (length (map g xs)) ≡ first_failing (test_in q xs) (length xs)
first_map g p q h xs =
    ap (first_failing (test_in p (map g xs))) (length-map xs g)
    ∙ same_first (test_in p (map g xs)) (test_in q xs) (length xs) (λ n l. test_map g p q h xs n)

place_map : (f : ℕ → ℕ) (ms : List Mention) (k : ℕ) → place_at (map (mention_to f) ms) k ≡ place_at ms k
place_map f [] k = refl
place_map f (mention.Place p ∷ ms) zero = refl
place_map f (mention.Spread p ∷ ms) zero = refl
place_map f (mention.Hole ∷ ms) zero = refl
place_map f (x ∷ ms) (suc k) = place_map f ms k

all_same : (p q : ℕ → Bool) → ((k : ℕ) → p k ≡ q k) → (n : ℕ) → all_below p n ≡ all_below q n
all_same p q h zero = refl
all_same p q h (suc n) = let a = all_same p q h n in let b = h n in cc

-- tests with two ways to say that mentions are places
module _ (q r : ℕ → ℕ → Bool) (h : (s c : ℕ) → q s c ≡ r s c) where
  operands_alike : (n : ℕ) (x : Run) → operands_fit q n x ≡ operands_fit r n x
  operands_alike n x = ap (λ b. inside n x && (leb x.count 32 && b)) (h x.start x.count)

  subject_alike : (n p : ℕ) → subject_fits q n p ≡ subject_fits r n p
  subject_alike n p = ap (λ b. ltb p n && b) (h p 1)

  kind_alike : (s : Sizes) (i : InstructionValue) → kind_fits s q i ≡ kind_fits s r i
  kind_alike s kind.Other = refl
  kind_alike s (kind.LoadLocal p) = subject_alike s.mentions p
  kind_alike s (kind.FunctionExpression f) = refl
  kind_alike s (kind.CallExpression p a) = ap (λ b. b && inside s.mentions a) (subject_alike s.mentions p)
  kind_alike s (kind.MethodCall p a) = ap (λ b. b && inside s.mentions a) (subject_alike s.mentions p)
  kind_alike s (kind.ArrayExpression a) = refl
  kind_alike s kind.LoadGlobal = refl

  instruction_alike : (s : Sizes) (i : Instruction) → instruction_fits s q i ≡ instruction_fits s r i
  instruction_alike s i =
      let a = operands_alike s.mentions i.lvalues in
      let b = operands_alike s.mentions i.operands in
      let d = kind_alike s i.value in
      cc

-- lists that are the same start at the same numbers
starts_same : (p q : ℕ → Run) → ((k : ℕ) → p k ≡ q k) → (n : ℕ) → starts_at p n ≡ starts_at q n
starts_same p q h zero = refl
starts_same p q h (suc n) = let e = h n in cc

follows_same : (p q : ℕ → Run) → ((k : ℕ) → p k ≡ q k) → (n : ℕ) → follows p n ≡ follows q n
follows_same p q h n = let a = h n in let b = starts_same p q h n in cc

-- what is found behind the value table
abbrev rest_fault : Meaning → Option Fault
rest_fault m =
    option_or (refused RecordNumber (function_breach m)) (option_or (refused RecordNumber (block_breach m))
    (option_or (refused RecordNumber (phi_breach m)) (option_or (refused RecordNumber (instruction_breach m)) (refused RecordNumber (mention_breach m)))))

-- n breaks the rules that m breaks, at the same records but for those of values
record Related (m n : Meaning) : Type 0 where
  sizes : size_breach n ≡ size_breach m
  values : value_breach m ≡ None → value_breach n ≡ None
  values_back : value_breach n ≡ None → value_breach m ≡ None
  rest : rest_fault n ≡ rest_fault m
  order : order_fault n ≡ order_fault m
  names : name_breach n ≡ name_breach m

itself : (m : Meaning) → Related m m
itself m = record { sizes = refl; values = λ e. e; values_back = λ e. e; rest = refl; order = refl; names = refl }

through : (m n k : Meaning) → Related m n → Related n k → Related m k
through m n k r t =
    record {
      sizes = t.sizes ∙ r.sizes;
      values = λ e. t.values (r.values e);
      values_back = λ e. r.values_back (t.values_back e);
      rest = t.rest ∙ r.rest;
      order = t.order ∙ r.order;
      names = t.names ∙ r.names;
    }

-- one exchange of two values
module _ (m : Meaning) (a b : ℕ) (la : a < length m.values) (lb : b < length m.values) where
  abbrev n : Meaning
  n = exchange a b m

  sizes_same : sizes_of n ≡ sizes_of m
  sizes_same =
      let v = exchanged_length m.values a b in
      let bl = length-map m.blocks (block_to (swap a b)) in
      let p = length-map m.phis (phi_to (swap a b)) in
      let e = length-map m.mentions (mention_to (swap a b)) in
      cc

  below : (v : ℕ) → ltb (swap a b v) (length m.values) ≡ ltb v (length m.values)
  below v = swap_ltb a b (length m.values) v la lb

  places_same : (s c : ℕ) → places_from n.mentions s c ≡ places_from m.mentions s c
  places_same s c = all_same (λ k. place_at n.mentions (s + k)) (λ k. place_at m.mentions (s + k)) (λ k. place_map (swap a b) m.mentions (s + k)) c

  returned_same : (o : Option ℕ) → returned_fits (length m.values) (returned_to (swap a b) o) ≡ returned_fits (length m.values) o
  returned_same None = refl
  returned_same (Some v) = below v

  block_same : (x : Block) → block_fits (sizes_of m) (block_to (swap a b) x) ≡ block_fits (sizes_of m) x
  block_same x = let e = returned_same x.returned in cc

  mention_same : (x : Mention) → mention_fits (sizes_of m) (mention_to (swap a b) x) ≡ mention_fits (sizes_of m) x
  mention_same (mention.Place p) = below p.value
  mention_same (mention.Spread p) = below p.value
  mention_same mention.Hole = refl

  phi_same : (x : Phi) → phi_fits (sizes_of m) (places_from n.mentions) (phi_to (swap a b) x) ≡ phi_fits (sizes_of m) (places_from m.mentions) x
  phi_same x =
      let v = below x.value in
      let o = operands_alike (places_from n.mentions) (places_from m.mentions) places_same (length m.mentions) x.operands in
      cc

  functions_alike : function_breach n ≡ function_breach m
  functions_alike =
      ap (λ (s : Sizes). cond (eqb (length m.functions) 0) (Some 0) (first_failing (test_in (function_fits s) m.functions) (length m.functions))) sizes_same

  blocks_alike : block_breach n ≡ block_breach m
  blocks_alike =
      ap (λ (s : Sizes). first_failing (test_in (block_fits s) n.blocks) (length n.blocks)) sizes_same
      ∙ first_map (block_to (swap a b)) (block_fits (sizes_of m)) (block_fits (sizes_of m)) block_same m.blocks

  phis_alike : phi_breach n ≡ phi_breach m
  phis_alike =
      ap (λ (s : Sizes). first_failing (test_in (phi_fits s (places_from n.mentions)) n.phis) (length n.phis)) sizes_same
      ∙ first_map (phi_to (swap a b)) (phi_fits (sizes_of m) (places_from n.mentions)) (phi_fits (sizes_of m) (places_from m.mentions)) phi_same m.phis

  instructions_alike : instruction_breach n ≡ instruction_breach m
  instructions_alike =
      ap (λ (s : Sizes). first_failing (test_in (instruction_fits s (places_from n.mentions)) m.instructions) (length m.instructions)) sizes_same
      ∙ first_same (instruction_fits (sizes_of m) (places_from n.mentions)) (instruction_fits (sizes_of m) (places_from m.mentions)) m.instructions (length m.instructions)
      (instruction_alike (places_from n.mentions) (places_from m.mentions) places_same (sizes_of m))

  mentions_alike : mention_breach n ≡ mention_breach m
  mentions_alike =
      ap (λ (s : Sizes). first_failing (test_in (mention_fits s) n.mentions) (length n.mentions)) sizes_same
      ∙ first_map (mention_to (swap a b)) (mention_fits (sizes_of m)) (mention_fits (sizes_of m)) mention_same m.mentions

  -- the values are the same in other places
  value_at : (v : ℕ) → test_in (value_fits (sizes_of n)) n.values v ≡ test_in (value_fits (sizes_of m)) m.values (swap a b v)
  value_at v =
      ap (λ (s : Sizes). test_in (value_fits s) n.values v) sizes_same
      ∙ ap (test_of (value_fits (sizes_of m))) (slice_get_exchanged m.values a b v la lb)

  values_there : value_breach m ≡ None → value_breach n ≡ None
  values_there e =
      none_fails _ (length n.values)
      (λ v l.
      let len = exchanged_length m.values a b in
      value_at v ∙ each_passes _ (length m.values) e (swap a b v) (swap_below a b (length m.values) v la lb (omega arith)))

  values_here : value_breach n ≡ None → value_breach m ≡ None
  values_here e =
      none_fails _ (length m.values)
      (λ v l.
      let len = exchanged_length m.values a b in
      let low = swap_below a b (length m.values) v la lb l in
      ap (test_in (value_fits (sizes_of m)) m.values) (sym (swap_twice a b v))
      ∙ sym (value_at (swap a b v)) ∙ each_passes _ (length n.values) e (swap a b v) (omega arith))

  phi_runs : (k : ℕ) → phis_of n k ≡ phis_of m k
  phi_runs k = run_map (block_to (swap a b)) (λ (x : Block). x.phis) (λ x. refl) m.blocks k

  instruction_runs : (k : ℕ) → instructions_of n k ≡ instructions_of m k
  instruction_runs k = run_map (block_to (swap a b)) (λ (x : Block). x.instructions) (λ x. refl) m.blocks k

  block_count : length n.blocks ≡ length m.blocks
  block_count = length-map m.blocks (block_to (swap a b))

  block_orders : block_order n ≡ block_order m
  block_orders =
      ap (first_failing (block_follows n)) block_count
      ∙ same_first (block_follows n) (block_follows m) (length m.blocks)
      (λ k l. let p = follows_same (phis_of n) (phis_of m) phi_runs k in let i = follows_same (instructions_of n) (instructions_of m) instruction_runs k in cc)

  phi_orders : phi_order n ≡ phi_order m
  phi_orders =
      let s = starts_same (phis_of n) (phis_of m) phi_runs (length n.blocks) ∙ ap (starts_at (phis_of m)) block_count in
      let p = length-map m.phis (phi_to (swap a b)) in
      cc

  instruction_orders : instruction_order n ≡ instruction_order m
  instruction_orders =
      let s = starts_same (instructions_of n) (instructions_of m) instruction_runs (length n.blocks) ∙ ap (starts_at (instructions_of m)) block_count in
      same_first (instruction_follows n) (instruction_follows m) (length m.instructions)
      (λ k l. ap (λ (e : ℕ). ltb k e && body_free (taken_before m k) (body_of m k)) s)

  related : Related m n
  unfolding name_breach
  related =
      let f = functions_alike in
      let bl = blocks_alike in
      let p = phis_alike in
      let i = instructions_alike in
      let e = mentions_alike in
      let bo = block_orders in
      let po = phi_orders in
      let io = instruction_orders in
      record {
        sizes = ap (λ (s : Sizes). cond (sizes_fit s) None (Some 0)) sizes_same;
        values = values_there;
        values_back = values_here;
        rest = cc;
        order = cc;
        names = refl;
      }

-- any number of exchanges
all_related : (m : Meaning) (xs : List Exchange) → ExchangesOf (length m.values) xs → Related m (exchanges xs m)
all_related m [] h = itself m
all_related m (x ∷ xs) h =
    let n = exchange x.one x.other m in
    through m n (exchanges xs n) (related m x.one x.other h.0 h.1)
    (all_related n xs (subst (λ (k : ℕ). ExchangesOf k xs) (sym (exchanged_length m.values x.one x.other)) h.2))

-- the whole judgement, from its parts: x before the values, v the first value, r
-- and t behind
abbrev judgement : Option Fault → Option ℕ → Option Fault → Option Fault → Option Fault
judgement x v r t = option_or x (option_or (option_or (refused RecordNumber v) r) t)

reasons : (x : Option Fault) (v w : Option ℕ) (r t : Option Fault) → (v ≡ None → w ≡ None) → (w ≡ None → v ≡ None) → reason_of (judgement x w r t) ≡ reason_of (judgement x v r t)
reasons (Some f) v w r t h k = refl
reasons None None w r t h k = ap (λ o. reason_of (judgement None o r t)) (h refl)
reasons None (Some i) None r t h k = let e = k refl in cc
reasons None (Some i) (Some j) r t h k = refl

places : (x : Option Fault) (v w : Option ℕ) (r t : Option Fault) → (v ≡ None → w ≡ None) → (w ≡ None → v ≡ None) → (f g : Fault) → judgement x v r t ≡ Some f → judgement x w r t ≡ Some g → (g.place ≡ f.place) ⊎ ((v ≡ Some f.place) × (w ≡ Some g.place))
places (Some d) v w r t h k f g e i = inl (let z : g ≡ f = cc in ap (λ (y : Fault). y.place) z)
places None None w r t h k f g e i =
    inl (let s = ap (λ o. judgement None o r t) (h refl) in let z : g ≡ f = cc in ap (λ (y : Fault). y.place) z)
places None (Some p) None r t h k f g e i = let y = k refl in cc
places None (Some p) (Some q) r t h k f g e i =
    let a : record { reason = RecordNumber; place = p } ≡ f = cc in
    let b : record { reason = RecordNumber; place = q } ≡ g = cc in
    inr (ap (λ (y : Fault). Some y.place) a, ap (λ (y : Fault). Some y.place) b)

judged_alike : (m n : Meaning) → Related m n → JudgedAlike m n
judged_alike m n r =
    let x = refused TableSize (size_breach m) in
    let tail = option_or (order_fault m) (refused NameText (name_breach m)) in
    let same : admission n ≡ judgement x (value_breach n) (rest_fault m) tail =
    let s = r.sizes in let o = r.order in let k = r.names in let e = r.rest in cc in
    record {
      number = ap reason_of same ∙ reasons x (value_breach m) (value_breach n) (rest_fault m) tail r.values r.values_back;
      place = λ f g e i. places x (value_breach m) (value_breach n) (rest_fault m) tail r.values r.values_back f g e (sym same ∙ i);
    }

pub renumbering_judged_alike : RenumberingJudgedAlike
renumbering_judged_alike m xs h = judged_alike m (exchanges xs m) (all_related m xs h)
