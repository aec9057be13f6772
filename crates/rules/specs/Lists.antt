-- Lists of a component, and the first record that breaks a rule.
use Rattle.std.specs.Prelude.{◌≡◌, ℕ, zero, suc, ◌+◌, ◌<◌, Bool, true, false, cond, ◌&&◌, ◌||◌, List, Some, None, Option, ◌==◌, nat_le, nat_lt}
use Rattle.std.specs.List.{slice_get}
use Rattle.component.specs.declared.records.Run.{Run}
use Rattle.component.specs.declared.fault.Reason.{Reason}
use Rattle.component.specs.declared.fault.Fault.{Fault}
use Rattle.component.specs.Refusals.{first_in}

-- the number behind the last record of a list
abbrev pub end_of : Run → ℕ
end_of r = r.start + r.count

-- a list ends inside a table of n records
abbrev pub inside : ℕ → Run → Bool
inside n r = nat_le (end_of r) n

abbrev pub no_run : Run
no_run = record { start = 0; count = 0 }

-- the list that f gives of a record, and of none the empty one
abbrev pub run_of : {R : Type 0} → (R → Run) → Option R → Run
run_of f None = no_run
run_of f (Some x) = f x

-- the list of record n
abbrev pub run_in : {R : Type 0} → (R → Run) → List R → ℕ → Run
run_in f xs n = run_of f (slice_get xs n)

-- where list n has to start: where the one before it ends
abbrev pub starts_at : (ℕ → Run) → ℕ → ℕ
starts_at f zero = 0
starts_at f (suc n) = end_of (f n)

abbrev pub follows : (ℕ → Run) → ℕ → Bool
follows f n = (f n).start == starts_at f n

-- the record before record n, if there is one
abbrev pub before : {R : Type 0} → List R → ℕ → Option R
before xs zero = None
before xs (suc n) = slice_get xs n

-- a list starts where another ended
abbrev pub starts_behind : Run → Run → Bool
starts_behind p r = r.start == end_of p

-- a test of a record; there is nothing to test where there is none
abbrev pub test_of : {R : Type 0} → (R → Bool) → Option R → Bool
test_of p None = true
test_of p (Some x) = p x

abbrev pub test_in : {R : Type 0} → (R → Bool) → List R → ℕ → Bool
test_in p xs n = test_of p (slice_get xs n)

-- each number below n passes; one of them does
abbrev pub all_below : (ℕ → Bool) → ℕ → Bool
all_below p zero = true
all_below p (suc n) = all_below p n && p n

abbrev pub any_below : (ℕ → Bool) → ℕ → Bool
any_below p zero = false
any_below p (suc n) = any_below p n || p n

-- n itself where p fails
abbrev pub failing : (ℕ → Bool) → ℕ → Option ℕ
failing p n = cond (p n) None (Some n)

-- the first number below n at which p fails
abbrev pub first_failing : (ℕ → Bool) → ℕ → Option ℕ
first_failing p n = first_in (failing p) n

-- what calls may return at the numbers below n is what p says
abbrev pub TestsBelow : (ℕ → Bool → Type 0) → (ℕ → Bool) → ℕ → Type 0
TestsBelow post p n = (k : ℕ) (b : Bool) → k < n → post k b → b ≡ p k

-- the first of n records from k on, if there is one
abbrev pub rest_from : ℕ → ℕ → Option ℕ
rest_from k n = cond (nat_lt k n) (Some k) None

-- a refusal for a reason, at the place that is given, if one is
abbrev pub refused : Reason → Option ℕ → Option Fault
refused r None = None
refused r (Some i) = Some (record { reason = r; place = i })
