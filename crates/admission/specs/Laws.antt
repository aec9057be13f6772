-- What holds of every component.
use Rattle.std.specs.Prelude.{◌≡◌, ℕ, ◌<◌, Bool, true, false, ◌⊎◌, List, length, Some, None, Option}
use Rattle.component.specs.declared.fault.Reason.{Reason}
use Rattle.component.specs.declared.fault.Reason.TheVariants.{TableSize, RecordNumber, ListOrder, NameText, FileLength, RecordMark, FieldCode, ShortMemory, StrayMemory, UnknownEffect, UseTableFull, TooManyPasses, NothingChanged, StillChanging, NoEffectLeft, ReportsFull, NoSuchReport, SourceCycle, PoolFull, BufferFull}
use Rattle.component.specs.declared.fault.Fault.{Fault}
use Rattle.component.specs.Meaning.{Meaning}
use Rattle.component.specs.Exchange.{Exchange, ExchangesOf, exchanges}
use Rattle.rules.specs.Lists.{first_failing}
use Rattle.rules.specs.Admission.{admission, value_breach, Sized, Fitting, Ordered, Named, Admitted}

-- a component is admitted exactly when it keeps every rule
abbrev pub AdmittedExactly : Type 0
AdmittedExactly = (m : Meaning) → (admission m ≡ None → Admitted m) × (Admitted m → admission m ≡ None)

-- rule by rule: those before are kept, and this one is broken
abbrev pub Breaks : Reason → Meaning → Type 0
Breaks TableSize m = Sized m → ⊥
Breaks RecordNumber m = Sized m × (Fitting m → ⊥)
Breaks ListOrder m = Sized m × Fitting m × (Ordered m → ⊥)
Breaks NameText m = Sized m × Fitting m × Ordered m × (Named m → ⊥)
Breaks FileLength m = ⊥
Breaks RecordMark m = ⊥
Breaks FieldCode m = ⊥
Breaks ShortMemory m = ⊥
Breaks StrayMemory m = ⊥
Breaks UnknownEffect m = ⊥
Breaks UseTableFull m = ⊥
Breaks TooManyPasses m = ⊥
Breaks NothingChanged m = ⊥
Breaks StillChanging m = ⊥
Breaks NoEffectLeft m = ⊥
Breaks ReportsFull m = ⊥
Breaks NoSuchReport m = ⊥
Breaks SourceCycle m = ⊥
Breaks PoolFull m = ⊥
Breaks BufferFull m = ⊥

-- a component is refused for the first rule that it breaks
abbrev pub FirstRuleBroken : Type 0
FirstRuleBroken = (m : Meaning) (f : Fault) → admission m ≡ Some f → Breaks f.reason m

-- the record that a rule is refused at breaks it, and none before it does
abbrev pub FirstRecordFailing : Type 0
FirstRecordFailing =
    (p : ℕ → Bool) (n i : ℕ) → first_failing p n ≡ Some i → (i < n) × (p i ≡ false) × ((j : ℕ) → j < i → p j ≡ true)

-- the reason of a refusal, if there is one
abbrev pub reason_of : Option Fault → Option Reason
reason_of None = None
reason_of (Some f) = Some f.reason

-- two components are both admitted, or refused with the same number, and at the
-- same place unless it is a value's own record in both
pub record JudgedAlike (m n : Meaning) : Type 0 where
  pub number : reason_of (admission n) ≡ reason_of (admission m)
  pub place : (f g : Fault) → admission m ≡ Some f → admission n ≡ Some g
      → (g.place ≡ f.place) ⊎ ((value_breach m ≡ Some f.place) × (value_breach n ≡ Some g.place))

-- a component and its renumbering by any exchanges are judged alike
abbrev pub RenumberingJudgedAlike : Type 0
RenumberingJudgedAlike = (m : Meaning) (xs : List Exchange) → ExchangesOf (length m.values) xs → JudgedAlike m (exchanges xs m)
