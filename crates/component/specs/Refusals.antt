-- A refusal is a number and a place.
use Rattle.std.specs.Prelude.{ℕ, zero, suc, Bool, cond, List, ◌++◌, codes, Some, None, Option}
use Rattle.std.specs.Fmt.{decimal}
use Rattle.std.specs.Option.{option_or}
use Rattle.component.specs.declared.fault.Fault.{Fault}
use Rattle.component.specs.declared.fault.Reason.{Reason}
use Rattle.component.specs.declared.fault.Reason.TheVariants.{TableSize, RecordNumber, ListOrder, NameText, FileLength, RecordMark, FieldCode, ShortMemory, StrayMemory, UnknownEffect, UseTableFull, TooManyPasses, NothingChanged, StillChanging, NoEffectLeft, ReportsFull, NoSuchReport, SourceCycle, PoolFull, BufferFull}

abbrev pub number_of : Reason → ℕ
number_of TableSize = 1
number_of RecordNumber = 2
number_of ListOrder = 3
number_of NameText = 4
number_of FileLength = 5
number_of RecordMark = 6
number_of FieldCode = 7
number_of ShortMemory = 8
number_of StrayMemory = 9
number_of UnknownEffect = 10
number_of UseTableFull = 11
number_of TooManyPasses = 12
number_of NothingChanged = 13
number_of StillChanging = 14
number_of NoEffectLeft = 15
number_of ReportsFull = 16
number_of NoSuchReport = 17
number_of SourceCycle = 18
number_of PoolFull = 19
number_of BufferFull = 20

-- a refusal, unless something holds
abbrev pub fault_unless : Bool → Reason → ℕ → Option Fault
fault_unless b r n = cond b None (Some (record { reason = r; place = n }))

-- a refusal as programs print it
abbrev pub fault_text : Fault → List ℕ
fault_text f = codes "refused " ++ decimal (number_of f.reason) ++ codes " at " ++ decimal f.place

-- the first refusal that f gives for a number below n
abbrev pub first_in : {X : Type 0} → (ℕ → Option X) → ℕ → Option X
first_in f zero = None
first_in f (suc n) = option_or (first_in f n) (f n)
