-- What a renumbering layer means, and why it refuses an exchange.
use Rattle.std.specs.Prelude.{ℕ, ◌&&◌, List, map, length, Option, nat_lt, slice_index_or}
use Rattle.std.specs.List.{range_with_len}
use Rattle.std.specs.Option.{option_or}
use Rattle.component.specs.Meaning.{Meaning}
use Rattle.component.specs.Exchange.{renumber}
use Rattle.component.specs.Refusals.{fault_unless}
use Rattle.component.specs.declared.fault.Fault.{Fault}
use Rattle.component.specs.declared.fault.Reason.TheVariants.{RecordNumber}
use Rattle.component.specs.declared.records.Value.{Value}
use Rattle.component.specs.declared.records.IdentifierName.TheVariants as name
use Rattle.component.specs.declared.records.ValueType.TheVariants as kind
use Rattle.renumbered.specs.declared.numbers.Numbers.{Numbers}
use Rattle.renumbered.specs.Numbering.{number_in}

-- what a value past the end of its table would be
abbrev pub blank : Value
blank = record { name = name.Unnamed; kind = kind.Other; range = record { start = 0; end = 0 } }

-- the value that has the number n now
abbrev pub value_at : List ℕ → List Value → ℕ → Value
value_at origins vs n = slice_index_or vs (number_in origins n) blank

-- the values in the order of their numbers
abbrev pub reordered : List ℕ → List Value → List Value
reordered origins vs = map (value_at origins vs) (range_with_len 0 (length vs))

-- the inner component by the numbers that its values have now
abbrev pub layered : Numbers → Meaning → Meaning
layered t m = renumber (number_in t.numbers) (reordered t.origins m.values) m

-- a is 2,048 or more, or not the number of one of n values
abbrev pub number_fault : ℕ → ℕ → Option Fault
number_fault n a = fault_unless (nat_lt a 2048 && nat_lt a n) RecordNumber a

-- why a and b are not exchanged
abbrev pub exchange_fault : ℕ → ℕ → ℕ → Option Fault
exchange_fault n a b = option_or (number_fault n a) (number_fault n b)
