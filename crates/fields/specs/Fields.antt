-- The fields of the packed form, out of the bytes of a record.
use Rattle.std.specs.Prelude.{ℕ, ◌+◌, ◌*◌, cond, List, ◌==◌, slice_index}
use Rattle.component.specs.declared.records.ReactFunctionType.{ReactFunctionType}
use Rattle.component.specs.declared.records.ReactFunctionType.TheVariants as function
use Rattle.component.specs.declared.records.IdentifierName.{IdentifierName}
use Rattle.component.specs.declared.records.IdentifierName.TheVariants as form
use Rattle.component.specs.declared.records.ValueType.{ValueType}
use Rattle.component.specs.declared.records.ValueType.TheVariants as type
use Rattle.component.specs.declared.records.Effect.{Effect}
use Rattle.component.specs.declared.records.Effect.TheVariants as effect
use Rattle.component.specs.declared.records.Run.{Run}

-- two bytes, low byte first
abbrev pub le16 : List ℕ → ℕ → ℕ
le16 b i = slice_index b i + 256 * slice_index b (i + 1)

-- four bytes, low byte first
abbrev pub le32 : List ℕ → ℕ → ℕ
le32 b i = le16 b i + 65536 * le16 b (i + 2)

-- a list: start, then count
abbrev pub run_at : List ℕ → ℕ → Run
run_at b i = record { start = le16 b i; count = le16 b (i + 2) }

-- the enums out of their codes; a code past the last reads as the last
abbrev pub function_of : ℕ → ReactFunctionType
function_of c = cond (c == 0) function.Component (cond (c == 1) function.Hook function.Other)

abbrev pub name_of : ℕ → ℕ → IdentifierName
name_of c n = cond (c == 0) form.Unnamed (cond (c == 1) (form.Named n) (form.Promoted n))

abbrev pub type_of : ℕ → ValueType
type_of c =
    cond (c == 0) type.Other (cond (c == 1) type.UseState (cond (c == 2) type.SetState (cond (c == 3) type.UseRef type.EffectHook)))

abbrev pub effect_of : ℕ → Effect
effect_of c =
    cond (c == 0) effect.Unknown (cond (c == 1) effect.Freeze (cond (c == 2) effect.Read (cond (c == 3) effect.Capture
    (cond (c == 4) effect.ConditionallyMutateIterator (cond (c == 5) effect.ConditionallyMutate (cond (c == 6) effect.Mutate effect.Store))))))
