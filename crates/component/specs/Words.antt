-- The words that stand for the cases of an enum, as the bytes of their texts.
use Rattle.std.specs.Prelude.{ℕ, List, codes}
use Rattle.component.specs.declared.records.ReactFunctionType.{ReactFunctionType}
use Rattle.component.specs.declared.records.ReactFunctionType.TheVariants as kind
use Rattle.component.specs.declared.records.ValueType.{ValueType}
use Rattle.component.specs.declared.records.ValueType.TheVariants as type
use Rattle.component.specs.declared.records.Effect.{Effect}
use Rattle.component.specs.declared.records.Effect.TheVariants as effect

abbrev pub kind_word : ReactFunctionType → List ℕ
kind_word kind.Component = codes "component"
kind_word kind.Hook = codes "hook"
kind_word kind.Other = codes "other"

abbrev pub type_word : ValueType → List ℕ
type_word type.Other = codes "other"
type_word type.UseState = codes "use-state"
type_word type.SetState = codes "set-state"
type_word type.UseRef = codes "use-ref"
type_word type.EffectHook = codes "effect-hook"

abbrev pub effect_word : Effect → List ℕ
effect_word effect.Unknown = codes "unknown"
effect_word effect.Freeze = codes "freeze"
effect_word effect.Read = codes "read"
effect_word effect.Capture = codes "capture"
effect_word effect.ConditionallyMutateIterator = codes "mutate-iterator?"
effect_word effect.ConditionallyMutate = codes "mutate?"
effect_word effect.Mutate = codes "mutate"
effect_word effect.Store = codes "store"
