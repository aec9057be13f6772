-- How many codes each enum has.
use Rattle.std.proofs.Common.{ℕ, ◌<◌, Some, None, Option, lit<}
use Rattle.component.specs.declared.records.ReactFunctionType.{ReactFunctionType}
use Rattle.component.specs.declared.records.ReactFunctionType.TheVariants as function
use Rattle.component.specs.declared.records.IdentifierName.{IdentifierName}
use Rattle.component.specs.declared.records.IdentifierName.TheVariants as form
use Rattle.component.specs.declared.records.ValueType.{ValueType}
use Rattle.component.specs.declared.records.ValueType.TheVariants as type
use Rattle.component.specs.declared.records.InstructionValue.{InstructionValue}
use Rattle.component.specs.declared.records.InstructionValue.TheVariants as kind
use Rattle.component.specs.declared.records.Effect.{Effect}
use Rattle.component.specs.declared.records.Effect.TheVariants as effect
use Rattle.component.specs.declared.records.Span.{Span}
use Rattle.component.specs.declared.records.Mention.{Mention}
use Rattle.component.specs.declared.records.Mention.TheVariants as mention
use Rattle.component.specs.Codes.{number, function_code, type_code, effect_code, name_code, instruction_code, return_code, span_code, mention_code, CodesBelow}

functions : (k : ReactFunctionType) → function_code k < 3
functions function.Component = lit< tt
functions function.Hook = lit< tt
functions function.Other = lit< tt

names : (n : IdentifierName) → number (name_code n) < 3
names form.Unnamed = lit< tt
names (form.Named n) = lit< tt
names (form.Promoted n) = lit< tt

types : (t : ValueType) → type_code t < 5
types type.Other = lit< tt
types type.UseState = lit< tt
types type.SetState = lit< tt
types type.UseRef = lit< tt
types type.EffectHook = lit< tt

returns : (r : Option ℕ) → number (return_code r) < 2
returns None = lit< tt
returns (Some v) = lit< tt

instructions : (i : InstructionValue) → number (instruction_code i) < 7
instructions kind.Other = lit< tt
instructions (kind.LoadLocal p) = lit< tt
instructions (kind.FunctionExpression f) = lit< tt
instructions (kind.CallExpression p a) = lit< tt
instructions (kind.MethodCall p a) = lit< tt
instructions (kind.ArrayExpression a) = lit< tt
instructions kind.LoadGlobal = lit< tt

mentions : (m : Mention) → number (mention_code m) < 3
mentions (mention.Place p) = lit< tt
mentions (mention.Spread p) = lit< tt
mentions mention.Hole = lit< tt

effects : (e : Effect) → effect_code e < 8
effects effect.Unknown = lit< tt
effects effect.Freeze = lit< tt
effects effect.Read = lit< tt
effects effect.Capture = lit< tt
effects effect.ConditionallyMutateIterator = lit< tt
effects effect.ConditionallyMutate = lit< tt
effects effect.Mutate = lit< tt
effects effect.Store = lit< tt

spans : (s : Option Span) → number (span_code s) < 2
spans None = lit< tt
spans (Some s) = lit< tt

pub codes_below : CodesBelow
codes_below =
    record { functions = functions; names = names; types = types; returns = returns; instructions = instructions; mentions = mentions; effects = effects; spans = spans }
