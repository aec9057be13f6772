-- Each case of an enum by its number and its values: codes count from 0 in
-- the order in which the cases are declared.
use Rattle.std.specs.Prelude.{◌≡◌, ℕ, ◌<◌, ◌≤◌, List, [], ◌∷◌, Some, None, Option, Result, MatchResult}
use Rattle.component.specs.declared.records.ReactFunctionType.{ReactFunctionType}
use Rattle.component.specs.declared.records.ReactFunctionType.TheVariants as function
use Rattle.component.specs.declared.records.IdentifierName.{IdentifierName}
use Rattle.component.specs.declared.records.IdentifierName.TheVariants as form
use Rattle.component.specs.declared.records.ValueType.{ValueType}
use Rattle.component.specs.declared.records.ValueType.TheVariants as type
use Rattle.component.specs.declared.records.InstructionValue.{InstructionValue}
use Rattle.component.specs.declared.records.InstructionValue.TheVariants as kind
use Rattle.component.specs.declared.records.Effect.{Effect}
use Rattle.component.specs.declared.records.Effect.TheVariants as effect
use Rattle.component.specs.declared.records.Run.{Run}
use Rattle.component.specs.declared.records.Span.{Span}
use Rattle.component.specs.declared.records.Place.{Place}
use Rattle.component.specs.declared.records.Mention.{Mention}
use Rattle.component.specs.declared.records.Mention.TheVariants as mention
use Rattle.component.specs.declared.decoding.UnknownCode.{UnknownCode}

-- the number that a coded case begins with
abbrev pub number : List ℕ → ℕ
number [] = 0
number (n ∷ _) = n

abbrev pub function_code : ReactFunctionType → ℕ
function_code function.Component = 0
function_code function.Hook = 1
function_code function.Other = 2

abbrev pub type_code : ValueType → ℕ
type_code type.Other = 0
type_code type.UseState = 1
type_code type.SetState = 2
type_code type.UseRef = 3
type_code type.EffectHook = 4

abbrev pub effect_code : Effect → ℕ
effect_code effect.Unknown = 0
effect_code effect.Freeze = 1
effect_code effect.Read = 2
effect_code effect.Capture = 3
effect_code effect.ConditionallyMutateIterator = 4
effect_code effect.ConditionallyMutate = 5
effect_code effect.Mutate = 6
effect_code effect.Store = 7

-- a number's case is the one with this code; a number past the last code has none
abbrev pub IsFunctionCoded : ℕ → Result ReactFunctionType UnknownCode → Type 0
IsFunctionCoded n r = MatchResult r (λ k. function_code k ≡ n) (λ e. (e.0 ≡ n) × (3 ≤ n))

abbrev pub IsTypeCoded : ℕ → Result ValueType UnknownCode → Type 0
IsTypeCoded n r = MatchResult r (λ t. type_code t ≡ n) (λ e. (e.0 ≡ n) × (5 ≤ n))

abbrev pub IsEffectCoded : ℕ → Result Effect UnknownCode → Type 0
IsEffectCoded n r = MatchResult r (λ e. effect_code e ≡ n) (λ e. (e.0 ≡ n) × (8 ≤ n))

-- a form, then its name
abbrev pub name_code : IdentifierName → List ℕ
name_code form.Unnamed = 0 ∷ []
name_code (form.Named n) = 1 ∷ n ∷ []
name_code (form.Promoted n) = 2 ∷ n ∷ []

-- a list: start and count
abbrev pub run_code : Run → List ℕ
run_code r = r.start ∷ r.count ∷ []

-- a kind of instruction, then its subject, arguments or function
abbrev pub instruction_code : InstructionValue → List ℕ
instruction_code kind.Other = 0 ∷ []
instruction_code (kind.LoadLocal p) = 1 ∷ p ∷ []
instruction_code (kind.FunctionExpression f) = 2 ∷ f ∷ []
instruction_code (kind.CallExpression p a) = 3 ∷ p ∷ run_code a
instruction_code (kind.MethodCall p a) = 4 ∷ p ∷ run_code a
instruction_code (kind.ArrayExpression a) = 5 ∷ run_code a
instruction_code kind.LoadGlobal = 6 ∷ []

-- absent, or present with the value of an explicit return
abbrev pub return_code : Option ℕ → List ℕ
return_code None = 0 ∷ []
return_code (Some v) = 1 ∷ v ∷ []

-- absent, or present with both ends
abbrev pub span_code : Option Span → List ℕ
span_code None = 0 ∷ []
span_code (Some s) = 1 ∷ s.start ∷ s.end ∷ []

abbrev pub place_code : Place → List ℕ
place_code p = p.value ∷ effect_code p.effect ∷ span_code p.span

-- a form of mention, then its place
abbrev pub mention_code : Mention → List ℕ
mention_code (mention.Place p) = 0 ∷ place_code p
mention_code (mention.Spread p) = 1 ∷ place_code p
mention_code mention.Hole = 2 ∷ []

-- how many codes each has: with each reader's law that a code below this comes
-- back, these are the codes that there are
pub record CodesBelow : Type 0 where
  pub functions : (k : ReactFunctionType) → function_code k < 3
  pub names : (n : IdentifierName) → number (name_code n) < 3
  pub types : (t : ValueType) → type_code t < 5
  pub returns : (r : Option ℕ) → number (return_code r) < 2
  pub instructions : (i : InstructionValue) → number (instruction_code i) < 7
  pub mentions : (m : Mention) → number (mention_code m) < 3
  pub effects : (e : Effect) → effect_code e < 8
  pub spans : (s : Option Span) → number (span_code s) < 2
