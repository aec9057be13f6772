-- The codes of the kinds of instructions.
use Rattle.std.specs.Prelude.{◌≡◌, ◌≢◌, ℕ, Result, MatchResult}
use Rattle.assemble.specs.declared.codes.InstructionKind.{InstructionKind}
use Rattle.assemble.specs.declared.codes.InstructionKind.TheVariants.{Other, LoadLocal, Function, Call, MethodCall, Array, LoadGlobal}
use Rattle.assemble.specs.declared.codes.UnknownKind.{UnknownKind}

-- the number that stands for it
abbrev pub kind_code : InstructionKind → ℕ
kind_code Other = 0
kind_code LoadLocal = 1
kind_code Function = 2
kind_code Call = 3
kind_code MethodCall = 4
kind_code Array = 5
kind_code LoadGlobal = 6

-- the kind of that code, or the code that no kind has
abbrev pub Decodes : ℕ → Result InstructionKind UnknownKind → Type 0
Decodes code r = MatchResult r (λ kind. kind_code kind ≡ code) (λ e. (e.0 ≡ code) × ((kind : InstructionKind) → kind_code kind ≢ code))
