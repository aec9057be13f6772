-- The records of the packed form: what the bytes of each mean, from its mark
-- on. A field that a record's case has no use for is not read.
use Rattle.std.specs.Prelude.{ℕ, cond, List, Some, None, Option, ◌==◌}
use Rattle.component.specs.declared.records.Value.{Value}
use Rattle.component.specs.declared.records.Function.{Function}
use Rattle.component.specs.declared.records.Block.{Block}
use Rattle.component.specs.declared.records.Predecessor.{Predecessor}
use Rattle.component.specs.declared.records.Phi.{Phi}
use Rattle.component.specs.declared.records.InstructionValue.{InstructionValue}
use Rattle.component.specs.declared.records.InstructionValue.TheVariants as kind
use Rattle.component.specs.declared.records.Instruction.{Instruction}
use Rattle.component.specs.declared.records.Span.{Span}
use Rattle.component.specs.declared.records.Place.{Place}
use Rattle.component.specs.declared.records.Mention.{Mention}
use Rattle.component.specs.declared.records.Mention.TheVariants as mention
use Rattle.fields.specs.Fields.{le16, le32, run_at, name_of, type_of, effect_of}

-- `VA` form, name, type, range start (4), range end (4)
abbrev pub value_of : List ℕ → Value
value_of b = record { name = name_of (le16 b 2) (le16 b 4); kind = type_of (le16 b 6); range = record { start = le32 b 8; end = le32 b 12 } }

-- `FN` parameters, blocks
abbrev pub function_at : List ℕ → Function
function_at b = record { params = run_at b 2; blocks = run_at b 6 }

-- return 0 or 1, value
abbrev pub returned_of : List ℕ → Option ℕ
returned_of b = cond (le16 b 16 == 0) None (Some (le16 b 18))

-- `BL` id, predecessors, phis, instructions, return, value
abbrev pub block_of : List ℕ → Block
block_of b = record { id = le16 b 2; predecessors = run_at b 4; phis = run_at b 8; instructions = run_at b 12; returned = returned_of b }

-- `PR` id
abbrev pub predecessor_of : List ℕ → Predecessor
predecessor_of b = record { id = le16 b 2 }

-- `PH` value, operands
abbrev pub phi_of : List ℕ → Phi
phi_of b = record { value = le16 b 2; operands = run_at b 4 }

-- the kind of an instruction, with the subject, arguments or function that it has
abbrev pub instruction_value_of : List ℕ → InstructionValue
instruction_value_of b =
    cond (le16 b 2 == 0) kind.Other
    (cond (le16 b 2 == 1) (kind.LoadLocal (le16 b 16))
    (cond (le16 b 2 == 2) (kind.FunctionExpression (le16 b 22))
    (cond (le16 b 2 == 3) (kind.CallExpression (le16 b 16) (run_at b 18))
    (cond (le16 b 2 == 4) (kind.MethodCall (le16 b 16) (run_at b 18))
    (cond (le16 b 2 == 5) (kind.ArrayExpression (run_at b 18))
    kind.LoadGlobal)))))

-- `IN` kind, order (4), lvalues, operands, subject, arguments, function
abbrev pub instruction_of : List ℕ → Instruction
instruction_of b = record { order = le32 b 4; lvalues = run_at b 8; operands = run_at b 12; value = instruction_value_of b }

-- span 0 or 1, start (4), end (4)
abbrev pub span_of : List ℕ → Option Span
span_of b = cond (le16 b 8 == 0) None (Some (record { start = le32 b 10; end = le32 b 14 }))

abbrev pub place_of : List ℕ → Place
place_of b = record { value = le16 b 2; effect = effect_of (le16 b 6); span = span_of b }

-- `ME` value, form, effect, span, start (4), end (4)
abbrev pub mention_of : List ℕ → Mention
mention_of b = cond (le16 b 4 == 0) (mention.Place (place_of b)) (cond (le16 b 4 == 1) (mention.Spread (place_of b)) mention.Hole)
