-- What a component means: the kind of function 0 and its eight tables.
use Rattle.std.specs.Prelude.{ℕ, List, length}
use Rattle.component.specs.declared.records.ReactFunctionType.{ReactFunctionType}
use Rattle.component.specs.declared.records.Value.{Value}
use Rattle.component.specs.declared.records.Function.{Function}
use Rattle.component.specs.declared.records.Block.{Block}
use Rattle.component.specs.declared.records.Predecessor.{Predecessor}
use Rattle.component.specs.declared.records.Phi.{Phi}
use Rattle.component.specs.declared.records.Instruction.{Instruction}
use Rattle.component.specs.declared.records.Mention.{Mention}
use Rattle.component.specs.declared.records.Sizes.{Sizes}

-- a name is its bytes
pub record Meaning : Type 0 where
  pub kind : ReactFunctionType
  pub names : List (List ℕ)
  pub values : List Value
  pub functions : List Function
  pub blocks : List Block
  pub predecessors : List Predecessor
  pub phis : List Phi
  pub instructions : List Instruction
  pub mentions : List Mention

-- how many records each table has
abbrev pub sizes_of : Meaning → Sizes
sizes_of m = record {
  names = length m.names;
  values = length m.values;
  functions = length m.functions;
  blocks = length m.blocks;
  predecessors = length m.predecessors;
  phis = length m.phis;
  instructions = length m.instructions;
  mentions = length m.mentions;
}
