-- When a component is admitted, and why it is not: the first rule that is broken,
-- and the first record that breaks it.
use Rattle.std.specs.Prelude.{◌≡◌, ℕ, ◌<◌, ◌≤◌, true, cond, length, Some, None, Option, ◌==◌, ◌≢◌}
use Rattle.std.specs.Option.{option_or}
use Rattle.component.specs.declared.fault.Reason.TheVariants.{TableSize, RecordNumber, ListOrder, NameText}
use Rattle.component.specs.declared.fault.Fault.{Fault}
use Rattle.component.specs.Meaning.{Meaning, sizes_of}
use Rattle.rules.specs.Lists.{test_in, starts_at, first_failing, rest_from, refused}
use Rattle.rules.specs.Rules.{sizes_fit, value_fits, function_fits, block_fits, phi_fits, instruction_fits, mention_fits, places_from, blocks_of, phis_of, instructions_of, function_follows, block_follows, instruction_follows, body_of, name_at, name_stands}

abbrev pub size_breach : Meaning → Option ℕ
size_breach m = cond (sizes_fit (sizes_of m)) None (Some 0)

-- the first record of each table with a number outside its table, a wrong form or
-- a list of a wrong length
abbrev pub value_breach : Meaning → Option ℕ
value_breach m = first_failing (test_in (value_fits (sizes_of m)) m.values) (length m.values)

-- without a function 0 the table is refused at 0
abbrev pub function_breach : Meaning → Option ℕ
function_breach m =
    cond (length m.functions == 0) (Some 0) (first_failing (test_in (function_fits (sizes_of m)) m.functions) (length m.functions))

abbrev pub block_breach : Meaning → Option ℕ
block_breach m = first_failing (test_in (block_fits (sizes_of m)) m.blocks) (length m.blocks)

abbrev pub phi_breach : Meaning → Option ℕ
phi_breach m = first_failing (test_in (phi_fits (sizes_of m) (places_from m.mentions)) m.phis) (length m.phis)

abbrev pub instruction_breach : Meaning → Option ℕ
instruction_breach m =
    first_failing (test_in (instruction_fits (sizes_of m) (places_from m.mentions)) m.instructions) (length m.instructions)

abbrev pub mention_breach : Meaning → Option ℕ
mention_breach m = first_failing (test_in (mention_fits (sizes_of m)) m.mentions) (length m.mentions)

abbrev pub number_fault : Meaning → Option Fault
number_fault m =
    option_or (refused RecordNumber (value_breach m)) (option_or (refused RecordNumber (function_breach m))
    (option_or (refused RecordNumber (block_breach m)) (option_or (refused RecordNumber (phi_breach m))
    (option_or (refused RecordNumber (instruction_breach m)) (refused RecordNumber (mention_breach m))))))

-- the first record of each table that does not follow, is left over, or has a
-- function that is not free
abbrev pub function_order : Meaning → Option ℕ
function_order m = first_failing (function_follows m) (length m.functions)

abbrev pub block_order : Meaning → Option ℕ
block_order m = first_failing (block_follows m) (length m.blocks)

abbrev pub phi_order : Meaning → Option ℕ
phi_order m = rest_from (starts_at (phis_of m) (length m.blocks)) (length m.phis)

abbrev pub instruction_order : Meaning → Option ℕ
instruction_order m = first_failing (instruction_follows m) (length m.instructions)

abbrev pub order_fault : Meaning → Option Fault
order_fault m =
    option_or (refused ListOrder (function_order m)) (option_or (refused ListOrder (block_order m))
    (option_or (refused ListOrder (phi_order m)) (refused ListOrder (instruction_order m))))

unfoldable pub name_breach : Meaning → Option ℕ
name_breach m = first_failing (name_stands m.names) (length m.names)

-- why a component is not admitted, if it is not
abbrev pub admission : Meaning → Option Fault
admission m =
    option_or (refused TableSize (size_breach m)) (option_or (number_fault m) (option_or (order_fault m) (refused NameText (name_breach m))))

-- What an admitted component is.
pub record Fitting (m : Meaning) : Type 0 where
  pub root : 0 < length m.functions
  pub values : (n : ℕ) → n < length m.values → test_in (value_fits (sizes_of m)) m.values n ≡ true
  pub functions : (n : ℕ) → n < length m.functions → test_in (function_fits (sizes_of m)) m.functions n ≡ true
  pub blocks : (n : ℕ) → n < length m.blocks → test_in (block_fits (sizes_of m)) m.blocks n ≡ true
  pub phis : (n : ℕ) → n < length m.phis → test_in (phi_fits (sizes_of m) (places_from m.mentions)) m.phis n ≡ true
  pub instructions : (n : ℕ) → n < length m.instructions → test_in (instruction_fits (sizes_of m) (places_from m.mentions)) m.instructions n ≡ true
  pub mentions : (n : ℕ) → n < length m.mentions → test_in (mention_fits (sizes_of m)) m.mentions n ≡ true

-- the lists of each table follow each other and end with their table, and each
-- function is the body of at most one instruction, function 0 of none
pub record Ordered (m : Meaning) : Type 0 where
  pub blocks : (n : ℕ) → n < length m.functions → (blocks_of m n).start ≡ starts_at (blocks_of m) n
  pub phis : (n : ℕ) → n < length m.blocks → (phis_of m n).start ≡ starts_at (phis_of m) n
  pub instructions : (n : ℕ) → n < length m.blocks → (instructions_of m n).start ≡ starts_at (instructions_of m) n
  pub all_blocks : starts_at (blocks_of m) (length m.functions) ≡ length m.blocks
  pub all_phis : starts_at (phis_of m) (length m.blocks) ≡ length m.phis
  pub all_instructions : starts_at (instructions_of m) (length m.blocks) ≡ length m.instructions
  pub root : (i : ℕ) → body_of m i ≢ Some 0
  pub once : (i j f : ℕ) → body_of m i ≡ Some f → body_of m j ≡ Some f → i ≡ j

pub record Named (m : Meaning) : Type 0 where
  pub some : (n : ℕ) → n < length m.names → 1 ≤ length (name_at m.names n)
  pub few : (n : ℕ) → n < length m.names → length (name_at m.names n) ≤ 64
  pub apart : (j k : ℕ) → j < k → k < length m.names → name_at m.names j ≢ name_at m.names k

pub record Sized (m : Meaning) : Type 0 where
  pub names : length m.names ≤ 2048
  pub values : length m.values ≤ 2048
  pub functions : length m.functions ≤ 256
  pub blocks : length m.blocks ≤ 2048
  pub predecessors : length m.predecessors ≤ 4096
  pub phis : length m.phis ≤ 2048
  pub instructions : length m.instructions ≤ 8192
  pub mentions : length m.mentions ≤ 32768

pub record Admitted (m : Meaning) : Type 0 where
  pub sized : Sized m
  pub fitting : Fitting m
  pub ordered : Ordered m
  pub named : Named m
