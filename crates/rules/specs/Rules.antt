-- What the records of an admitted component have to keep, one by one.
use Rattle.std.specs.Prelude.{◌≡◌, ℕ, zero, suc, ◌+◌, ◌≤◌, Bool, true, false, cond, not, ◌&&◌, List, [], ◌∷◌, length, Some, None, Option, ◌==◌, nat_le, nat_lt, slice_index, slice_index_or, slice_set}
use Rattle.std.specs.List.{slice_get}
use Rattle.component.specs.declared.records.Run.{Run}
use Rattle.component.specs.declared.records.IdentifierName.{IdentifierName}
use Rattle.component.specs.declared.records.IdentifierName.TheVariants as form
use Rattle.component.specs.declared.records.Value.{Value}
use Rattle.component.specs.declared.records.Function.{Function}
use Rattle.component.specs.declared.records.Block.{Block}
use Rattle.component.specs.declared.records.Phi.{Phi}
use Rattle.component.specs.declared.records.InstructionValue.{InstructionValue}
use Rattle.component.specs.declared.records.InstructionValue.TheVariants as kind
use Rattle.component.specs.declared.records.Instruction.{Instruction}
use Rattle.component.specs.declared.records.Mention.{Mention}
use Rattle.component.specs.declared.records.Mention.TheVariants as mention
use Rattle.component.specs.declared.records.Sizes.{Sizes}
use Rattle.component.specs.Meaning.{Meaning}
use Rattle.rules.specs.Lists.{inside, run_of, run_in, starts_at, starts_behind, follows, all_below, any_below}

-- the limits of the eight tables
abbrev pub sizes_fit : Sizes → Bool
sizes_fit s =
    nat_le s.names 2048 && (nat_le s.values 2048 && (nat_le s.functions 256 && (nat_le s.blocks 2048
    && (nat_le s.predecessors 4096 && (nat_le s.phis 2048 && (nat_le s.instructions 8192 && nat_le s.mentions 32768))))))

-- a form's name is a name
abbrev pub name_fits : ℕ → IdentifierName → Bool
name_fits n form.Unnamed = true
name_fits n (form.Named k) = nat_lt k n
name_fits n (form.Promoted k) = nat_lt k n

abbrev pub value_fits : Sizes → Value → Bool
value_fits s v = name_fits s.names v.name

abbrev pub function_fits : Sizes → Function → Bool
function_fits s f = inside s.mentions f.params && inside s.blocks f.blocks

abbrev pub returned_fits : ℕ → Option ℕ → Bool
returned_fits n None = true
returned_fits n (Some v) = nat_lt v n

abbrev pub block_fits : Sizes → Block → Bool
block_fits s b =
    inside s.predecessors b.predecessors && (inside s.phis b.phis
    && (inside s.instructions b.instructions && returned_fits s.values b.returned))

abbrev pub is_place : Mention → Bool
is_place (mention.Place p) = true
is_place (mention.Spread p) = false
is_place mention.Hole = false

abbrev pub place_of : Option Mention → Bool
place_of None = false
place_of (Some x) = is_place x

-- mention k is a place
abbrev pub place_at : List Mention → ℕ → Bool
place_at ms k = place_of (slice_get ms k)

-- the c mentions from s on are places
abbrev pub places_from : List Mention → ℕ → ℕ → Bool
places_from ms s c = all_below (λ k. place_at ms (s + k)) c

-- one place more, or none behind what is no place
abbrev pub places_after : ℕ → Option Mention → ℕ
places_after n x = cond (place_of x) (n + 1) 0

-- how many places stand right before mention k, back to the nearest that is none
abbrev pub places_before : List Mention → ℕ → ℕ
places_before ms zero = 0
places_before ms (suc k) = places_after (places_before ms k) (slice_get ms k)

-- a table of how many places stand before each mention
abbrev pub PlacesCounted : List Mention → List ℕ → Type 0
PlacesCounted ms t = (k : ℕ) → k ≤ length ms → slice_index t k ≡ places_before ms k

-- the c mentions from s on are places, by such a table
abbrev pub counted_places : List ℕ → ℕ → ℕ → Bool
counted_places t s c = nat_le c (slice_index t (s + c))

-- a list of mentions that are places only, at most 32; q says of c mentions
-- from s on that they are places
abbrev pub operands_fit : (ℕ → ℕ → Bool) → ℕ → Run → Bool
operands_fit q n r = inside n r && (nat_le r.count 32 && q r.start r.count)

abbrev pub lvalues_fit : (ℕ → ℕ → Bool) → ℕ → Run → Bool
lvalues_fit q n r = nat_lt 0 r.count && operands_fit q n r

abbrev pub subject_fits : (ℕ → ℕ → Bool) → ℕ → ℕ → Bool
subject_fits q n p = nat_lt p n && q p 1

abbrev pub phi_fits : Sizes → (ℕ → ℕ → Bool) → Phi → Bool
phi_fits s q p = nat_lt p.value s.values && operands_fit q s.mentions p.operands

-- what an instruction's kind holds
abbrev pub kind_fits : Sizes → (ℕ → ℕ → Bool) → InstructionValue → Bool
kind_fits s q kind.Other = true
kind_fits s q (kind.LoadLocal p) = subject_fits q s.mentions p
kind_fits s q (kind.FunctionExpression f) = nat_lt f s.functions
kind_fits s q (kind.CallExpression p a) = subject_fits q s.mentions p && inside s.mentions a
kind_fits s q (kind.MethodCall p a) = subject_fits q s.mentions p && inside s.mentions a
kind_fits s q (kind.ArrayExpression a) = inside s.mentions a
kind_fits s q kind.LoadGlobal = true

abbrev pub instruction_fits : Sizes → (ℕ → ℕ → Bool) → Instruction → Bool
instruction_fits s q i =
    lvalues_fit q s.mentions i.lvalues && (operands_fit q s.mentions i.operands && kind_fits s q i.value)

abbrev pub mention_fits : Sizes → Mention → Bool
mention_fits s (mention.Place p) = nat_lt p.value s.values
mention_fits s (mention.Spread p) = nat_lt p.value s.values
mention_fits s mention.Hole = true

-- the lists that follow each other: of functions their blocks, of blocks their
-- phis and their instructions
abbrev pub blocks_of : Meaning → ℕ → Run
blocks_of m f = run_in (λ (x : Function). x.blocks) m.functions f

abbrev pub phis_of : Meaning → ℕ → Run
phis_of m b = run_in (λ (x : Block). x.phis) m.blocks b

abbrev pub instructions_of : Meaning → ℕ → Run
instructions_of m b = run_in (λ (x : Block). x.instructions) m.blocks b

abbrev pub function_follows : Meaning → ℕ → Bool
function_follows m n = follows (blocks_of m) n

-- a block that a function's list reaches, with lists that follow
abbrev pub block_follows : Meaning → ℕ → Bool
block_follows m n =
    nat_lt n (starts_at (blocks_of m) (length m.functions)) && (follows (phis_of m) n && follows (instructions_of m) n)

-- the same of a record and the one before it
abbrev pub function_behind : Option Function → Option Function → Bool
function_behind p f = starts_behind (run_of (λ (x : Function). x.blocks) p) (run_of (λ (x : Function). x.blocks) f)

abbrev pub block_behind : Option Block → Option Block → Bool
block_behind p b =
    starts_behind (run_of (λ (x : Block). x.phis) p) (run_of (λ (x : Block). x.phis) b)
    && starts_behind (run_of (λ (x : Block). x.instructions) p) (run_of (λ (x : Block). x.instructions) b)

-- the function of a function expression
abbrev pub body_in : InstructionValue → Option ℕ
body_in kind.Other = None
body_in (kind.LoadLocal p) = None
body_in (kind.FunctionExpression f) = Some f
body_in (kind.CallExpression p a) = None
body_in (kind.MethodCall p a) = None
body_in (kind.ArrayExpression a) = None
body_in kind.LoadGlobal = None

abbrev pub body_from : Option Instruction → Option ℕ
body_from None = None
body_from (Some i) = body_in i.value

-- the function of instruction i, if it is a function expression
abbrev pub body_of : Meaning → ℕ → Option ℕ
body_of m i = body_from (slice_get m.instructions i)

abbrev pub is_body : ℕ → Option ℕ → Bool
is_body f None = false
is_body f (Some g) = g == f

-- f is the body of an instruction before i
abbrev pub taken_before : Meaning → ℕ → ℕ → Bool
taken_before m i f = any_below (λ k. is_body f (body_of m k)) i

-- a body is not function 0, and no earlier instruction's
abbrev pub body_free : (ℕ → Bool) → Option ℕ → Bool
body_free taken None = true
body_free taken (Some f) = not (f == 0) && not (taken f)

-- a row of functions that are taken, with one body more
abbrev pub noted : List Bool → Option ℕ → List Bool
noted taken None = taken
noted taken (Some f) = slice_set taken f true

-- an instruction that a block's list reaches, whose function is free
abbrev pub instruction_follows : Meaning → ℕ → Bool
instruction_follows m n =
    nat_lt n (starts_at (instructions_of m) (length m.blocks)) && body_free (taken_before m n) (body_of m n)

-- bytes that are equal
abbrev pub alike : List ℕ → List ℕ → Bool
alike [] [] = true
alike [] (y ∷ ys) = false
alike (x ∷ xs) [] = false
alike (x ∷ xs) (y ∷ ys) = x == y && alike xs ys

abbrev pub name_at : List (List ℕ) → ℕ → List ℕ
name_at ns n = slice_index_or ns n []

-- 1 to 64 bytes
abbrev pub length_fits : ℕ → Bool
length_fits n = nat_lt 0 n && nat_le n 64

-- name n is like an earlier one: each pair compared
abbrev pub repeated : List (List ℕ) → ℕ → Bool
repeated ns n = any_below (λ k. alike (name_at ns k) (name_at ns n)) n

abbrev pub name_stands : List (List ℕ) → ℕ → Bool
name_stands ns n = length_fits (length (name_at ns n)) && not (repeated ns n)
