-- Two values' numbers exchanged: in the value table, and wherever else a value's
-- number stands.
use Rattle.std.specs.Prelude.{ℕ, ◌<◌, cond, List, [], ◌∷◌, map, Some, None, Option, ◌==◌}
use Rattle.std.specs.List.{swap as exchanged}
use Rattle.component.specs.declared.records.Value.{Value}
use Rattle.component.specs.declared.records.Block.{Block}
use Rattle.component.specs.declared.records.Phi.{Phi}
use Rattle.component.specs.declared.records.Place.{Place}
use Rattle.component.specs.declared.records.Mention.{Mention}
use Rattle.component.specs.declared.records.Mention.TheVariants as mention
use Rattle.component.specs.Meaning.{Meaning}

-- the number that v has once a and b are exchanged
abbrev pub swap : ℕ → ℕ → ℕ → ℕ
swap a b v = cond (v == a) b (cond (v == b) a v)

-- a record with f of each value's number in it
abbrev pub place_to : (ℕ → ℕ) → Place → Place
place_to f p = record { value = f p.value; effect = p.effect; span = p.span }

abbrev pub mention_to : (ℕ → ℕ) → Mention → Mention
mention_to f (mention.Place p) = mention.Place (place_to f p)
mention_to f (mention.Spread p) = mention.Spread (place_to f p)
mention_to f mention.Hole = mention.Hole

abbrev pub returned_to : (ℕ → ℕ) → Option ℕ → Option ℕ
returned_to f None = None
returned_to f (Some v) = Some (f v)

abbrev pub block_to : (ℕ → ℕ) → Block → Block
block_to f b =
    record { id = b.id; predecessors = b.predecessors; phis = b.phis; instructions = b.instructions; returned = returned_to f b.returned }

abbrev pub phi_to : (ℕ → ℕ) → Phi → Phi
phi_to f p = record { value = f p.value; operands = p.operands }

-- a component with vs for its values and f of each value's number
abbrev pub renumber : (ℕ → ℕ) → List Value → Meaning → Meaning
renumber f vs m = record {
  kind = m.kind;
  names = m.names;
  values = vs;
  functions = m.functions;
  blocks = map (block_to f) m.blocks;
  predecessors = m.predecessors;
  phis = map (phi_to f) m.phis;
  instructions = m.instructions;
  mentions = map (mention_to f) m.mentions;
}

abbrev pub exchange : ℕ → ℕ → Meaning → Meaning
exchange a b m = renumber (swap a b) (exchanged m.values a b) m

pub record Exchange : Type 0 where
  pub one : ℕ
  pub other : ℕ

-- one exchange after the other
abbrev pub exchanges : List Exchange → Meaning → Meaning
exchanges [] m = m
exchanges (x ∷ xs) m = exchanges xs (exchange x.one x.other m)

-- each exchange is of two of n values
abbrev pub ExchangesOf : ℕ → List Exchange → Type 0
ExchangesOf n [] = Unit {0}
ExchangesOf n (x ∷ xs) = (x.one < n) × (x.other < n) × ExchangesOf n xs
