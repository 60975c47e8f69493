-- Which programs are lawful: their modules are sound, each used item stands for one of its own kind and types, and each
-- instance that is to be started is there (rule of this project).
use Rattle.std.specs.Prelude.{◌≡◌, ℕ, ◌<◌, List, [], ◌∷◌, length, All, Some, slice_get}
use Rattle.mesa_types.specs.Links.{imported, IsUsed}
use Rattle.mesa_types.specs.Sound.{IsGiven, Sound}
use Rattle.mesa_types.specs.Types.{types_in}
use Rattle.mesa_types.specs.declared.types.TypeTree.{TypeTree}
use Rattle.mesa_types.specs.declared.types.TypeTree.TheVariants.{Integer, Boolean, Character, String}
use Rattle.mesa_types.specs.declared.faces.ItemKind.TheVariants as kind
use Rattle.mesa_types.specs.declared.faces.Item.{Item}
use Rattle.source_meaning.specs.Program.{Host, WriteChar, WriteString, WriteDecimal, ReadChar, EndOfInput, SignalOf, BoundsFault, ZeroDivisor, NoInput, Unnamed, Target, ToProcedure, ToHost, ToSignal, Instance, Program}

-- what a procedure of the host takes and gives
unfoldable pub host_takes : Host → List TypeTree
host_takes WriteChar = Character ∷ []
host_takes WriteString = String ∷ []
host_takes WriteDecimal = Integer ∷ []
host_takes ReadChar = []
host_takes EndOfInput = []

unfoldable pub host_gives : Host → List TypeTree
host_gives WriteChar = []
host_gives WriteString = []
host_gives WriteDecimal = []
host_gives ReadChar = Character ∷ []
host_gives EndOfInput = Boolean ∷ []

-- what instance j gives under a number for an item: a procedure, signal or error of its kind, with its types
pub record Supplies (P : Program) (j number : ℕ) (wanted : Item) : Type 0 where
  pub instance : Instance
  pub given : Item
  pub is_there : slice_get P.instances j ≡ Some instance
  pub is_given : IsGiven instance.code wanted.kind number given
  pub takes : types_in given.takes ≡ types_in wanted.takes
  pub gives : types_in given.gives ≡ types_in wanted.gives

-- the target is of the item's own kind and types
unfoldable pub StandsFor : Program → Target → Item → Type 0
StandsFor P (ToProcedure j q) i = (i.kind ≡ kind.Procedure) × Supplies P j q i
StandsFor P (ToHost h) i = (i.kind ≡ kind.Procedure) × (types_in i.takes ≡ host_takes h) × (types_in i.gives ≡ host_gives h)
StandsFor P (ToSignal (SignalOf j n)) i = ((i.kind ≡ kind.Procedure) → ⊥) × Supplies P j n i
StandsFor P (ToSignal NoInput) i = (i.kind ≡ kind.Error) × (types_in i.takes ≡ []) × (types_in i.gives ≡ [])
StandsFor P (ToSignal BoundsFault) i = ⊥
StandsFor P (ToSignal ZeroDivisor) i = ⊥
StandsFor P (ToSignal Unnamed) i = ⊥

pub record LawfulInstance (P : Program) (m : Instance) : Type 0 where
  pub sound : Sound m.code
  pub links : (k n : ℕ) (i : Item) → imported m.code.imports k n ≡ Some i → IsUsed m.code.imports k n → StandsFor P (m.links k n) i

pub record Lawful (P : Program) : Type 0 where
  pub instances : All (LawfulInstance P) P.instances
  pub control : All (λ j. j < length P.instances) P.control
