-- The law of the code of a module.
use Rattle.std.specs.Prelude.{◌≡◌, ℕ, ◌*◌, ◌<◌, ◌≤◌, List, length, take, All, Some, slice_get}
use Rattle.mesa_base.specs.declared.limits.TheConstants.{TREE_NODES}
use Rattle.mesa_types.specs.Typed.{Module}
use Rattle.mesa_types.specs.Nodes.{nodes}
use Rattle.mesa_types.specs.Sound.{Sound}
use Rattle.code_forms.specs.declared.instruction.Instruction.{Instruction}
use Rattle.code_forms.specs.declared.instruction.Instruction.TheVariants.{JumpIf, JumpIfNot, JumpBack}
use Rattle.code_forms.specs.declared.module_code.Arm.{Arm}
use Rattle.code_forms.specs.declared.module_code.CodeEntry.{CodeEntry}
use Rattle.code_forms.specs.declared.module_code.CodeProcedure.{CodeProcedure}
use Rattle.code_forms.specs.declared.module_code.Phrase.{Phrase}
use Rattle.code_forms.specs.declared.region.Region.TheVariants.{Body, ArmOf}
use Rattle.code_forms.specs.Jumps.{JumpsRightly}
use Rattle.code_forms.specs.Phrases.{EndsWithCode, Nests, PhrasesFill, RegionsFollow, first_start}
use Rattle.code_forms.specs.Regions.{region_at}
use Rattle.code_forms.specs.Depths.{StackIsRight, DepthsAreSettled}
use Rattle.code_forms.specs.Operands.{OperandsAreRight}
use Rattle.code_forms.specs.Routine.{Routine, routine_with, spot_of, spots}
use Rattle.code_forms.specs.Ranges.{KeepsRanges, InOrder}
use Rattle.code_forms.specs.Valid.{AreValid, HaveDepths}
use Rattle.code_rules.specs.Modules.{PartsFor}
use Rattle.code_blocks.specs.Modules.{Parts, module_code}
use Rattle.code_blocks.specs.Weights.{procedures_bytes}

-- the code of each sound module stands for it
abbrev pub ModulesAreCoded : Type 0
ModulesAreCoded = (m : Module) → Sound m
    → let c : Parts = module_code m in PartsFor m c.name c.globals c.signals c.strings c.links c.procedures

-- its code and its phrases have at most 32 bytes for each node
abbrev pub ModulesAreShort : Type 0
ModulesAreShort = (m : Module) → Sound m → procedures_bytes (module_code m).procedures ≤ 32 * nodes m

-- the instructions of each procedure of a sound module of at most so many nodes stand in order, one behind the other and within 32 bits
abbrev pub ModulesAreInOrder : Type 0
ModulesAreInOrder = (m : Module) → Sound m → nodes m ≤ TREE_NODES → All (λ (c : CodeProcedure). InOrder c.code) (module_code m).procedures

-- no range is empty; phrases stand in the order of their ranges, and two ranges lie one behind the other, or the later one in the other
pub record RangesNest (phrases : List Phrase) : Type 0 where
  pub filled : (k : ℕ) (p : Phrase) → slice_get phrases k ≡ Some p → p.from < p.to
  pub listed : (j k : ℕ) (q p : Phrase) → j < k → slice_get phrases j ≡ Some q → slice_get phrases k ≡ Some p → q.from ≤ p.from
  pub nests : (j k : ℕ) (q p : Phrase) → j < k → slice_get phrases j ≡ Some q → slice_get phrases k ≡ Some p → Nests p q

-- so it is with the phrases of each procedure, also where a module is not sound
abbrev pub PhrasesNest : Type 0
PhrasesNest = (m : Module) → All (λ (c : CodeProcedure). RangesNest c.phrases) (module_code m).procedures

-- each phrase's first region begins where the region before it ends, the first phrase's behind the body's; and the last one ends with the code
pub record RegionsFill (c : CodeProcedure) : Type 0 where
  pub follow : (n : ℕ) (p : Phrase) → slice_get c.phrases n ≡ Some p → RegionsFollow (take n c.phrases) (first_start p.arms)
  pub filled : EndsWithCode (spots c.code) c.phrases

-- so it is in each procedure, also where a module is not sound
abbrev pub RegionsFillTheCode : Type 0
RegionsFillTheCode = (m : Module) → All RegionsFill (module_code m).procedures

-- the phrases of each procedure are right, and the regions of their arms fill its code, also where the module is not sound
abbrev pub PhrasesStand : Type 0
PhrasesStand = (m : Module) → All (λ (c : CodeProcedure). PhrasesFill (spots c.code) c.phrases) (module_code m).procedures

-- each offset before the first arm is in the body's region, and each from an arm's beginning up to its end in that arm's
pub record RegionsTell (phrases : List Phrase) : Type 0 where
  pub body : (o : ℕ) → ((p : Phrase) → slice_get phrases 0 ≡ Some p → o < first_start p.arms) → region_at phrases o ≡ Body
  pub arms : (k j : ℕ) (p : Phrase) (a : Arm) (o : ℕ) → slice_get phrases k ≡ Some p → slice_get p.arms j ≡ Some a → a.start ≤ o → o < a.end
      → region_at phrases o ≡ ArmOf k j

-- so it is in each procedure, also where a module is not sound
abbrev pub RegionsAreTold : Type 0
RegionsAreTold = (m : Module) → All (λ (c : CodeProcedure). RegionsTell c.phrases) (module_code m).procedures

-- a conditional jump, or a jump back
abbrev pub JumpsInside : Instruction → Type 0
JumpsInside (JumpIf target) = Unit {0}
JumpsInside (JumpIfNot target) = Unit {0}
JumpsInside (JumpBack target) = Unit {0}
JumpsInside _ = ⊥

-- those of a procedure lead where they may: to an instruction of their region, forward or back
abbrev pub InsideJumpsRight : CodeProcedure → Type 0
InsideJumpsRight c = (r : Routine) → r.code ≡ spots c.code → r.phrases ≡ c.phrases → (k : ℕ) (e : CodeEntry) → slice_get c.code k ≡ Some e
    → JumpsInside e.instruction → JumpsRightly r e.at e.instruction

-- so it is in each procedure, also where a module is not sound
abbrev pub JumpsInsideAreRight : Type 0
JumpsInsideAreRight = (m : Module) → All InsideJumpsRight (module_code m).procedures

-- a procedure of a module's code, with what its code may name
abbrev pub routine_in : Parts → CodeProcedure → Routine
routine_in c p = routine_with c.globals (length c.strings) c.signals c.links c.procedures p

-- each jump leads where it may: a plain one forward and a jump back back in their region, a jump out of arms outward of them
abbrev pub JumpsRight : Routine → List CodeEntry → Type 0
JumpsRight r code = (k : ℕ) (e : CodeEntry) → slice_get code k ≡ Some e → JumpsRightly r e.at e.instruction

-- so it is in each procedure of a sound module
abbrev pub JumpsAreRight : Type 0
JumpsAreRight = (m : Module) → Sound m
    → let c : Parts = module_code m in All (λ (p : CodeProcedure). JumpsRight (routine_in c p) p.code) c.procedures

-- each instruction has operands in range and stands where it may, and so are the words of each arm
abbrev pub OperandsRight : Routine → List CodeEntry → Type 0
OperandsRight r code = (k : ℕ) (e : CodeEntry) → slice_get code k ≡ Some e → OperandsAreRight r (spot_of e)

-- so it is in each procedure of a sound module
abbrev pub OperandsAreInRange : Type 0
OperandsAreInRange = (m : Module) → Sound m
    → let c : Parts = module_code m in All (λ (p : CodeProcedure). OperandsRight (routine_in c p) p.code) c.procedures

-- the depths beside the instructions of a procedure are settled, and the rules on the operand stack hold with them
pub record StackStands (r : Routine) (code : List CodeEntry) : Type 0 where
  pub settled : DepthsAreSettled r code
  pub right : (k : ℕ) (e : CodeEntry) → slice_get code k ≡ Some e → StackIsRight r k (spot_of e) e.depth

-- so it is in each procedure of a sound module
abbrev pub StacksStand : Type 0
StacksStand = (m : Module) → Sound m
    → let c : Parts = module_code m in All (λ (p : CodeProcedure). StackStands (routine_in c p) p.code) c.procedures

-- the code of each sound module of at most so many nodes keeps the counts and sizes that the code of each module keeps, valid or not
abbrev pub RangesAreKept : Type 0
RangesAreKept = (m : Module) → Sound m → nodes m ≤ TREE_NODES
    → let c : Parts = module_code m in KeepsRanges c.globals c.signals c.strings c.links c.procedures

-- these parts of a code stand for the module, are valid with the depths beside the instructions, and are no longer than a file asks
pub record StandFor (m : Module) (c : Parts) : Type 0 where
  pub code_for : PartsFor m c.name c.globals c.signals c.strings c.links c.procedures
  pub ranges : KeepsRanges c.globals c.signals c.strings c.links c.procedures
  pub valid : AreValid c.globals (length c.strings) c.signals c.links c.procedures (length c.procedures)
  pub depths : HaveDepths c.globals (length c.strings) c.signals c.links c.procedures (length c.procedures)
  pub small : procedures_bytes c.procedures ≤ 32 * nodes m

-- the code of each sound module of at most so many nodes stands for it
abbrev pub ModulesAreTranslated : Type 0
ModulesAreTranslated = (m : Module) → Sound m → nodes m ≤ TREE_NODES → StandFor m (module_code m)
