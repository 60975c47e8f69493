-- Where a construct runs: on the topmost activation, in a frame with a chain of the meaning, in a scope of the source and in the code.
use Rattle.std.specs.Prelude.{◌≡◌, ℕ, ◌+◌, ◌≤◌, List, ◌++◌, true, Some}
use Rattle.mesa_types.specs.Sound.{Scope}
use Rattle.code_forms.specs.declared.module_code.Phrase.{Phrase}
use Rattle.signaller.specs.Laws.{outer}
use Rattle.source_meaning.specs.Variables.{Where}
use Rattle.code_rules.specs.Points.{Points}
use Rattle.code_rules.specs.Reading.{Coded, Destination, Place}
use Rattle.agreement_laws.specs.World.{World, CodeOf, ScopeIn}
use Rattle.agreement_laws.specs.Standing.{frame_at, table_of, region_of, LiesIn, Nested}
use Rattle.agreement_laws.specs.Relation.{Ground, heres, top, own}
use Rattle.agreement_laws.specs.Chains.{Dictionary, Targets, Finds, Fresh, HoldsStanding, Floor, Room, Asks}

-- what stands; the procedure with its code, the scope, and where the meaning runs; the points, and the floor of hidden words
pub record Site : Type 0 where
  pub ground : Ground
  pub code : Coded
  pub scope : Scope
  pub meant : Where
  pub points : Dictionary
  pub floor : Floor

abbrev pub table : World → Ground → List Phrase
table W G = table_of W G.here.procedure

-- the phrases to ask for a raise where these are around in the region
abbrev pub asked_from : World → Ground → (around : List ℕ) → List ℕ
asked_from W G around = around ++ outer true (table W G) (region_of G.here.part)

-- it is all in order there: with these points, these phrases around, and the hidden words from one slot to another
pub record Context (W : World) (K : Site) (points : Points Destination) (around : List ℕ) (from to : ℕ) : Type 0 where
  pub code_of : CodeOf W K.ground.here.procedure K.code
  pub scope_in : ScopeIn W K.ground.here.procedure K.scope
  pub instance : K.ground.here.procedure.instance ≡ K.meant.instance
  pub is_frame : frame_at (heres K.ground) (own K.ground) ≡ Some (record { number = K.meant.frame; procedure = K.ground.here.procedure })
  pub nested : Nested W (heres K.ground)
  pub fresh : Fresh K.points K.meant.frame K.scope
  pub targets : Targets W (heres K.ground) K.points
  pub finds : Finds K.points K.meant.frame (own K.ground) (top K.ground) points
  pub chain : Asks W K.ground.here K.ground.below K.ground.hold K.points K.floor (top K.ground) (asked_from W K.ground around) K.meant.chain
  pub room : Room W K.ground.here.procedure (heres K.ground) K.ground.hold K.floor K.meant.frame from to
  pub holds : HoldsStanding (heres K.ground) K.ground.hold

-- for code at a place that takes so many hidden words
abbrev pub InPlace : World → Site → Place → (words : ℕ) → Type 0
InPlace W K w words = Context W K w.points w.around w.slot (w.slot + words)

-- the offsets from a to b, both of them, lie in the region of the topmost activation
abbrev pub Inside : World → Ground → (a b : ℕ) → Type 0
Inside W G a b = (o : ℕ) → a ≤ o → o ≤ b → LiesIn (table W G) G.here.part o
