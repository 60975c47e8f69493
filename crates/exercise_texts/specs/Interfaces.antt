-- The two interfaces of the exercise: those of `step_defs_text` and `sig_defs_text` under their stamps (rule of this project).
use Rattle.std.specs.Prelude.{[], ◌∷◌, codes}
use Rattle.mesa_types.specs.declared.types.TypeTree.TheVariants.{Integer}
use Rattle.mesa_types.specs.declared.faces.Item.{Item}
use Rattle.mesa_types.specs.declared.faces.ItemKind.TheVariants.{Signal}
use Rattle.interface_records.specs.Faces.{parameter, unnamed, procedure}
use Rattle.interface_records.specs.declared.interface.Interface.{Interface}

-- Step: PROCEDURE [n: INTEGER] RETURNS [INTEGER]
abbrev pub step : Item
step = procedure (codes "Step") (parameter (codes "n") Integer) (unnamed Integer)

-- Odd: SIGNAL [n: INTEGER] RETURNS [INTEGER]
abbrev pub odd : Item
odd = record { kind = Signal; name = codes "Odd"; takes = parameter (codes "n") Integer; gives = unnamed Integer }

-- the stamp is 0000000000AA
abbrev pub step_defs : Interface
step_defs = record { face = record { name = codes "StepDefs"; stamp = 0xAA; items = step ∷ [] }; constants = []; types = [] }

-- the stamp is 0000000000AB
abbrev pub sig_defs : Interface
sig_defs = record { face = record { name = codes "SigDefs"; stamp = 0xAB; items = odd ∷ [] }; constants = []; types = [] }
