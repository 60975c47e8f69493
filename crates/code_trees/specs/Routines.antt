-- What a procedure is to the translation, by what the code keeps of it.
use Rattle.mesa_types.specs.Plain.{kinds_of}
use Rattle.mesa_types.specs.Typed.{Kinds}
use Rattle.mesa_types.specs.Shapes.{join}
use Rattle.code_rules.specs.Reading.{Coded}
use Rattle.code_blocks.specs.Translation.{without_code}
use Rattle.code_trees.specs.declared.layout.Layout.{Layout}
use Rattle.code_trees.specs.declared.routine.Routine.{Routine}

-- its variables
abbrev pub kinds_laid : Layout → Kinds
kinds_laid l = join (kinds_of l.first.now) (join (kinds_of l.second.now) (kinds_of l.third.now))

abbrev pub coded : Routine → Coded
coded r = without_code r.links.imports.now (kinds_laid r.globals) (kinds_laid r.locals)
