use Rattle.std.proofs.Common.{drop}
use Rattle.check_scopes.specs.Shows.{shows}
use Rattle.cmesa_grammar.specs.Plain.{statements}
use Rattle.config_templates.specs.Found.{modules_of}
use Rattle.config_templates.specs.Going.{Goes}
use Rattle.config_templates.proofs.going.+going.Given as goal

abbrev pub invariant-through-loop-one : goal.invariant-through-loop-one
invariant-through-loop-one l =
    Goes (modules_of l.modules) l.depth (shows l.initial.nested) l.initial.so_far (statements l.one-items) (shows l.nested) l.so_far (statements (drop l.one-index l.one-items))
