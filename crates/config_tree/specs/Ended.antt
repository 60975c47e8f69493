-- What comes of a template, once all statements were gone through.
use Rattle.std.specs.Prelude.{◌≡◌, List, Ok, Err, MatchResult}
use Rattle.mesa_types.specs.declared.faces.Shape.{Shape}
use Rattle.config_rules.specs.Template.{Template, parts_in}
use Rattle.config_rules.specs.Through.{Answer, ◌>>=◌, Module}
use Rattle.config_rules.specs.Grown.{grown}
use Rattle.config_rules.specs.Tree.{Agreed, modules_with, too_many, too_nested, unless_there}
use Rattle.config_rules.specs.declared.fault.TreeCause.TheVariants.{TooManyInstances, TooNested}
use Rattle.config_rules.specs.declared.tree.Component.{Component}
use Rattle.config_rules.specs.declared.tree.Tree.{Tree}

-- all but whether interfaces of one name and stamp are the same
abbrev pub ended : List Module → Template → Answer Tree
ended modules t =
    unless_there (too_nested (parts_in t)) TooNested >>= (λ _.
    unless_there (too_many 0 (parts_in t)) TooManyInstances >>= (λ _.
    Ok (grown modules t)))

abbrev pub IsEnded : List Component → List Shape → Template → Answer Tree → Type 0
IsEnded cs shapes t answer = MatchResult (ended (modules_with cs shapes) t) (λ tree. Agreed cs shapes tree answer) (λ fault. answer ≡ Err fault)
