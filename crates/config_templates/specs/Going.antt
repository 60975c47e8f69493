-- Going on from a statement, after some were looked up.
use Rattle.std.specs.Prelude.{◌≡◌, ℕ, suc, is_some, List, [], map, not, reverse, Bool, true, false, Ok}
use Rattle.check_scopes.specs.Scopes.{has, innermost, outer}
use Rattle.cmesa_grammar.specs.Syntax.{Configuration, Statements}
use Rattle.cmesa_grammar.specs.declared.syntax.Heading.{Heading}
use Rattle.config_rules.specs.Components.{own_name as name_of}
use Rattle.config_rules.specs.Template.{Parts, exported, instance_names}
use Rattle.config_rules.specs.Through.{Answer, ◌>>=◌, Module, Nested, declare, statements, through, unless, each_name, each_control}
use Rattle.config_rules.specs.declared.fault.TreeCause.TheVariants.{TwiceNamed, RecordClash, UnknownRecord}
use Rattle.config_templates.specs.Known.{Knows}
use Rattle.config_templates.specs.Shown.{followed}
use Rattle.config_templates.specs.declared.template.TemplatePart.{TemplatePart}
use Rattle.config_templates.specs.declared.template.TemplatePart.TheVariants as part
use Rattle.config_templates.specs.declared.so_far.SoFar.{SoFar}

abbrev pub own_name : TemplatePart → List ℕ
own_name (part.Module p c) = p.name
own_name (part.Nested p t) = p.name

abbrev pub exports_of : TemplatePart → List (List ℕ)
exports_of (part.Module p c) = p.exports
exports_of (part.Nested p t) = p.exports

-- the names of the instances, the newest first
abbrev pub names_so_far : List TemplatePart → List (List ℕ)
names_so_far parts = reverse (map own_name parts)

abbrev pub IsNamed : SoFar → Type 0
IsNamed so_far = Knows so_far.names (names_so_far so_far.parts)

-- what the statements that are left come to, behind these parts
unfoldable pub gone_on : List Module → (depth : ℕ) → Nested → List TemplatePart → Statements → Answer Parts
gone_on modules depth nested parts left = statements modules depth nested (names_so_far parts) left >>= (λ ps. Ok (followed parts ps))

-- the nested configurations behind one that is declared
abbrev pub declared : List Module → (depth : ℕ) → Nested → Configuration → Answer Nested
declared modules depth nested c =
    unless (is_some (innermost nested (name_of c).name)) TwiceNamed (name_of c).place >>= (λ _.
    through modules (suc depth) nested c >>= (λ t.
    Ok (declare (name_of c).name t nested)))

-- from these statements the walk went to those that are left, with the parts and the nested configurations as they are then
pub record Goes (modules : List Module) (depth : ℕ) (nested : Nested) (old : SoFar) (all : Statements) (inner : Nested) (new : SoFar) (left : Statements) : Type 0 where
  pub named : IsNamed new
  pub same : gone_on modules depth nested old.parts all ≡ gone_on modules depth inner new.parts left
  pub around : outer inner ≡ outer nested

-- what the test says, or the contrary
abbrev pub if_same : Bool → Bool → Bool
if_same true b = b
if_same false b = not b

-- that a heading fits what stands under it
unfoldable pub fits : Heading → Parts → Answer (Unit {0})
fits h ps =
    each_name (λ r. has r (exported ps)) RecordClash [] h.imports >>= (λ _.
    each_name (λ r. not (has r (exported ps))) UnknownRecord [] h.exports >>= (λ _.
    each_control (instance_names ps) h.control))
