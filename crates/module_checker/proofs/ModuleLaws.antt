-- A program, as the code takes its steps.
use Rattle.std.proofs.Common.{◌≡◌, ℕ, List, map, Ok, Err, refl, ap, ◌∙◌}
use Rattle.mesa_base.specs.declared.identifier.Identifier.{Identifier}
use Rattle.mesa_base.specs.declared.place.Place.{Place}
use Rattle.syntax_trees.specs.PlainSyntax as plain
use Rattle.syntax_trees.specs.Syntax as s
use Rattle.syntax_trees.specs.declared.syntax.Inner.{Inner}
use Rattle.syntax_trees.specs.declared.syntax.Module.{Module}
use Rattle.syntax_trees.specs.declared.syntax.ModuleKind.{ModuleKind}
use Rattle.syntax_trees.specs.declared.syntax.ModuleKind.TheVariants.{Program}
use Rattle.interface_records.specs.declared.interface.Interface.{Interface}
use Rattle.check_rules.specs.Typed as t
use Rattle.check_rules.specs.CheckedModule as spec
use Rattle.check_rules.specs.CheckedModule.{checked}
use Rattle.interface_records.specs.PlainTypes.{PlainInterface, plain_interface}
use Rattle.check_rules.specs.Programs.{Whole}
use Rattle.check_rules.specs.Steps.{State, Checked, and_then}
use Rattle.check_programs.specs.Shown.{Shown, shown}
use Rattle.module_checker.specs.Modules.{kept_texts, module_of, read}

-- with the literals that the module keeps
abbrev with_texts : s.Module → Checked Shown → Checked (Shown × List (List ℕ))
with_texts m p = and_then p (λ x. Ok (x, kept_texts m))

module _ (m : s.Module) (is : List PlainInterface) (imports exports : List Identifier) where
  abbrev of_read : Checked (Shown × List (List ℕ)) → Checked t.Module
  of_read p = and_then p (λ r. module_of m is imports exports r.1 r.0)

  read_module : (p : Checked (Whole × State)) → and_then p (spec.module_of m is imports exports) ≡ of_read (with_texts m (shown p))
  read_module (Ok r) = refl
  read_module (Err e) = refl

  abbrev behind_lists : Checked t.Module → Checked (Unit {0}) → Checked t.Module
  behind_lists r p = and_then p (λ _. r)

  -- once its lists are in order and it is read
  pub program_is : (opens : List Identifier) (inner : s.Inner) (x : Shown) (strings : List (List ℕ)) → spec.lists m is imports exports opens ≡ Ok tt
      → read m is imports opens inner ≡ Ok (x, strings) → spec.program m is imports exports opens inner ≡ module_of m is imports exports strings x
  program_is opens inner x strings listed given =
      ap (behind_lists (and_then (spec.whole_of m is imports opens inner) (spec.module_of m is imports exports))) listed
      ∙ read_module (spec.whole_of m is imports opens inner)
      ∙ ap of_read given

-- what is checked of a program
pub checked_program : (x : Module) (is : List Interface) (p : Place) (imports exports opens : List Identifier) (inner : Inner)
    → x.kind ≡ Program p imports exports opens inner
    → checked (plain.syntax x) is ≡ spec.program (plain.syntax x) (map plain_interface is) imports exports opens (plain.inner inner)
unfolding checked
checked_program x is p imports exports opens inner e = ap (λ (k : ModuleKind). spec.program_by (plain.syntax x) (map plain_interface is) (plain.kind k)) e
