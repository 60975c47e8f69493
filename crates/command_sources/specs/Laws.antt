-- What is so of the modules and the interfaces that come of files (rule of this project).
use Rattle.std.specs.Prelude.{◌≡◌, ℕ, List, length, All, Option}
use Rattle.mesa_base.specs.Outside.{Files}
use Rattle.mesa_types.specs.Typed.{Module}
use Rattle.interface_records.specs.Spelled.{InSixBytes}
use Rattle.interface_records.specs.declared.interface.Interface.{Interface}
use Rattle.face_rules.specs.InterfaceForms as form
use Rattle.config_rules.specs.declared.tree.Component.{Component}
use Rattle.command_passes.specs.checked_texts.specs.Laws.{CanBeKept}
use Rattle.command_passes.specs.command_rules.specs.Configurations.{component_in}
use Rattle.command_passes.specs.command_rules.specs.Modules.{interface_in, module_in}
use Rattle.command_passes.specs.command_rules.specs.Passes.{Has, Trail, each}

-- there is one for each component, and each can be kept
pub record CanBeKeptAll (components : List Component) (modules : List Module) : Type 0 where
  pub as_many : length modules ≡ length components
  pub kept : All CanBeKept modules

pub record ModulesOfFilesCanBeKept : Type 0 where
  pub one : (file : List ℕ) (files : Option Files) (trail : Trail) (m : Module) → (module_in file).comes files trail (Has m) → CanBeKept m
  pub all : (components : List Component) (files : Option Files) (trail : Trail) (modules : List Module)
      → (each component_in components).comes files trail (Has modules) → CanBeKeptAll components modules

-- version 2 of files can spell the interface of definitions
abbrev pub DefinitionsCanBeWritten : Type 0
DefinitionsCanBeWritten = (file : List ℕ) (stamp : ℕ) (files : Option Files) (trail : Trail) (i : Interface) → InSixBytes stamp
    → (interface_in file stamp).comes files trail (Has i) → (form.interface 2).fits i
