-- What is configured over files that are told is known.
use Rattle.std.proofs.Common.{ℕ, List, Some}
use Rattle.mesa_base.specs.Name.{IsName}
use Rattle.mesa_base.specs.Outside.{Files}
use Rattle.mesa_types.specs.Typed.{Module}
use Rattle.command_rules.specs.Configurations.{Configured, source_in}
use Rattle.command_rules.specs.Forms.{Source, module_file}
use Rattle.command_rules.specs.Passes.{Has, Trail}
use Rattle.command_sizes.specs.Grounds.{Grounds}
use Rattle.command_sizes.proofs.Configuring.{IsFrom, IsKnown, known}
use Rattle.command_sizes.proofs.Reading.{IsMade, made_so}

module _ (grounds : Grounds) where
  pub from_file : (files : Files) (base : List ℕ) (m : Module) → IsFrom files base m → IsMade files (module_file base) m
  from_file files base m came = made_so grounds.texts.fit grounds.texts.built_in files (module_file base) came.trail m came.comes

  named : (files : Files) (base : List ℕ) (m : Module) → IsFrom files base m → IsName m.name
  named files base m came = let x = from_file files base m came in (grounds.texts.kept x.text x.interfaces m x.read.spelled x.reads).shape.name

  pub knows : (source : Source) (base : List ℕ) (files : Files) (u : Trail) (c : Configured) → (source_in source base).comes (Some files) u (Has c) → IsKnown files c
  knows source base files u c comes = known grounds.trees files (named files) source base u c comes
