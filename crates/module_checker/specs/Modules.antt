-- The module of a program that is checked whole.
use Rattle.std.specs.Prelude.{ℕ, Bool, List, [], map, take, Ok}
use Rattle.mesa_base.specs.declared.identifier.Identifier.{Identifier}
use Rattle.mesa_base.specs.declared.limits.TheConstants.{DISTINCT_STRINGS}
use Rattle.syntax_trees.specs.Syntax as s
use Rattle.mesa_types.specs.declared.faces.Export.{Export}
use Rattle.mesa_types.specs.declared.faces.Import.{Import}
use Rattle.check_rules.specs.Typed as t
use Rattle.check_rules.specs.CheckedModule.{whole_of}
use Rattle.check_rules.specs.Directory.{those_of}
use Rattle.check_rules.specs.Mentions.{of_kind, texts}
use Rattle.interface_records.specs.PlainTypes.{PlainInterface, item_of}
use Rattle.check_rules.specs.Programs.{Offer, exported, imported}
use Rattle.check_rules.specs.Steps.{Checked, and_then}
use Rattle.check_programs.specs.Shown.{Shown, shown}

abbrev pub imports_of : s.Module → List PlainInterface → List Identifier → List (List Bool) → List Import
imports_of m is names used = imported (those_of m.directory is names) used

abbrev pub exports_of : s.Module → List PlainInterface → List Identifier → List Offer → Checked (List Export)
exports_of m is names offers = exported offers (those_of m.directory is names)

abbrev pub module_of : s.Module → List PlainInterface → List Identifier → List Identifier → List (List ℕ) → Shown → Checked t.Module
module_of m is imports exports strings x =
    and_then (exported x.offers (those_of m.directory is exports)) (λ es. Ok (record {
      name = m.name.name;
      imports = imported (those_of m.directory is imports) x.used;
      exports = es;
      globals = x.globals;
      signals = map item_of x.signals;
      strings = strings;
      procedures = x.procedures;
      body = x.body;
    }))

-- as many of its string literals as a module may have
abbrev pub kept_texts : s.Module → List (List ℕ)
kept_texts m = take DISTINCT_STRINGS (texts [] (of_kind m.kind))

-- a program checked whole, with the string literals that it keeps
abbrev pub read : s.Module → List PlainInterface → List Identifier → List Identifier → s.Inner → Checked (Shown × List (List ℕ))
read m is imports opens inner = and_then (shown (whole_of m is imports opens inner)) (λ x. Ok (x, kept_texts m))
