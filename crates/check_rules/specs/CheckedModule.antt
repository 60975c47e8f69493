-- Checked: what a text means as a typed module or as an interface, or its first fault, with its cause and place. The stamp
-- comes first, then the DIRECTORY, IMPORTS, EXPORTS and OPEN, then what stands in the module.
use Rattle.std.specs.Prelude.{ℕ, Bool, true, false, List, [], ◌∷◌, map, take, Option, Some, None, Ok}
use Rattle.mesa_base.specs.declared.limits.TheConstants.{DISTINCT_STRINGS}
use Rattle.check_rules.specs.Typed.{NoKinds}
use Rattle.syntax_trees.specs.Syntax as s
use Rattle.check_rules.specs.Typed as t
use Rattle.mesa_base.specs.declared.identifier.Identifier.{Identifier}
use Rattle.interface_records.specs.declared.interface.Interface.{Interface}
use Rattle.check_rules.specs.Scopes.{Scope, nothing}
use Rattle.check_rules.specs.Meanings.{Meaning}
use Rattle.check_rules.specs.Steps.{State, Checked, and_then, refuse}
use Rattle.check_rules.specs.Around.{Known, body_of}
use Rattle.check_rules.specs.Parts.{names_of}
use Rattle.check_rules.specs.Mentions.{of_kind, texts, origins}
use Rattle.check_rules.specs.Directory.{directory, listed, offered, opened, directory_scope, predeclared, names_in, those_of}
use Rattle.check_rules.specs.Programs.{ahead, Whole, program_body, outermost, signals_of, offers_of, exported, imported, unused}
use Rattle.check_rules.specs.Definitions as d
use Rattle.check_rules.specs.declared.fault.Cause.TheVariants.{StampMissing, StampUnwanted}
use Rattle.interface_records.specs.PlainTypes.{PlainInterface, item_of, interface_of, plain_interface}

abbrev pub known_of : s.Module → Option ℕ → Bool → List Identifier → List PlainInterface → Known
known_of m stamp is_program imports is = record {
  name = m.name.name;
  stamp = stamp;
  is_program = is_program;
  strings = texts [] (of_kind m.kind);
  origins = origins (of_kind m.kind);
  interfaces = offered imports m.directory is;
}

-- the module's names, then those of the DIRECTORY, the opened ones, and the predeclared ones
abbrev pub start : s.Module → Known → Scope Meaning → List Identifier → List (List Bool) → State
start m known ahead opens used = record {
  scopes = nothing ∷ ahead ∷ directory_scope 0 m.directory ∷ opened m.directory known.interfaces opens ∷ predeclared ∷ [];
  coming = nothing;
  used = used;
  globals = NoKinds;
  variables = NoKinds;
  hidden = 0;
  operands = 0;
}

abbrev pub lists : s.Module → List PlainInterface → List Identifier → List Identifier → List Identifier → Checked (Unit {0})
lists m is imports exports opens =
    and_then (directory [] m.directory is) (λ _.
    and_then (listed (names_of (names_in m.directory)) [] imports) (λ _.
    and_then (listed (names_of (names_in m.directory)) [] exports) (λ _.
    listed (names_of (names_in m.directory)) [] opens)))

abbrev pub module_of : s.Module → List PlainInterface → List Identifier → List Identifier → Whole × State → Checked t.Module
module_of m is imports exports r =
    and_then (exported (offers_of r.0.declared) (those_of m.directory is exports)) (λ es. Ok (record {
      name = m.name.name;
      imports = imported (those_of m.directory is imports) r.1.used;
      exports = es;
      globals = r.1.globals;
      signals = map item_of (signals_of r.0.declared);
      strings = take DISTINCT_STRINGS (texts [] (of_kind m.kind));
      procedures = r.0.procedures;
      body = r.0.body;
    }))

abbrev pub whole_in : s.Module → Known → List PlainInterface → List Identifier → List Identifier → s.Inner → Checked (Whole × State)
whole_in m known is imports opens inner =
    program_body known m.name.place inner (start m known (ahead inner.declarations) opens (unused (those_of m.directory is imports)))

abbrev pub whole_of : s.Module → List PlainInterface → List Identifier → List Identifier → s.Inner → Checked (Whole × State)
whole_of m is imports opens inner = whole_in m (known_of m None true imports is) is imports opens inner

abbrev pub program : s.Module → List PlainInterface → List Identifier → List Identifier → List Identifier → s.Inner → Checked t.Module
program m is imports exports opens inner =
    and_then (lists m is imports exports opens) (λ _. and_then (whole_of m is imports opens inner) (module_of m is imports exports))

abbrev pub defined_as : s.Module → ℕ → d.Defined → PlainInterface
defined_as m stamp x = record {
  name = m.name.name;
  stamp = stamp;
  items = x.items;
  constants = x.constants;
  types = x.types;
}

abbrev pub definitions : s.Module → ℕ → List PlainInterface → List Identifier → List s.Definition → Checked PlainInterface
definitions m stamp is opens defs =
    and_then (lists m is [] [] opens) (λ _.
    let known = known_of m (Some stamp) false [] is in
    and_then (d.all_defined (outermost (body_of known [] [])) defs (start m known (d.ahead defs) opens [])) (λ r. Ok (defined_as m stamp r.0)))

abbrev pub program_by : s.Module → List PlainInterface → s.ModuleKind → Checked t.Module
program_by m is (s.Program p imports exports opens inner) = program m is imports exports opens inner
program_by m is (s.Interface p opens defs) = refuse StampMissing p

abbrev pub interface_by : s.Module → ℕ → List PlainInterface → s.ModuleKind → Checked PlainInterface
interface_by m stamp is (s.Program p imports exports opens inner) = refuse StampUnwanted p
interface_by m stamp is (s.Interface p opens defs) = definitions m stamp is opens defs

-- a program with the interfaces of its DIRECTORY
unfoldable pub checked : s.Module → List Interface → Checked t.Module
checked m is = program_by m (map plain_interface is) m.kind

-- an interface under a stamp
unfoldable pub checked_definitions : s.Module → ℕ → List Interface → Checked Interface
checked_definitions m stamp is = and_then (interface_by m stamp (map plain_interface is) m.kind) (λ i. Ok (interface_of i))
