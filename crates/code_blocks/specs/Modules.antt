-- The code of a procedure, and that of a module (rule of this project).
use Rattle.std.specs.Prelude.{ℕ, ◌+◌, List, [], ◌∷◌, map, max}
use Rattle.mesa_types.specs.Typed.{Procedure, Module}
use Rattle.mesa_types.specs.Shapes.{words_in_all, join}
use Rattle.mesa_types.specs.Counts.{hidden}
use Rattle.mesa_types.specs.Links.{links_of}
use Rattle.mesa_types.specs.Plain.{kinds_of}
use Rattle.code_forms.specs.declared.module_code.CodeEntry.{CodeEntry}
use Rattle.code_forms.specs.declared.module_code.CodeLink.{CodeLink}
use Rattle.code_forms.specs.declared.module_code.CodeProcedure.{CodeProcedure}
use Rattle.code_forms.specs.declared.module_code.CodeSignal.{CodeSignal}
use Rattle.code_rules.specs.Modules.{words_of_fields, signal_code, link_code, procedures_of}
use Rattle.code_rules.specs.Reading.{Coded, scratch}
use Rattle.code_blocks.specs.Blocks.{Block}
use Rattle.code_blocks.specs.Translation.{without_code, block}
use Rattle.code_blocks.specs.Regions.{Written, written}

-- a procedure of a module, its code not yet said
abbrev pub uncoded : Module → Procedure → Coded
uncoded m p = without_code m.imports m.globals (join (kinds_of p.head.takes) (join (kinds_of p.head.gives) p.body.variables))

-- the block of its body: behind the variables lie 16 scratch words, then the hidden words
abbrev pub body_block : Module → Procedure → Block
body_block m p = block (uncoded m p) (scratch (uncoded m p) + 16) p.body.does

-- the most words before an instruction
abbrev pub deepest : List CodeEntry → ℕ
deepest [] = 0
deepest (e ∷ es) = max e.depth (deepest es)

abbrev pub procedure_of : Module → Procedure → Written → CodeProcedure
procedure_of m p w = record {
  name = p.head.name;
  args = words_of_fields p.head.takes;
  results = words_of_fields p.head.gives;
  frame = scratch (uncoded m p) + 16 + hidden p.body.does;
  depth = deepest w.code;
  code = w.code;
  phrases = w.done;
}

abbrev pub procedure_code : Module → Procedure → CodeProcedure
procedure_code m p = procedure_of m p (written (body_block m p))

-- the parts of a module's code
pub record Parts : Type 0 where
  pub name : List ℕ
  pub globals : ℕ
  pub signals : List CodeSignal
  pub strings : List (List ℕ)
  pub links : List CodeLink
  pub procedures : List CodeProcedure

abbrev pub module_code : Module → Parts
module_code m = record {
  name = m.name;
  globals = words_in_all m.globals;
  signals = map signal_code m.signals;
  strings = m.strings;
  links = map link_code (links_of m.imports);
  procedures = map (procedure_code m) (procedures_of m);
}
