-- A procedure of the code, from what is written of its body: `procedure_of` of `code_blocks`, with its sizes as numbers.
use Rattle.std.specs.Prelude.{ℕ, ◌+◌, List}
use Rattle.mesa_types.specs.Typed.{Module, Procedure}
use Rattle.mesa_types.specs.Counts.{hidden}
use Rattle.code_forms.specs.declared.module_code.CodeProcedure.{CodeProcedure}
use Rattle.code_rules.specs.Modules.{words_of_fields}
use Rattle.code_rules.specs.Reading.{scratch}
use Rattle.code_writer.specs.declared.procedure.FrameWords.{FrameWords}
use Rattle.code_blocks.specs.Modules.{deepest, uncoded}
use Rattle.code_blocks.specs.Regions.{Written}

abbrev pub procedure_from : (name : List ℕ) → FrameWords → Written → CodeProcedure
procedure_from name words w = record {
  name = name;
  args = words.args;
  results = words.results;
  frame = words.frame;
  depth = deepest w.code;
  code = w.code;
  phrases = w.done;
}

-- the words of a procedure of a module: behind its variables lie 16 scratch words, then the hidden words
abbrev pub words_of : Module → Procedure → FrameWords
words_of m p = record {
  args = words_of_fields p.head.takes;
  results = words_of_fields p.head.gives;
  frame = scratch (uncoded m p) + 16 + hidden p.body.does;
}
