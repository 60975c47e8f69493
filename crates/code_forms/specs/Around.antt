-- What the code of a procedure may name, and the procedure with some code (rule of this project).
use Rattle.std.specs.Prelude.{List, map}
use Rattle.code_forms.specs.declared.around.Around.{Around}
use Rattle.code_forms.specs.Routine as r

abbrev pub routine_around : Around → List r.Spot → r.Routine
routine_around a code = record {
  globals = a.globals;
  strings = a.strings;
  signals = a.signals.now;
  links = a.links.now;
  procedures = map r.words_of a.procedures.now;
  frame = a.frame;
  room = a.room;
  code = code;
  phrases = a.phrases.now;
}
