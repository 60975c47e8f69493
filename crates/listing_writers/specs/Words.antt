-- The words of a line.
use Rattle.std.specs.Prelude.{ℕ, List, ◌++◌, length, codes, decimal}
use Rattle.code_forms.specs.Instructions.{name_of}
use Rattle.line_pieces.specs.Texts.{path_text, stamp_text}
use Rattle.listing_rules.specs.Code.{signal_word, labels_text}
use Rattle.listing_rules.specs.Images.{path_at}
use Rattle.listing_rules.specs.Lines.{offset_text}
use Rattle.listing_rules.specs.Objects.{item_name}
use Rattle.listing_rules.specs.Types.{type_text, value_text, fields_text}
use Rattle.listing_writers.specs.declared.lines.Word.{Word}
use Rattle.listing_writers.specs.declared.lines.Word.TheVariants as w

abbrev pub text_of : Word → List ℕ
text_of (w.Text text) = text.now
text_of (w.Name name) = name.now
text_of (w.Number n) = decimal n
text_of (w.Offset offset) = offset_text offset
text_of (w.Stamp stamp) = stamp_text stamp.now
text_of (w.Type t) = type_text t.now
text_of (w.Fields fields) = fields_text fields.now
text_of (w.ValueOf constant) = value_text constant.now.kind constant.now.value
text_of (w.ItemAt items n) = item_name items.now n
text_of (w.ItemOf wanted) = wanted.now.face ++ (codes "." ++ wanted.now.item.name)
text_of (w.Operation instruction) = name_of instruction
text_of (w.SignalKind kind) = signal_word kind
text_of (w.LengthOf string) = decimal (length string.now)
text_of (w.Labels labels) = labels_text labels.now
text_of (w.Path path) = path_text path.now
text_of (w.PathAt instances n) = path_at instances.now n

-- a word behind another
abbrev pub after_blank : Word → List ℕ
after_blank word = codes " " ++ text_of word
