use Rattle.std.proofs.Common.{◌≡◌, ◌-◌, []}
use Rattle.file_forms.specs.Forms.{read_each}
use Rattle.file_forms.specs.Names.{fresh_name}
use Rattle.file_forms.specs.Seen.{Shows}
use Rattle.file_forms.proofs.cursor.FileCursor.distinct_names.Given as goal

abbrev pub invariant-names : goal.invariant-names
invariant-names l = record {
  reads : read_each fresh_name (l.count - l.counter) l.all l.self.rest.now ≡ read_each fresh_name l.count [] l.fn.self.rest.now;
  shows : Shows l.seen l.all;
}
