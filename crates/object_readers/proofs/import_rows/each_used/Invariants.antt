use Rattle.std.proofs.Common.{◌≡◌, ◌-◌, [], length}
use Rattle.file_forms.specs.Forms.{read_each}
use Rattle.object_rules.specs.ModuleForms.{is_next}
use Rattle.object_rules.specs.Numbers.{number_where, last_of}
use Rattle.object_readers.proofs.import_rows.each_used.Given as goal

abbrev pub invariant-numbers : goal.invariant-numbers
invariant-numbers l =
    read_each (λ before. number_where 4 (is_next (length l.items) (last_of before))) (l.count - l.counter) l.all l.input.rest.now ≡ read_each (λ before. number_where 4 (is_next (length l.items) (last_of before))) l.count [] l.fn.input.rest.now
