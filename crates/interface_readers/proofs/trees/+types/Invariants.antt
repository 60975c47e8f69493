use Rattle.std.proofs.Common.{◌≡◌, ◌-◌, ◌+◌, ◌*◌, []}
use Rattle.file_forms.specs.Forms.{read_each}
use Rattle.file_forms.specs.Seen.{Shows}
use Rattle.face_rules.specs.TypeForms.{any, labels, field_form, type_form}
use Rattle.interface_readers.proofs.trees.+types.Given as goal

-- inside a type fewer may stand in one another; at one level the calls go down this list
abbrev pub decreases-typed : goal.decreases-typed
decreases-typed l = l.levels * 7 + 6

abbrev pub decreases-tagged : goal.decreases-tagged
decreases-tagged l = l.levels * 7 + 5

abbrev pub decreases-subrange : goal.decreases-subrange
decreases-subrange l = l.levels * 7 + 4

abbrev pub decreases-array : goal.decreases-array
decreases-array l = l.levels * 7 + 4

abbrev pub decreases-record : goal.decreases-record
decreases-record l = l.levels * 7 + 4

abbrev pub decreases-fields : goal.decreases-fields
decreases-fields l = l.levels * 7 + 3

abbrev pub decreases-each_field : goal.decreases-each_field
decreases-each_field l = l.levels * 7 + 2

abbrev pub decreases-field : goal.decreases-field
decreases-field l = l.levels * 7 + 1

abbrev pub decreases-type_tree : goal.decreases-type_tree
decreases-type_tree l = l.levels * 7

abbrev pub invariant-each_field-fields : goal.invariant-each_field-fields
invariant-each_field-fields l = record {
  reads : read_each (field_form (type_form l.version l.levels any)) (l.count - l.counter) l.all l.input.rest.now ≡ read_each (field_form (type_form l.version l.levels any)) l.count [] l.fn.input.rest.now;
  shows : Shows l.seen (labels l.all);
}
