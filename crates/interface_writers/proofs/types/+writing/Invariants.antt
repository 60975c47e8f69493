use Rattle.std.proofs.Common.{◌≡◌, ◌+◌, ◌*◌, [], take}
use Rattle.file_forms.specs.Forms.{spell_each}
use Rattle.file_forms.specs.Written.{appended}
use Rattle.face_rules.specs.TypeForms.{any, field_form, type_form}
use Rattle.interface_writers.proofs.types.+writing.Given as goal

abbrev pub decreases-put_withind : goal.decreases-put_withind
decreases-put_withind l = l.levels * 5 + 4

abbrev pub decreases-put_parts : goal.decreases-put_parts
decreases-put_parts l = l.levels * 5 + 3

abbrev pub decreases-put_subrange : goal.decreases-put_subrange
decreases-put_subrange l = l.levels * 5 + 2

abbrev pub decreases-put_array : goal.decreases-put_array
decreases-put_array l = l.levels * 5 + 2

abbrev pub decreases-put_record : goal.decreases-put_record
decreases-put_record l = l.levels * 5 + 2

abbrev pub decreases-put_each_field : goal.decreases-put_each_field
decreases-put_each_field l = l.levels * 5 + 1

abbrev pub decreases-put_within : goal.decreases-put_within
decreases-put_within l = l.levels * 5

abbrev pub invariant-put_each_field-fields : goal.invariant-put_each_field-fields
invariant-put_each_field-fields l = l.out ≡ appended l.fn.out (spell_each (field_form (type_form 2 l.levels any)) [] (take l.field-index l.fields))
