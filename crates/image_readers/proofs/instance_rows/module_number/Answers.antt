use Rattle.std.proofs.Common.{ℕ, sym, subst, ◌∙◌}
use Rattle.std.proofs.lemmas.List.{length-map}
use Rattle.file_forms.specs.Reads.{Reads}
use Rattle.object_readers.specs.Rows.{module_part}
use Rattle.object_rules.specs.Numbers.{number_where, is_below}
use Rattle.image_readers.proofs.instance_rows.module_number.Goals as goal

pub returns : goal.returns
returns c =
    subst (λ (n : ℕ). Reads ((number_where 4 (is_below n)).read c.args.input.now.rest.now) c.number_below.result c.number_below.new.input.rest.now)
    (c.len.ensures ∙ sym (length-map c.args.modules.now module_part)) c.number_below.ensures
