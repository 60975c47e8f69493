-- The laws of names in files.
use Rattle.std.proofs.Common.{ℕ, List, length}
use Rattle.std.specs.Prelude.{not}
use Rattle.mesa_base.specs.Name.{is_name}
use Rattle.mesa_base.specs.declared.file_fault.Field.TheVariants as field
use Rattle.file_forms.specs.Forms.{number, raw, ruled}
use Rattle.file_forms.specs.Names.{short_text, is_some_text, name, is_among, fresh_name}
use Rattle.file_forms.specs.Lawful.{Lawful}
use Rattle.file_forms.proofs.Fields.{number_law, raw_law}
use Rattle.file_forms.proofs.Pairs.{led_law}
use Rattle.file_forms.proofs.Made.{ruled_law}

pub short_text_law : Lawful short_text
unfolding short_text
short_text_law = led_law length (number 1) raw (number_law 1) (λ n fits. raw_law n) (λ n text few fits. fits.0)

pub name_law : Lawful name
unfolding name
name_law = ruled_law (ruled short_text is_some_text field.Length) is_name field.Name (ruled_law short_text is_some_text field.Length short_text_law)

pub fresh_name_law : (seen : List (List ℕ)) → Lawful (fresh_name seen)
unfolding fresh_name
fresh_name_law seen = ruled_law name (λ x. not (is_among seen x)) field.Twice name_law
