use Rattle.std.proofs.Common.{◌≡◌, ℕ, List, [], ◌∷◌, refl, sym, ap, ◌∙◌, arith, length, ◌≤◌}
use Rattle.file_forms.specs.Files.{versioned}
use Rattle.file_forms.proofs.FileLaws.{left_fits, fault_found, trailing_found, file_found, rest_fits, opening_found}
use Rattle.image_readers.specs.Rows.{image_part}
use Rattle.object_rules.specs.ImageForms.{image_form}
use Rattle.object_rules.proofs.ImageLaws.{image_law}
use Rattle.image_readers.proofs.reading.rows_in.Goals as goal

abbrev mim : List ℕ
mim = 77 ∷ 73 ∷ 77 ∷ []

empty : (xs : List ℕ) → length xs ≤ 0 → xs ≡ []
empty [] h = refl
empty (x ∷ xs) h = absurd (omega (arith, h))

pub returns-in-Err-clause-fault : goal.returns-in-Err-clause-fault
returns-in-Err-clause-fault c = λ other. opening_found mim image_form image_law c.args.bytes.now c.in-Err.fault c.in-Err.ensures

pub fault_at-requires : goal.fault_at-requires
fault_at-requires c =
    left_fits mim image_form image_law c.args.bytes.now c.in-Err-versioned.why (λ i. omega (arith, c.type_inv.bytes i))
    (λ other. ap ((versioned image_form).read) (sym c.in-Ok.ensures.1) ∙ c.in-Err-versioned.ensures.read other)

pub overflow_sub-result : goal.overflow_sub-result
overflow_sub-result c =
    rest_fits mim image_form image_law c.args.bytes.now (c.in-Ok-versioned.field-0-0, image_part c.in-Ok-versioned.rows) c.versioned.new.input.rest.now (λ i. omega (arith, c.type_inv.bytes i))
    (ap ((versioned image_form).read) (sym c.in-Ok.ensures.1) ∙ c.in-Ok-versioned.ensures.read)

pub returns-then-left-gt0-clause-fault : goal.returns-then-left-gt0-clause-fault
returns-then-left-gt0-clause-fault c = λ other.
    trailing_found mim image_form image_law c.args.bytes.now c.in-Ok-versioned.field-0-0 (image_part c.in-Ok-versioned.rows) c.versioned.new.input.rest.now (λ i. omega (arith, c.type_inv.bytes i)) c.in-Ok.ensures.0
    (ap ((versioned image_form).read) (sym c.in-Ok.ensures.1) ∙ c.in-Ok-versioned.ensures.read) c.if-left-gt0.true

pub returns-in-Err-versioned-clause-fault : goal.returns-in-Err-versioned-clause-fault
returns-in-Err-versioned-clause-fault c = λ other.
    rw c.fault_at.ensures (fault_found mim image_form image_law c.args.bytes.now c.in-Err-versioned.why (λ i. omega (arith, c.type_inv.bytes i)) c.in-Ok.ensures.0
    (λ live. ap ((versioned image_form).read) (sym c.in-Ok.ensures.1) ∙ c.in-Err-versioned.ensures.read live) (λ e. other (c.fault_at.ensures ∙ e)))

pub returns-else-left-gt0-clause-found : goal.returns-else-left-gt0-clause-found
returns-else-left-gt0-clause-found c = (
  c.in-Ok-versioned.field-0-0,
  file_found mim image_form image_law c.args.bytes.now c.in-Ok-versioned.field-0-0 (image_part c.in-Ok-versioned.rows) c.versioned.new.input.rest.now (λ i. omega (arith, c.type_inv.bytes i)) c.in-Ok.ensures.0
      (ap ((versioned image_form).read) (sym c.in-Ok.ensures.1) ∙ c.in-Ok-versioned.ensures.read) (empty c.versioned.new.input.rest.now c.if-left-gt0.false),
)
