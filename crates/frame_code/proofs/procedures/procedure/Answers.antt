-- The body of a procedure of a sound module has room, and its code stands under its number.
use Rattle.std.proofs.Common.{List, ap}
use Rattle.std.proofs.lemmas.Result.{IfOk-weaker}
use Rattle.mesa_types.specs.declared.types.FieldType.{FieldType}
use Rattle.mesa_types.specs.Plain.{kinds_of, plain}
use Rattle.code_bodies.specs.code_trees.specs.Routines.{kinds_laid}
use Rattle.frame_code.specs.Heads.{procedure_in}
use Rattle.frame_code.proofs.BodyRooms.{has_room, variables_fit, laid_out, coded_at}
use Rattle.frame_code.proofs.procedures.procedure.Goals as goal

pub new-requires : goal.new-requires
new-requires c =
    variables_fit c.bodies_are_in_range.ensures c.bodies_can_be_written.ensures (plain c.args.«module».now) c.requires.sound c.requires.few c.args.number
    (procedure_in c.procedure_at-placed.result) c.procedure_at-placed.ensures (kinds_of c.as_slice-variables.result.now)
    (ap (λ (l : List FieldType). kinds_of l) c.as_slice-variables.ensures)

pub written-requires : goal.written-requires
written-requires c =
    let r = c.args.routine.now in
    has_room c.bodies_are_in_range.ensures c.bodies_can_be_written.ensures (plain c.args.«module».now) c.requires.sound c.requires.few c.args.number
    (procedure_in c.procedure_at-placed.result) c.procedure_at-placed.ensures _
    (laid_out (plain c.args.«module».now) (procedure_in c.procedure_at-placed.result) r.links.imports.now (kinds_laid r.globals)
    (kinds_laid c.in_ok-routine.field-0) (kinds_of c.as_slice-variables.result.now) c.requires.routine.imports c.requires.routine.globals c.in_ok-routine.ensures
    (ap (λ (l : List FieldType). kinds_of l) c.as_slice-variables.ensures))

pub returns-clause-routine : goal.returns-clause-routine
returns-clause-routine c = record { imports = c.requires.routine.imports; globals = c.requires.routine.globals }

pub returns-clause-code : goal.returns-clause-code
returns-clause-code c =
    let r = c.args.routine.now in
    IfOk-weaker c.written.result _ _ (λ made own.
    coded_at (plain c.args.«module».now) c.args.number (procedure_in c.procedure_at-placed.result) made c.procedure_at-placed.ensures
    (own (plain c.args.«module».now)
    (laid_out (plain c.args.«module».now) (procedure_in c.procedure_at-placed.result) r.links.imports.now (kinds_laid r.globals)
    (kinds_laid c.in_ok-routine.field-0) (kinds_of c.as_slice-variables.result.now) c.requires.routine.imports c.requires.routine.globals c.in_ok-routine.ensures
    (ap (λ (l : List FieldType). kinds_of l) c.as_slice-variables.ensures)))) c.written.ensures
