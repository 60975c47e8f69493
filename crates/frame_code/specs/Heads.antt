-- A procedure of the code's tree, the body among them.
use Rattle.mesa_types.specs.Typed.{Procedure}
use Rattle.mesa_types.specs.Plain.{plain_body}
use Rattle.frame_code.specs.declared.heads.Placed.{Placed}

abbrev pub procedure_in : Placed → Procedure
procedure_in p = record {
  head = record { kind = p.kind; name = p.name.now; takes = p.takes.now; gives = p.gives.now };
  body = plain_body p.body.now;
}
