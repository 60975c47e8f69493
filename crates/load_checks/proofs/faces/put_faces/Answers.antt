use Rattle.std.proofs.Common.{◌++◌, ap, ◌∙◌, get_or, refl}
use Rattle.load_checks.specs.Faces.{faces_at, faces_shown}
use Rattle.load_checks.proofs.Passing.{face_more, face_none}
use Rattle.load_checks.proofs.faces.put_faces.Goals as goal

pub loop-number-preserved : goal.loop-number-preserved
loop-number-preserved c =
    let ns = c.as_slice-number-items.result.now in
    face_more c.args.import.now.face (faces_shown c.loop-number.faces.items) _ ns c.loop-number.number-index c.loop-number.invariant (faces_shown c.put_face.new.faces.items)
    (get_or ns c.loop-number.number-index 0) 0 c.loop-number-test.true refl c.in_ok-put_face.ensures

pub returns : goal.returns
returns c =
    face_none c.args.import.now.face (faces_shown c.loop-number.faces.items) _ c.as_slice-number-items.result.now c.loop-number.number-index c.loop-number.invariant c.loop-number-test.false
    ∙ ap (λ ns. faces_shown c.args.faces.now.items ++ faces_at c.args.import.now.face ns) c.as_slice-number-items.ensures
