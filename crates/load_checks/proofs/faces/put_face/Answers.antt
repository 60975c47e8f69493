use Rattle.std.proofs.Common.{List, ◌++◌, ◌∷◌, [], ap, sym, ◌∙◌, append-nil}
use denote.Ref.{Bor}
use Rattle.std.proofs.lemmas.List.{map-append}
use Rattle.mesa_types.specs.declared.faces.Face.{Face}
use Rattle.load_checks.specs.Faces.{faces_shown}
use Rattle.load_checks.proofs.Passing.{one_face, no_face}
use Rattle.load_checks.proofs.faces.put_face.Goals as goal

pub returns-in_ok-push-in-Some : goal.returns-in_ok-push-in-Some
returns-in_ok-push-in-Some c =
    let old = c.args.faces.now.items in
    ap faces_shown c.in_ok-push-in-Some.ensures.items
    ∙ (map-append (λ (f : Bor Face). f.now) old (_ ∷ []) ∙ ap (λ (l : List Face). faces_shown old ++ l) (sym (one_face c.args.import.now.face c.args.number _ c.in-Some.ensures)))

pub returns-in-None : goal.returns-in-None
returns-in-None c =
    let old = c.args.faces.now.items in
    sym (ap (λ (l : List Face). faces_shown old ++ l) (no_face c.args.import.now.face c.args.number c.in-None.ensures) ∙ append-nil (faces_shown old))
