use Rattle.std.proofs.Common.{Bool, [], ◌∷◌, subst, MatchBool}
use Rattle.mesa_types.specs.declared.faces.Face.{Face}
use Rattle.config_rules.specs.Tree.{Agree, all_faces, faces_of}
use Rattle.config_tree.specs.Noted.{Noted, Notes}
use Rattle.config_tree.proofs.NotedShapes.{if_ok, shape_told}
use Rattle.config_tree.proofs.differing.agree_behind.Goals as goal

pub returns : goal.returns
returns c =
    let s = c.args.shape.now in
    let seen = c.in_ok-seen.seen.entries in
    let new = c.shape_agrees.new.seen.entries in
    let noted = subst (λ (f : Face). Notes (f ∷ []) seen) c.requires c.in_ok-seen.ensures in
    if_ok (λ (same : Bool). Noted seen (faces_of s) new same) (λ (same : Bool). MatchBool same (Agree (all_faces (s ∷ []))) (Agree (all_faces (s ∷ [])) → ⊥)) c.shape_agrees.result
    (λ same h. shape_told [] s seen new noted same h) c.shape_agrees.ensures
