-- Faces that were seen, of each name and stamp the first.
use Rattle.std.specs.Prelude.{◌≡◌, Bool, List, ◌++◌, Contains, MatchBool, MatchOption}
use Rattle.std.specs.Map.{lookup}
use denote.Ref.{Bor}
use Rattle.mesa_types.specs.declared.faces.Face.{Face}
use Rattle.config_tree.specs.declared.face_key.FaceKey.{FaceKey}
use Rattle.config_tree.specs.FaceKeys.{key_of, same_key}
use Rattle.config_rules.specs.Tree.{Agree}

abbrev pub Entries : Type 0
Entries = List (FaceKey × Bor Face)

-- these faces agree, and what is kept of them is for each key one of them that has it
pub record Notes (faces : List Face) (kept : Entries) : Type 0 where
  pub agree : Agree faces
  pub found : (key : FaceKey) → MatchOption (lookup (same_key key) kept) ((f : Face) → Contains faces f → key_of f ≡ key → ⊥) (λ g. Contains faces g.now × (key_of g.now ≡ key))

-- whether faces behind others agree with them, and what is kept then
abbrev pub Noted : (old : Entries) → (added : List Face) → (new : Entries) → Bool → Type 0
Noted old added new same = (faces : List Face) → Notes faces old → MatchBool same (Notes (faces ++ added) new) (Agree (faces ++ added) → ⊥)
