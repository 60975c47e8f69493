-- Which texts have an object that is stale: one that was made with an interface of another stamp than is there now (rule of this project).
use Rattle.std.specs.Prelude.{ℕ, Bool, false, not, ◌&&◌, List, [], ◌∷◌, ◌++◌, map, filter, nat_eq, bytes_eq, codes, Option, None, Some, if◌then◌else◌}
use Rattle.std.specs.List.{list_any, range_with_len}
use Rattle.mesa_types.specs.declared.faces.Export.{Export}
use Rattle.mesa_types.specs.declared.faces.Face.{Face}
use Rattle.mesa_types.specs.declared.faces.Import.{Import}
use Rattle.mesa_types.specs.declared.faces.Shape.{Shape}
use Rattle.include_rules.specs.declared.entries.FileEntry.{FileEntry}
use Rattle.include_rules.specs.declared.entries.FileEntry.TheVariants.{Interface, Object}

-- what is looked at of a file: the face of an interface, or the faces of an object's imports and exports
pub data Faced : Type 0 where
  OfInterface : Face → Faced
  OfObject : (text : ℕ) → List Face → Faced

abbrev pub faces_of : Shape → List Face
faces_of s = map (λ (m : Import). m.face) s.imports ++ map (λ (x : Export). x.face) s.exports

abbrev pub faced : FileEntry → Faced
faced (Interface i) = OfInterface i.face
faced (Object text o) = OfObject text (faces_of o.shape)

-- the stamp of the first interface of this name
unfoldable pub stamp_of : List Faced → (name : List ℕ) → Option ℕ
stamp_of [] name = None
stamp_of (OfInterface f ∷ files) name = if bytes_eq f.name name then Some f.stamp else stamp_of files name
stamp_of (OfObject text fs ∷ files) name = stamp_of files name

abbrev pub is_other : Option ℕ → (stamp : ℕ) → Bool
is_other None stamp = false
is_other (Some found) stamp = not (nat_eq found stamp)

-- its interface is there, under another stamp; the built-in one is passed over
abbrev pub is_old : List Faced → Face → Bool
is_old files f = not (bytes_eq f.name (codes "IODefs")) && is_other (stamp_of files f.name) f.stamp

-- an object of this text has such a face
abbrev pub is_made_old : List Faced → (text : ℕ) → Faced → Bool
is_made_old files text (OfInterface f) = false
is_made_old files text (OfObject other fs) = nat_eq other text && list_any (is_old files) fs

abbrev pub is_stale : List Faced → (text : ℕ) → Bool
is_stale files text = list_any (is_made_old files text) files

-- of so many texts, ascending
abbrev pub stale : (texts : ℕ) → List Faced → List ℕ
stale texts files = filter (is_stale files) (range_with_len 0 texts)
