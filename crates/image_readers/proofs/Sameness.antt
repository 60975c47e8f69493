-- Items of the same kind and types, and equal names, as the code and as the form tell it.
use Rattle.std.proofs.Common.{◌≡◌, ℕ, Bool, true, false, List, refl, sym}
use Rattle.std.specs.Prelude.{◌↔◌, IsTrue, bytes_eq}
use Rattle.std.specs.Cmp.Lexicographic.{bytes_decides}
use Rattle.interface_records.specs.Faces.{SameSignature}
use Rattle.mesa_types.specs.declared.faces.Item.{Item}
use Rattle.object_rules.proofs.SameTypes.{signature_same, signature_alike}
use Rattle.object_rules.specs.ImageForms.{same_signature}

-- the code's answer is the test's
told_as : (r t : Bool) (P : Type 0) → (IsTrue r ↔ P) → (t ≡ true → P) → (P → t ≡ true) → r ≡ t
told_as true true P iff means holds = refl
told_as true false P iff means holds = sym (holds (iff.0 refl))
told_as false true P iff means holds = iff.1 (means refl)
told_as false false P iff means holds = refl

pub told_signature : (r : Bool) (a b : Item) → (IsTrue r ↔ SameSignature a b) → r ≡ same_signature a b
told_signature r a b iff = told_as r (same_signature a b) (SameSignature a b) iff (signature_same a b) (signature_alike a b)

pub told_name : (r : Bool) (a b : List ℕ) → (IsTrue r ↔ (a ≡ b)) → r ≡ bytes_eq a b
told_name r a b iff = told_as r (bytes_eq a b) (a ≡ b) iff (bytes_decides a b).0 (bytes_decides a b).1
