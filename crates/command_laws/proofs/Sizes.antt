-- The first file that would be too large is one; where files are stored, none is too large.
use Rattle.std.proofs.Common.{◌≡◌, ℕ, zero, suc, ◌<◌, ◌≤◌, ◌⊎◌, List, [], ◌∷◌, ◌++◌, length, map, take, drop, All, Some, codes, sym, ◌∙◌, ap, subst, inl, inr, arith}
use Rattle.std.specs.Prelude.{Option, slice_get}
use Rattle.std.proofs.lemmas.List.{append-nil, take-append-drop}
use Rattle.std.proofs.lemmas.Option.{same_Some}
use Rattle.mesa_base.specs.Outside.{Files}
use Rattle.mesa_base.specs.declared.limits.TheConstants.{FILE_BYTES}
use Rattle.file_forms.specs.Files.{IsFile, versioned}
use Rattle.file_forms.specs.Forms.{Form}
use Rattle.face_rules.specs.InterfaceForms.{interface}
use Rattle.object_rules.specs.ImageForms.{parts_of_image, image_form}
use Rattle.object_rules.specs.ModuleForms.{module_form}
use Rattle.object_rules.specs.Parts.{parts_of}
use Rattle.command_rules.specs.Writing.{Value, OfInterface, OfObject, OfImage, IsFileOf, size_of, Target, IsSmall, IsFirstTooLarge, StoresAll}

pub record Sized : Type 0 where
  pub file : List ℕ
  pub size : ℕ

abbrev pub sized : Target → Sized
sized t = record { file = t.file; size = size_of t.value }

-- this file is the first that would be too large
pub IsFirst : List Sized → (file : List ℕ) → Type 0
IsFirst [] file = ⊥
IsFirst (x ∷ xs) file = ((FILE_BYTES < x.size) × (file ≡ x.file)) ⊎ ((x.size ≤ FILE_BYTES) × IsFirst xs file)

-- none would
pub AreSmall : List Sized → Type 0
AreSmall [] = Unit {0}
AreSmall (x ∷ xs) = (x.size ≤ FILE_BYTES) × AreSmall xs

pub one_first : (xs : List Sized) (file other : List ℕ) → IsFirst xs file → IsFirst xs other → file ≡ other
unfolding IsFirst
one_first [] file other p q = absurd p
one_first (x ∷ xs) file other (inl p) (inl q) = p.1 ∙ sym q.1
one_first (x ∷ xs) file other (inl p) (inr q) = let more = p.0 in let few = q.0 in absurd (omega (arith, more, few))
one_first (x ∷ xs) file other (inr p) (inl q) = let more = q.0 in let few = p.0 in absurd (omega (arith, more, few))
one_first (x ∷ xs) file other (inr p) (inr q) = one_first xs file other p.1 q.1

pub none_first : (xs : List Sized) (file : List ℕ) → AreSmall xs → IsFirst xs file → ⊥
unfolding IsFirst AreSmall
none_first [] file h p = p
none_first (x ∷ xs) file h (inl p) = let more = p.0 in let few = h.0 in absurd (omega (arith, more, few))
none_first (x ∷ xs) file h (inr p) = none_first xs file h.1 p.1

first_at : (targets : List Target) (number : ℕ) (t : Target) (file : List ℕ) → slice_get targets number ≡ Some t → All IsSmall (take number targets)
    → FILE_BYTES < size_of t.value → file ≡ t.file → IsFirst (map sized targets) file
unfolding IsFirst
first_at [] number t file e before large named = absurd cc
first_at (x ∷ xs) zero t file e before large named =
    let same : x ≡ t = same_Some x t e in
    inl (subst (λ (z : Target). FILE_BYTES < size_of z.value) (sym same) large, named ∙ sym (ap (λ (z : Target). z.file) same))
first_at (x ∷ xs) (suc number) t file e before large named =
    inr (before zero x (omega arith), first_at xs number t file e (λ k d less. before (suc k) d (omega (arith, less))) large named)

pub is_first : (targets : List Target) (file : List ℕ) → IsFirstTooLarge targets file → IsFirst (map sized targets) file
is_first targets file h = first_at targets h.number h.target file h.is h.before h.large h.named

pub are_small : (targets : List Target) → All IsSmall targets → AreSmall (map sized targets)
unfolding AreSmall
are_small [] h = tt
are_small (x ∷ xs) h = (h zero x (omega arith), are_small xs (λ k d less. h (suc k) d (omega (arith, less))))

-- ---- what is stored is not too large

-- a file has the bytes of its spelling
pub file_is : {A : Type 0} (letters : List ℕ) (f : ℕ → Form A) (version : ℕ) (a : A) (bytes : List ℕ) → IsFile letters f version a bytes
    → bytes ≡ letters ++ (versioned f).spell (version, a)
file_is letters f version a bytes h =
    sym (take-append-drop 3 bytes) ∙ ap (λ x. x ++ drop 3 bytes) h.begins
    ∙ ap (λ x. letters ++ x) (h.spells.text ∙ append-nil ((versioned f).spell (version, a)))

few_so : {A : Type 0} (letters : List ℕ) (f : ℕ → Form A) (version : ℕ) (a : A) (bytes : List ℕ) → IsFile letters f version a bytes
    → length (letters ++ (versioned f).spell (version, a)) ≤ FILE_BYTES
few_so letters f version a bytes h = subst (λ b. length b ≤ FILE_BYTES) (file_is letters f version a bytes h) h.few

file_small : (v : Value) (bytes : List ℕ) → IsFileOf v bytes → size_of v ≤ FILE_BYTES
file_small (OfInterface i) bytes h = few_so (codes "MIF") interface 2 i bytes h
file_small (OfObject o) bytes h = few_so (codes "MOB") module_form 2 (parts_of o) bytes h.file
file_small (OfImage i) bytes h = few_so (codes "MIM") image_form 2 (parts_of_image i) bytes h.file

pub stored_small : (targets : List Target) (old new : Option Files) → StoresAll targets old new → AreSmall (map sized targets)
unfolding StoresAll AreSmall
stored_small [] old new s = tt
stored_small (t ∷ targets) old new s = (file_small t.value s.0 s.2, stored_small targets s.1 new s.4)
