-- Passes over the files of a folder: what comes of them, a value or what ends the call, with the files that were asked for on the way, in
-- order (rule of this project). A pass is made of smaller ones, so the order of refusals is the order in which they stand.
use Rattle.std.specs.Prelude.{◌≡◌, ℕ, List, [], ◌∷◌, ◌++◌, Option, None, Some, IfSome}
use Rattle.mesa_base.specs.Outside.{Files}

pub data Outcome (C A : Type 0) : Type 0 where
  Has : A → Outcome C A
  Stops : C → Outcome C A

-- names of files, in order
abbrev pub Trail : Type 0
Trail = List (List ℕ)

pub record Pass (C A : Type 0) : Type 1 where
  -- these files were asked for, and this comes of what they hold; where a folder tells no files, it comes of some
  pub comes : Option Files → Trail → Outcome C A → Type 0
  -- behind those files this one is asked for
  pub asks : Option Files → Trail → List ℕ → Type 0

-- no file is asked for, and what comes is of this relation
abbrev pub decided : {C A : Type 0} → (Outcome C A → Type 0) → Pass C A
decided R = record {
  comes = λ files trail o. (trail ≡ []) × R o;
  asks = λ files trail file. ⊥;
}

-- this value
abbrev pub given : {C A : Type 0} → A → Pass C A
given a = decided (λ o. o ≡ Has a)

-- the file is asked for: its bytes, all of them, come to something, or it is not there
pub data FromFile {C A : Type 0} (file : List ℕ) (absent : C) (R : List ℕ → Outcome C A → Type 0) (files : Option Files) : Trail → Outcome C A → Type 0 where
  held : (bytes : List ℕ) (o : Outcome C A) → IfSome files (λ all. all file ≡ Some bytes) → R bytes o → FromFile file absent R files (file ∷ []) o
  missing : IfSome files (λ all. all file ≡ None) → FromFile file absent R files (file ∷ []) (Stops absent)

abbrev pub from_file : {C A : Type 0} → (file : List ℕ) → (absent : C) → (List ℕ → Outcome C A → Type 0) → Pass C A
from_file file absent R = record {
  comes = FromFile file absent R;
  asks = λ files trail other. (trail ≡ []) × (other ≡ file);
}

-- the file is asked for: its bytes, all of them, or that it is not there, come to something
pub data IfThere {C A : Type 0} (file : List ℕ) (R : Option (List ℕ) → Outcome C A → Type 0) (files : Option Files) : Trail → Outcome C A → Type 0 where
  asked : (bytes : Option (List ℕ)) (o : Outcome C A) → IfSome files (λ all. all file ≡ bytes) → R bytes o → IfThere file R files (file ∷ []) o

abbrev pub if_there : {C A : Type 0} → (file : List ℕ) → (Option (List ℕ) → Outcome C A → Type 0) → Pass C A
if_there file R = record {
  comes = IfThere file R;
  asks = λ files trail other. (trail ≡ []) × (other ≡ file);
}

-- one pass, and behind it another that its value says
pub data Follows {C A B : Type 0} (p : Pass C A) (q : A → Pass C B) (files : Option Files) : Trail → Outcome C B → Type 0 where
  stopped : (trail : Trail) (c : C) → p.comes files trail (Stops c) → Follows p q files trail (Stops c)
  went : (trail more : Trail) (a : A) (o : Outcome C B) → p.comes files trail (Has a) → (q a).comes files more o → Follows p q files (trail ++ more) o

pub data FollowAsks {C A B : Type 0} (p : Pass C A) (q : A → Pass C B) (files : Option Files) : Trail → List ℕ → Type 0 where
  first : (trail : Trail) (file : List ℕ) → p.asks files trail file → FollowAsks p q files trail file
  second : (trail more : Trail) (a : A) (file : List ℕ) → p.comes files trail (Has a) → (q a).asks files more file → FollowAsks p q files (trail ++ more) file

abbrev pub and_then : {C A B : Type 0} → Pass C A → (A → Pass C B) → Pass C B
and_then p q = record { comes = Follows p q; asks = FollowAsks p q }

-- one behind the other for each of these; their values in that order
unfoldable pub each : {C X A : Type 0} → (X → Pass C A) → List X → Pass C (List A)
each q [] = given []
each q (x ∷ xs) = and_then (q x) (λ a. and_then (each q xs) (λ bs. given (a ∷ bs)))

-- where the files are told, one thing comes, and after the same files
abbrev pub IsExact : {C A : Type 0} → Pass C A → Type 0
IsExact {C} {A} p = (files : Files) (t u : Trail) (o r : Outcome C A) → p.comes (Some files) t o → p.comes (Some files) u r → (t ≡ u) × (o ≡ r)
