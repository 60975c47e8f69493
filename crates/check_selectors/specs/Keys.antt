-- The places of the fields that keys name, one key after the other.
use Rattle.std.specs.Prelude.{ℕ, ◌+◌, Bool, true, List, [], ◌∷◌, ◌++◌, Option, Some, None, if◌then◌else◌}
use Rattle.mesa_base.specs.declared.identifier.Identifier.{Identifier}
use Rattle.check_scopes.specs.Scopes.{Scope, nothing, over, with_name}
use Rattle.interface_records.specs.PlainTypes.{PlainField}
use Rattle.check_rules.specs.Parts.{complete, places_of}

-- the places, where each field has one key
abbrev pub places_if : Bool → List ℕ → Option (List ℕ)
places_if complete ns = if complete then Some ns else None

abbrev pub places : List PlainField → List Identifier → Option (List ℕ)
places fs xs = places_if (complete fs xs) (places_of fs xs)

abbrev pub named_number : Option (List ℕ) → ℕ → Scope ℕ
named_number (Some y) n = with_name y n nothing
named_number None n = nothing

-- the number of the first field with each name, where so many stand before these
unfoldable pub numbered : ℕ → List PlainField → Scope ℕ
numbered n [] = nothing
numbered n (f ∷ fs) = over (named_number f.name n) (numbered (n + 1) fs)

abbrev pub unless : Option Bool → Option ℕ → Option ℕ
unless (Some b) n = None
unless None n = n

abbrev pub with_place : Option ℕ → (ℕ → Option (List ℕ)) → Option (List ℕ)
with_place None rest = None
with_place (Some n) rest = rest n

-- where these names are taken, and those numbers are found
unfoldable pub places_from : Scope ℕ → Scope Bool → List ℕ → List Identifier → Option (List ℕ)
places_from numbers taken done [] = Some done
places_from numbers taken done (x ∷ xs) =
    with_place (unless (taken x.name) (numbers x.name)) (λ n. places_from numbers (with_name x.name true taken) (done ++ n ∷ []) xs)
