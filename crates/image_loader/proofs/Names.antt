-- The names that are put before paths are names.
use Rattle.std.proofs.Common.{◌≡◌, ℕ, ◌+◌, ◌<◌, List, ◌++◌, codes, decimal, Option, Some, None, sym, ap, ◌∙◌, if◌then◌else◌}
use Rattle.std.proofs.lemmas.Option.{none-some}
use Rattle.mesa_base.specs.Name.{IsName, name_of}
use Rattle.file_forms.specs.Names.{short_text, name}
use Rattle.loader_rules.proofs.Naming.{name_fits}

abbrev of_number : ℕ → List ℕ
of_number n = codes "I" ++ decimal (n + 1)

is_name_of : (n : ℕ) → n < 16 → IsName (of_number n)
unfolding name short_text
is_name_of n small = (name_fits n small).1

name_is : (n : ℕ) → n < 16 → name_of (of_number n) ≡ Some (of_number n)
name_is n small = ap (λ b. if b then Some (of_number n) else None) (is_name_of n small)

pub not_none : (n : ℕ) (bytes : List ℕ) (o : Option (List ℕ)) → n < 16 → bytes ≡ of_number n → o ≡ name_of bytes → o ≡ None → ⊥
not_none n bytes o small are is none = none-some (of_number n) (sym none ∙ (is ∙ (ap name_of are ∙ name_is n small)))
