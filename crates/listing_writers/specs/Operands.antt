-- The texts of operands.
use Rattle.std.specs.Prelude.{ℕ, List, [], ◌∷◌, decimal}
use Rattle.listing_rules.specs.Lines.{offset_text}
use Rattle.listing_writers.specs.declared.code.Operands.{Operands}
use Rattle.listing_writers.specs.declared.code.Operands.TheVariants.{Nothing, One, Two, Three, Target, Leaving}

abbrev pub texts_of : Operands → List (List ℕ)
texts_of Nothing = []
texts_of (One n) = decimal n ∷ []
texts_of (Two m n) = decimal m ∷ decimal n ∷ []
texts_of (Three m n k) = decimal m ∷ decimal n ∷ decimal k ∷ []
texts_of (Target target) = offset_text target ∷ []
texts_of (Leaving arms target) = decimal arms ∷ offset_text target ∷ []
