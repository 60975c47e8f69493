-- A line as it is written: its first word, each other behind a blank, and a line feed.
use Rattle.std.proofs.Common.{◌≡◌, ℕ, List, [], ◌∷◌, ◌++◌, map, flat_map, refl, sym, ap, ◌∙◌, append_assoc}
use Rattle.std.proofs.lemmas.List.Folds.{flat_map-map}
use Rattle.std.specs.Prelude.{codes}
use Rattle.listing_rules.specs.Lines.{between, line}
use Rattle.listing_writers.specs.Words.{text_of, after_blank}
use Rattle.listing_writers.specs.declared.lines.Word.{Word}

pub line_is : (first : List ℕ) (others : List Word) → first ++ (flat_map after_blank others ++ codes "\n") ≡ line (first ∷ map text_of others)
unfolding between line
line_is first others =
    ap (λ (t : List ℕ). first ++ (t ++ codes "\n")) (behind others)
    ∙ sym (append_assoc first (flat_map (λ (other : List ℕ). codes " " ++ other) (map text_of others)) (codes "\n"))
  where
    behind : (words : List Word) → flat_map after_blank words ≡ flat_map (λ (other : List ℕ). codes " " ++ other) (map text_of words)
    behind words = sym (flat_map-map (λ (other : List ℕ). codes " " ++ other) text_of words)

-- names are their own texts
pub names_are : (names : List (List ℕ)) → map (λ (name : List ℕ). name) names ≡ names
names_are [] = refl
names_are (name ∷ names) = ap (λ (ns : List (List ℕ)). name ∷ ns) (names_are names)
