-- A path is its names with dots between them.
use Rattle.std.proofs.Common.{◌≡◌, ℕ, List, [], ◌∷◌, ◌++◌, flat_map, refl, sym, ap, ◌∙◌, append_assoc}
use Rattle.std.proofs.lemmas.List.{append-nil}
use Rattle.std.specs.Prelude.{codes}
use Rattle.line_pieces.specs.Texts.{path_text}
use Rattle.listing_rules.specs.Lines.{between}

-- each name with a dot before it
abbrev behind : List (List ℕ) → List ℕ
behind names = flat_map (λ other. codes "." ++ other) names

pub path_is : (names : List (List ℕ)) → between (codes ".") names ≡ path_text names
unfolding between
path_is [] = refl
path_is (name ∷ []) = append-nil name
path_is (name ∷ next ∷ names) =
    ap (λ (t : List ℕ). name ++ t) (append_assoc (codes ".") next (behind names))
    ∙ ap (λ (t : List ℕ). name ++ (codes "." ++ t)) (path_is (next ∷ names))
    ∙ sym (append_assoc name (codes ".") (path_text (next ∷ names)))
