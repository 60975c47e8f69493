-- The words of the last of some fields; and those of values, by the words of each.
use Rattle.std.proofs.Common.{◌≡◌, refl, ap, ◌∙◌, ◌+◌, ◌-◌, ◌<◌, List, [], ◌∷◌, length, get_or, arith}
use Rattle.mesa_types.specs.Counts.{last_words, words_given, words_of}
use Rattle.mesa_types.specs.Typed.{Exprs, NoExprs, AndExpr}
use Rattle.mesa_types.specs.declared.typed_parts.Part.{Part}
use Rattle.code_rules.specs.OwnCode.{total}
use Rattle.code_rules.specs.Slots.{sizes}

last_at : (p : Part) (ps : List Part) (d : Part) → last_words (p ∷ ps) ≡ (get_or (p ∷ ps) (length ps) d).words
unfolding last_words
last_at p [] d = refl
last_at p (q ∷ qs) d = last_at q qs d

pub of_last : (ps : List Part) (d : Part) → 0 < length ps → last_words ps ≡ (get_or ps (length ps - 1) d).words
of_last [] d h = let no : ⊥ = omega (arith, h) in absurd no
of_last (p ∷ ps) d h = last_at p ps d ∙ ap (λ n. (get_or (p ∷ ps) n d).words) {x = length ps} {y = length (p ∷ ps) - 1} (omega arith)

pub given_total : (es : Exprs) → words_given es ≡ total (sizes es)
unfolding words_given
given_total NoExprs = refl
given_total (AndExpr e es) = ap (λ n. words_of e + n) (given_total es)
