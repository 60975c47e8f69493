-- Points that are reached stay so further in.
use Rattle.std.proofs.Common.{◌≡◌, refl, sym, subst, ℕ, suc, List, [], ◌∷◌, map, Contains, arith}
use Rattle.std.proofs.lemmas.List.Elements.{Contains-append_right}
use Rattle.mesa_types.specs.declared.typed_parts.Label.{Label}
use Rattle.mesa_types.specs.declared.typed_parts.Label.TheVariants.{OnAny, OnUnwind, OnOwn, OnLinked, OnBounds, OnZero}
use Rattle.mesa_types.specs.Sound as sound
use Rattle.mesa_types.specs.Sound.{Scope, Seen, Reaches, IsForRaises, labels_in, points_past}
use Rattle.mesa_types.specs.Typed.{Point, Start, After, At, Exits}
use Rattle.code_rules.specs.Agreement.{seen}

one_further : {X : Type 0} (x : X) (xs : List X) (z : X) → Contains xs z → Contains (x ∷ xs) z
one_further x xs z (k, h, e) = (suc k, omega (h, arith), e)

pub reaches_marked : (Γ : Scope) (n arms : ℕ) (p : Point) → Reaches Γ arms p → Reaches (sound.in_marked n Γ) arms p
unfolding sound.in_marked Reaches
reaches_marked Γ n arms p (depth, c, e) = (
  depth,
  one_further (seen (Start n) Γ.depth) (seen (After n) Γ.depth ∷ Γ.points) (seen p depth)
      (one_further (seen (After n) Γ.depth) Γ.points (seen p depth) c),
  e,
)

pub reaches_labelled : (Γ : Scope) (past : ℕ) (es : Exits) (arms : ℕ) (p : Point) → Reaches Γ arms p → Reaches (sound.in_labelled past es Γ) arms p
unfolding sound.in_labelled Reaches
reaches_labelled Γ past es arms p (depth, c, e) =
    (depth, Contains-append_right (map (λ l. seen (At l) Γ.depth) (labels_in es)) Γ.points (seen p depth) c, e)

still_seen : (labels : List Label) (points : List Seen) → IsForRaises labels → points_past labels points ≡ points
unfolding points_past IsForRaises
still_seen [] points r = refl
still_seen (OnAny ∷ ls) points r = refl
still_seen (OnUnwind ∷ ls) points r = absurd r
still_seen (OnOwn k ∷ ls) points r = refl
still_seen (OnLinked k m ∷ ls) points r = refl
still_seen (OnBounds ∷ ls) points r = refl
still_seen (OnZero ∷ ls) points r = refl

pub one_arm_out : (Γ : Scope) (n : ℕ) (labels : List Label) (p : Point) → IsForRaises labels → Reaches Γ 0 p → Reaches (sound.in_arm n labels Γ) 1 p
unfolding sound.in_arm Reaches
one_arm_out Γ n labels p r (depth, c, e) =
    (depth, subst (λ ps. Contains ps (seen p depth)) (sym (still_seen labels Γ.points r)) c, omega (e, arith))
