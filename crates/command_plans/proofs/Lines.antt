-- Lines that are put one behind the other.
use Rattle.std.proofs.Common.{◌≡◌, ℕ, List, [], ◌++◌, ap, ◌∙◌, append_assoc}

behind : (o0 o1 o2 a b : List ℕ) → o1 ≡ o0 ++ a → o2 ≡ o1 ++ b → o2 ≡ o0 ++ (a ++ b)
behind o0 o1 o2 a b p q = q ∙ ap (λ t. t ++ b) p ∙ append_assoc o0 a b

-- the order, what is stale, and what is missing, from nothing on
pub three_put : (o0 o1 o2 o3 a b c : List ℕ) → o0 ≡ [] → o1 ≡ o0 ++ a → o2 ≡ o1 ++ b → o3 ≡ o2 ++ c → o3 ≡ a ++ (b ++ c)
three_put o0 o1 o2 o3 a b c none p q r = behind o0 o1 o3 a (b ++ c) p (behind o1 o2 o3 b c q r) ∙ ap (λ t. t ++ (a ++ (b ++ c))) none
