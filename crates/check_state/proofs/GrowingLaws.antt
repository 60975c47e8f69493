-- Parts of a list, one behind the other.
use Rattle.std.proofs.Common.{◌≡◌, ℕ, ◌+◌, ◌<◌, zero, List, [], ◌∷◌, ◌++◌, length, take, get_or, refl, sym, ap, ◌∙◌, arith}
use Rattle.std.proofs.lemmas.List.{append_assoc, append-nil, take_more}
use Rattle.std.specs.Vec.{vec_len}
use Rattle.std.specs.declared.alloc.Global.{Global}
use Rattle.std.specs.declared.vec.Vec.{Vec}
use Rattle.check_state.specs.Growing.{together}

module _ {A : Type 0} where
  together-append : (xs ys : List (List A)) → together (xs ++ ys) ≡ together xs ++ together ys
  together-append [] ys = refl
  together-append (x ∷ xs) ys = ap (λ l. x ++ l) (together-append xs ys) ∙ sym (append_assoc x (together xs) (together ys))

  pub one_behind : (parts : List (List A)) (part : List A) → together (parts ++ part ∷ []) ≡ together parts ++ part
  one_behind parts part = together-append parts (part ∷ []) ∙ ap (λ l. together parts ++ l) (append-nil part)

  pub no_part : (parts : List (List A)) → parts ≡ [] → together parts ≡ []
  no_part parts h = ap together h

  pub none_frozen : (parts : List (List A)) (newest : List A) → parts ≡ [] → together parts ++ newest ≡ newest
  none_frozen parts newest h = ap (λ ps. together ps ++ newest) h

  -- one that was joined of the last two in their place
  pub two_joined : (before rest less : List (List A)) (newer older all : List A) → before ≡ rest ++ newer ∷ [] → rest ≡ less ++ older ∷ []
      → all ≡ older ++ newer → together (less ++ all ∷ []) ≡ together before
  two_joined before rest less newer older all h k joined =
      one_behind less all ∙ ap (λ l. together less ++ l) joined ∙ sym (append_assoc (together less) older newer)
      ∙ sym (ap together h ∙ one_behind rest newer ∙ ap (λ l. l ++ newer) (ap together k ∙ one_behind less older))

  -- one part more
  pub part_more : (parts : List (List A)) (i : ℕ) (part : List A) → i < length parts → part ≡ get_or parts i part
      → together (take i parts) ++ part ≡ together (take (i + 1) parts)
  part_more parts i part inside here =
      ap (λ l. together (take i parts) ++ l) here ∙ sym (ap together (take_more parts i part inside) ∙ one_behind (take i parts) (get_or parts i part))

  nothing_in : (items : List A) → length items ≡ 0 → items ≡ []
  nothing_in [] h = refl
  nothing_in (x ∷ xs) h = absurd (omega (arith, h))

  pub empty : (v : Vec A Global) → vec_len v ≡ 0 → v.items ≡ []
  empty v h = nothing_in v.items (sym v.ok.0 ∙ h)
