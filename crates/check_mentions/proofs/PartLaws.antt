-- What the parts mention after one of them is put before the others or taken.
use Rattle.std.proofs.Common.{◌≡◌, ◌<◌, ℕ, true, List, [], ◌∷◌, ◌++◌, length, Option, Some, None, is_some, refl, ap, ◌∙◌, arith}
use Rattle.std.proofs.lemmas.Bool.{false≢true}
use Rattle.std.specs.Option.{option_to_list}
use Rattle.check_rules.specs.Mentions.{Mention}
use Rattle.check_mentions.specs.Parts.{before, of_next, of_part}
use Rattle.check_mentions.specs.declared.parts.Part.{Part}

pub before_last : (behind : List Mention) (ps : List Part) (p : Part) → before behind (ps ++ p ∷ []) ≡ of_part p ++ before behind ps
before_last behind [] p = refl
before_last behind (q ∷ ps) p = before_last (of_part q ++ behind) ps p

pub taken : (n : ℕ) (ps left : List Part) (o : Option Part) → n ≡ length ps → (0 < n → is_some o ≡ true) → ps ≡ left ++ option_to_list o
    → before [] ps ≡ of_next (before [] left) o
taken n [] left None e some is_it = refl
taken n (p ∷ ps) left None e some is_it = absurd (false≢true (some (omega arith)))
taken n ps left (Some p) e some is_it = ap (before []) is_it ∙ before_last [] left p
