-- A template as a list of tokens that gives it back.
use Rattle.std.specs.Prelude.{ℕ, List, [], ◌∷◌, refl, ◌≡◌, ◌⊎◌}
use Rattle.std.specs.Coded.{Coded, code_by, coded×, coded⊎, coded_ℕ, coded_list}
use base.Stored.{coded_unit}
use mathlib.Core.Logic.{inl, inr}
use Rattle.std.proofs.Common.{ap, ◌∙◌}
use Rattle.mesa_base.specs.declared.place.Place.{Place}
use Rattle.mesa_base.specs.contracts.place.Place as place
use Rattle.cmesa_grammar.specs.declared.syntax.Heading.{Heading}
use Rattle.cmesa_grammar.specs.contracts.syntax.Heading as heading
use Rattle.config_rules.specs.Template.{Part, Template, Gone, Parts, NoParts, AndModule, AndNested}

abbrev part_coded : Coded Part
part_coded = code_by (List ℕ × (List (List ℕ) × (List (List ℕ) × Place)))
    (coded× (coded_list coded_ℕ) (coded× (coded_list (coded_list coded_ℕ)) (coded× (coded_list (coded_list coded_ℕ)) place.the_row.coded)))
    (λ p. (p.name, (p.imports, (p.exports, p.place)))) (λ q. record { name = q.0; imports = q.1.0; exports = q.1.1.0; place = q.1.1.1 }) (λ _. refl)

-- what parts are written as: the end, a module, and a nested configuration, behind which come its parts and then the rest
abbrev Token : Type 0
Token = Unit {0} ⊎ ((Part × ℕ) ⊎ (Part × Heading))

abbrev token_coded : Coded Token
token_coded = coded⊎ coded_unit (coded⊎ (coded× part_coded coded_ℕ) (coded× part_coded heading.the_row.coded))

abbrev mutual
  written : Parts → List Token → List Token
  written NoParts rest = inl tt ∷ rest
  written (AndModule p c ps) rest = inr (inl (p, c)) ∷ written ps rest
  written (AndNested p t ps) rest = nested_written p t (written ps rest)

  nested_written : Part → Template → List Token → List Token
  nested_written p (Gone h ps) rest = inr (inr (p, h)) ∷ written ps rest

abbrev step : Token → List Parts → List Parts
step (inl _) found = NoParts ∷ found
step (inr (inl m)) (ps ∷ found) = AndModule m.0 m.1 ps ∷ found
step (inr (inr n)) (qs ∷ ps ∷ found) = AndNested n.0 (Gone n.1 qs) ps ∷ found
step _ found = found

abbrev read : List Token → List Parts
read [] = []
read (x ∷ xs) = step x (read xs)

mutual
  read_written : (ps : Parts) (rest : List Token) → read (written ps rest) ≡ ps ∷ read rest
  read_written NoParts rest = refl
  read_written (AndModule p c ps) rest = ap (step (inr (inl (p, c)))) (read_written ps rest)
  read_written (AndNested p t ps) rest = read_nested p t ps rest (written ps rest) (read_written ps rest)

  read_nested : (p : Part) (t : Template) (ps : Parts) (rest more : List Token) → read more ≡ ps ∷ read rest
      → read (nested_written p t more) ≡ AndNested p t ps ∷ read rest
  read_nested p (Gone h qs) ps rest more e = ap (step (inr (inr (p, h)))) (read_written qs more ∙ ap (λ found. qs ∷ found) e)

abbrev first : List Parts → Parts
first [] = NoParts
first (ps ∷ found) = ps

abbrev taken : Template → Heading × List Token
taken (Gone h ps) = (h, written ps [])

abbrev given : Heading × List Token → Template
given (h, tokens) = Gone h (first (read tokens))

pub given-taken : (t : Template) → given (taken t) ≡ t
given-taken (Gone h ps) = ap (λ found. Gone h (first found)) (read_written ps [])

abbrev pub template_coded : Coded Template
template_coded = code_by (Heading × List Token) (coded× heading.the_row.coded (coded_list token_coded)) taken given given-taken
