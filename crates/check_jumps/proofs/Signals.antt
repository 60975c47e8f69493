-- The signals of an arm are gathered one after the other.
use Rattle.std.proofs.Common.{◌≡◌, List, [], ◌∷◌, Ok, Err, refl, ap, ◌∙◌}
use Rattle.syntax_trees.specs.declared.syntax.QualifiedName.{QualifiedName}
use Rattle.check_rules.specs.Around.{Around, ArmLabel}
use Rattle.check_rules.specs.Names.{signals, qualified, signal_by}
use Rattle.check_rules.specs.Parts.{last_of}
use Rattle.check_rules.specs.Steps.{State, Check, Checked, and_then, lift}
use Rattle.check_jumps.specs.Arms.{signal}
use Rattle.check_jumps.proofs.Gathering.{gathered, behind, nothing_behind}

-- two steps before others are one
joined : {A B C : Type 0} (p : Checked (A × State)) (f : A → Checked B) (rest : B → State → Checked (C × State))
    → and_then p (λ r. and_then (lift (f r.0) r.1) (λ q. rest q.0 q.1))
    ≡ and_then (and_then p (λ r. lift (f r.0) r.1)) (λ q. rest q.0 q.1)
joined (Ok r) f rest = refl
joined (Err e) f rest = refl

signals_gather : (a : Around) (qs : List QualifiedName) (s : State) → signals a qs s ≡ gathered (signal a) qs s
unfolding signals gathered
signals_gather a [] s = refl
signals_gather a (q ∷ qs) s =
    joined (qualified a q s) (λ m. signal_by (last_of q).place m) (λ l t. and_then (signals a qs t) (λ r. Ok (l ∷ r.0, r.1)))
    ∙ ap (λ (f : Check (List ArmLabel)). and_then (signal a q s) (λ r. and_then (f r.1) (λ p. Ok (r.0 ∷ p.0, p.1)))) (λ i t. signals_gather a qs t i)

pub signals_begin : (a : Around) (qs : List QualifiedName) (s : State) → signals a qs s ≡ behind [] (gathered (signal a) qs s)
signals_begin a qs s = signals_gather a qs s ∙ nothing_behind (gathered (signal a) qs s)
