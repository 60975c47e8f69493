-- Declarations that are checked again, up to one that has a fault.
use Rattle.std.specs.Prelude.{◌+◌, List, [], ◌∷◌, length, Ok, Err}
use Rattle.syntax_trees.specs.Syntax as s
use Rattle.check_rules.specs.Around.{Around}
use Rattle.check_rules.specs.Programs.{declaration}
use Rattle.check_rules.specs.Steps.{State, Check, Checked, and_then}
use Rattle.check_programs.specs.Found.{Found, also}

-- the faults and the states of a rule
abbrev pub dropped : {A : Type 0} → Check A → Check (Unit {0})
dropped rule = λ s. and_then (rule s) (λ r. Ok (tt, r.1))

-- the declaration that is next behind what is found
abbrev pub next_rule : Around → Found → s.Declaration → Check Found
next_rule a f d = also f (declaration (f.procedures + 1) (length f.signals) a d)

abbrev pub or_before : Found × State → Checked (Found × State) → Found × State
or_before x (Ok y) = y
or_before x (Err e) = x

-- what is found by these declarations, and the state behind them, where none has a fault
unfoldable pub so_far : Around → List s.Declaration → Found × State → Found × State
so_far a [] x = x
so_far a (d ∷ ds) x = so_far a ds (or_before x (next_rule a x.0 d x.1))
