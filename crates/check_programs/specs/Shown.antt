-- What is asked of a program that is checked, and what its parts are once its heads are read.
use Rattle.std.specs.Prelude.{Bool, List, [], Ok}
use Rattle.mesa_base.specs.declared.place.Place.{Place}
use Rattle.syntax_trees.specs.Syntax as s
use Rattle.check_rules.specs.Typed as t
use Rattle.check_rules.specs.Around.{Around}
use Rattle.check_rules.specs.Checking.{phrase, statements, exits}
use Rattle.interface_records.specs.PlainTypes.{PlainItem}
use Rattle.check_rules.specs.Parts.{join_stmts}
use Rattle.check_rules.specs.Phrases.{is_catch}
use Rattle.check_rules.specs.Programs.{Offer, Stated, Whole, heads_are_done, marked_if, offers_of, signals_of}
use Rattle.check_rules.specs.Steps.{State, Check, Checked, and_then, ◌>>=◌, pure}
use Rattle.check_programs.specs.Found.{Found}
use Rattle.check_programs.specs.Frames.{few_locals}
use Rattle.check_programs.specs.Turns.{values_by}

pub record Shown : Type 0 where
  pub signals : List PlainItem
  pub offers : List Offer
  pub procedures : List t.Procedure
  pub body : t.Body
  -- which items of its imports it names
  pub used : List (List Bool)
  pub globals : t.Kinds

abbrev pub shown_after : Whole → State → Shown
shown_after w s = record {
  signals = signals_of w.declared;
  offers = offers_of w.declared;
  procedures = w.procedures;
  body = w.body;
  used = s.used;
  globals = s.globals;
}

abbrev pub shown : Checked (Whole × State) → Checked Shown
shown p = and_then p (λ r. Ok (shown_after r.0 r.1))

-- procedures, and the block of the body
pub record Parts : Type 0 where
  pub procedures : List t.Procedure
  pub does : t.Stmt

-- statements behind others
abbrev pub joined : t.Stmts → Check t.Stmts → Check t.Stmts
joined before p = λ s. and_then (p s) (λ r. Ok (join_stmts before r.0, r.1))

-- these statements, and the EXITS
abbrev pub with_exits : Around → s.Inner → t.Stmts → Check (t.Stmts × t.Exits)
with_exits a inner ss = exits a a.labelled [] inner.exits >>= (λ es. pure (ss, es))

-- statements behind others, and EXITS
abbrev pub ends : Around → Around → s.Inner → t.Stmts → Check (t.Stmts × t.Exits)
ends a b inner before = joined before (statements b inner.statements) >>= (λ ss. with_exits a inner ss)

-- `b` is what stands around its declarations and statements, `a` what stands around its EXITS
abbrev pub parts : Around → Around → s.Inner → List Stated → Check Parts
parts a b inner heads = do
  w ← phrase b inner.enable
  vs ← values_by b inner.declarations heads
  x ← ends a b inner vs.statements
  pure (record { procedures = vs.procedures; does = t.Block w x.0 x.1 })

-- what is shown of heads and parts, in the state in which checking ends
abbrev pub shown_of : s.Inner → Found → Parts → State → Shown
shown_of inner f x s = record {
  signals = f.signals;
  offers = f.offers;
  procedures = x.procedures;
  body = record { variables = s.variables; does = marked_if (is_catch inner.enable) x.does };
  used = s.used;
  globals = s.globals;
}

-- behind the heads
abbrev pub after_heads : Around → Around → Place → s.Inner → Found → State → Checked Shown
after_heads a b p inner f s =
    and_then (heads_are_done s) (λ u.
    and_then (parts a b inner f.heads u.1) (λ x.
    and_then (few_locals [] [] p x.1) (λ _. Ok (shown_of inner f x.0 x.1))))
