-- What is done behind the rounds of a loop, and the statements of labels.
use Rattle.std.proofs.Common.{◌≡◌, refl, sym, ap, ◌∙◌, ℕ, ◌+◌, List, [], ◌∷◌, length, map, Bool, not, arith}
use Rattle.std.specs.Prelude.{Option, Some, None, option_map, nat_eq}
use Rattle.mesa_base.specs.Chain.{chain}
use Rattle.mesa_types.specs.Counts.{hidden, hidden_condition, hidden_exits, hidden_finish, hidden_phrase, hidden_stmts}
use Rattle.mesa_types.specs.Plain.{condition, exit, loop, phrase, stmt, stmts}
use Rattle.mesa_types.specs.Plain as twin
use Rattle.mesa_types.specs.Typed as t
use Rattle.mesa_types.specs.declared.typed_tree.Exit.{Exit}
use Rattle.mesa_types.specs.declared.typed_tree.Loop.{Loop, out-Loop}
use Rattle.mesa_types.specs.declared.typed_tree.Phrase.{Phrase}
use Rattle.mesa_types.specs.declared.typed_tree.TypedStmt.{TypedStmt}
use Rattle.mesa_types.specs.declared.typed_tree.TypedStmt.TheVariants as v
use Rattle.code_rules.specs.Loops as loops
use Rattle.code_rules.specs.Reading.{Coded}
use Rattle.code_blocks.specs.Blocks.{Block, Both}
use Rattle.code_blocks.specs.Translation as spec
use Rattle.code_trees.specs.Excess.{excess}
use Rattle.code_trees.specs.Forms.{blocks_of, exit_blocks, past_if, rounds_of}
use Rattle.code_trees.specs.declared.part.Part.{Part}
use Rattle.code_trees.specs.Rows.{excess_among}
use Rattle.code_trees.proofs.ExitLaws.{blocks_fit, none_left, past_left, some_left}
use Rattle.code_trees.proofs.LoopLaws.{block_form, enclosed_fits, loop_form, looped_fits, rounds_fit}
use Rattle.code_trees.proofs.StatementSplits.{exit_is}
use Rattle.code_bodies.proofs.StatementWalks.{ended_part}
use Rattle.std.proofs.lemmas.List.{length-map}

-- FINISHED and its statement, or none
pub finished_form : (P : Coded) (z : ℕ) (es : t.Exits) (f : Option TypedStmt) (s : TypedStmt) (past : Block) → f ≡ Some s → past ≡ spec.past_exits es
    0
    → spec.finish P z es (twin.finish (option_map stmt f)) ≡ Both (spec.block P z (stmt s)) past
finished_form P z es f s past is is_past =
    ap (λ o. spec.finish P z es (twin.finish (option_map stmt o))) is ∙ ap (λ b. Both (spec.block P z (stmt s)) b) (sym is_past)

pub unfinished_form : (P : Coded) (z : ℕ) (es : t.Exits) (f : Option TypedStmt) → f ≡ None
    → spec.finish P z es (twin.finish (option_map stmt f)) ≡ spec.past_exits es 0
unfinished_form P z es f is = ap (λ o. spec.finish P z es (twin.finish (option_map stmt o))) is

-- as many statements of labels as labels
as_many : (P : Coded) (z : ℕ) (es : List Exit) → length (exit_blocks P z (chain (map exit es) t.NoExits)) ≡ length es
unfolding exit_blocks
as_many P z [] = refl
as_many P z (e ∷ es) = ap (λ l. length (exit_blocks P z l)) (exit_is e (chain (map exit es) t.NoExits))
    ∙ omega (arith, as_many P (z + hidden (stmt e.body)) es)

pub held_together : (P : Coded) (z : ℕ) (es : List Exit) (ps : List Part) → blocks_of ps ≡ exit_blocks P z (chain (map exit es) t.NoExits) → length ps
    ≡ length es
unfolding blocks_of
held_together P z es ps is = sym (length-map ps _) ∙ ap length is ∙ as_many P z es

-- the rounds of a loop, and what is behind them

pub rounds_same : (P : Coded) (k : loops.Counter) (a b c d : Block) → a ≡ b → c ≡ d → rounds_of P k a c ≡ rounds_of P k b d
rounds_same P k a b c d is_test is_body = ap (λ x. rounds_of P k x c) is_test ∙ ap (rounds_of P k b) is_body

pub unless_same : (a b : Bool) (c d : Block) → a ≡ b → c ≡ d → spec.unless a c ≡ spec.unless b d
unless_same a b c d is_endless is = ap (λ x. spec.unless x c) is_endless ∙ ap (spec.unless b) is

pub finish_hidden : (f : Option TypedStmt) (s : TypedStmt) → f ≡ Some s → hidden_finish (twin.finish (option_map stmt f)) ≡ hidden (stmt s)
unfolding hidden_finish
finish_hidden f s is = ap (λ o. hidden_finish (twin.finish (option_map stmt o))) is

pub no_finish_hidden : (f : Option TypedStmt) → f ≡ None → hidden_finish (twin.finish (option_map stmt f)) ≡ 0
unfolding hidden_finish
no_finish_hidden f is = ap (λ o. hidden_finish (twin.finish (option_map stmt o))) is

-- parts of a loop, each behind those before it

module _ (P : Coded) (z : ℕ) (k : loops.Counter) (x : Loop) (fit : excess (spec.loop P z k (loop x)) ≡ 0) where
  pub loop_body_fits : (n : ℕ) → n ≡ z + hidden_condition (condition (out-Loop x).condition) → excess (spec.block P n (stmt (out-Loop x).body)) ≡ 0
  loop_body_fits n is_n =
      (rounds_fit P k _ _ (looped_fits _ _ _ _ (ap excess (sym (loop_form P z k x (out-Loop x).exits refl n _ _ is_n refl refl)) ∙ fit)).0).1

  pub loop_exits_fit : (n m : ℕ) (es : List Exit) → es ≡ (out-Loop x).exits → n ≡ z + hidden_condition (condition (out-Loop x).condition)
      → m ≡ n + hidden (stmt (out-Loop x).body) → excess_among (exit_blocks P m (chain (map exit es) t.NoExits)) ≡ 0
  loop_exits_fit n m es is_es is_n is_m =
      blocks_fit P m (chain (map exit es) t.NoExits) _ (ended_part _ _ (ap excess (sym (loop_form P z k x es is_es n m _ is_n is_m refl)) ∙ fit))

  pub loop_finish_fits : (n m q : ℕ) (es : List Exit) (s : TypedStmt) (endless none : Bool) → es ≡ (out-Loop x).exits → n ≡ z + hidden_condition
      (condition (out-Loop x).condition)
      → m ≡ n + hidden (stmt (out-Loop x).body) → q ≡ m + hidden_exits (chain (map exit es) t.NoExits) → (out-Loop x).finished ≡ Some s
      → endless ≡ spec.is_endless k (condition (out-Loop x).condition) → none ≡ nat_eq (length es) 0
      → excess (spec.unless endless (Both (spec.block P q (stmt s)) (past_if (not none) 0))) ≡ 0
  loop_finish_fits n m q es s endless none is_es is_n is_m is_q is_s is_endless is_none =
      ap excess (unless_same _ _ _ _ is_endless (sym (finished_form P q (chain (map exit es) t.NoExits) (out-Loop x).finished s (past_if (not none) 0)
      is_s
      (past_left es (length es) (not none) refl (λ h. some_left (length es) (sym (ap not is_none) ∙ h))
      (λ h. none_left (length es) (sym (ap not is_none) ∙ h))))))
      ∙ (looped_fits _ _ _ _ (ap excess (sym (loop_form P z k x es is_es n m q is_n is_m is_q)) ∙ fit)).1

-- parts of a block

module _ (P : Coded) (z : ℕ) (x : TypedStmt) (p : Phrase) (ss : List TypedStmt) (es : List Exit) (is : x ≡ v.Block p ss es)
    (fit : excess (spec.block P z (stmt x)) ≡ 0) where
  pub body_fits : (n : ℕ) (read_p : Phrase) (read_ss : List TypedStmt) → read_p ≡ p → read_ss ≡ ss → n ≡ z + hidden_phrase (phrase read_p)
      → excess (spec.blocks P n (stmts (map stmt read_ss))) ≡ 0
  body_fits n read_p read_ss is_p is_ss is_n =
      (enclosed_fits _ _ _ _ _ (ap excess (sym (block_form P z x p ss es read_p read_ss es is is_p is_ss refl n _ is_n refl)) ∙ fit)).1

  pub labels_fit : (n m : ℕ) (read_p : Phrase) (read_ss : List TypedStmt) (read_es : List Exit) → read_p ≡ p → read_ss ≡ ss → read_es ≡ es → n
      ≡ z + hidden_phrase (phrase read_p)
      → m ≡ n + hidden_stmts (stmts (map stmt read_ss)) → excess_among (exit_blocks P m (chain (map exit read_es) t.NoExits)) ≡ 0
  labels_fit n m read_p read_ss read_es is_p is_ss is_es is_n is_m =
      blocks_fit P m (chain (map exit read_es) t.NoExits) _
      (ended_part _ _ (ap excess (sym (block_form P z x p ss es read_p read_ss read_es is is_p is_ss is_es n m is_n is_m)) ∙ fit))
