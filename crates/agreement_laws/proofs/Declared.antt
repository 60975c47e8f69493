-- Declared variables with a value follow their meaning; and the words of variables that are set to zero.
use Rattle.std.proofs.Common.{◌≡◌, ℕ, suc, ◌+◌, List, [], ◌∷◌, refl, ◌∙◌, arith}
use Rattle.std.specs.Prelude.{◌≢◌, All}
use Rattle.mesa_types.specs.declared.typed_parts.Home.{Home}
use Rattle.mesa_types.specs.Typed.{Kind, Expr, DeclareAs}
use Rattle.mesa_types.specs.Shapes.{one, words_in, words_in_all}
use Rattle.mesa_types.specs.Counts.{hidden, hidden_expr}
use Rattle.mesa_types.specs.Sound.{StmtIn, VariableIn}
use Rattle.source_meaning.specs.Value.{zero_of}
use Rattle.source_meaning.specs.Value as value
use Rattle.source_meaning.specs.State.{State, Normal, Result, carry, after, give, change, on_values, on_value, value_then}
use Rattle.source_meaning.specs.Variables.{store_all}
use Rattle.source_meaning.specs.Meaning.{value as meant_value, does}
use Rattle.machine_rules.specs.State.{Stepped}
use Rattle.code_rules.specs.CodeFor as row
use Rattle.code_rules.specs.Reading.{Place, Own, past}
use Rattle.code_rules.specs.Slots.{spread_code}
use Rattle.code_rules.proofs.Whole.{expr_run}
use Rattle.agreement_rules.specs.Layout.{slots_of, value_at}
use Rattle.agreement_rules.proofs.Lifted.{in_order}
use Rattle.agreement_rules.proofs.Memory.{zeros_long, zero_slots}
use Rattle.agreement_laws.specs.World.{World, texts_of}
use Rattle.agreement_laws.specs.Relation.{standing}
use Rattle.agreement_laws.specs.Contexts.{Site, Context}
use Rattle.agreement_laws.specs.Answers.{Valued}
use Rattle.agreement_laws.specs.Promises as promise
use Rattle.agreement_laws.specs.Promises.{next, ExpressionsFollow, Follows}
use Rattle.agreement_laws.proofs.Declares.{ZerosShow, declared_comes}
use Rattle.agreement_laws.proofs.Doing.{Did, did_later, did_out}
use Rattle.agreement_laws.proofs.Following.{value_on}
use Rattle.agreement_laws.proofs.Frames.{zeros_lie}
use Rattle.agreement_laws.proofs.Moving.{run_order, inside_part}
use Rattle.agreement_laws.proofs.Opening.{no_text}
use Rattle.agreement_laws.proofs.Spread.{spread_comes}

-- zeros are the words of the zero of a kind
pub zeros_show : (W : World) (k : Kind) → ZerosShow (texts_of W) k
unfolding one value.one value.zeros words_in_all
zeros_show W k = record {
  size = zeros_long (words_in k) ∙ omega arith;
  worth = (zeros_lie (texts_of W) (one k) (words_in k) (no_text W)).worth;
  small = λ n. let e = zero_slots (words_in k) n in omega (arith, e);
}

module _ (W : World) (n : ℕ) (K : Site) (w : Place) (hi : ℕ) (ctx : Context W K w.points w.around w.slot hi) where
  -- the value has come; there is a variable to which it goes
  pub spread_row : (hs : List Home) (k : Kind) (u : Place) (d b : ℕ) (from : Stepped) (r : Result) → u.around ≡ w.around → hs ≢ [] → All (λ h. VariableIn K.scope h k) hs
      → Own K.code u (spread_code K.code hs (words_in k)) d b → Valued W (suc n) K w.around (one k) d [] from r
      → Did W (suc n) K w.around b from (value_then (λ vs. change (store_all K.meant hs (value.nth vs 0)) (give Normal)) r.answer r.state)
  unfolding change give
  spread_row [] k u d b from r same some all own valued = absurd (some refl)
  spread_row (h ∷ hs) k u d b from r same some all own valued =
      value_on W (suc n) K w.around (λ s r. Did W (suc n) K w.around b s r) (λ s t r k h. did_later W (suc n) K w.around b s t r k h)
      (λ s a σ h. did_out W (suc n) K w.around b s a σ h) k d [] (λ v. change (store_all K.meant (h ∷ hs) v) (give Normal)) from r valued (λ words μ m shown agrees.
      spread_comes W n K w hi ctx h hs k u d b (value_at (texts_of W) (slots_of words) 0 k) words μ m r.state same all shown own agrees)

-- each is set to zero, then to the value
pub declare_as_follows : (W : World) (n : ℕ) → ExpressionsFollow W n → (hs : List Home) (k : Kind) (e : Expr)
    → Follows W n (DeclareAs hs k e)
unfolding does hidden StmtIn change on_value on_values after carry
declare_as_follows W n expressions hs k e K w a b μ m σ (row.declare_as c d cleared code spread) sound place inside now =
    let low = in_order cleared in let mid = run_order (expr_run code) in let high = in_order spread in
    let hi = w.slot + hidden_expr e in
    let zeroed : State = record σ { store = store_all K.meant hs (zero_of k) σ.store } in
    let first = declared_comes W (suc n) K w hi place hs k w a c μ m σ (zeros_show W k) refl sound.2 cleared now in
    let r = meant_value W.program (next W n) e K.meant zeroed in
    did_later W (suc n) K w.around b (promise.here K a [] μ m) (standing K.ground c [] first.frames first.store)
    (value_then (λ vs. change (store_all K.meant hs (value.nth vs 0)) (give Normal)) r.answer r.state) first.reaches
    (spread_row W n K w hi place hs k (past e w) d b (standing K.ground c [] first.frames first.store) r refl sound.1 sound.2 spread
    (expressions.value e K w (one k) c d [] first.frames first.store zeroed code sound.3 place (inside_part W K.ground a b c d low high inside) first.agrees))
