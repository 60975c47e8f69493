-- A turn is spent, and an activation made, on both sides alike.
use Rattle.std.proofs.Common.{◌≡◌, ℕ, zero, suc, ◌+◌, ◌<◌, List, ◌∷◌, length, Bool, true, false, refl, sym, subst, arith}
use Rattle.std.specs.Prelude.{nat_lt, if◌then◌else◌}
use Rattle.source_meaning.specs.State as source
use Rattle.source_meaning.specs.State.{State, Answer, Spent, FrameLimit, Result, Run, give, leave}
use Rattle.machine_rules.specs.declared.end.End.TheVariants as end
use Rattle.machine_rules.specs.State as machine
use Rattle.machine_rules.specs.State.{Active, Activations, Store, Runs, Stepped, Goes, Stops}
use Rattle.machine_rules.specs.Moves as moves
use Rattle.machine_rules.specs.Steps.{stops}
use Rattle.agreement_rules.specs.Agreement.{EndsAs}
use Rattle.agreement_rules.specs.Reaches.{Reaches}
use Rattle.agreement_laws.specs.World.{World}
use Rattle.agreement_laws.specs.Standing.{Here, Frames}
use Rattle.agreement_laws.specs.Relation.{Hold, Beside, Agreed}
use Rattle.agreement_laws.specs.Answers.{Ended}

-- the machine stops there
pub ended_there : (W : World) (a : Answer) (e : machine.Ending) (s : Stepped) (m : Store) (σ : State) (control : List ℕ) → EndsAs a e → Reaches W.image s (Stops e m)
    → Beside W control m σ → Ended W a s σ
ended_there W a e s m σ control alike r h = record {
  end = e;
  last = m;
  ends = r.by e m (stops e m);
  alike = alike;
  output = h.output;
  turns = h.turns;
  input = h.input;
}

beside_turns : (W : World) (control : List ℕ) (m : Store) (σ : State) (t : ℕ) → Beside W control m σ → Beside W control (record m { turns = t }) (record σ { turns = t })
beside_turns W control m σ t h = record {
  same_control = h.same_control;
  started = h.started;
  globals = h.globals;
  turns = refl;
  input = h.input;
  bytes = h.bytes;
  faulty = h.faulty;
  output = h.output;
}

pub agreed_turns : (W : World) (bound less : ℕ) (control : List ℕ) (H : Hold) (B : List Here) (μ : Frames) (m : Store) (σ : State) (t : ℕ) → t < less
    → Agreed W bound control H B μ m σ → Agreed W less control H B μ (record m { turns = t }) (record σ { turns = t })
agreed_turns W bound less control H B μ m σ t lt h = record {
  laid = h.laid;
  beside = beside_turns W control m σ t h.beside;
  count = h.count;
  falling = h.falling;
  named = h.named;
  enough = lt;
}

module _ (W : World) (n : ℕ) (control : List ℕ) (H : Hold) (B : List Here) (Q : Stepped → Result → Type 0) (s : Stepped) where
  spent_by : (t : ℕ) (μ : Frames) (m : Store) (σ : State) (k : Store → Stepped) (run : Run) → σ.turns ≡ t → Reaches W.image s (moves.spend_of t m k)
      → Agreed W (suc n) control H B μ m σ → (Ended W Spent s σ → Q s (give Spent σ))
      → ((t : ℕ) → σ.turns ≡ suc t → Agreed W n control H B μ (record m { turns = t }) (record σ { turns = t })
      → Reaches W.image s (k (record m { turns = t })) → Q s (run (record σ { turns = t })))
      → Q s (source.spend_of t run σ)
  unfolding moves.spend_of source.spend_of EndsAs
  spent_by zero μ m σ k run e r h out on = out (ended_there W Spent (machine.Ended end.Spent) s m σ control refl r h.beside)
  spent_by (suc t) μ m σ k run e r h out on =
      let lt = h.enough in
      on t e (agreed_turns W (suc n) n control H B μ m σ t (omega (arith, e, lt)) h) r

  -- fewer than n turns are left behind it
  pub spend_on : (μ : Frames) (m : Store) (σ : State) (k : Store → Stepped) (run : Run) → Reaches W.image s (moves.spend m k)
      → Agreed W (suc n) control H B μ m σ → (Ended W Spent s σ → Q s (give Spent σ))
      → ((t : ℕ) → σ.turns ≡ suc t → Agreed W n control H B μ (record m { turns = t }) (record σ { turns = t })
      → Reaches W.image s (k (record m { turns = t })) → Q s (run (record σ { turns = t })))
      → Q s (source.spend run σ)
  unfolding moves.spend source.spend
  spend_on μ m σ k run r h out on =
      spent_by σ.turns μ m σ k run refl (subst (λ t. Reaches W.image s (moves.spend_of t m k)) h.beside.turns r) h out on

  entered_by : (b : Bool) (a : Active) (S : Activations) (m : Store) (σ : State) (run : Run)
      → Reaches W.image s (if b then Goes (Runs (a ∷ S) m) else Stops (machine.Ended end.FrameLimit) m) → Beside W control m σ
      → (Ended W FrameLimit s σ → Q s (give FrameLimit σ)) → (Reaches W.image s (Goes (Runs (a ∷ S) m)) → Q s (leave (run (record σ { standing = σ.standing + 1 }))))
      → Q s (source.enter_if b run σ)
  unfolding source.enter_if EndsAs
  entered_by true a S m σ run r h out on = on r
  entered_by false a S m σ run r h out on = out (ended_there W FrameLimit (machine.Ended end.FrameLimit) s m σ control refl r h)

  -- one activation more
  pub enter_on : (a : Active) (S : Activations) (m : Store) (σ : State) (run : Run) → σ.standing ≡ length S → Reaches W.image s (moves.enter a S m) → Beside W control m σ
      → (Ended W FrameLimit s σ → Q s (give FrameLimit σ)) → (Reaches W.image s (Goes (Runs (a ∷ S) m)) → Q s (leave (run (record σ { standing = σ.standing + 1 }))))
      → Q s (source.enter run σ)
  unfolding moves.enter source.enter
  enter_on a S m σ run e r h out on =
      entered_by (nat_lt σ.standing 8192) a S m σ run
      (subst (λ k. Reaches W.image s (if nat_lt k 8192 then Goes (Runs (a ∷ S) m) else Stops (machine.Ended end.FrameLimit) m)) (sym e) r) h out on
