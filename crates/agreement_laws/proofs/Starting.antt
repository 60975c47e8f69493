-- An instance is started: it counts as started from there on, a turn is spent, and its body runs.
use Rattle.std.proofs.Common.{◌≡◌, ℕ, suc, List, [], Bool, true, false, refl, ap, subst}
use Rattle.std.specs.Prelude.{nat_eq, if◌then◌else◌}
use Rattle.mesa_types.specs.Plain.{kinds_of}
use Rattle.source_meaning.specs.Value.{NoValues}
use Rattle.source_meaning.specs.Program.{procedure_of, procedure_in, main_of, head_named}
use Rattle.source_meaning.specs.State.{ProcedureId, State, Normal, Spent, Result, give, change}
use Rattle.source_meaning.specs.Variables.{Enabled, at_if, put_at}
use Rattle.source_meaning.specs.Calls.{mark_started, start}
use Rattle.machine_rules.specs.State.{Store, Stepped}
use Rattle.machine_rules.specs.Moves as moves
use Rattle.machine_rules.specs.Moves.{with}
use Rattle.machine_rules.specs.Calls as machine
use Rattle.machine_rules.specs.Calls.{set_of, enter_frame}
use Rattle.code_rules.specs.Reading.{Coded}
use Rattle.agreement_rules.specs.Layout.{Show}
use Rattle.agreement_rules.specs.Reaches.{Reaches}
use Rattle.agreement_laws.specs.World.{World, CodeOf, texts_of, meant_procedure}
use Rattle.agreement_laws.specs.Standing.{Here, Standing, bare, Frames, fill}
use Rattle.agreement_laws.specs.Relation.{Hold, Agreed}
use Rattle.agreement_laws.specs.Chains.{Dictionary, Floor}
use Rattle.agreement_laws.specs.Promises.{next, NextFollows}
use Rattle.agreement_laws.proofs.Opening.{Over}
use Rattle.agreement_laws.proofs.Returning.{Wanted, procedure_runs}
use Rattle.agreement_laws.proofs.Shown.{show_none}
use Rattle.agreement_laws.proofs.Spending.{spend_on}

marked_by : (started other : ℕ → Bool) (j i : ℕ) → other i ≡ started i → set_of other j true i ≡ put_at started j true i
unfolding set_of put_at at_if
marked_by started other j i e = by (nat_eq i j)
  where
    by : (b : Bool) → (if b then true else other i) ≡ at_if b true started i
    by true = refl
    by false = e

pub agreed_marked : (W : World) (n : ℕ) (control : List ℕ) (H : Hold) (B : List Here) (μ : Frames) (m : Store) (σ : State) (j : ℕ) → Agreed W n control H B μ m σ
    → Agreed W n control H B μ (record m { started = set_of m.started j true }) (record σ { store = mark_started j σ.store })
unfolding mark_started
agreed_marked W n control H B μ m σ j h = record {
  laid = record { frames = h.laid.frames; held = h.laid.held; above = h.laid.above };
  beside = record {
    same_control = h.beside.same_control;
    started = λ i. marked_by σ.store.started m.started j i (h.beside.started i);
    globals = h.beside.globals;
    turns = h.beside.turns;
    input = h.beside.input;
    bytes = h.beside.bytes;
    faulty = h.beside.faulty;
    output = h.beside.output;
  };
  count = h.count;
  falling = h.falling;
  named = h.named;
  enough = h.enough;
}

abbrev pub body_of : (instance : ℕ) → ProcedureId
body_of j = record { instance = j; number = 0 }

nothing_shown : (W : World) (j : ℕ) → Show (texts_of W) (kinds_of (meant_procedure W (body_of j)).head.takes) NoValues []
unfolding procedure_of procedure_in main_of head_named
nothing_shown W j = show_none (texts_of W)

pub start_runs : (W : World) (n : ℕ) → NextFollows W n → (S : Standing) (H : Hold) (control : List ℕ) (D : Dictionary) (F : Floor) (chain : List Enabled)
    (j : ℕ) (C : Coded) (c : CodeOf W (body_of j) C) (Q : Stepped → Result → Type 0) (s : Stepped) (μ : Frames) (m : Store) (σ : State)
    → Wanted W n S H control D (body_of j) C c (λ f. give Normal) (put_at σ.store.started j true) Q → Over W S H D F σ.store.fresh chain (body_of j)
    → Agreed W (suc n) control H (bare S) μ m σ → Reaches W.image s (machine.start W.image j (fill μ S) m) → Q s (start W.program (next W n) j chain σ)
unfolding start change machine.start with mark_started give
start_runs W n ih S H control D F chain j C c Q s μ m σ wanted over h r =
    let m0 = record m { started = set_of m.started j true } in
    let σ0 : State = record σ { store = mark_started j σ.store } in
    let r0 = subst (λ x. Reaches W.image s x)
    (ap (λ x. with x m λ body. moves.spend m0 λ m1. enter_frame j 0 body [] (fill μ S) m1) c.is_there) r in
    spend_on W n control H (bare S) Q s μ m0 σ0 _ _ r0 (agreed_marked W (suc n) control H (bare S) μ m σ j h) (λ x. wanted.out s Spent σ0 tt x) (λ turns e h1 r1.
    procedure_runs W n ih S H control D F chain (body_of j) C c (λ f. give Normal) (put_at σ.store.started j true) Q wanted s μ (record m0 { turns = turns })
    (record σ0 { turns = turns }) NoValues [] (nothing_shown W j) over (λ i e. e) h1 r1)
