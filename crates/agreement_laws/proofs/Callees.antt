-- What is called: a procedure of the instance, or what a used item stands for.
use Rattle.std.proofs.Common.{◌≡◌, ℕ, zero, suc, ◌-◌, ◌<◌, List, [], ◌∷◌, length, map, Bool, true, false, Option, Some, None, refl, sym, ap, ◌∙◌, subst, arith}
use Rattle.std.specs.Prelude.{nat_eq, slice_get, option_map, ◌||◌, if◌then◌else◌}
use Rattle.std.proofs.lemmas.Option.{none-some, same_Some, slice_get-map}
use Rattle.mesa_types.specs.declared.faces.Import.{Import}
use Rattle.mesa_types.specs.declared.faces.Item.{Item}
use Rattle.mesa_types.specs.declared.typed_parts.Callee.{Callee}
use Rattle.mesa_types.specs.declared.typed_parts.Callee.TheVariants.{OwnProcedure, LinkedProcedure}
use Rattle.mesa_types.specs.Typed.{Kinds, Module, Procedure}
use Rattle.mesa_types.specs.Plain.{kinds_of}
use Rattle.code_forms.specs.declared.instruction.Instruction.{Instruction}
use Rattle.code_forms.specs.declared.instruction.Instruction.TheVariants.{CallLink}
use Rattle.object_files.specs.declared.image.Link.TheVariants.{To}
use Rattle.source_meaning.specs.Value.{Values}
use Rattle.source_meaning.specs.Program as source
use Rattle.source_meaning.specs.Program.{module_of, procedure_of, procedure_in, no_procedure, or_else}
use Rattle.source_meaning.specs.State.{ProcedureId, State, Answer, Normal, Gives, Go, Resumed, Rejected, Retried, Continued, Uncaught, Spent, FrameLimit, Broken, Result, Run, give, look, leave, branch, after, carry, on_normal, normal_then}
use Rattle.source_meaning.specs.Variables.{put_at}
use Rattle.source_meaning.specs.Calls as meaning
use Rattle.source_meaning.specs.Calls.{run_procedure, results, start_first}
use Rattle.machine_rules.specs.State.{Store, Stepped}
use Rattle.machine_rules.specs.Words.{push}
use Rattle.machine_rules.specs.LookUps.{called, bound_to}
use Rattle.machine_rules.specs.Moves.{with}
use Rattle.machine_rules.specs.Calls as machine
use Rattle.machine_rules.specs.Calls.{returned, pending, call_bound, call_in}
use Rattle.machine_rules.specs.Working.{works}
use Rattle.code_rules.specs.Links.{call_code}
use Rattle.code_rules.specs.Points.{Points}
use Rattle.code_rules.specs.Reading.{Coded, Destination, read}
use Rattle.agreement_rules.specs.Layout.{Show}
use Rattle.agreement_rules.specs.Reaches.{Reaches}
use Rattle.agreement_laws.specs.World.{World, Ready, CodeOf, texts_of, meant_procedure}
use Rattle.agreement_laws.specs.Standing.{Frames, at, filled, fill}
use Rattle.agreement_laws.specs.Relation.{Ground, heres, Agrees}
use Rattle.agreement_laws.specs.Contexts.{Site, Context, Inside}
use Rattle.agreement_laws.specs.Answers.{Ended}
use Rattle.agreement_laws.specs.Promises.{next, NextFollows}
use Rattle.agreement_laws.proofs.Calls.{waiting, over_caller, jumps_back, Ok, called_runs}
use Rattle.agreement_laws.proofs.Control.{IsControl, stands_at}
use Rattle.agreement_laws.proofs.Keeping.{agreed_bound}
use Rattle.agreement_laws.proofs.Opening.{agreed_back}
use Rattle.agreement_laws.proofs.Procedures.{procedure_stands}
use Rattle.agreement_laws.proofs.Raising.{spent_more}
use Rattle.agreement_laws.proofs.Returning as back
use Rattle.agreement_laws.proofs.Returning.{IsEnd}
use Rattle.agreement_laws.proofs.Starting.{body_of, start_runs}
use Rattle.agreement_laws.proofs.Storing.{put_here}

pub call_is : (imports : List Import) (callee : Callee) → IsControl (call_code imports callee)
unfolding works
call_is imports (OwnProcedure q) texts number v = refl
call_is imports (LinkedProcedure k n) texts number v = refl

or_true : (b c : Bool) → c ≡ true → b || c ≡ true
or_true true c e = refl
or_true false c e = e

-- A procedure by its head.

abbrev pub callee_id : (instance k : ℕ) → ProcedureId
callee_id j k = record { instance = j; number = suc k }

abbrev pub heads : Module → List Item
heads m = map (λ (p : Procedure). p.head) m.procedures

head_by : (o : Option Procedure) (given : Item) → option_map (λ (p : Procedure). p.head) o ≡ Some given → (or_else no_procedure o).head ≡ given
unfolding or_else
head_by None given e = absurd (none-some given e)
head_by (Some p) given e = same_Some p.head given e

there_by : (ps : List Procedure) (k : ℕ) (given : Item) → slice_get (map (λ (p : Procedure). p.head) ps) k ≡ Some given → k < length ps
there_by [] k given e = absurd (none-some given e)
there_by (p ∷ ps) zero given e = omega arith
there_by (p ∷ ps) (suc k) given e = let lt = there_by ps k given e in omega (arith, lt)

pub record Called (W : World) (j k : ℕ) (given : Item) : Type 0 where
  pub code : Coded
  pub code_of : CodeOf W (callee_id j k) code
  pub is_head : (meant_procedure W (callee_id j k)).head ≡ given

pub called_there : (W : World) → Ready W → (j k : ℕ) (m : source.Instance) (given : Item) → slice_get W.program.instances j ≡ Some m
    → slice_get (heads (module_of W.program j)) k ≡ Some given → Called W j k given
unfolding procedure_of procedure_in
called_there W ready j k m given is e =
    let lt = there_by (module_of W.program j).procedures k given e in
    let x = procedure_stands W ready (callee_id j k) m is lt in
    record {
      code = x.code;
      code_of = x.code_of;
      is_head = head_by (slice_get (module_of W.program j).procedures k) given
          (sym (slice_get-map (λ (p : Procedure). p.head) (module_of W.program j).procedures k) ∙ e);
    }

module _ (W : World) (ready : Ready W) (n : ℕ) (ih : NextFollows W n) (K : Site) (points : Points Destination) (near : List ℕ) (from to : ℕ)
    (ctx : Context W K points near from to) (i : Instruction) (o d : ℕ) (is : read K.code o ≡ Some (record { instruction = i; depth = d; around = near }))
    (inside : Inside W K.ground o o) (rest : List ℕ) (vs : Values) (words : List ℕ) where
  abbrev G : Ground
  G = K.ground

  abbrev Good : Kinds → Stepped → Result → Type 0
  Good ks s r = Ok W n K points near from to ctx i o d is inside ks rest s r

  module _ (j k : ℕ) (C : Coded) (c : CodeOf W (callee_id j k) C)
      (shown : Show (texts_of W) (kinds_of (meant_procedure W (callee_id j k)).head.takes) vs words) where
    abbrev gives : Kinds
    gives = kinds_of (meant_procedure W (callee_id j k)).head.gives

    abbrev runs : Run
    runs = run_procedure W.program (next W n) j (suc k) K.meant.chain vs (results (procedure_of W.program j (suc k)))

    pub own_call : (s : Stepped) (μ : Frames) (m : Store) (σ : State) → Agrees W n G μ m σ
        → Reaches W.image s (machine.call j (suc k) c.procedure (filled μ (at G.here o (push words rest))) (fill μ G.below) m) → Good gives s (runs σ)
    own_call s μ m σ h r = called_runs W n K points near from to ctx i o d is inside j k C c rest ih vs words shown s μ m σ h r

    -- where an instance is started first, the call comes behind that
    after_start : (s : Stepped) (a : Answer) (σ : State) → IsEnd a → Ended W a s σ → Good gives s (normal_then runs a σ)
    unfolding normal_then give
    after_start s Normal σ e h = absurd e
    after_start s (Gives us) σ e h = absurd e
    after_start s (Go f p) σ e h = absurd e
    after_start s (Resumed us) σ e h = absurd e
    after_start s Rejected σ e h = absurd e
    after_start s (Retried x) σ e h = absurd e
    after_start s (Continued x) σ e h = absurd e
    after_start s (Uncaught x) σ e h = h
    after_start s Spent σ e h = h
    after_start s FrameLimit σ e h = h
    after_start s Broken σ e h = h

    module _ (number : ℕ) (linked : i ≡ CallLink number) (bound : bound_to W.image G.here.procedure.instance number ≡ Some (To j (suc k)))
        (D : Coded) (b : CodeOf W (body_of j) D) where
      -- the caller that waited for the start calls now
      pending_call : (results : List ℕ) (μ : Frames) (m : Store) → m.started j ≡ true
          → returned W.image 0 results (fill μ (waiting W n K points near from to ctx i o d is inside (push words rest))) m
          ≡ machine.call j (suc k) c.procedure (filled μ (at G.here o (push words rest))) (fill μ G.below) m
      unfolding returned with pending call_bound call_in called
      pending_call results μ m started =
          let a = filled μ (at G.here o (push words rest)) in
          let S = fill μ G.below in
          ap (λ x. with x m λ y. pending W.image y a S m) (stands_at W K points near from to ctx μ o d (push words rest) i near is)
          ∙ ap (λ y. pending W.image y a S m) linked
          ∙ ap (λ x. with x m λ l. call_bound W.image l a S m) bound
          ∙ ap (λ x. with x m λ y. call_in W.image j (suc k) y a S m) c.is_there
          ∙ ap (λ x. if x then machine.call j (suc k) c.procedure a S m else machine.start W.image j (a ∷ S) m)
          (or_true (nat_eq G.here.procedure.instance j) (m.started j) started)

      wanted_start : (started : ℕ → Bool) → started j ≡ true
          → back.Wanted W n (waiting W n K points near from to ctx i o d is inside (push words rest)) G.hold G.control K.points (body_of j) D b
          (λ f. give Normal) started
          (λ s r. Good gives s (normal_then runs r.answer r.state))
      unfolding give leave normal_then
      wanted_start started marked = record {
        ends = λ f s μ m σ stays h r.
            let τ : State = record σ { standing = σ.standing - 1 } in
            let agrees = agreed_back W n G.control G.hold (heres G) (body_of j) f μ m σ h in
            own_call s μ m τ (agreed_bound W _ n G.control G.hold (heres G) μ m τ h.enough agrees)
            (subst (λ x. Reaches W.image s x) (pending_call _ μ m (h.beside.started j ∙ stays j marked)) r);
        out = after_start;
        jumped = λ f s g l σ t e μ m h y way r. (
          spent_more n l (record σ { standing = σ.standing - 1 }) h.enough,
          jumps_back W n K points near from to ctx i o d is inside (push words rest) (body_of j) f s g l σ t e μ m h y way r,
        );
      }

      first_by : (x : Bool) (s : Stepped) (μ : Frames) (m : Store) (σ : State) → Agrees W n G μ m σ
          → Reaches W.image s (if x then machine.call j (suc k) c.procedure (filled μ (at G.here o (push words rest))) (fill μ G.below) m
          else machine.start W.image j (filled μ (at G.here o (push words rest)) ∷ fill μ G.below) m)
          → Good gives s (branch x runs (on_normal (meaning.start W.program (next W n) j K.meant.chain) runs) σ)
      unfolding branch on_normal after carry
      first_by true s μ m σ h r = own_call s μ m σ h r
      first_by false s μ m σ h r =
          let lt = h.enough in
          start_runs W n ih (waiting W n K points near from to ctx i o d is inside (push words rest)) G.hold G.control K.points K.floor K.meant.chain j D b
          (λ s r. Good gives s (normal_then runs r.answer r.state)) s μ m σ
          (wanted_start (put_at σ.store.started j true) (put_here σ.store.started j true))
          (over_caller W n K points near from to ctx i o d is inside (push words rest) n μ m σ (body_of j) h)
          (agreed_bound W n (suc n) G.control G.hold (heres G) μ m σ (omega (arith, lt)) h) r

      pub first_call : (s : Stepped) (μ : Frames) (m : Store) (σ : State) → Agrees W n G μ m σ
          → Reaches W.image s (call_in W.image j (suc k) c.procedure (filled μ (at G.here o (push words rest))) (fill μ G.below) m)
          → Good gives s (start_first W.program (next W n) K.meant.instance j K.meant.chain runs σ)
      unfolding start_first look call_in
      first_call s μ m σ h r =
          first_by (nat_eq K.meant.instance j || σ.store.started j) s μ m σ h
          (subst (λ x. Reaches W.image s (if nat_eq K.meant.instance j || x
          then machine.call j (suc k) c.procedure (filled μ (at G.here o (push words rest))) (fill μ G.below) m
          else machine.start W.image j (filled μ (at G.here o (push words rest)) ∷ fill μ G.below) m)) (h.beside.started j)
          (subst (λ x. Reaches W.image s (if nat_eq x j || m.started j
          then machine.call j (suc k) c.procedure (filled μ (at G.here o (push words rest))) (fill μ G.below) m
          else machine.start W.image j (filled μ (at G.here o (push words rest)) ∷ fill μ G.below) m)) ctx.instance r))
