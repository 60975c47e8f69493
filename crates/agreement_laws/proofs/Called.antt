-- The instruction that calls: what is promised of calls.
use Rattle.std.proofs.Common.{◌≡◌, ℕ, suc, List, [], ◌∷◌, Some, refl, sym, ap, ◌∙◌, subst, arith}
use Rattle.std.specs.Prelude.{slice_get, ◌||◌}
use Rattle.std.proofs.lemmas.Bool.{eq-eqb}
use Rattle.mesa_types.specs.declared.faces.Import.{Import}
use Rattle.mesa_types.specs.declared.faces.Item.{Item}
use Rattle.mesa_types.specs.declared.faces.ItemKind.{ItemKind}
use Rattle.mesa_types.specs.declared.faces.ItemKind.TheVariants as item
use Rattle.mesa_types.specs.declared.typed_parts.Callee.{Callee}
use Rattle.mesa_types.specs.declared.typed_parts.Callee.TheVariants.{OwnProcedure, LinkedProcedure}
use Rattle.mesa_types.specs.Typed.{Module}
use Rattle.mesa_types.specs.Links.{imported, IsUsed}
use Rattle.mesa_types.specs.Plain.{kinds_of}
use Rattle.mesa_types.specs.Sound.{CalleeIs, UsedItem, IsGiven, scope_of}
use Rattle.code_forms.specs.declared.instruction.Instruction.{Instruction}
use Rattle.code_forms.specs.declared.instruction.Instruction.TheVariants.{Call, CallLink}
use Rattle.object_files.specs.declared.image.Link.{Link}
use Rattle.object_files.specs.declared.image.Link.TheVariants.{Wanted, To}
use Rattle.source_meaning.specs.Value.{Values}
use Rattle.source_meaning.specs.Program.{Target, ToProcedure, ToHost, ToSignal, SignalOf, BoundsFault, ZeroDivisor, NoInput, Unnamed, module_of, instance_of, or_else, no_instance, procedure_of, callee_of}
use Rattle.source_meaning.specs.Lawful.{StandsFor}
use Rattle.source_meaning.specs.State.{State, Result, give, look, branch, on_normal}
use Rattle.source_meaning.specs.Calls as meaning
use Rattle.source_meaning.specs.Calls.{run_procedure, results, start_first, call_to}
use Rattle.machine_rules.specs.State.{Store, Stepped}
use Rattle.machine_rules.specs.Words.{push}
use Rattle.machine_rules.specs.LookUps.{called, bound_to}
use Rattle.machine_rules.specs.Moves as moves
use Rattle.machine_rules.specs.Moves.{with}
use Rattle.machine_rules.specs.Calls as machine
use Rattle.machine_rules.specs.Calls.{call_bound, call_in}
use Rattle.machine_rules.specs.Steps.{perform}
use Rattle.code_rules.specs.Links.{call_code, link_number}
use Rattle.code_rules.specs.Points.{Points}
use Rattle.code_rules.specs.Reading.{Destination, Place, Own, one_more, no_more, read}
use Rattle.agreement_rules.specs.Layout.{Show}
use Rattle.agreement_rules.specs.Reaches.{Reaches}
use Rattle.agreement_rules.specs.Stands.{BoundTo}
use Rattle.agreement_laws.specs.World.{World, Ready, texts_of}
use Rattle.agreement_laws.specs.Standing.{Frames, at, filled, fill}
use Rattle.agreement_laws.specs.Relation.{Ground, heres, Agrees, standing}
use Rattle.agreement_laws.specs.Contexts.{Site, Context, Inside}
use Rattle.agreement_laws.specs.Answers.{Valued}
use Rattle.agreement_laws.specs.Promises.{next, NextFollows, SignalsFollow, CallFollows}
use Rattle.agreement_laws.proofs.Callees.{call_is, heads, called_there, own_call, first_call}
use Rattle.agreement_laws.proofs.Calls.{Ok}
use Rattle.agreement_laws.proofs.Control.{begun_more, agreed_begun, reaches_performed}
use Rattle.agreement_laws.proofs.HostItems.{host_there, takes_kinds, gives_kinds}
use Rattle.agreement_laws.proofs.Hosts.{host_follows}
use Rattle.agreement_laws.proofs.Keeping.{agreed_bound}
use Rattle.agreement_laws.proofs.Instances.{instance_there}
use Rattle.agreement_laws.proofs.Linked.{import_by, kinds_same}
use Rattle.agreement_laws.proofs.Procedures.{procedure_stands}
use Rattle.agreement_laws.proofs.Searching.{link_here}
use Rattle.agreement_laws.proofs.Spending.{spend_on}
use Rattle.agreement_laws.proofs.Starting.{body_of}

-- the number of a procedure that an instance gives
record GivenProcedure (m : Module) (q : ℕ) (given : Item) : Type 0 where
  k : ℕ
  is : q ≡ suc k
  there : slice_get (heads m) k ≡ Some given

given_procedure : (m : Module) (kind : ItemKind) (q : ℕ) (given : Item) → kind ≡ item.Procedure → IsGiven m kind q given → GivenProcedure m q given
unfolding IsGiven
given_procedure m item.Procedure q given e g = record { k = g.0; is = g.1; there = g.2 }
given_procedure m item.Signal q given e g = absurd (let z : ⊥ = cc in z)
given_procedure m item.Error q given e g = absurd (let z : ⊥ = cc in z)

module _ (W : World) (ready : Ready W) (n : ℕ) (ih : NextFollows W n) (signals : SignalsFollow W n) (K : Site) (points : Points Destination) (near : List ℕ)
    (from to : ℕ) (ctx : Context W K points near from to) (i : Instruction) (o d : ℕ)
    (is : read K.code o ≡ Some (record { instruction = i; depth = d; around = near })) (inside : Inside W K.ground o o) (rest : List ℕ) (it : Item) (vs : Values)
    (words : List ℕ) (shown : Show (texts_of W) (kinds_of it.takes) vs words) where
  abbrev G : Ground
  G = K.ground

  abbrev Good : Stepped → Result → Type 0
  Good s r = Ok W n K points near from to ctx i o d is inside (kinds_of it.gives) rest s r

  more_turns : (μ : Frames) (m : Store) (σ : State) → Agrees W n G μ m σ → Agrees W (suc n) G μ m σ
  more_turns μ m σ h = let lt = h.enough in agreed_bound W n (suc n) G.control G.hold (heres G) μ m σ (omega (arith, lt)) h

  -- A procedure of the instance.

  own_by : (q : ℕ) → CalleeIs K.scope (OwnProcedure q) it → (s : Stepped) (μ : Frames) (m : Store) (σ : State) → Agrees W (suc n) G μ m σ
      → Reaches W.image s (perform W.image (Call q) (filled μ (at G.here o (push words rest))) (fill μ G.below) m)
      → Good s (meaning.call W.program (next W n) K.meant (ToProcedure K.meant.instance q) vs σ)
  unfolding CalleeIs scope_of perform with called meaning.call call_to start_first look branch give
  own_by q callee s μ m σ h r =
      let k = callee.0 in
      let g = G.here.procedure.instance in
      let x = called_there W ready g k ctx.code_of.instance it ctx.code_of.is_instance (ap (λ l. slice_get l k) (sym ctx.scope_in.procedures) ∙ callee.2) in
      let runs = run_procedure W.program (next W n) g (suc k) K.meant.chain vs (results (procedure_of W.program g (suc k))) in
      subst (λ y. Good s (meaning.call W.program (next W n) K.meant (ToProcedure y q) vs σ)) ctx.instance
      (subst (λ y. Good s (meaning.call W.program (next W n) K.meant (ToProcedure g y) vs σ)) (sym callee.1)
      (let a = filled μ (at G.here o (push words rest)) in
      let r1 = subst (λ y. Reaches W.image s (with (called W.image g y) m λ p. moves.spend m λ m1. machine.call g y p a (fill μ G.below) m1)) callee.1 r in
      let r2 = subst (λ y. Reaches W.image s (with y m λ p. moves.spend m λ m1. machine.call g (suc k) p a (fill μ G.below) m1)) x.code_of.is_there r1 in
      spend_on W n G.control G.hold (heres G) Good s μ m σ _ _ r2 h (λ z. z) (λ turns e h1 r3.
      subst (λ b. Good s (branch (b || σ.store.started g) runs (on_normal (meaning.start W.program (next W n) g K.meant.chain) runs) (record σ { turns = turns })))
      (sym (eq-eqb K.meant.instance g (sym ctx.instance)))
      (subst (λ ks. Ok W n K points near from to ctx i o d is inside ks rest s (runs (record σ { turns = turns })))
      (ap (λ (y : Item). kinds_of y.gives) x.is_head)
      (own_call W ready n ih K points near from to ctx i o d is inside rest vs words g k x.code x.code_of
      (subst (λ (y : Item). Show (texts_of W) (kinds_of y.takes) vs words) (sym x.is_head) shown) s μ (record m { turns = turns })
      (record σ { turns = turns }) h1 r3)))))

  -- What a used item stands for.

  module _ (number : ℕ) (linked : i ≡ CallLink number) (import : Import) (kind : it.kind ≡ item.Procedure) where
    abbrev inst : ℕ
    inst = G.here.procedure.instance

    to_procedure : (j q : ℕ) → StandsFor W.program (ToProcedure j q) it → bound_to W.image inst number ≡ Some (To j q)
        → (s : Stepped) (μ : Frames) (m : Store) (σ : State) → Agrees W n G μ m σ → Reaches W.image s (call_bound W.image (To j q) (filled μ (at G.here o (push words rest))) (fill μ G.below) m)
        → Good s (call_to W.program (next W n) K.meant (ToProcedure j q) vs σ)
    unfolding StandsFor call_bound called with call_to module_of instance_of or_else
    to_procedure j q stands bound s μ m σ h r =
        let x = stands.1 in
        let g = given_procedure x.instance.code it.kind q x.given kind x.is_given in
        let there : slice_get (heads (module_of W.program j)) g.k ≡ Some x.given =
        ap (λ o. slice_get (heads (or_else no_instance o).code) g.k) x.is_there ∙ g.there in
        let c = called_there W ready j g.k x.instance x.given x.is_there there in
        let b = procedure_stands W ready (body_of j) x.instance x.is_there tt in
        let a = filled μ (at G.here o (push words rest)) in
        let r1 = subst (λ y. Reaches W.image s (with (called W.image j y) m λ p. call_in W.image j y p a (fill μ G.below) m)) g.is r in
        let r2 = subst (λ y. Reaches W.image s (with y m λ p. call_in W.image j (suc g.k) p a (fill μ G.below) m)) c.code_of.is_there r1 in
        subst (λ y. Good s (call_to W.program (next W n) K.meant (ToProcedure j y) vs σ)) (sym g.is)
        (subst (λ ks. Ok W n K points near from to ctx i o d is inside ks rest s (call_to W.program (next W n) K.meant (ToProcedure j (suc g.k)) vs σ))
        (ap (λ (y : Item). kinds_of y.gives) c.is_head ∙ kinds_same x.given.gives it.gives x.gives)
        (first_call W ready n ih K points near from to ctx i o d is inside rest vs words j g.k c.code c.code_of
        (subst (λ ks. Show (texts_of W) ks vs words) (sym (ap (λ (y : Item). kinds_of y.takes) c.is_head ∙ kinds_same x.given.takes it.takes x.takes)) shown)
        number linked (bound ∙ ap (λ y. Some (To j y)) g.is) b.code b.code_of s μ m σ h r2))

    -- the link is bound, and what is called behind the turn that is spent does what the item stands for
    abbrev Calls : Target → Link → Type 0
    Calls target link = (s : Stepped) (μ : Frames) (m : Store) (σ : State) → Agrees W n G μ m σ
        → Reaches W.image s (call_bound W.image link (filled μ (at G.here o (push words rest))) (fill μ G.below) m)
        → Good s (call_to W.program (next W n) K.meant target vs σ)

    bound_calls : (target : Target) → StandsFor W.program target it → BoundTo W.image import it target (bound_to W.image inst number)
        → (link : Link) × (bound_to W.image inst number ≡ Some link) × Calls target link
    unfolding StandsFor call_bound with call_to
    bound_calls (ToProcedure j q) stands bound = (To j q, bound, to_procedure j q stands bound)
    bound_calls (ToHost h) stands bound = (
      Wanted bound.0,
      bound.1,
      λ s μ m σ agrees r.
          subst (λ ks. Ok W n K points near from to ctx i o d is inside ks rest s (call_to W.program (next W n) K.meant (ToHost h) vs σ))
          (sym (gives_kinds h it.gives stands.2))
          (host_follows W ready n signals K points near from to ctx i o d is inside rest h vs words
          (subst (λ ks. Show (texts_of W) ks vs words) (takes_kinds h it.takes stands.1) shown) s μ m σ (more_turns μ m σ agrees)
          (subst (λ y. Reaches W.image s (with y m λ z. machine.host W.image z (filled μ (at G.here o (push words rest))) (fill μ G.below) m))
          (host_there W.image ready.host import it bound.0 h bound.2 kind stands.1 stands.2) r)),
    )
    bound_calls (ToSignal (SignalOf j k)) stands bound = absurd (stands.0 kind)
    bound_calls (ToSignal NoInput) stands bound = absurd (let e : item.Procedure ≡ item.Error = sym kind ∙ stands.0 in let z : ⊥ = cc in z)
    bound_calls (ToSignal BoundsFault) stands bound = absurd stands
    bound_calls (ToSignal ZeroDivisor) stands bound = absurd stands
    bound_calls (ToSignal Unnamed) stands bound = absurd stands

    target_called : (target : Target) → StandsFor W.program target it → BoundTo W.image import it target (bound_to W.image inst number)
        → (s : Stepped) (μ : Frames) (m : Store) (σ : State) → Agrees W (suc n) G μ m σ
        → Reaches W.image s (perform W.image (CallLink number) (filled μ (at G.here o (push words rest))) (fill μ G.below) m)
        → Good s (meaning.call W.program (next W n) K.meant target vs σ)
    unfolding perform with meaning.call give
    target_called target stands bound s μ m σ h r =
        let x = bound_calls target stands bound in
        let r1 = subst (λ y. Reaches W.image s (with y m λ l. moves.spend m λ m1.
        call_bound W.image l (filled μ (at G.here o (push words rest))) (fill μ G.below) m1)) x.1 r in
        spend_on W n G.control G.hold (heres G) Good s μ m σ _ _ r1 h (λ z. z) (λ turns e h1 r2.
        x.2 s μ (record m { turns = turns }) (record σ { turns = turns }) h1 r2)

  linked_by : (k u : ℕ) → i ≡ CallLink (link_number K.code.imports k u) → CalleeIs K.scope (LinkedProcedure k u) it
      → (s : Stepped) (μ : Frames) (m : Store) (σ : State) → Agrees W (suc n) G μ m σ
      → Reaches W.image s (perform W.image (CallLink (link_number K.code.imports k u)) (filled μ (at G.here o (push words rest))) (fill μ G.below) m)
      → Good s (meaning.call W.program (next W n) K.meant (callee_of W.program K.meant.instance (LinkedProcedure k u)) vs σ)
  unfolding CalleeIs UsedItem imported callee_of scope_of
  linked_by k u linked callee s μ m σ h r =
      let g = G.here.procedure.instance in
      let m0 = ctx.code_of.instance in
      let x = instance_there W ready g m0 ctx.code_of.is_instance in
      let used = callee.0 in
      let is1 = subst (λ imports. imported imports k u ≡ Some it) (ctx.scope_in.imports ∙ ap (λ (y : Module). y.imports) x.module_is) used.0 in
      let used1 = subst (λ imports. IsUsed imports k u) (ctx.scope_in.imports ∙ ap (λ (y : Module). y.imports) x.module_is) used.1 in
      let import = import_by (slice_get m0.code.imports k) u it is1 in
      let number : link_number K.code.imports k u ≡ link_number m0.code.imports k u =
      link_here W ready G.here.procedure K.code ctx.code_of K.scope ctx.scope_in k u ∙ ap (λ (y : Module). link_number y.imports k u) x.module_is in
      let bound = x.stands.links k u import.0 it import.1 is1 used1 in
      subst (λ y. Good s (meaning.call W.program (next W n) K.meant ((instance_of W.program y).links k u) vs σ)) ctx.instance
      (subst (λ (links : ℕ → ℕ → Target). Good s (meaning.call W.program (next W n) K.meant (links k u) vs σ)) (sym x.links_are)
      (target_called (link_number K.code.imports k u) linked import.0 callee.1 (m0.links k u) (x.lawful.links k u it is1 used1)
      (subst (λ y. BoundTo W.image import.0 it (m0.links k u) (bound_to W.image g y)) (sym number) bound) s μ m σ h r))

call_by : (W : World) → Ready W → (n : ℕ) → NextFollows W n → SignalsFollow W n → (K : Site) (w : Place) (callee : Callee) (it : Item) (vs : Values) (words : List ℕ)
    (points : Points Destination) (from to : ℕ) {a b : ℕ} (rest : List ℕ) (μ : Frames) (m : Store) (σ : State) → CalleeIs K.scope callee it
    → Show (texts_of W) (kinds_of it.takes) vs words → Own K.code w (call_code K.code.imports callee ∷ []) a b → Context W K points w.around from to
    → Inside W K.ground a b → Agrees W (suc n) K.ground μ m σ
    → Valued W (suc n) K w.around (kinds_of it.gives) b rest (standing K.ground a (push words rest) μ m)
    (meaning.call W.program (next W n) K.meant (callee_of W.program K.meant.instance callee) vs σ)
unfolding callee_of
call_by W ready n ih signals K w (OwnProcedure q) it vs words points from to {a = a} rest μ m σ is shown (one_more r no_more) ctx inside h =
    own_by W ready n ih signals K points w.around from to ctx (Call q) a w.depth r (λ o low high. inside o low (omega (arith, high))) rest it vs words shown q is
    (standing K.ground a (push words rest) μ m) μ (begun_more m) σ (agreed_begun W (suc n) K.ground μ m σ h)
    (reaches_performed W K points w.around from to ctx μ m a w.depth (push words rest) (Call q) w.around r (call_is K.code.imports (OwnProcedure q)))
call_by W ready n ih signals K w (LinkedProcedure k u) it vs words points from to {a = a} rest μ m σ is shown (one_more r no_more) ctx inside h =
    let x = CallLink (link_number K.code.imports k u) in
    linked_by W ready n ih signals K points w.around from to ctx x a w.depth r (λ o low high. inside o low (omega (arith, high))) rest it vs words shown k u refl is
    (standing K.ground a (push words rest) μ m) μ (begun_more m) σ (agreed_begun W (suc n) K.ground μ m σ h)
    (reaches_performed W K points w.around from to ctx μ m a w.depth (push words rest) x w.around r (call_is K.code.imports (LinkedProcedure k u)))

pub call_follows : (W : World) → Ready W → (n : ℕ) → NextFollows W n → SignalsFollow W n → CallFollows W n
call_follows W ready n ih signals K w callee it vs words points from to a b rest μ m σ is shown own ctx inside h =
    call_by W ready n ih signals K w callee it vs words points from to rest μ m σ is shown own ctx inside h
