-- Where the call of what a link is bound to leads, with the values of the code.
use Rattle.std.proofs.Common.{◌≡◌, ℕ, zero, suc, ◌-◌, ◌<◌, ◌≤◌, List, length, Bool, true, false, get_or, Option, Some, refl, sym, ap, subst, ◌∙◌, arith, nat_eq}
use Rattle.std.specs.Prelude.{slice_set, ◌||◌, IsSome}
use Rattle.std.proofs.lemmas.Bool.{ne_eqb}
use Rattle.std.proofs.lemmas.Option.{same_Some, slice_get-get_or, slice_get_within}
use Rattle.code_forms.specs.declared.module_code.CodeProcedure.{CodeProcedure}
use Rattle.object_files.specs.declared.image.Image.{Image}
use Rattle.object_files.specs.declared.image.Link.{Link}
use Rattle.object_files.specs.declared.image.Link.TheVariants.{Wanted, To}
use Rattle.machine_rules.specs.declared.end.End.TheVariants.{Spent}
use Rattle.machine_rules.specs.State.{Store, Ended, Stepped, Stops}
use Rattle.machine_rules.specs.LookUps.{procedure_of, called, bound_to, host_of}
use Rattle.machine_rules.specs.Moves.{spend_of, spend}
use Rattle.machine_rules.specs.Calls.{set_of, call, call_bound}
use Rattle.machine_rules.specs.Steps.{Ends, stops}
use Rattle.machine_topmost.specs.declared.registers.Registers.{Registers}
use Rattle.machine_activations.specs.declared.calling.Sequel.{Sequel}
use Rattle.machine_activations.specs.declared.row.Layout.{Layout}
use Rattle.machine_activations.specs.declared.row.Row.{Row}
use Rattle.machine_activations.specs.Below.{Called, Waits}
use Rattle.machine_activations.specs.Calling.{Enters, LeadsTo}
use Rattle.machine_activations.specs.Frames.{row_at}
use Rattle.machine_activations.specs.Reaching.{Reaches}
use Rattle.machine_activations.specs.Shows.{IsPrepared}
use Rattle.machine_activations.proofs.Following.{spent_by}
use Rattle.machine_activations.proofs.Tables.{row_there}
use Rattle.machine_calls.specs.declared.host.HostProcedure.{HostProcedure}
use Rattle.machine_calls.specs.declared.linking.LinkSequel.TheVariants.{Done, Host}
use Rattle.machine_calls.specs.Hosts.{host_is}
use Rattle.machine_calls.specs.Linking.{CallsLink, EntersBody, LinkLeads, LinkedTo}
use Rattle.machine_calls.specs.Started.{ShowsStarted}
use Rattle.machine_calls.proofs.Calling.{host_called, in_called, call_now, marked, start_now, marks_one}
use Rattle.machine_calls.proofs.Found.{procedure_at}
use Rattle.machine_calls.proofs.LinkFits.{called_is, host_there, calls_host, called_there, procedure_some, enters_called, enters_body}
use Rattle.machine_activations.proofs.Reach.{ends_alike}

-- A turn is spent before the next thing, or none is left.

none_left : (n : ℕ) (m : Store) (k : Store → Stepped) → n ≡ 0 → spend_of n m k ≡ Stops (Ended Spent) m
unfolding spend_of
none_left zero m k none = refl
none_left (suc n) m k none = absurd (omega (arith, none))

pub spends_none : (image : Image) (s : Stepped) (m : Store) (k : Store → Stepped) (turns : ℕ) → Reaches image s (spend m k) → m.turns ≡ turns → turns ≡ 0 → Ends image s (Ended Spent) (record m { turns = turns })
unfolding spend
spends_none image s m k turns reaches turns_are none =
    subst (λ t. Ends image s (Ended Spent) (record m { turns = t })) turns_are
    (ends_alike image _ _ reaches (Ended Spent) m (subst (λ x. Ends image x (Ended Spent) m) (sym (none_left m.turns m k (turns_are ∙ none))) (stops (Ended Spent) m)))

pub spends_one : (image : Image) (s : Stepped) (m : Store) (k : Store → Stepped) (turns : ℕ) → Reaches image s (spend m k) → m.turns ≡ turns → (turns ≡ 0 → ⊥) → Reaches image s (k (record m { turns = turns - 1 }))
unfolding spend
spends_one image s m k turns reaches turns_are some =
    subst (λ t. Reaches image s (k (record m { turns = t - 1 }))) turns_are
    (subst (λ x. Reaches image s x) (spent_by m.turns m k (ne_eqb m.turns 0 (λ none. some (sym turns_are ∙ none)))) reaches)

-- A procedure that is found where it was.

module _ (image : Image) (layout : Layout) (region : List ℕ) (table : List Row) (r : Registers) (j n : ℕ) (x y : CodeProcedure) (same : x ≡ y) (e : Enters image layout region table r x j n) where
  pub enters_same : Enters image layout region table r y j n
  enters_same = record {
    top = e.top;
    rest = e.rest;
    procedure = e.procedure;
    shows = e.shows;
    is = e.is ∙ ap Some same;
    enough = subst (λ (q : CodeProcedure). q.args ≤ length e.top.operands) same e.enough;
    waits = subst (λ (q : CodeProcedure). Waits image (Called j n) e.procedure r.entry (length e.top.operands - q.args)) same e.waits;
  }

  pub framed : (L : Stepped → Store → Type 0) → ((e : Enters image layout region table r y j n) (s : Stepped) (m : Store) → Reaches image s (call j n y e.top e.rest m) → L s m)
      → (s : Stepped) (m : Store) → Reaches image s (call j n x e.top e.rest m) → L s m
  unfolding enters_same
  framed L leads s m reaches = leads enters_same s m (subst (λ (q : CodeProcedure). Reaches image s (call j n q e.top e.rest m)) same reaches)

module _ (image : Image) (layout : Layout) (prepared : IsPrepared image layout) (region : List ℕ) (table : List Row) (r : Registers) (k : ℕ) (e : CallsLink image layout region table r k) where
  row_here : row_at table r.top ≡ e.shows.rowed.row
  row_here = ap (λ q. row_at table q) e.shows.top ∙ row_there table (length e.rest) e.shows.rowed.row e.shows.rowed.there

  pub caller_is : (row_at table r.top).instance ≡ e.top.instance
  caller_is = ap (λ (x : Row). x.instance) row_here ∙ e.shows.rowed.same_instance

  module _ (row : Row) (row_is : row ≡ row_at table r.top) where
    own_is : row.instance ≡ e.top.instance
    own_is = ap (λ (x : Row). x.instance) row_is ∙ caller_is

    pub bound_there : IsSome (bound_to image row.instance k)
    bound_there = subst (λ (o : Option Link). IsSome o) (sym (ap (λ j. bound_to image j k) own_is ∙ e.is_bound)) refl

    module _ (b : Link) (found : bound_to image row.instance k ≡ Some b) where
      bound_is : e.bound ≡ b
      bound_is = same_Some e.bound b (sym e.is_bound ∙ ap (λ j. bound_to image j k) (sym own_is) ∙ found)

      -- a procedure of the host

      module _ (wanted : ℕ) (is : b ≡ Wanted wanted) where
        pub host_some : IsSome (host_of image wanted)
        host_some = host_there image layout prepared region table r k e wanted (bound_is ∙ is)

        pub host_leads : (h : HostProcedure) → host_of image wanted ≡ Some (host_is h) → (s : Stepped) (m : Store) → Reaches image s (call_bound image e.bound e.top e.rest m)
            → LinkLeads image layout region table r s m (Host h)
        unfolding LinkLeads calls_host
        host_leads h there s m reaches = (
          calls_host image layout prepared region table r k e wanted (bound_is ∙ is) (host_is h) there,
          subst (λ x. Reaches image s x) (host_called image e.top e.rest m e.bound wanted (host_is h) (bound_is ∙ is) there) reaches,
        )

        pub host_linked : (h : HostProcedure) → host_of image wanted ≡ Some (host_is h) → (marks : List Bool) (s : Stepped) (m : Store) (turns : ℕ) → m.turns ≡ turns → ShowsStarted marks m.started
            → Reaches image s (call_bound image e.bound e.top e.rest m) → LinkedTo image layout region table r marks s (record m { turns = turns }) (Host h)
        host_linked h there marks s m turns turns_are shown reaches =
            subst (λ t. LinkedTo image layout region table r marks s (record m { turns = t }) (Host h)) turns_are
            (record { started = m.started; shown = shown; leads = host_leads h there s m reaches })

      -- a procedure of an instance

      module _ (j n : ℕ) (is : b ≡ To j n) where
        pub target_some : IsSome (procedure_of image j n)
        target_some = procedure_some image layout prepared region table r k e j n (bound_is ∙ is)

        pub instance_there : j < length image.instances
        instance_there = let p = procedure_at image j n target_some in slice_get_within image.instances j p.instance p.is_instance

        pub target_enters : (x : CodeProcedure) → procedure_of image j n ≡ Some x → Enters image layout region table r x j n
        target_enters x there = enters_called image layout prepared region table r k e j n (bound_is ∙ is) x there

        pub body_enters : EntersBody image layout region table r j
        body_enters = enters_body image layout prepared region table r k e j n (bound_is ∙ is)

        called_x : (x : CodeProcedure) → procedure_of image j n ≡ Some x → called image j n ≡ Some x
        called_x x there =
            let q = called_there image layout prepared region table r k e j n (bound_is ∙ is) in
            let i = called_is image j n q.0 q.1 in q.1 ∙ sym i.1 ∙ there

        marks_tell : (marks : List Bool) (m : Store) → j < length marks → ShowsStarted marks m.started → (nat_eq e.top.instance j || m.started j) ≡ (nat_eq row.instance j || get_or marks j false)
        marks_tell marks m within shown =
            ap (λ b. nat_eq e.top.instance j || b) (shown j (get_or marks j false) (slice_get-get_or marks j false within)) ∙ ap (λ i. nat_eq i j || get_or marks j false) (sym own_is)

        pub call_linked : (marks : List Bool) → j < length marks → (nat_eq row.instance j || get_or marks j false) ≡ true → (x : CodeProcedure) → procedure_of image j n ≡ Some x
            → (layout' : Layout) (region' : List ℕ) (table' : List Row) (sequel : Sequel)
            → ((e : Enters image layout region table r x j n) (s : Stepped) (m : Store) → Reaches image s (call j n x e.top e.rest m) → LeadsTo image layout' region' table' s m sequel)
            → (s : Stepped) (m : Store) (turns : ℕ) → m.turns ≡ turns → ShowsStarted marks m.started → Reaches image s (call_bound image e.bound e.top e.rest m)
            → LinkedTo image layout' region' table' r marks s (record m { turns = turns }) (Done sequel)
        unfolding LinkLeads enters_called
        call_linked marks within now x there layout' region' table' sequel leads s m turns turns_are shown reaches =
            subst (λ t. LinkedTo image layout' region' table' r marks s (record m { turns = t }) (Done sequel)) turns_are
            (record {
              started = m.started;
              shown = shown;
              leads = leads (enters_called image layout prepared region table r k e j n (bound_is ∙ is) x there) s m
                  (subst (λ y. Reaches image s y)
                  (in_called image e.top e.rest m e.bound j n x (bound_is ∙ is) (called_x x there) ∙ call_now image e.top e.rest m j n x (marks_tell marks m within shown ∙ now)) reaches);
            })

        pub start_linked : (marks : List Bool) → j < length marks → (nat_eq row.instance j || get_or marks j false) ≡ false
            → (layout' : Layout) (region' : List ℕ) (table' : List Row) (sequel : Sequel) (turns turns' : ℕ)
            → ((b : EntersBody image layout region table r j) (s : Stepped) (m : Store) → m.turns ≡ turns → Reaches image s (spend m (λ m1. call j 0 b.body b.enters.top b.enters.rest m1))
            → LeadsTo image layout' region' table' s (record m { turns = turns' }) sequel)
            → (s : Stepped) (m : Store) → m.turns ≡ turns → ShowsStarted marks m.started → Reaches image s (call_bound image e.bound e.top e.rest m)
            → LinkedTo image layout' region' table' r (slice_set marks j true) s (record m { turns = turns' }) (Done sequel)
        unfolding LinkLeads enters_body
        start_linked marks within late layout' region' table' sequel turns turns' leads s m turns_are shown reaches =
            let q = called_there image layout prepared region table r k e j n (bound_is ∙ is) in
            let b = enters_body image layout prepared region table r k e j n (bound_is ∙ is) in
            record {
              started = set_of m.started j true;
              shown = marks_one marks m.started j within shown;
              leads = leads b s (marked image e.top e.rest m j) turns_are
                  (subst (λ y. Reaches image s y)
                  (in_called image e.top e.rest m e.bound j n q.0 (bound_is ∙ is) q.1
                  ∙ start_now image e.top e.rest m j n q.0 b.body (marks_tell marks m within shown ∙ late) b.enters.is b.none) reaches);
            }
