-- The instructions that raise signals, and faults, raise them over the region.
use Rattle.std.proofs.Common.{◌≡◌, ℕ, zero, suc, ◌+◌, ◌-◌, ◌<◌, ◌≤◌, List, [], ◌∷◌, length, true, false, not, Option, Some, None, refl, sym, ap, subst, ◌∙◌, arith}
use Rattle.std.specs.Prelude.{slice_get, option_and_then, IsSomeAnd}
use Rattle.std.proofs.lemmas.Bool.{false≢true, eqb-true}
use Rattle.std.proofs.lemmas.Option.{none-some, same_Some}
use Rattle.code_forms.specs.declared.instruction.Instruction.{Instruction}
use Rattle.code_forms.specs.declared.instruction.Instruction.TheVariants.{Raise, RaiseLink, RaiseHost}
use Rattle.code_forms.specs.declared.module_code.CodeKind.{CodeKind}
use Rattle.code_forms.specs.declared.module_code.CodeKind.TheVariants.{Procedure, Signal, Error}
use Rattle.code_forms.specs.declared.module_code.CodeLink.{CodeLink}
use Rattle.code_forms.specs.declared.module_code.CodeProcedure.{CodeProcedure}
use Rattle.code_forms.specs.declared.module_code.CodeSignal.{CodeSignal}
use Rattle.code_forms.specs.declared.module_code.ModuleCode.{ModuleCode}
use Rattle.code_forms.specs.Operands.{OperandsFit, RaisedLink, IsRaised}
use Rattle.code_forms.specs.Regions.{region_at}
use Rattle.code_forms.specs.Routine.{routine, moves, goes_on, signal_words, link_words, is_error, is_error_signal, is_error_link}
use Rattle.code_forms.specs.Running.{EntryRuns}
use Rattle.object_files.specs.declared.image.Image.{Image}
use Rattle.object_files.specs.declared.image.Link.{Link}
use Rattle.object_files.specs.declared.image.Link.TheVariants.{Wanted, To}
use Rattle.signaller.specs.declared.signal_id.SignalId.{SignalId}
use Rattle.signaller.specs.declared.signal_id.SignalId.TheVariants.{Own, BoundsFault, ZeroDivisor, NoInput, Unnamed}
use Rattle.machine_rules.specs.State.{Active, Activations, Store, Runs, Stepped}
use Rattle.machine_rules.specs.LookUps.{code_of, signal_of, link_of, bound_to, signal_bound}
use Rattle.machine_rules.specs.Moves.{with}
use Rattle.machine_rules.specs.Signals.{raise, takes_of, takes_in, takes_back}
use Rattle.machine_rules.specs.Steps.{host_signal, raise_with, perform, worked, works_in, step}
use Rattle.machine_rules.specs.Working.{works}
use Rattle.machine_topmost.specs.declared.registers.Registers.{Registers}
use Rattle.machine_activations.specs.declared.row.Layout.{Layout}
use Rattle.machine_activations.specs.declared.row.Row.{Row}
use Rattle.machine_activations.specs.Below.{GoesOn}
use Rattle.machine_activations.specs.Calling.{IsCodeOf, IsAt}
use Rattle.machine_activations.specs.Links.{IsLike, IsOfInstance, IsBoundLike}
use Rattle.machine_activations.specs.Shows.{IsPrepared, Shows}
use Rattle.machine_activations.specs.Reaching.{Reaches, Shown}
use Rattle.machine_activations.proofs.Called.{runs_here, step_here}
use Rattle.machine_activations.proofs.Following.{began}
use Rattle.machine_activations.proofs.Placing.{code_here, fetched_here}
use Rattle.machine_activations.proofs.Reach.{one_step, two_ways}
use Rattle.machine_signals.specs.Laws.{is_own}
use Rattle.machine_signals.specs.Raising.{Raises}

pub some_at : {X : Type 0} (xs : List X) (n : ℕ) → n < length xs → (x : X) × (slice_get xs n ≡ Some x)
some_at [] n less = absurd (omega (arith, less))
some_at (x ∷ xs) zero less = (x, refl)
some_at (x ∷ xs) (suc n) less = some_at xs n (omega (arith, less))

-- A signal that takes words back.

takes_so : (kind : CodeKind) (results n : ℕ) → takes_of kind results n ≡ true → (kind ≡ Signal) × (results ≡ n)
unfolding takes_of
takes_so Signal results n e = (refl, eqb-true results n e)
takes_so Procedure results n e = absurd (false≢true e)
takes_so Error results n e = absurd (false≢true e)

takes_there : (o : Option CodeSignal) (s : CodeSignal) (n : ℕ) → o ≡ Some s → takes_in o n ≡ true → (s.kind ≡ Signal) × (s.results ≡ n)
unfolding takes_in
takes_there o s n is e = takes_so s.kind s.results n (sym (ap (λ x. takes_in x n) is) ∙ e)

takes_own : (image : Image) (j k : ℕ) (s : CodeSignal) (n : ℕ) → signal_of image j k ≡ Some s → takes_back image (Own j k) n ≡ true → (s.kind ≡ Signal) × (s.results ≡ n)
unfolding takes_back
takes_own image j k s n is e = takes_there (signal_of image j k) s n is e

-- a predeclared one takes none
pub takes_none : (image : Image) (signal : SignalId) (n : ℕ) → is_own signal ≡ false → takes_back image signal n ≡ true → ⊥
unfolding takes_back
takes_none image (Own j k) n own e = false≢true (sym own)
takes_none image BoundsFault n own e = false≢true e
takes_none image ZeroDivisor n own e = false≢true e
takes_none image NoInput n own e = false≢true e
takes_none image Unnamed n own e = false≢true e

-- one that is raised with no arguments
pub predeclared_raises : (image : Image) (layout : Layout) (region : List ℕ) (table : List Row) (r : Registers) (signal : SignalId) → is_own signal ≡ false
    → (p : CodeProcedure) (a : Active) (S : Activations) → Shows image layout region table r p a S → (s : Stepped) (m : Store)
    → Reaches image s (raise image signal [] a S m) → Raises image layout region table r signal 0 s m
unfolding raise_with
predeclared_raises image layout region table r signal own p a S shows s m reaches = record {
  top = a;
  rest = S;
  procedure = p;
  shows = shows;
  enough = omega arith;
  waits = λ n back. absurd (takes_none image signal n own back);
  reaches = reaches;
}

module _ (image : Image) (layout : Layout) (prepared : IsPrepared image layout) (region : List ℕ) (table : List Row) (r : Registers) (code : ModuleCode)
    (is : IsCodeOf image code table r) (s : Stepped) (m : Store) (shown : Shown image layout region table r s m) where
  abbrev pub a : Active
  a = shown.top

  abbrev pub S : Activations
  S = shown.rest

  abbrev pub p : CodeProcedure
  p = shown.procedure

  here : code_of image a.instance ≡ Some code
  here = code_here image layout prepared region table r p a S shown.shows code is

  -- what the instruction finds
  module _ (i : Instruction) (at : IsAt code table r i) where
    fetched : slice_get p.code r.entry ≡ Some at.entry
    fetched = fetched_here image layout prepared region table r p a S shown.shows code is i at

    pub runs : EntryRuns (routine code p) p r.entry at.entry
    runs = runs_here image layout prepared code a.instance a.procedure p here shown.shows.is r.entry at.entry fetched

    depth_is : length a.operands ≡ at.entry.depth
    depth_is = shown.shows.deep at.entry fetched

    fits : OperandsFit (routine code p) (region_at p.phrases at.entry.at) i
    fits = subst (λ k. OperandsFit (routine code p) (region_at p.phrases at.entry.at) k) at.at runs.operands.own

    -- it takes so many words, and where it goes on it has put so many
    module _ (takes puts : ℕ) (moved : ((moves (routine code p) i).takes ≡ takes) × ((moves (routine code p) i).puts ≡ puts)) where
      pub enough : takes ≤ length a.operands
      enough =
          let d = depth_is in let e = runs.enough in
          let t = ap (λ k. (moves (routine code p) k).takes) at.at ∙ moved.0 in omega (arith, d, e, t)

      next : goes_on (routine code p) i ≡ true → GoesOn p r.entry (length a.operands - takes + puts)
      next goes =
          let d = depth_is in
          let t = ap (λ k. (moves (routine code p) k).takes) at.at ∙ moved.0 in
          let q = ap (λ k. (moves (routine code p) k).puts) at.at ∙ moved.1 in
          let f = runs.next (ap (λ k. goes_on (routine code p) k) at.at ∙ goes) in
          record { next = f.0; is = f.1; deep = (let e = f.2 in omega (arith, e, d, t, q)) }

    pub begins : step image (Runs (a ∷ S) m) ≡ worked image i (works_in image i a S m) a S (began m)
    begins =
        step_here image layout prepared region table r p a S shown.shows m at.entry fetched
        ∙ ap (λ k. worked image k (works_in image k a S m) a S (began m)) at.at

  -- A signal of its own module.

  module _ (number : ℕ) (at : IsAt code table r (Raise number)) where
    pub own_less : number < length code.signals
    own_less = fits (Raise number) at

    abbrev pub own : CodeSignal
    own = (some_at code.signals number own_less).0

    pub own_there : slice_get code.signals number ≡ Some own
    own_there = (some_at code.signals number own_less).1

    own_is : signal_of image a.instance number ≡ Some own
    unfolding signal_of
    own_is = ap (λ o. option_and_then (λ (c : ModuleCode). slice_get c.signals number) o) here ∙ own_there

    own_moves : ((moves (routine code p) (Raise number)).takes ≡ own.args) × ((moves (routine code p) (Raise number)).puts ≡ own.results)
    own_moves = (ap (λ o. (signal_words o).takes) own_there, ap (λ o. (signal_words o).puts) own_there)

    own_goes : own.kind ≡ Signal → goes_on (routine code p) (Raise number) ≡ true
    own_goes kind = ap (λ o. not (is_error_signal o)) own_there ∙ ap (λ k. not (is_error k)) kind

    own_step : step image (Runs (a ∷ S) m) ≡ raise_with image (Own a.instance number) own.args a S (began m)
    unfolding works_in works worked perform with
    own_step =
        begins (Raise number) at
        ∙ ap (λ o. with o (began m) (λ (k : CodeSignal). raise_with image (Own a.instance number) k.args a S (began m))) own_is

    pub own_raises : Raises image layout region table r (Own a.instance number) own.args s (record m { begun = suc m.begun })
    own_raises = record {
      top = a;
      rest = S;
      procedure = p;
      shows = shown.shows;
      enough = enough (Raise number) at own.args own.results own_moves;
      waits = λ n back.
          let t = takes_own image a.instance number own n own_is back in
          subst (λ k. GoesOn p r.entry (length a.operands - own.args + k)) t.1 (next (Raise number) at own.args own.results own_moves (own_goes t.0));
      reaches = two_ways image s _ _ shown.reaches (one_step image _ _ own_step);
    }

  -- One of another module.

  module _ (number : ℕ) (at : IsAt code table r (RaiseLink number)) where
    raised_there : (o : Option CodeLink) → RaisedLink o → (l : CodeLink) × (o ≡ Some l) × IsRaised l.kind
    raised_there None h = absurd h
    raised_there (Some l) h = (l, refl, h)

    pub found : (l : CodeLink) × (slice_get code.links number ≡ Some l) × IsRaised l.kind
    found = raised_there (slice_get code.links number) (fits (RaiseLink number) at)

    abbrev pub linked : CodeLink
    linked = found.0

    linked_is : link_of image a.instance number ≡ Some linked
    unfolding link_of
    linked_is = ap (λ o. option_and_then (λ (c : ModuleCode). slice_get c.links number) o) here ∙ found.1

    bound_there : (o : Option Link) → IsSomeAnd o (IsBoundLike image linked) → (b : Link) × (o ≡ Some b) × IsBoundLike image linked b
    bound_there None h = absurd h
    bound_there (Some b) h = (b, refl, h)

    pub bound : (b : Link) × (bound_to image a.instance number ≡ Some b) × IsBoundLike image linked b
    bound = bound_there (bound_to image a.instance number) (prepared.links a.instance number linked linked_is)

    linked_moves : ((moves (routine code p) (RaiseLink number)).takes ≡ linked.args) × ((moves (routine code p) (RaiseLink number)).puts ≡ linked.results)
    linked_moves = (ap (λ o. (link_words o).takes) found.1, ap (λ o. (link_words o).puts) found.1)

    linked_goes : linked.kind ≡ Signal → goes_on (routine code p) (RaiseLink number) ≡ true
    linked_goes kind = ap (λ o. not (is_error_link o)) found.1 ∙ ap (λ k. not (is_error k)) kind

    linked_step : (signal : SignalId) → signal_bound linked.kind bound.0 ≡ Some signal
        → step image (Runs (a ∷ S) m) ≡ raise_with image signal linked.args a S (began m)
    unfolding works_in works worked perform with
    linked_step signal is_signal =
        begins (RaiseLink number) at
        ∙ ap (λ o. with o (began m) (λ (l : CodeLink). with (bound_to image a.instance number) (began m) (λ b. with (signal_bound l.kind b) (began m) (λ signal. raise_with image signal l.args a S (began m))))) linked_is
        ∙ ap (λ o. with o (began m) (λ b. with (signal_bound linked.kind b) (began m) (λ signal. raise_with image signal linked.args a S (began m)))) bound.1
        ∙ ap (λ o. with o (began m) (λ signal. raise_with image signal linked.args a S (began m))) is_signal

    -- what the signal of the link takes back
    like_takes : (o : Option CodeSignal) (n : ℕ) → IsSomeAnd o (λ (k : CodeSignal). IsLike linked k.kind k.args k.results) → takes_in o n ≡ true
        → (linked.kind ≡ Signal) × (linked.results ≡ n)
    like_takes None n h e = absurd h
    like_takes (Some k) n h e = let t = takes_there (Some k) k n refl e in (h.0 ∙ t.0, h.2 ∙ t.1)

    to_takes : (j k n : ℕ) → IsSomeAnd (signal_of image j k) (λ (c : CodeSignal). IsLike linked c.kind c.args c.results) → takes_back image (Own j k) n ≡ true
        → (linked.kind ≡ Signal) × (linked.results ≡ n)
    unfolding takes_back
    to_takes j k n h e = like_takes (signal_of image j k) n h e

    bound_takes : (kind : CodeKind) → linked.kind ≡ kind → (b : Link) → IsBoundLike image linked b → (signal : SignalId) → signal_bound kind b ≡ Some signal → (n : ℕ)
        → takes_back image signal n ≡ true → (linked.kind ≡ Signal) × (linked.results ≡ n)
    unfolding signal_bound
    bound_takes Procedure is_kind b like signal is_signal n back = absurd (none-some signal is_signal)
    bound_takes Signal is_kind (Wanted k) like signal is_signal n back =
        absurd (takes_none image NoInput n refl (subst (λ x. takes_back image x n ≡ true) (sym (same_Some NoInput signal is_signal)) back))
    bound_takes Error is_kind (Wanted k) like signal is_signal n back =
        absurd (takes_none image NoInput n refl (subst (λ x. takes_back image x n ≡ true) (sym (same_Some NoInput signal is_signal)) back))
    bound_takes Signal is_kind (To j k) like signal is_signal n back =
        to_takes j k n (subst (λ x. IsOfInstance image linked x j k) is_kind like) (subst (λ x. takes_back image x n ≡ true) (sym (same_Some (Own j k) signal is_signal)) back)
    bound_takes Error is_kind (To j k) like signal is_signal n back =
        to_takes j k n (subst (λ x. IsOfInstance image linked x j k) is_kind like) (subst (λ x. takes_back image x n ≡ true) (sym (same_Some (Own j k) signal is_signal)) back)

    pub linked_raises : (signal : SignalId) → signal_bound linked.kind bound.0 ≡ Some signal → Raises image layout region table r signal linked.args s (record m { begun = suc m.begun })
    linked_raises signal is_signal = record {
      top = a;
      rest = S;
      procedure = p;
      shows = shown.shows;
      enough = enough (RaiseLink number) at linked.args linked.results linked_moves;
      waits = λ n back.
          let t = bound_takes linked.kind refl bound.0 bound.2 signal is_signal n back in
          subst (λ k. GoesOn p r.entry (length a.operands - linked.args + k)) t.1 (next (RaiseLink number) at linked.args linked.results linked_moves (linked_goes t.0));
      reaches = two_ways image s _ _ shown.reaches (one_step image _ _ (linked_step signal is_signal));
    }

  -- One of the host.

  module _ (fault : ℕ) (at : IsAt code table r (RaiseHost fault)) where
    host_step : (signal : SignalId) → host_signal fault ≡ Some signal → step image (Runs (a ∷ S) m) ≡ raise image signal [] a S (began m)
    unfolding works_in works worked perform with
    host_step signal is_signal =
        begins (RaiseHost fault) at ∙ ap (λ o. with o (began m) (λ signal. raise image signal [] a S (began m))) is_signal

    pub fault_low : fault ≤ 2
    fault_low = fits (RaiseHost fault) at

    pub host_raises : (signal : SignalId) → host_signal fault ≡ Some signal → is_own signal ≡ false → Raises image layout region table r signal 0 s (record m { begun = suc m.begun })
    host_raises signal is_signal own =
        predeclared_raises image layout region table r signal own p a S shown.shows s (began m) (two_ways image s _ _ shown.reaches (one_step image _ _ (host_step signal is_signal)))
