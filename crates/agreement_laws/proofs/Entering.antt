-- What the meaning and the machine agree on in an arm that they have entered, and when they have left it: turns, activations, parameters.
use Rattle.std.proofs.Common.{◌≡◌, ⊎_elim, inl, ℕ, zero, suc, ◌+◌, ◌-◌, ◌<◌, ◌≤◌, List, [], ◌∷◌, length, Bool, true, false, Some, refl, sym, ap, ◌∙◌, subst, arith}
use Rattle.std.specs.Prelude.{All, nat_eq, slice_get, take, ◌||◌}
use Rattle.std.proofs.lemmas.Bool.{cases_lt, eqb-true, and_parts, false≢true}
use Rattle.std.proofs.Math.Seq.{take-length}
use Rattle.mesa_types.specs.declared.faces.Item.{Item}
use Rattle.mesa_types.specs.declared.typed_parts.Label.{Label}
use Rattle.mesa_types.specs.declared.typed_parts.Label.TheVariants.{OnAny, OnUnwind, OnOwn, OnLinked, OnBounds, OnZero}
use Rattle.mesa_types.specs.Typed.{Kind, Kinds, NoKinds, AndKind}
use Rattle.mesa_types.specs.Plain.{kinds_of}
use Rattle.mesa_types.specs.Shapes.{words_in_all, count_in}
use Rattle.mesa_types.specs.Sound.{Scope, RaisedIs, LabelTakes, LabelGives, AreGiven, LocalsFrom, IsSignal, scope_of}
use Rattle.signaller.specs.declared.place.Place.{Place}
use Rattle.source_meaning.specs.Program.{Signal, SignalOf, BoundsFault, ZeroDivisor, NoInput, Unnamed, module_of, linked_signal}
use Rattle.source_meaning.specs.Signals.{same_signal, is_for, some_label, put_parameters}
use Rattle.source_meaning.specs.State as source
use Rattle.source_meaning.specs.State.{ProcedureId, State}
use Rattle.source_meaning.specs.Value.{Values, with_from, some_from}
use Rattle.source_meaning.specs.Variables.{Enabled, set_variables, store_from}
use Rattle.machine_rules.specs.State.{Why, Store}
use Rattle.machine_rules.specs.Words.{put_words}
use Rattle.code_rules.specs.Slots.{local_slot, words_from}
use Rattle.code_rules.specs.Reading.{Coded}
use Rattle.agreement_rules.specs.Layout.{slots_of, values_at, Show}
use Rattle.agreement_rules.specs.Operators.{Lies}
use Rattle.agreement_rules.proofs.Memory.{put_below, put_beyond}
use Rattle.agreement_laws.specs.World.{World, Ready, CodeOf, ScopeIn, texts_of, locals_of, globals_of, hidden_of}
use Rattle.agreement_laws.specs.Standing.{IsArm, Here, Frames, Falling, Named}
use Rattle.agreement_laws.specs.Relation.{Hold, Laid, Agreed}
use Rattle.agreement_laws.specs.Promises.{SignalHas}
use Rattle.agreement_laws.proofs.Codes.{locals_are}
use Rattle.agreement_laws.proofs.Keeping.{laid_words, lies_same}
use Rattle.agreement_laws.proofs.Linked.{GivesBack, has_same}
use Rattle.agreement_laws.proofs.Parameters.{AllFrom, locals_from, from_words, some_all, put_lies, put_behind}
use Rattle.agreement_laws.proofs.Searching.{used_linked}
use Rattle.agreement_laws.proofs.Stacks.{with_words}
use Rattle.agreement_laws.proofs.Storing.{laid_variables}

-- In an arm, and out of it.

-- the variables alone are others
pub record OnlyVariables (s t : source.Store) : Type 0 where
  pub globals : t.globals ≡ s.globals
  pub started : t.started ≡ s.started
  pub procedures : t.procedures ≡ s.procedures
  pub fresh : t.fresh ≡ s.fresh

pub only_parameters : (l : Enabled) (first count : ℕ) (vs : Values) (s : source.Store) → OnlyVariables s (put_parameters l first count vs s)
unfolding put_parameters store_from set_variables
only_parameters l first zero vs s = record { globals = refl; started = refl; procedures = refl; fresh = refl }
only_parameters l first (suc n) vs s = record { globals = refl; started = refl; procedures = refl; fresh = refl }

module _ (W : World) (n : ℕ) (control : List ℕ) (H : Hold) (B : List Here) (p : ProcedureId) (own holder : ℕ) (place : Place) (number : ℕ) (why : Why) where
  pub agreed_in : (μ ν : Frames) (m : Store) (σ : State) (st : source.Store) → OnlyVariables σ.store st → Laid W H ν st → Agreed W n control H B μ m σ
      → Agreed W n control H (record { procedure = p; part = IsArm own holder place number why } ∷ B) ν m (record σ { standing = σ.standing + 1; store = st })
  agreed_in μ ν m σ st only laid h = record {
    laid = laid;
    beside = record {
      same_control = h.beside.same_control;
      started = λ j. h.beside.started j ∙ ap (λ (f : ℕ → Bool). f j) (sym only.started);
      globals = λ j. subst (λ (f : ℕ → Values). Lies (texts_of W) (globals_of W j) (f j) (m.globals j)) (sym only.globals) (h.beside.globals j);
      turns = h.beside.turns;
      input = h.beside.input;
      bytes = h.beside.bytes;
      faulty = h.beside.faulty;
      output = h.beside.output;
    };
    count = (let c = h.count in omega (arith, c));
    falling = (tt, subst (λ f. Falling f B) (sym only.fresh) h.falling);
    named = (tt, subst (λ f. Named B f) (sym only.procedures) h.named);
    enough = h.enough;
  }

  pub agreed_out : (μ : Frames) (m : Store) (σ : State)
      → Agreed W n control H (record { procedure = p; part = IsArm own holder place number why } ∷ B) μ m σ
      → Agreed W (suc n) control H B μ m (record σ { standing = σ.standing - 1 })
  agreed_out μ m σ h = record {
    laid = h.laid;
    beside = record {
      same_control = h.beside.same_control;
      started = h.beside.started;
      globals = h.beside.globals;
      turns = h.beside.turns;
      input = h.beside.input;
      bytes = h.beside.bytes;
      faulty = h.beside.faulty;
      output = h.beside.output;
    };
    count = (let c = h.count in omega (arith, c));
    falling = h.falling.1;
    named = h.named.1;
    enough = (let x = h.enough in omega (arith, x));
  }

-- Words of one frame and its variables.

put_nothing : (old : List ℕ) (s i : ℕ) → slots_of (put_words old s []) i ≡ slots_of old i
put_nothing old s i = ⊎_elim (λ (x : i < s). put_below old s [] i x) (λ (x : s ≤ i). put_beyond old s [] i (omega (arith, x))) (cases_lt i s)

-- no words are put
pub laid_nothing : (W : World) (H : Hold) (μ : Frames) (s : source.Store) (g slot : ℕ) → g < s.fresh → Laid W H μ s
    → Laid W H (with_words μ g (put_words (μ g) slot [])) s
laid_nothing W H μ s g slot lt laid =
    laid_words W H μ s g (put_words (μ g) slot [])
    (lies_same (texts_of W) (locals_of W (s.procedures g)) (s.variables g) (μ g) (put_words (μ g) slot []) (λ i l. put_nothing (μ g) slot i) (laid.frames g lt))
    (λ z v e. put_nothing (μ g) slot z ∙ laid.held g z v e) laid

-- Labels that fit a signal.

pub same_is : (x y : Signal) → same_signal x y ≡ true → x ≡ y
unfolding same_signal
same_is (SignalOf a b) (SignalOf c d) e =
    let s = and_parts (nat_eq a c) (nat_eq b d) e in
    ap (λ i. SignalOf i b) (eqb-true a c s.0) ∙ ap (λ k. SignalOf c k) (eqb-true b d s.1)
same_is (SignalOf a b) BoundsFault e = absurd (false≢true e)
same_is (SignalOf a b) ZeroDivisor e = absurd (false≢true e)
same_is (SignalOf a b) NoInput e = absurd (false≢true e)
same_is (SignalOf a b) Unnamed e = absurd (false≢true e)
same_is BoundsFault (SignalOf c d) e = absurd (false≢true e)
same_is BoundsFault BoundsFault e = refl
same_is BoundsFault ZeroDivisor e = absurd (false≢true e)
same_is BoundsFault NoInput e = absurd (false≢true e)
same_is BoundsFault Unnamed e = absurd (false≢true e)
same_is ZeroDivisor (SignalOf c d) e = absurd (false≢true e)
same_is ZeroDivisor BoundsFault e = absurd (false≢true e)
same_is ZeroDivisor ZeroDivisor e = refl
same_is ZeroDivisor NoInput e = absurd (false≢true e)
same_is ZeroDivisor Unnamed e = absurd (false≢true e)
same_is NoInput (SignalOf c d) e = absurd (false≢true e)
same_is NoInput BoundsFault e = absurd (false≢true e)
same_is NoInput ZeroDivisor e = absurd (false≢true e)
same_is NoInput NoInput e = refl
same_is NoInput Unnamed e = absurd (false≢true e)
same_is Unnamed (SignalOf c d) e = absurd (false≢true e)
same_is Unnamed BoundsFault e = absurd (false≢true e)
same_is Unnamed ZeroDivisor e = absurd (false≢true e)
same_is Unnamed NoInput e = absurd (false≢true e)
same_is Unnamed Unnamed e = refl

-- what holds of all labels holds of the one that fits
pub record Fitting (fits : Label → Bool) (P : Label → Type 0) : Type 0 where
  pub label : Label
  pub fit : fits label ≡ true
  pub is : P label

pub fitting : (fits : Label → Bool) (P : Label → Type 0) (ls : List Label) → All P ls → some_label fits ls ≡ true → Fitting fits P
unfolding some_label
fitting fits P [] all e = absurd (false≢true e)
fitting fits P (label ∷ ls) all e = by (λ d. fitting fits P ls (λ k x l. all (suc k) x (omega (arith, l))) d) (fits label) refl e
  where
    by : (some_label fits ls ≡ true → Fitting fits P) → (b : Bool) → fits label ≡ b → (b || some_label fits ls) ≡ true → Fitting fits P
    by h true f e = record { label = label; fit = f; is = all 0 label (omega arith) }
    by h false f e = h e

module _ (W : World) (ready : Ready W) (p : ProcedureId) (C : Coded) (c : CodeOf W p C) (Γ : Scope) (scope : ScopeIn W p Γ) (signal : Signal) where
  abbrev fits : Label → Bool
  fits label = is_for W.program p.instance signal label

  signals_are : (k : ℕ) (i : Item) → slice_get Γ.signals k ≡ Some i → slice_get (module_of W.program p.instance).signals k ≡ Some i
  unfolding scope_of
  signals_are k i e = ap (λ l. slice_get l k) (sym scope.signals) ∙ e

  -- the values of a raise are those that the arm's parameters are for
  takes_by : (label : Label) (k : Kind) (ks takes gives : Kinds) → fits label ≡ true → LabelTakes Γ label (AndKind k ks) → SignalHas W signal takes gives
      → takes ≡ AndKind k ks
  unfolding is_for LabelTakes RaisedIs
  takes_by OnAny k ks takes gives f t h = absurd (let z : ⊥ = cc in z)
  takes_by OnUnwind k ks takes gives f t h = absurd (let z : ⊥ = cc in z)
  takes_by (OnOwn n) k ks takes gives f t h =
      let is = same_is signal (SignalOf p.instance n) f in
      let x = t.1 in
      (has_same W (SignalOf p.instance n) takes (kinds_of x.0.takes) gives (kinds_of x.0.gives) (subst (λ s. SignalHas W s takes gives) is h)
      (x.0, signals_are n x.0 x.1, refl, refl)).0 ∙ sym x.2
  takes_by (OnLinked j n) k ks takes gives f t h =
      let is = same_is signal (linked_signal W.program p.instance j n) f in
      let x = t.1 in
      let linked = used_linked W ready p C c Γ scope j n x.0 x.1 x.2 in
      (has_same W (linked_signal W.program p.instance j n) takes (kinds_of x.0.takes) gives (kinds_of x.0.gives)
      (subst (λ s. SignalHas W s takes gives) is h) linked.has).0
      ∙ sym x.3
  takes_by OnBounds k ks takes gives f t h = absurd (let z : ⊥ = cc in z)
  takes_by OnZero k ks takes gives f t h = absurd (let z : ⊥ = cc in z)

  pub label_takes : (ls : List Label) (first : ℕ) (k : Kind) (ks takes gives : Kinds) → some_label fits ls ≡ true → AreGiven Γ ls first (AndKind k ks)
      → SignalHas W signal takes gives → takes ≡ AndKind k ks
  unfolding AreGiven
  label_takes ls first k ks takes gives e given h =
      let x = fitting fits (λ label. LabelTakes Γ label (AndKind k ks)) ls given e in
      takes_by x.label k ks takes gives x.fit x.is h

  -- where all labels resume, the signal is one that does
  gives_by : (label : Label) (ks : Kinds) → fits label ≡ true → LabelGives Γ ks label → GivesBack W signal ks
  unfolding is_for LabelGives IsSignal
  gives_by OnAny ks f t = absurd t
  gives_by OnUnwind ks f t = absurd t
  gives_by (OnOwn n) ks f t = record {
    instance = p.instance;
    number = n;
    is = same_is signal (SignalOf p.instance n) f;
    given = t.0;
    there = signals_are n t.0 t.1;
    kind = t.2;
    kinds = sym t.3;
  }
  gives_by (OnLinked j n) ks f t =
      let linked = used_linked W ready p C c Γ scope j n t.0 t.1 (inl t.2) in
      let b = linked.resumes t.2 in
      record {
        instance = b.instance;
        number = b.number;
        is = same_is signal (linked_signal W.program p.instance j n) f ∙ b.is;
        given = b.given;
        there = b.there;
        kind = b.kind;
        kinds = b.kinds ∙ sym t.3;
      }
  gives_by OnBounds ks f t = absurd t
  gives_by OnZero ks f t = absurd t

  pub label_gives : (ls : List Label) (ks : Kinds) → some_label fits ls ≡ true → All (LabelGives Γ ks) ls → GivesBack W signal ks
  label_gives ls ks e all = let x = fitting fits (LabelGives Γ ks) ls all e in gives_by x.label ks x.fit x.is

  -- The parameters of an arm.

  module _ (H : Hold) (μ : Frames) (s : source.Store) (l : Enabled) (made : l.owner < s.fresh) (named : s.procedures l.owner ≡ p) (laid : Laid W H μ s)
      (ls : List Label) (fit : some_label fits ls ≡ true) (first : ℕ) (takes gives : Kinds) (has : SignalHas W signal takes gives) (vs : Values) (words : List ℕ)
      (shown : Show (texts_of W) takes vs words) where
    abbrev new : ℕ → List ℕ
    new count = put_words (μ l.owner) (local_slot C first) (take (words_from C.locals first count) words)

    put_some : (k : Kind) (ks : Kinds) (count : ℕ) → suc count ≡ count_in (AndKind k ks) → LocalsFrom Γ first (AndKind k ks) → takes ≡ AndKind k ks
        → Laid W H (with_words μ l.owner (new (suc count))) (put_parameters l first (suc count) vs s)
    unfolding put_parameters store_from scope_of
    put_some k ks count e locals same =
        let all = AndKind k ks in
        let is : locals_of W p ≡ C.locals = locals_are W p C c in
        let from : AllFrom C.locals first all = subst (λ x. AllFrom x first all) (scope.locals ∙ is) (locals_from Γ first all locals) in
        let shows : Show (texts_of W) all vs words = subst (λ x. Show (texts_of W) x vs words) same shown in
        let size = shows.size in
        let count_words : words_from C.locals first (suc count) ≡ length words = ap (λ x. words_from C.locals first x) e ∙ from_words C.locals first all from
        ∙ sym size in
        let values : some_from vs 0 (suc count) ≡ vs =
        ap (λ v. some_from v 0 (suc count)) shows.worth ∙ ap (λ x. some_from (values_at (texts_of W) (slots_of words) 0 all) 0 x) e
        ∙ some_all (texts_of W) (slots_of words) all ∙ sym shows.worth in
        let all_words : take (words_from C.locals first (suc count)) words ≡ words = ap (λ x. take x words) count_words ∙ take-length words in
        let lies : Lies (texts_of W) C.locals (s.variables l.owner) (μ l.owner) =
        subst (λ x. Lies (texts_of W) x (s.variables l.owner) (μ l.owner)) (ap (λ q. locals_of W q) named ∙ is) (laid.frames l.owner made) in
        let put = put_lies (texts_of W) C.locals (μ l.owner) first all vs words from shows (s.variables l.owner) lies in
        subst (λ v. Laid W H (with_words μ l.owner (new (suc count))) (set_variables l.owner (with_from (s.variables l.owner) first v) s)) (sym values)
        (subst (λ ws. Laid W H (with_words μ l.owner (put_words (μ l.owner) (local_slot C first) ws))
        (set_variables l.owner (with_from (s.variables l.owner) first vs) s)) (sym all_words)
        (laid_variables W H μ s l.owner (with_from (s.variables l.owner) first vs) (put_words (μ l.owner) (local_slot C first) words)
        (subst (λ x. Lies (texts_of W) x (with_from (s.variables l.owner) first vs) (put_words (μ l.owner) (local_slot C first) words))
        (sym (ap (λ q. locals_of W q) named ∙ is)) put)
        (λ z v h.
        let above = laid.above l.owner z v h in
        let hidden = ap (λ q. hidden_of W q) named in
        let small : words_in_all C.locals + 16 ≡ hidden_of W p = ap (λ x. words_in_all x + 16) (sym is) in
        put_behind (texts_of W) C.locals (μ l.owner) first all vs words from shows z (omega (arith, above, hidden, small)) ∙ laid.held l.owner z v h)
        laid))

    pub parameters_put : (kinds : Kinds) (count : ℕ) → count ≡ count_in kinds → LocalsFrom Γ first kinds → AreGiven Γ ls first kinds
        → Laid W H (with_words μ l.owner (new count)) (put_parameters l first count vs s)
    unfolding count_in put_parameters
    parameters_put kinds zero e locals given = laid_nothing W H μ s l.owner (local_slot C first) made laid
    parameters_put NoKinds (suc count) e locals given = absurd (omega (arith, e))
    parameters_put (AndKind k ks) (suc count) e locals given =
        put_some k ks count e locals (label_takes ls first k ks takes gives fit given has)
