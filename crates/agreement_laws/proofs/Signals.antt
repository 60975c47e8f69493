-- The instruction that raises; and what the others are promised of raises and phrases.
use Rattle.std.proofs.Common.{◌≡◌, ℕ, suc, ◌+◌, List, [], ◌∷◌, length, Some, refl, sym, ap, ◌∙◌, subst, arith}
use Rattle.std.specs.Prelude.{slice_get}
use Rattle.mesa_types.specs.declared.faces.Import.{Import}
use Rattle.mesa_types.specs.declared.faces.Item.{Item}
use Rattle.mesa_types.specs.declared.typed_parts.Raised.{Raised}
use Rattle.mesa_types.specs.declared.typed_parts.Raised.TheVariants.{OwnSignal, LinkedSignal, TheBoundsFault, TheZeroDivisor, TheUnnamed}
use Rattle.mesa_types.specs.Typed.{Kinds, NoKinds}
use Rattle.mesa_types.specs.Plain.{kinds_of}
use Rattle.mesa_types.specs.Shapes.{words_in_all}
use Rattle.mesa_types.specs.Sound.{RaisedIs, scope_of}
use Rattle.code_forms.specs.declared.instruction.Instruction.{Instruction}
use Rattle.code_forms.specs.Instructions.{bytes_of}
use Rattle.signaller.specs.declared.signal_id.SignalId.{SignalId}
use Rattle.signaller.specs.declared.signal_id.SignalId.TheVariants as id
use Rattle.source_meaning.specs.Program.{module_of, linked_signal, raised_of}
use Rattle.source_meaning.specs.Signals.{raise}
use Rattle.source_meaning.specs.State.{State}
use Rattle.source_meaning.specs.Value.{Values}
use Rattle.machine_rules.specs.State.{Activations, Store}
use Rattle.machine_rules.specs.Words.{push, popped, under}
use Rattle.machine_rules.specs.LookUps.{link_of, bound_to, signal_bound}
use Rattle.machine_rules.specs.Moves as moves
use Rattle.machine_rules.specs.Moves.{with, onward}
use Rattle.machine_rules.specs.Signals as steps
use Rattle.machine_rules.specs.Steps.{raise_with, host_signal, perform}
use Rattle.machine_rules.specs.Working.{works}
use Rattle.code_rules.specs.Links.{link_number, raise_code}
use Rattle.code_rules.specs.Modules.{link_code, signal_code}
use Rattle.code_rules.specs.Points.{Points}
use Rattle.code_rules.specs.Reading.{Destination, Place, Own, one_more, no_more, read}
use Rattle.agreement_rules.specs.Agreement.{id_of}
use Rattle.agreement_rules.specs.Layout.{Show}
use Rattle.agreement_rules.specs.Reaches.{Reaches}
use Rattle.agreement_rules.proofs.Lifted.{reaches_on, found_there}
use Rattle.agreement_rules.proofs.Memory.{popped_all, under_all}
use Rattle.agreement_laws.specs.World.{World, Ready, texts_of}
use Rattle.agreement_laws.specs.Standing.{Frames, at, filled, fill}
use Rattle.agreement_laws.specs.Relation.{Ground, Agrees, standing}
use Rattle.agreement_laws.specs.Contexts.{Site, Context, Inside}
use Rattle.agreement_laws.specs.Answers.{Gave, Valued}
use Rattle.agreement_laws.specs.Promises.{next, SignalHas, NextFollows, RaisedFollows, SignalsFollow}
use Rattle.agreement_laws.proofs.Control.{IsControl, begun_more, agreed_begun, stands_at, reaches_performed}
use Rattle.agreement_laws.proofs.Going.{reaches_same}
use Rattle.agreement_laws.proofs.Linked.{signal_there}
use Rattle.agreement_laws.proofs.Phrases.{phrases_follow}
use Rattle.agreement_laws.proofs.Raising.{raise_follows}
use Rattle.agreement_laws.proofs.Searching.{used_linked, link_here}

raise_is : (imports : List Import) (raised : Raised) → IsControl (raise_code imports raised)
unfolding works
raise_is imports (OwnSignal n) texts number v = refl
raise_is imports (LinkedSignal k n) texts number v = refl
raise_is imports TheBoundsFault texts number v = refl
raise_is imports TheZeroDivisor texts number v = refl
raise_is imports TheUnnamed texts number v = refl

no_words : (ws : List ℕ) → length ws ≡ 0 → ws ≡ []
no_words [] e = refl
no_words (w ∷ ws) e = absurd (omega (arith, e))

-- the words of a raise that takes nothing
pub none_shown : (W : World) (takes : Kinds) (vs : Values) (words : List ℕ) → takes ≡ NoKinds → Show (texts_of W) takes vs words → words ≡ []
unfolding words_in_all
none_shown W takes vs words e h = no_words words (h.size ∙ ap words_in_all e)

module _ (W : World) (ready : Ready W) (K : Site) (points : Points Destination) (near : List ℕ) (from to : ℕ) (ctx : Context W K points near from to) where
  abbrev G : Ground
  G = K.ground

  -- a raise takes its arguments off the operands
  raises_with : (signal : SignalId) (size o : ℕ) (words rest : List ℕ) (μ : Frames) (S : Activations) (m : Store) → size ≡ length words
      → raise_with W.image signal size (filled μ (at G.here o (push words rest))) S m ≡ steps.raise W.image signal words (filled μ (at G.here o rest)) S m
  unfolding raise_with
  raises_with signal size o words rest μ S m e =
      ap (λ n. steps.raise W.image signal (popped n (push words rest)) (filled μ (at G.here o (under n (push words rest)))) S m) e
      ∙ ap (λ ws. steps.raise W.image signal ws (filled μ (at G.here o (under (length words) (push words rest)))) S m) (popped_all words rest)
      ∙ ap (λ ops. steps.raise W.image signal words (filled μ (at G.here o ops)) S m) (under_all words rest)

  fault_raised : (signal : SignalId) (takes : Kinds) (vs : Values) (words rest : List ℕ) (o : ℕ) (μ : Frames) (S : Activations) (m : Store) → takes ≡ NoKinds
      → Show (texts_of W) takes vs words
      → steps.raise W.image signal [] (filled μ (at G.here o (push words rest))) S m ≡ steps.raise W.image signal words (filled μ (at G.here o rest)) S m
  fault_raised signal takes vs words rest o μ S m e shown =
      let none = none_shown W takes vs words e shown in
      ap (λ ws. steps.raise W.image signal [] (filled μ (at G.here o (push ws rest))) S m) none
      ∙ ap (λ ws. steps.raise W.image signal ws (filled μ (at G.here o rest)) S m) (sym none)

  signals_are : (n : ℕ) (i : Item) → slice_get K.scope.signals n ≡ Some i → slice_get (module_of W.program G.here.procedure.instance).signals n ≡ Some i
  unfolding scope_of
  signals_are n i e = ap (λ l. slice_get l n) (sym ctx.scope_in.signals) ∙ e

  raise_performed : (raised : Raised) (takes gives : Kinds) (vs : Values) (words rest : List ℕ) (o : ℕ) (μ : Frames) (S : Activations) (m : Store)
      → RaisedIs K.scope raised takes gives → Show (texts_of W) takes vs words
      → perform W.image (raise_code K.code.imports raised) (filled μ (at G.here o (push words rest))) S m
      ≡ steps.raise W.image (id_of (raised_of W.program G.here.procedure.instance raised)) words (filled μ (at G.here o rest)) S m
  unfolding perform with host_signal id_of raised_of RaisedIs
  raise_performed (OwnSignal n) takes gives vs words rest o μ S m is shown =
      let size : words_in_all (kinds_of is.0.takes) ≡ length words = ap words_in_all (sym is.2) ∙ sym shown.size in
      ap (λ x. with x m λ s. raise_with W.image (id.Own G.here.procedure.instance n) s.args (filled μ (at G.here o (push words rest))) S m)
      (signal_there W ready G.here.procedure.instance n is.0 (signals_are n is.0 is.1))
      ∙ raises_with (id.Own G.here.procedure.instance n) (signal_code is.0).args o words rest μ S m size
  raise_performed (LinkedSignal k n) takes gives vs words rest o μ S m is shown =
      let size : words_in_all (kinds_of is.0.takes) ≡ length words = ap words_in_all (sym is.3) ∙ sym shown.size in
      let j = G.here.procedure.instance in
      let a = filled μ (at G.here o (push words rest)) in
      let x = used_linked W ready G.here.procedure K.code ctx.code_of K.scope ctx.scope_in k n is.0 is.1 is.2 in
      let number = link_number (module_of W.program j).imports k n in
      ap (λ z. with (link_of W.image j z) m λ l. with (bound_to W.image j z) m λ b. with
      (signal_bound l.kind b) m λ signal. raise_with W.image signal l.args a S m)
      (link_here W ready G.here.procedure K.code ctx.code_of K.scope ctx.scope_in k n)
      ∙ ap (λ y. with y m λ l. with (bound_to W.image j number) m λ b. with (signal_bound l.kind b) m λ signal. raise_with W.image signal l.args a S m) x.link
      ∙ ap (λ y. with y m λ b. with (signal_bound (link_code is.0).kind b) m λ signal. raise_with W.image signal (link_code is.0).args a S m) x.is_bound
      ∙ ap (λ y. with y m λ signal. raise_with W.image signal (link_code is.0).args a S m) x.signal
      ∙ raises_with (id_of (linked_signal W.program j k n)) (link_code is.0).args o words rest μ S m size
  raise_performed TheBoundsFault takes gives vs words rest o μ S m is shown = fault_raised id.BoundsFault takes vs words rest o μ S m is.0 shown
  raise_performed TheZeroDivisor takes gives vs words rest o μ S m is shown = fault_raised id.ZeroDivisor takes vs words rest o μ S m is.0 shown
  raise_performed TheUnnamed takes gives vs words rest o μ S m is shown = fault_raised id.Unnamed takes vs words rest o μ S m is.0 shown

  raised_has : (raised : Raised) (takes gives : Kinds) → RaisedIs K.scope raised takes gives
      → SignalHas W (raised_of W.program G.here.procedure.instance raised) takes gives
  unfolding raised_of RaisedIs
  raised_has (OwnSignal n) takes gives is = (is.0, signals_are n is.0 is.1, sym is.2, sym is.3)
  raised_has (LinkedSignal k n) takes gives is =
      let x = used_linked W ready G.here.procedure K.code ctx.code_of K.scope ctx.scope_in k n is.0 is.1 is.2 in
      subst (λ ks. SignalHas W (linked_signal W.program G.here.procedure.instance k n) ks gives) (sym is.3)
      (subst (λ ks. SignalHas W (linked_signal W.program G.here.procedure.instance k n) (kinds_of is.0.takes) ks) (sym is.4) x.has)
  raised_has TheBoundsFault takes gives is = is
  raised_has TheZeroDivisor takes gives is = is
  raised_has TheUnnamed takes gives is = is

  -- values that are given back stand behind the instruction
  given_back : (μ : Frames) (m : Store) (o d : ℕ) (rest words : List ℕ) (i : Instruction) (around : List ℕ)
      → read K.code o ≡ Some (record { instruction = i; depth = d; around = around })
      → Reaches W.image (moves.give W.image 0 words (filled μ (at G.here o rest) ∷ fill μ G.below) m) (standing G (o + bytes_of i) (push words rest) μ m)
  unfolding moves.give with onward
  given_back μ m o d rest words i around is =
      reaches_same W.image _ _ (ap (λ x. with x m λ j. onward j (push words rest) (filled μ (at G.here o rest)) (fill μ G.below) m)
      (stands_at W K points near from to ctx μ o d rest i around is))

raised_by : (W : World) → Ready W → (n : ℕ) → NextFollows W n → (K : Site) (w : Place) (raised : Raised) (takes gives : Kinds) (vs : Values) (words : List ℕ)
    (points : Points Destination) (from to : ℕ) {a b : ℕ} (rest : List ℕ) (μ : Frames) (m : Store) (σ : State) → RaisedIs K.scope raised takes gives
    → Show (texts_of W) takes vs words → Own K.code w (raise_code K.code.imports raised ∷ []) a b → Context W K points w.around from to → Inside W K.ground a b
    → Agrees W (suc n) K.ground μ m σ
    → Valued W (suc n) K w.around gives b rest (standing K.ground a (push words rest) μ m)
    (raise W.program (next W n) K.meant (raised_of W.program K.ground.here.procedure.instance raised) vs σ)
raised_by W ready n ih K w raised takes gives vs words points from to {a = a} rest μ m σ is shown (one_more r no_more) ctx inside h =
    let i = raise_code K.code.imports raised in
    let b = a + bytes_of i in
    raise_follows W ready n ih K points w.around from to (raised_of W.program K.ground.here.procedure.instance raised) takes gives vs words a rest μ
    (begun_more m) σ
    (λ s us τ. Gave W (suc n) K.ground gives b rest s us τ) ctx (found_there K.code.entries a _ _ r).1 (λ o low high. inside o low (omega (arith, high)))
    (raised_has W ready K points w.around from to ctx raised takes gives is) shown (agreed_begun W (suc n) K.ground μ m σ h)
    (λ s us given ν l τ does shows agrees back. record {
      words = given;
      shown = shows;
      comes = record {
        frames = ν;
        store = l;
        agrees = agrees;
        reaches = reaches_on W.image s _ _ back (given_back W ready K points w.around from to ctx ν l a w.depth rest given i w.around r);
      };
    })
    (standing K.ground a (push words rest) μ m)
    (reaches_on W.image _ _ _ (reaches_performed W K points w.around from to ctx μ m a w.depth (push words rest) i w.around r (raise_is K.code.imports raised))
    (reaches_same W.image _ _ (raise_performed W ready K points w.around from to ctx raised takes gives vs words rest a μ (fill μ K.ground.below)
    (begun_more m) is shown)))

pub raised_follows : (W : World) → Ready W → (n : ℕ) → NextFollows W n → RaisedFollows W n
raised_follows W ready n ih K w raised takes gives vs words points from to a b rest μ m σ is shown own ctx inside h =
    subst (λ j. Valued W (suc n) K w.around gives b rest (standing K.ground a (push words rest) μ m)
    (raise W.program (next W n) K.meant (raised_of W.program j raised) vs σ)) ctx.instance
    (raised_by W ready n ih K w raised takes gives vs words points from to rest μ m σ is shown own ctx inside h)

pub signals_follow : (W : World) → Ready W → (n : ℕ) → NextFollows W n → SignalsFollow W n
signals_follow W ready n ih = record { raise = raise_follows W ready n ih; phrase = phrases_follow W ready n ih; raised = raised_follows W ready n ih }
