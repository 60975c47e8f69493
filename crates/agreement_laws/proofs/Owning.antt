-- Own code in its place: values come, or a fault is raised there.
use Rattle.std.proofs.Common.{◌≡◌, ℕ, suc, List, [], ◌∷◌, true, refl, sym, ap, ◌∙◌, subst, arith}
use Rattle.std.proofs.lemmas.Bool.{false≢true}
use Rattle.mesa_types.specs.Typed.{Kinds, NoKinds}
use Rattle.mesa_types.specs.declared.typed_parts.Conversion.{Conversion}
use Rattle.mesa_types.specs.declared.typed_parts.Conversion.TheVariants as conversion
use Rattle.mesa_types.specs.Longs.{two_words, converted}
use Rattle.mesa_types.specs.Operators.{WordFault, OutOfBounds, DividedByZero, Tried, Fine, Faulty}
use Rattle.code_forms.specs.declared.instruction.Instruction.{Instruction}
use Rattle.source_meaning.specs.Value.{Values, NoValues, how_many}
use Rattle.source_meaning.specs.Program.{resumes}
use Rattle.source_meaning.specs.State.{State, Answer, Result, Run}
use Rattle.source_meaning.specs.Signals.{raise, raised_for, on_tried}
use Rattle.machine_rules.specs.State.{Store, Stepped, Goes, Runs}
use Rattle.machine_rules.specs.Words.{push}
use Rattle.machine_rules.specs.Signals as machine
use Rattle.machine_rules.specs.Steps.{fault_signal}
use Rattle.machine_rules.specs.Activations.{own_frame, set_variables, variables}
use Rattle.code_rules.specs.OwnCode.{conversion_code}
use Rattle.code_rules.specs.Reading.{Place, Own, scratch}
use Rattle.agreement_rules.specs.Agreement.{id_of}
use Rattle.agreement_rules.specs.Layout.{Show}
use Rattle.agreement_rules.specs.Operators.{OwnCodeAgrees, words_for, outcome_by, IsTakenBy}
use Rattle.agreement_rules.proofs.Agreement.{operators_agree}
use Rattle.agreement_rules.specs.Own.{Outcome, Given, Raised, outcome, long_outcome, Kept}
use Rattle.agreement_rules.specs.Reaches as steps
use Rattle.agreement_rules.specs.Reaches.{Reaches, Takes, raising}
use Rattle.agreement_laws.specs.World.{World, texts_of, scratch_of}
use Rattle.agreement_laws.specs.Standing.{Frames, at, filled, fill, Numbered}
use Rattle.agreement_laws.specs.Relation.{heres, own, Agrees, standing}
use Rattle.agreement_laws.specs.Contexts.{Site, Context, Inside}
use Rattle.agreement_laws.specs.Answers.{Comes, Gave, Passed}
use Rattle.agreement_laws.specs.Promises.{next, SignalHas, RaiseFollows}
use Rattle.agreement_laws.proofs.Codes.{scratch_is, own_here, variables_here, holds_here, made_here, named_here}
use Rattle.agreement_laws.proofs.Keeping.{agreed_kept}
use Rattle.agreement_laws.proofs.Shown.{show_none}
use Rattle.agreement_laws.proofs.Stacks.{with_words, fill_set}

pub fault_has : (W : World) (fault : WordFault) → SignalHas W (raised_for fault) NoKinds NoKinds
unfolding raised_for
fault_has W OutOfBounds = (refl, refl)
fault_has W DividedByZero = (refl, refl)

-- no fault is resumed
pub never_resumed : (W : World) (fault : WordFault) (n : ℕ) → resumes W.program (raised_for fault) n ≡ true → ⊥
unfolding raised_for resumes
never_resumed W OutOfBounds n e = false≢true e
never_resumed W DividedByZero n e = false≢true e

pub fault_is : (fault : WordFault) → fault_signal fault ≡ id_of (raised_for fault)
unfolding fault_signal id_of raised_for
fault_is OutOfBounds = refl
fault_is DividedByZero = refl

-- the words that a conversion gives
unfoldable pub words_made : Conversion → ℕ → List ℕ
words_made conversion.Kept n = two_words n
words_made (conversion.Widened from to) n = two_words n
words_made (conversion.Narrowed from to r) n = n ∷ []
words_made conversion.InCommon n = two_words n

pub made_given : (c : Conversion) (n : ℕ) → outcome_by c (Fine n) ≡ Given (words_made c n)
unfolding outcome_by outcome long_outcome words_made
made_given conversion.Kept n = refl
made_given (conversion.Widened from to) n = refl
made_given (conversion.Narrowed from to r) n = refl
made_given conversion.InCommon n = refl

made_raised : (c : Conversion) (fault : WordFault) → outcome_by c (Faulty fault) ≡ Raised fault
unfolding outcome_by outcome long_outcome
made_raised conversion.Kept fault = refl
made_raised (conversion.Widened from to) fault = refl
made_raised (conversion.Narrowed from to r) fault = refl
made_raised conversion.InCommon fault = refl

module _ (W : World) (K : Site) (w : Place) (hi : ℕ) (ctx : Context W K w.points w.around w.slot hi) where
  abbrev pub frame : Numbered
  frame = record { number = K.meant.frame; procedure = K.ground.here.procedure }

  -- the stack with other variables
  pub stack_is : (bound : ℕ) (μ : Frames) (m : Store) (σ : State) (o o' : ℕ) (operands ops : List ℕ) (new : List ℕ) → Agrees W bound K.ground μ m σ
      → set_variables (fill μ (at K.ground.here o operands ∷ K.ground.below)) (own_frame (filled μ (at K.ground.here o' ops)) (fill μ K.ground.below)) new
      ≡ fill (with_words μ K.meant.frame new) (at K.ground.here o operands ∷ K.ground.below)
  stack_is bound μ m σ o o' operands ops new h =
      ap (λ q. set_variables (fill μ (at K.ground.here o operands ∷ K.ground.below)) q new) (own_here μ K.ground.here o' ops K.ground.below)
      ∙ fill_set σ.store.fresh μ (at K.ground.here o operands ∷ K.ground.below) (own K.ground) frame new h.falling ctx.is_frame

  kept_agrees : (bound : ℕ) (μ : Frames) (m : Store) (σ : State) (new : List ℕ) (begun o : ℕ) (operands : List ℕ) → Agrees W bound K.ground μ m σ
      → Kept (scratch K.code) (variables (filled μ (at K.ground.here o operands)) (fill μ K.ground.below)) new
      → Agrees W bound K.ground (with_words μ K.meant.frame new) (record m { begun = begun }) σ
  kept_agrees bound μ m σ new begun o operands h kept =
      agreed_kept W bound K.ground.control K.ground.hold (heres K.ground) μ m σ K.meant.frame new begun
      (made_here W K w.points w.around w.slot hi ctx bound μ m σ h)
      (subst (λ t. Kept t (μ K.meant.frame) new)
      (scratch_is W K.ground.here.procedure K.code ctx.code_of ∙ ap (λ p. scratch_of W p) (sym (named_here W K w.points w.around w.slot hi ctx bound μ m σ h)))
      (subst (λ vs. Kept (scratch K.code) vs new) (variables_here W K w.points w.around w.slot hi ctx μ o operands) kept))
      h

  -- own code of this frame and these globals
  abbrev pub Leads : Frames → Store → List Instruction → List ℕ → Outcome → Type 0
  Leads μ m code ins out = Takes W.image K.code ctx.code_of.number (μ K.meant.frame) (m.globals K.ground.here.procedure.instance) code ins out

  abbrev pub law : (μ : Frames) (m : Store)
      → OwnCodeAgrees (texts_of W) ctx.code_of.number K.code (μ K.meant.frame) (m.globals K.ground.here.procedure.instance)
      (Takes W.image K.code ctx.code_of.number (μ K.meant.frame) (m.globals K.ground.here.procedure.instance))
  law μ m = operators_agree W.image ctx.code_of.number K.code (μ K.meant.frame) (m.globals K.ground.here.procedure.instance)

  came : (bound : ℕ) (μ : Frames) (m : Store) (σ : State) (code : List Instruction) (a b : ℕ) (ins rest : List ℕ) (out : Outcome) → Own K.code w code a b
      → Leads μ m code ins out
      → steps.ComesTo W.image K.code w a b (filled μ (at K.ground.here 0 [])) (fill μ K.ground.below) m rest out (standing K.ground a (push ins rest) μ m)
  came bound μ m σ code a b ins rest out own takes =
      takes w a b (filled μ (at K.ground.here 0 [])) (fill μ K.ground.below) m rest own
      (holds_here W K w.points w.around w.slot hi ctx μ 0 []) (variables_here W K w.points w.around w.slot hi ctx μ 0 []) refl

  -- words come
  pub own_gives : (bound : ℕ) (μ : Frames) (m : Store) (σ : State) (code : List Instruction) (a b : ℕ) (ins ws rest : List ℕ) → Own K.code w code a b
      → Leads μ m code ins (Given ws) → Agrees W bound K.ground μ m σ
      → Comes W bound K.ground b (push ws rest) (standing K.ground a (push ins rest) μ m) σ
  own_gives bound μ m σ code a b ins ws rest own takes h =
      let c = came bound μ m σ code a b ins rest (Given ws) own takes in
      record {
        frames = with_words μ K.meant.frame c.now.variables;
        store = record m { begun = c.now.begun };
        agrees = kept_agrees bound μ m σ c.now.variables c.now.begun 0 [] h c.kept;
        reaches = subst (λ x. Reaches W.image (standing K.ground a (push ins rest) μ m) x)
            (ap (λ T. Goes (Runs T (record m { begun = c.now.begun }))) (stack_is bound μ m σ c.now.offset 0 c.now.operands [] c.now.variables h)
            ∙ ap (λ o. standing K.ground o c.now.operands (with_words μ K.meant.frame c.now.variables) (record m { begun = c.now.begun })) c.offset
            ∙ ap (λ l. standing K.ground b l (with_words μ K.meant.frame c.now.variables) (record m { begun = c.now.begun })) c.operands)
            c.reaches;
      }

  pub own_gave : (bound : ℕ) (μ : Frames) (m : Store) (σ : State) (ks : Kinds) (code : List Instruction) (a b : ℕ) (ins ws rest : List ℕ) (vs : Values)
      → Own K.code w code a b → Leads μ m code ins (Given ws) → Show (texts_of W) ks vs ws → Agrees W bound K.ground μ m σ
      → Gave W bound K.ground ks b rest (standing K.ground a (push ins rest) μ m) vs σ
  own_gave bound μ m σ ks code a b ins ws rest vs own takes shown h =
      record { words = ws; shown = shown; comes = own_gives bound μ m σ code a b ins ws rest own takes h }

  -- or a fault is raised
  pub own_raises : (n : ℕ) → RaiseFollows W n → (μ : Frames) (m : Store) (σ : State) (code : List Instruction) (a b : ℕ) (ins rest : List ℕ) (fault : WordFault)
      → Own K.code w code a b → Leads μ m code ins (Raised fault) → Inside W K.ground a b → Agrees W (suc n) K.ground μ m σ
      → Passed W (suc n) K w.around (standing K.ground a (push ins rest) μ m) (raise W.program (next W n) K.meant (raised_for fault) NoValues σ).answer
      (raise W.program (next W n) K.meant (raised_for fault) NoValues σ).state
  own_raises n raises μ m σ code a b ins rest fault own takes inside h =
      let c = came (suc n) μ m σ code a b ins rest (Raised fault) own takes in
      let ν = with_words μ K.meant.frame c.now.variables in
      let l = record m { begun = c.now.begun } in
      let low = c.inside.0 in let high = c.inside.1 in
      raises K w.points w.around w.slot hi (raised_for fault) NoKinds NoKinds NoValues [] c.now.offset c.now.operands ν l σ (λ s vs τ. ⊥)
      ctx c.around (λ o x y. inside o (omega (arith, low, x)) (omega (arith, high, y))) (fault_has W fault) (show_none (texts_of W))
      (kept_agrees (suc n) μ m σ c.now.variables c.now.begun 0 [] h c.kept)
      (λ s us given ν l τ does shown agrees r. never_resumed W fault (how_many us) does)
      (standing K.ground a (push ins rest) μ m)
      (subst (λ x. Reaches W.image (standing K.ground a (push ins rest) μ m) x)
      (ap (λ T. raising W.image fault T l) (stack_is (suc n) μ m σ c.now.offset 0 c.now.operands [] c.now.variables h)
      ∙ ap (λ signal. machine.raise W.image signal [] (filled ν (at K.ground.here c.now.offset c.now.operands)) (fill ν K.ground.below) l) (fault_is fault))
      c.reaches)

  module _ (n : ℕ) (raises : RaiseFollows W n) (Q : Stepped → Result → Type 0) (later : (s t : Stepped) (r : Result) → Reaches W.image s t → Q t r → Q s r)
      (out : (s : Stepped) (a : Answer) (σ : State) → Passed W (suc n) K w.around s a σ → Q s (record { answer = a; state = σ })) where
    -- words that are tried: it goes on with them, or the fault is raised in their place
    pub tried_on : (μ : Frames) (m : Store) (σ : State) (code : List Instruction) (a b : ℕ) (ins rest : List ℕ) (words : ℕ → List ℕ) (t : Tried) (k : ℕ → Run)
        → Own K.code w code a b → ((x : ℕ) → t ≡ Fine x → Leads μ m code ins (Given (words x)))
        → ((fault : WordFault) → t ≡ Faulty fault → Leads μ m code ins (Raised fault)) → Inside W K.ground a b → Agrees W (suc n) K.ground μ m σ
        → ((x : ℕ) (ν : Frames) (l : Store) → t ≡ Fine x → Agrees W (suc n) K.ground ν l σ → Q (standing K.ground b (push (words x) rest) ν l) (k x σ))
        → Q (standing K.ground a (push ins rest) μ m) (on_tried W.program (next W n) K.meant t k σ)
    unfolding on_tried
    tried_on μ m σ code a b ins rest words (Fine x) k own fine bad inside h on =
        let c = own_gives (suc n) μ m σ code a b ins (words x) rest own (fine x refl) h in
        later (standing K.ground a (push ins rest) μ m) (standing K.ground b (push (words x) rest) c.frames c.store) (k x σ) c.reaches
        (on x c.frames c.store refl c.agrees)
    tried_on μ m σ code a b ins rest words (Faulty fault) k own fine bad inside h on =
        let r = raise W.program (next W n) K.meant (raised_for fault) NoValues σ in
        out (standing K.ground a (push ins rest) μ m) r.answer r.state (own_raises n raises μ m σ code a b ins rest fault own (bad fault refl) inside h)

    -- by the outcome that the law names
    pub outcome_on : (μ : Frames) (m : Store) (σ : State) (code : List Instruction) (a b : ℕ) (ins rest : List ℕ) (t : Tried) (k : ℕ → Run)
        → Own K.code w code a b → Leads μ m code ins (outcome t) → Inside W K.ground a b → Agrees W (suc n) K.ground μ m σ
        → ((x : ℕ) (ν : Frames) (l : Store) → t ≡ Fine x → Agrees W (suc n) K.ground ν l σ → Q (standing K.ground b (x ∷ rest) ν l) (k x σ))
        → Q (standing K.ground a (push ins rest) μ m) (on_tried W.program (next W n) K.meant t k σ)
    unfolding outcome
    outcome_on μ m σ code a b ins rest t k own leads inside h on =
        tried_on μ m σ code a b ins rest (λ x. x ∷ []) t k own
        (λ x e. subst (λ y. Leads μ m code ins (outcome y)) e leads) (λ fault e. subst (λ y. Leads μ m code ins (outcome y)) e leads) inside h on

    pub long_outcome_on : (μ : Frames) (m : Store) (σ : State) (code : List Instruction) (a b : ℕ) (ins rest : List ℕ) (t : Tried) (k : ℕ → Run)
        → Own K.code w code a b → Leads μ m code ins (long_outcome t) → Inside W K.ground a b → Agrees W (suc n) K.ground μ m σ
        → ((x : ℕ) (ν : Frames) (l : Store) → t ≡ Fine x → Agrees W (suc n) K.ground ν l σ → Q (standing K.ground b (push (two_words x) rest) ν l) (k x σ))
        → Q (standing K.ground a (push ins rest) μ m) (on_tried W.program (next W n) K.meant t k σ)
    unfolding long_outcome
    long_outcome_on μ m σ code a b ins rest t k own leads inside h on =
        tried_on μ m σ code a b ins rest two_words t k own
        (λ x e. subst (λ y. Leads μ m code ins (long_outcome y)) e leads) (λ fault e. subst (λ y. Leads μ m code ins (long_outcome y)) e leads) inside h on

    -- a number is converted, or the fault is raised in its place
    pub conversion_on : (μ : Frames) (m : Store) (σ : State) (c : Conversion) (a b : ℕ) (rest : List ℕ) (x : ℕ) (k : ℕ → Run)
        → Own K.code w (conversion_code c) a b → IsTakenBy c x → Inside W K.ground a b → Agrees W (suc n) K.ground μ m σ
        → ((y : ℕ) (ν : Frames) (l : Store) → converted c x ≡ Fine y → Agrees W (suc n) K.ground ν l σ → Q (standing K.ground b (push (words_made c y) rest) ν l) (k y σ))
        → Q (standing K.ground a (push (words_for c x) rest) μ m) (on_tried W.program (next W n) K.meant (converted c x) k σ)
    conversion_on μ m σ c a b rest x k own taken inside h on =
        let leads = (law μ m).conversion c x taken in
        tried_on μ m σ (conversion_code c) a b (words_for c x) rest (words_made c) (converted c x) k own
        (λ y e. subst (λ o. Leads μ m (conversion_code c) (words_for c x) o) (made_given c y) (subst (λ t. Leads μ m (conversion_code c) (words_for c x) (outcome_by c t)) e leads))
        (λ fault e. subst (λ o. Leads μ m (conversion_code c) (words_for c x) o) (made_raised c fault) (subst (λ t. Leads μ m (conversion_code c) (words_for c x) (outcome_by c t)) e leads))
        inside h on
