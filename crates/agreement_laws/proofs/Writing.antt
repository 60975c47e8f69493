-- Own code that writes words of its frame: what its instructions make of the operands and of the words, the machine makes of them where
-- it stands.
use Rattle.std.proofs.Common.{◌≡◌, ℕ, suc, ◌+◌, List, ◌∷◌, Bool, true, false, Some, refl, sym, ap, ◌∙◌, subst}
use Rattle.std.specs.Prelude.{unwrap_or, nat_eq, if◌then◌else◌}
use Rattle.std.proofs.lemmas.Bool.{eq-eqb, eqb-true}
use Rattle.code_forms.specs.declared.instruction.Instruction.{Instruction}
use Rattle.code_forms.specs.Instructions.{bytes_of}
use Rattle.source_meaning.specs.State.{State}
use Rattle.machine_rules.specs.State.{Store, Runs, Stepped, Goes}
use Rattle.machine_rules.specs.Activations.{own_frame, set_variables, variables}
use Rattle.machine_rules.specs.Calls.{set_of}
use Rattle.machine_rules.specs.Moves.{with}
use Rattle.machine_rules.specs.Working.{Work, Worked, Works, Faults, Touches, works}
use Rattle.machine_rules.specs.Steps.{work_of, worked, works_in, begin, run, step}
use Rattle.code_rules.specs.Points.{Points}
use Rattle.code_rules.specs.Reading.{Destination, Place, Own, no_more, one_more, read}
use Rattle.agreement_rules.specs.Own.{Done, Did, FaultAt, Strays, go_on, works_all}
use Rattle.agreement_rules.specs.Reaches.{Reaches}
use Rattle.agreement_rules.proofs.Lifted.{reaches_itself, reaches_on}
use Rattle.agreement_laws.specs.World.{World, texts_of}
use Rattle.agreement_laws.specs.Standing.{Frames, at, filled, fill}
use Rattle.agreement_laws.specs.Relation.{Agrees, own, standing}
use Rattle.agreement_laws.specs.Contexts.{Site, Context}
use Rattle.agreement_laws.proofs.Codes.{own_here, variables_here}
use Rattle.agreement_laws.proofs.Control.{stands_at}
use Rattle.agreement_laws.proofs.Going.{reaches_step}
use Rattle.agreement_laws.proofs.Stacks.{with_words, words_here, fill_set}

-- Words and globals that are set twice, or to what they are.

pub words_twice : (μ : Frames) (g : ℕ) (one two : List ℕ) (f : ℕ) → with_words (with_words μ g one) g two f ≡ with_words μ g two f
words_twice μ g one two f = by (nat_eq f g)
  where
    by : (b : Bool) → (if b then two else (if b then one else μ f)) ≡ (if b then two else μ f)
    by true = refl
    by false = refl

words_old : (μ : Frames) (g : ℕ) (f : ℕ) → with_words μ g (μ g) f ≡ μ f
words_old μ g f = by (nat_eq f g) refl
  where
    by : (b : Bool) → nat_eq f g ≡ b → (if b then μ g else μ f) ≡ μ f
    by true e = ap μ (sym (eqb-true f g e))
    by false e = refl

set_twice : (f : ℕ → List ℕ) (j : ℕ) (one two : List ℕ) (n : ℕ) → set_of (set_of f j one) j two n ≡ set_of f j two n
unfolding set_of
set_twice f j one two n = by (nat_eq n j)
  where
    by : (b : Bool) → (if b then two else (if b then one else f n)) ≡ (if b then two else f n)
    by true = refl
    by false = refl

set_old : (f : ℕ → List ℕ) (j n : ℕ) → set_of f j (f j) n ≡ f n
unfolding set_of
set_old f j n = by (nat_eq n j) refl
  where
    by : (b : Bool) → nat_eq n j ≡ b → (if b then f j else f n) ≡ f n
    by true e = ap f (sym (eqb-true n j e))
    by false e = refl

set_there : (f : ℕ → List ℕ) (j : ℕ) (one : List ℕ) → set_of f j one j ≡ one
unfolding set_of
set_there f j one = ap (λ b. if b then one else f j) (eq-eqb j j refl)

module _ (W : World) (K : Site) (points : Points Destination) (around : List ℕ) (from to : ℕ) (ctx : Context W K points around from to)
    (bound : ℕ) (μ : Frames) (m : Store) (σ : State) (agrees : Agrees W bound K.ground μ m σ) where
  abbrev f : ℕ
  f = K.meant.frame

  abbrev j : ℕ
  j = K.ground.here.procedure.instance

  abbrev work : (ops vs gs : List ℕ) → Work
  work ops vs gs = record { operands = ops; variables = vs; globals = gs }

  -- with other words of the frame and other globals
  abbrev store : (gs : List ℕ) → (n : ℕ) → Store
  store gs n = record m { begun = n; globals = set_of m.globals j gs }

  abbrev there : (o : ℕ) → (ops vs gs : List ℕ) → (n : ℕ) → Stepped
  there o ops vs gs n = standing K.ground o ops (with_words μ f vs) (store gs n)

  stack_is : (ν : Frames) (o p : ℕ) (ops others new : List ℕ)
      → set_variables (fill ν (at K.ground.here o ops ∷ K.ground.below)) (own_frame (filled ν (at K.ground.here p others)) (fill ν K.ground.below)) new
      ≡ fill (with_words ν f new) (at K.ground.here o ops ∷ K.ground.below)
  stack_is ν o p ops others new =
      ap (λ q. set_variables (fill ν (at K.ground.here o ops ∷ K.ground.below)) q new) (own_here ν K.ground.here p others K.ground.below)
      ∙ fill_set σ.store.fresh ν (at K.ground.here o ops ∷ K.ground.below) (own K.ground) (record { number = f; procedure = K.ground.here.procedure }) new agrees.falling ctx.is_frame

  -- what comes of an instruction
  After : Instruction → (o : ℕ) → (n : ℕ) → Stepped → Worked → Type 0
  After i o n s (Works w) = s ≡ there (o + bytes_of i) w.operands w.variables w.globals n
  After i o n s (Faults fault) = Unit {0}
  After i o n s Touches = Unit {0}

  after_it : (i : Instruction) (o : ℕ) (ops vs gs : List ℕ) (n : ℕ) (y : Worked)
      → After i o n (worked W.image i y (filled (with_words μ f vs) (at K.ground.here o ops)) (fill (with_words μ f vs) K.ground.below) (store gs n)) y
  unfolding After worked
  after_it i o ops vs gs n (Works w) =
      let ν = with_words μ f vs in
      let b = o + bytes_of i in
      let kept = λ (l : Store). Goes (Runs (fill (with_words ν f w.variables) (at K.ground.here b w.operands ∷ K.ground.below)) l) in
      ap (λ T. Goes (Runs T (record (store gs n) { globals = set_of (set_of m.globals j gs) j w.globals }))) (stack_is ν b o w.operands ops w.variables)
      ∙ ap (λ g. kept (record m { begun = n; globals = g })) (λ d x. set_twice m.globals j gs w.globals x d)
      ∙ ap (λ ξ. standing K.ground b w.operands ξ (store w.globals n)) (λ d x. words_twice μ f vs w.variables x d)
  after_it i o ops vs gs n (Faults fault) = tt
  after_it i o ops vs gs n Touches = tt

  works_there : (i : Instruction) (o : ℕ) (ops vs gs : List ℕ) (n : ℕ)
      → works_in W.image i (filled (with_words μ f vs) (at K.ground.here o ops)) (fill (with_words μ f vs) K.ground.below) (store gs n)
      ≡ works (texts_of W) ctx.code_of.number i (work ops vs gs)
  unfolding works_in work_of
  works_there i o ops vs gs n =
      let ν = with_words μ f vs in
      ap (λ x. works (texts_of W) (unwrap_or x 0) i (work ops (variables (filled ν (at K.ground.here o ops)) (fill ν K.ground.below)) (set_of m.globals j gs j))) ctx.code_of.number_of
      ∙ ap (λ l. works (texts_of W) ctx.code_of.number i (work ops l (set_of m.globals j gs j))) (variables_here W K points around from to ctx ν o ops ∙ words_here μ f vs)
      ∙ ap (λ l. works (texts_of W) ctx.code_of.number i (work ops vs l)) (set_there m.globals j gs)

  one_step : (i : Instruction) (o d : ℕ) (near ops vs gs : List ℕ) (n : ℕ) → read K.code o ≡ Some (record { instruction = i; depth = d; around = near })
      → After i o (suc n) (step W.image (Runs (fill (with_words μ f vs) (at K.ground.here o ops ∷ K.ground.below)) (store gs n))) (works (texts_of W) ctx.code_of.number i (work ops vs gs))
  unfolding step run begin with
  one_step i o d near ops vs gs n is =
      let ν = with_words μ f vs in
      let a = filled ν (at K.ground.here o ops) in
      let S = fill ν K.ground.below in
      let y = works (texts_of W) ctx.code_of.number i (work ops vs gs) in
      subst (λ s. After i o (suc n) s y)
      (sym (ap (λ x. with x (store gs n) (λ j. begin W.image j a S (store gs n))) (stands_at W K points around from to ctx ν o d ops i near is)
      ∙ ap (λ z. worked W.image i z a S (store gs (suc n))) (works_there i o ops vs gs n)))
      (after_it i o ops vs gs (suc n) y)

  -- what comes of all of them
  Lifts : (o : ℕ) → Stepped → Done → Type 0
  Lifts o s (Did v) = (n : ℕ) × Reaches W.image s (there o v.operands v.variables v.globals n)
  Lifts o s (FaultAt fault v) = Unit {0}
  Lifts o s Strays = Unit {0}

  lifts_on : (o : ℕ) (s t : Stepped) (d : Done) → Reaches W.image s t → Lifts o t d → Lifts o s d
  unfolding Lifts
  lifts_on o s t (Did v) r l = (l.0, reaches_on W.image s t (there o v.operands v.variables v.globals l.0) r l.1)
  lifts_on o s t (FaultAt fault v) r l = tt
  lifts_on o s t Strays r l = tt

  next : (i : Instruction) (is : List Instruction) (o b : ℕ) (ops vs gs : List ℕ) (n : ℕ) (y : Worked)
      → After i o (suc n) (step W.image (Runs (fill (with_words μ f vs) (at K.ground.here o ops ∷ K.ground.below)) (store gs n))) y
      → ((v : Work) → Lifts b (there (o + bytes_of i) v.operands v.variables v.globals (suc n)) (works_all (texts_of W) ctx.code_of.number is v))
      → Lifts b (there o ops vs gs n) (go_on (work ops vs gs) y (works_all (texts_of W) ctx.code_of.number is))
  unfolding go_on After Lifts
  next i is o b ops vs gs n (Works v) e h =
      lifts_on b (there o ops vs gs n) (there (o + bytes_of i) v.operands v.variables v.globals (suc n)) (works_all (texts_of W) ctx.code_of.number is v)
      (reaches_step W.image (Runs (fill (with_words μ f vs) (at K.ground.here o ops ∷ K.ground.below)) (store gs n)) (there (o + bytes_of i) v.operands v.variables v.globals (suc n)) e) (h v)
  next i is o b ops vs gs n (Faults fault) e h = tt
  next i is o b ops vs gs n Touches e h = tt

  lift : {w : Place} {is : List Instruction} {a b : ℕ} → Own K.code w is a b → (ops vs gs : List ℕ) (n : ℕ)
      → Lifts b (there a ops vs gs n) (works_all (texts_of W) ctx.code_of.number is (work ops vs gs))
  unfolding works_all Lifts
  lift (no_more {a = a}) ops vs gs n = (n, reaches_itself W.image (there a ops vs gs n))
  lift {w = w} {b = b} (one_more {i = i} {is = is} {a = a} r rest) ops vs gs n =
      next i is a b ops vs gs n (works (texts_of W) ctx.code_of.number i (work ops vs gs)) (one_step i a w.depth w.around ops vs gs n r)
      (λ v. lift rest v.operands v.variables v.globals (suc n))

  -- what was done, and no global is another
  pub record Wrote (b : ℕ) (ops vs : List ℕ) (s : Stepped) : Type 0 where
    pub begun : ℕ
    pub reaches : Reaches W.image s (standing K.ground b ops (with_words μ f vs) (record m { begun = begun }))

  begins : (o : ℕ) (ops : List ℕ) → there o ops (μ f) (m.globals j) m.begun ≡ standing K.ground o ops μ m
  begins o ops =
      ap (λ g. standing K.ground o ops (with_words μ f (μ f)) (record m { globals = g })) (λ d x. set_old m.globals j x d)
      ∙ ap (λ ξ. standing K.ground o ops ξ m) (λ d x. words_old μ f x d)

  wrote_by : (b : ℕ) (s : Stepped) (d : Done) (v : Work) → Lifts b s d → d ≡ Did v → v.globals ≡ m.globals j → Wrote b v.operands v.variables s
  unfolding Lifts
  wrote_by b s d v l e same =
      let x : Lifts b s (Did v) = subst (λ y. Lifts b s y) e l in
      record {
        begun = x.0;
        reaches = subst (λ y. Reaches W.image s y)
            (ap (λ gs. there b v.operands v.variables gs x.0) same
            ∙ ap (λ g. standing K.ground b v.operands (with_words μ f v.variables) (record m { begun = x.0; globals = g })) (λ d n. set_old m.globals j n d))
            x.1;
      }

  pub code_writes : {w : Place} {is : List Instruction} {a b : ℕ} → Own K.code w is a b → (ops : List ℕ) (v : Work)
      → works_all (texts_of W) ctx.code_of.number is (work ops (μ f) (m.globals j)) ≡ Did v → v.globals ≡ m.globals j
      → Wrote b v.operands v.variables (standing K.ground a ops μ m)
  code_writes {is = is} {a = a} {b = b} code ops v e same =
      wrote_by b (standing K.ground a ops μ m) (works_all (texts_of W) ctx.code_of.number is (work ops (μ f) (m.globals j))) v
      (subst (λ s. Lifts b s (works_all (texts_of W) ctx.code_of.number is (work ops (μ f) (m.globals j)))) (begins a ops) (lift code ops (μ f) (m.globals j) m.begun)) e same
