-- Signals that may escape small images, and those that may not, by the rules.
use Rattle.std.proofs.Common.{◌≡◌, ◌⊎◌, inl, inr, ⊎_elim, ℕ, zero, suc, List, [], ◌∷◌, true, Some, None, refl, sym, ap, subst, ◌∙◌, arith}
use Rattle.std.specs.Prelude.{slice_get}
use Rattle.std.proofs.lemmas.Bool.{false≢true}
use Rattle.std.proofs.lemmas.Option.{none-some, same_Some}
use Rattle.code_forms.specs.declared.instruction.Instruction.{Instruction}
use Rattle.code_forms.specs.declared.instruction.Instruction.TheVariants.{Call, CallLink, Return, Raise, ArmEnd, Resume}
use Rattle.code_forms.specs.declared.module_code.Arm.{Arm}
use Rattle.code_forms.specs.declared.module_code.CodeEntry.{CodeEntry}
use Rattle.code_forms.specs.declared.module_code.CodeProcedure.{CodeProcedure}
use Rattle.code_forms.specs.declared.module_code.Label.TheVariants as l
use Rattle.code_forms.specs.declared.module_code.ModuleCode.{ModuleCode}
use Rattle.code_forms.specs.declared.module_code.Phrase.{Phrase}
use Rattle.object_files.specs.declared.image.Image.{Image}
use Rattle.object_files.specs.declared.image.Link.TheVariants.{To}
use Rattle.signaller.specs.declared.signal_id.SignalId.{SignalId}
use Rattle.signaller.specs.declared.signal_id.SignalId.TheVariants.{Own}
use Rattle.signaller.specs.Search.{around_at, around}
use Rattle.machine_rules.specs.LookUps.{module_number, code_in, code_of, procedure_of, signal_of, bound_to, links_in, signals_bound, links_of, instruction_at}
use Rattle.machine_rules.specs.Signals.{takes_of, takes_in, takes_back}
use Rattle.machine_rules.proofs.OneResult.{found}
use Rattle.machine_rules.proofs.Written.{arm, phrase, procedure, signal_with, procedure_link, Written, Keeps, object, image_of}
use Rattle.survey_rules.specs.Escapes as rule
use Rattle.survey_rules.specs.Escapes.{Position, IsCode, MayPassBounds, MayDivide, MayRaise, Calls, StopsSignal, Catches, Comes, raised, called, passed, position_of, Escapes, escapes}
use Rattle.survey_rules.specs.Reached.{first, in_arm, StandsIn}
use Rattle.survey_rules.proofs.Codes.{one_code}

-- Images of one module with one instance that is started.

abbrev small : (w : Written) → Keeps w → Image
small w keeps = image_of (object w keeps ∷ []) (0 ∷ []) ([] ∷ []) (0 ∷ [])

abbrev its : (w : Written) → Keeps w → ModuleCode
its w keeps = (object w keeps).code

code_small : (w : Written) (keeps : Keeps w) (n : ℕ) (p : CodeProcedure) → slice_get w.procedures n ≡ Some p → IsCode (small w keeps) 0 n (its w keeps) p
unfolding module_number code_in code_of procedure_of
code_small w keeps n p e = record { is_module = refl; is_procedure = e }

-- S has so many results; a body calls what raises S
abbrev raiser : CodeProcedure
raiser = procedure 0 0 0 0 (Raise 0 ∷ Return ∷ []) []

abbrev with_body : (results : ℕ) → CodeProcedure → Written
with_body results body = record { globals = 0; signals = signal_with 0 results ∷ []; strings = []; links = []; procedures = body ∷ raiser ∷ [] }

comes_out : (results : ℕ) (body : CodeProcedure) (keeps : Keeps (with_body results body)) → Comes (small (with_body results body) keeps) (Own 0 0) 0 1 None
unfolding instruction_at around
comes_out results body keeps =
    raised 0 1 0 (its (with_body results body) keeps) raiser (Raise 0) (code_small (with_body results body) keeps 1 raiser refl)
    (record { reached = first; is = refl }) (rule.own 0)

comes_at : (results : ℕ) (body : CodeProcedure) (keeps : Keeps (with_body results body)) → instruction_at body.code 0 ≡ Some (Call 1)
    → Comes (small (with_body results body) keeps) (Own 0 0) 0 0 (position_of body 0)
comes_at results body keeps e =
    called 0 0 0 0 1 1 (its (with_body results body) keeps) body (Call 1) (code_small (with_body results body) keeps 0 body refl)
    (record { reached = first; is = e }) (rule.own 1) (inl refl) (comes_out results body keeps)

-- the one phrase has one arm
sole : {X : Type 0} (x y : X) (k : ℕ) → slice_get (x ∷ []) k ≡ Some y → x ≡ y
sole x y zero e = same_Some x y e
sole x y (suc k) e = absurd (none-some y e)

sole_stops : (image : Image) (j : ℕ) (m : ModuleCode) (p : CodeProcedure) (s : SignalId) (from to : ℕ) (a : Arm) → p.phrases ≡ phrase from to (a ∷ []) ∷ []
    → Catches image j m p s 0 → StopsSignal image m p s a
sole_stops image j m p s from to a e k =
    let ph : phrase from to (a ∷ []) ≡ k.phrase = same_Some (phrase from to (a ∷ [])) k.phrase (ap (λ t. slice_get t 0) (sym e) ∙ k.is_phrase) in
    let is : a ≡ k.arm = sole a k.arm k.k (subst (λ (x : Phrase). slice_get x.arms k.k ≡ Some k.arm) (sym ph) k.is_arm) in
    subst (λ x. StopsSignal image m p s x) (sym is) k.stops

-- An arm whose end is reached lets the signal past: P[! S => NULL];

abbrev end_arm : Arm
end_arm = arm ((l.Own 0) ∷ []) 0 0 6 7

abbrev ending : CodeProcedure
ending = procedure 0 0 0 0 (Call 1 ∷ Return ∷ ArmEnd ∷ []) (phrase 0 5 (end_arm ∷ []) ∷ [])

ends : (m : ModuleCode) → StandsIn m ending end_arm ArmEnd
unfolding instruction_at
ends m = record { at = 6; stands = record { reached = in_arm 0 0 0 (Call 1) (phrase 0 5 (end_arm ∷ [])) end_arm first refl refl refl refl; is = refl }; behind = omega arith; before = omega arith }

ending_lets : Escapes (small (with_body 0 ending) refl) (Own 0 0)
unfolding instruction_at around_at around
ending_lets = escapes 0 (0, omega arith, refl)
    (passed 0 0 0 (its (with_body 0 ending) refl) ending (code_small (with_body 0 ending) refl 0 ending refl) (comes_at 0 ending refl refl)
    (λ k. (sole_stops (small (with_body 0 ending) refl) 0 (its (with_body 0 ending) refl) ending (Own 0 0) 0 5 end_arm refl k).no_end (ends (its (with_body 0 ending) refl))))

-- One that resumes with too few words, too: P[! S => RESUME]; where S has a result.

abbrev resume_arm : Arm
resume_arm = arm ((l.Own 0) ∷ []) 0 0 6 9

abbrev resuming : CodeProcedure
resuming = procedure 0 0 0 0 (Call 1 ∷ Return ∷ Resume 0 ∷ []) (phrase 0 5 (resume_arm ∷ []) ∷ [])

resumes : (m : ModuleCode) → StandsIn m resuming resume_arm (Resume 0)
unfolding instruction_at
resumes m = record { at = 6; stands = record { reached = in_arm 0 0 0 (Call 1) (phrase 0 5 (resume_arm ∷ [])) resume_arm first refl refl refl refl; is = refl }; behind = omega arith; before = omega arith }

too_few : takes_back (small (with_body 1 resuming) refl) (Own 0 0) 0 ≡ true → ⊥
unfolding takes_back takes_in takes_of signal_of code_of module_number code_in
too_few e = false≢true e

too_few_let : Escapes (small (with_body 1 resuming) refl) (Own 0 0)
unfolding instruction_at around_at around
too_few_let = escapes 0 (0, omega arith, refl)
    (passed 0 0 0 (its (with_body 1 resuming) refl) resuming (code_small (with_body 1 resuming) refl 0 resuming refl) (comes_at 1 resuming refl refl)
    (λ k. too_few ((sole_stops (small (with_body 1 resuming) refl) 0 (its (with_body 1 resuming) refl) resuming (Own 0 0) 0 5 resume_arm refl k).resumes 0
    (resumes (its (with_body 1 resuming) refl)))))

-- A signal that is raised in an arm comes beyond the arm's phrase: P[! S => BEGIN SIGNAL S; RESUME END];

abbrev raise_arm : Arm
raise_arm = arm ((l.Own 0) ∷ []) 0 0 6 14

abbrev raising : CodeProcedure
raising = procedure 0 0 0 0 (Call 1 ∷ Return ∷ Raise 0 ∷ Resume 0 ∷ []) (phrase 0 5 (raise_arm ∷ []) ∷ [])

raised_in_arm : Escapes (small (with_body 0 raising) refl) (Own 0 0)
unfolding instruction_at around_at around
raised_in_arm = escapes 0 (0, omega arith, refl)
    (raised 0 0 6 (its (with_body 0 raising) refl) raising (Raise 0) (code_small (with_body 0 raising) refl 0 raising refl)
    (record { reached = in_arm 0 0 0 (Call 1) (phrase 0 5 (raise_arm ∷ [])) raise_arm first refl refl refl refl; is = refl }) (rule.own 0))

-- A call of another instance, whose start raises a signal: its procedure does nothing.

abbrev caller : Written
caller = record { globals = 0; signals = []; strings = []; links = procedure_link 0 0 ∷ []; procedures = procedure 0 0 0 0 (CallLink 0 ∷ Return ∷ []) [] ∷ [] }

abbrev starter : Written
starter = record {
  globals = 0;
  signals = signal_with 0 0 ∷ [];
  strings = [];
  links = [];
  procedures = raiser ∷ procedure 0 0 0 0 (Return ∷ []) [] ∷ [];
}

abbrev pair : Image
pair = image_of (object caller refl ∷ object starter refl ∷ []) (0 ∷ 1 ∷ []) ((To 1 1 ∷ []) ∷ [] ∷ []) (0 ∷ [])

start_raises : Escapes pair (Own 1 0)
unfolding instruction_at around bound_to module_number code_in code_of procedure_of
start_raises = escapes 0 (0, omega arith, refl)
    (called 0 0 0 1 1 0 (its caller refl) (procedure 0 0 0 0 (CallLink 0 ∷ Return ∷ []) []) (CallLink 0) (record { is_module = refl; is_procedure = refl })
    (record { reached = first; is = refl }) (rule.linked 0 1 1 refl) (inr ((λ (e : 1 ≡ 0). let z : ⊥ = omega (arith, e) in z), refl))
    (raised 1 0 0 (its starter refl) raiser (Raise 0) (record { is_module = refl; is_procedure = refl }) (record { reached = first; is = refl }) (rule.own 0)))

-- Where nothing escapes.

instance_is : (w : Written) (keeps : Keeps w) (j : ℕ) (m : ModuleCode) → code_of (small w keeps) j ≡ Some m → j ≡ 0
unfolding code_of module_number
instance_is w keeps zero m e = refl
instance_is w keeps (suc j) m e = absurd (none-some m e)

procedure_is : (w : Written) (keeps : Keeps w) (j n : ℕ) (m : ModuleCode) (p : CodeProcedure) → IsCode (small w keeps) j n m p → slice_get w.procedures n ≡ Some p
unfolding code_of module_number code_in procedure_of
procedure_is w keeps zero n m p c = c.is_procedure
procedure_is w keeps (suc j) n m p c = absurd (none-some m c.is_module)

-- these raise nothing by themselves
abbrev Quiet : Instruction → Type 0
Quiet (Call k) = Unit {0}
Quiet Return = Unit {0}
Quiet (Resume n) = Unit {0}
Quiet _ = ⊥

no_bounds : (i : Instruction) → Quiet i → MayPassBounds i → ⊥
no_bounds (Call k) q may = may
no_bounds Return q may = may
no_bounds (Resume n) q may = may
no_bounds _ q may = q

no_divisor : (i : Instruction) → Quiet i → MayDivide i → ⊥
no_divisor (Call k) q may = may
no_divisor Return q may = may
no_divisor (Resume n) q may = may
no_divisor _ q may = q

raises_none : (image : Image) (j : ℕ) (i : Instruction) (s : SignalId) → MayRaise image j i s → Quiet i → ⊥
raises_none image j _ _ (rule.own k) q = q
raises_none image j _ _ (rule.linked k i n e) q = q
raises_none image j _ _ (rule.wanted k w e) q = q
raises_none image j _ _ (rule.hosts fault s e) q = q
raises_none image j _ _ (rule.bounds i may) q = no_bounds i q may
raises_none image j _ _ (rule.divides i may) q = no_divisor i q may
raises_none image j _ _ (rule.reads k w e f) q = q

-- these call nothing
abbrev CallsNone : Instruction → Type 0
CallsNone Return = Unit {0}
CallsNone (Raise k) = Unit {0}
CallsNone (Resume n) = Unit {0}
CallsNone _ = ⊥

calls_none : (image : Image) (j other n : ℕ) (i : Instruction) → Calls image j i other n → CallsNone i → ⊥
calls_none image j _ _ _ (rule.own q) c = c
calls_none image j _ _ _ (rule.linked k other q e) c = c

abbrev returning : CodeProcedure
returning = procedure 0 0 0 0 (Return ∷ []) []

abbrev returns : Written
returns = record { globals = 0; signals = []; strings = []; links = []; procedures = returning ∷ [] }

is_return : (n : ℕ) (p : CodeProcedure) → slice_get (returning ∷ []) n ≡ Some p → (at : ℕ) (i : Instruction) → instruction_at p.code at ≡ Some i → Return ≡ i
is_return n p e at i is =
    let same : returning ≡ p = sole returning p n e in
    let f = found returning.code at i (subst (λ (x : CodeProcedure). instruction_at x.code at ≡ Some i) (sym same) is) in
    ap (λ (x : CodeEntry). x.instruction) (sole _ f.entry f.number f.is) ∙ f.instruction

nothing_comes : (s : SignalId) (j n : ℕ) (position : Position) → Comes (small returns refl) s j n position → ⊥
nothing_comes s _ _ _ (raised j n at m p i c stands may) =
    raises_none (small returns refl) j i s may (subst (λ x. Quiet x) (is_return n p (procedure_is returns refl j n m p c) at i stands.is) tt)
nothing_comes s _ _ _ (called j n at other procedure q m p i c stands calls run more) = nothing_comes s other q None more
nothing_comes s _ _ _ (passed j n k m p c more lets) = nothing_comes s j n (Some k) more

nothing_escapes : (s : SignalId) → Escapes (small returns refl) s → ⊥
nothing_escapes s (escapes j named comes) = nothing_comes s j 0 None comes

-- An arm that stops the signal: P[! S => RESUME];

abbrev caught : Image
caught = small (with_body 0 resuming) refl

abbrev caught_code : ModuleCode
caught_code = its (with_body 0 resuming) refl

-- what holds of each entry of a list
abbrev AllOf : (P : CodeEntry → Type 0) → List CodeEntry → Type 0
AllOf P [] = Unit {0}
AllOf P (x ∷ xs) = P x × AllOf P xs

each : (P : CodeEntry → Type 0) (xs : List CodeEntry) → AllOf P xs → (k : ℕ) (e : CodeEntry) → slice_get xs k ≡ Some e → P e
each P [] all k e is = absurd (none-some e is)
each P (x ∷ xs) all zero e is = subst P (same_Some x e is) all.0
each P (x ∷ xs) all (suc k) e is = each P xs all.1 k e is

resumes_alone : (at : ℕ) (i : Instruction) → instruction_at resuming.code at ≡ Some i → ((i ≡ Call 1) × (at ≡ 0)) ⊎ ((i ≡ Return) ⊎ (i ≡ Resume 0))
resumes_alone at i is =
    let f = found resuming.code at i is in
    each (λ e. e.at ≡ at → e.instruction ≡ i → ((i ≡ Call 1) × (at ≡ 0)) ⊎ ((i ≡ Return) ⊎ (i ≡ Resume 0))) resuming.code
    ((λ e g. inl (sym g, sym e)), ((λ e g. inr (inl (sym g))), ((λ e g. inr (inr (sym g))), tt))) f.number f.entry f.is f.begins f.instruction

raises_alone : (at : ℕ) (i : Instruction) → instruction_at raiser.code at ≡ Some i → (i ≡ Raise 0) ⊎ (i ≡ Return)
raises_alone at i is =
    let f = found raiser.code at i is in
    each (λ e. e.instruction ≡ i → (i ≡ Raise 0) ⊎ (i ≡ Return)) raiser.code ((λ g. inl (sym g)), ((λ g. inr (sym g)), tt)) f.number f.entry f.is f.instruction

abbrev words_of : Instruction → ℕ
words_of (Resume n) = n
words_of _ = 0

abbrev Ends : Instruction → Type 0
Ends ArmEnd = Unit {0}
Ends _ = ⊥

abbrev Resumes : Instruction → Type 0
Resumes (Resume n) = Unit {0}
Resumes _ = ⊥

takes_none : takes_back caught (Own 0 0) 0 ≡ true
unfolding takes_back takes_in takes_of signal_of code_of module_number code_in
takes_none = refl

catches : Catches caught 0 caught_code resuming (Own 0 0) 0
unfolding links_of links_in signals_bound code_of module_number code_in
catches = record {
  phrase = phrase 0 5 (resume_arm ∷ []);
  is_phrase = refl;
  k = 0;
  first = refl;
  arm = resume_arm;
  is_arm = refl;
  stops = record {
    no_end = λ s. ⊎_elim (λ x. subst Ends (x.0) tt) (λ x. ⊎_elim (λ y. subst Ends y tt) (λ y. subst Ends y tt) x) (resumes_alone s.at ArmEnd s.stands.is);
    resumes = λ n s. ⊎_elim (λ x. absurd (subst Resumes x.0 tt)) (λ x. ⊎_elim (λ y. absurd (subst Resumes y tt))
        (λ y. subst (λ k. takes_back caught (Own 0 0) k ≡ true) (sym (ap words_of y)) takes_none) x) (resumes_alone s.at (Resume n) s.stands.is);
  };
}

-- the signal comes out of the one procedure, and at the phrase of the other
abbrev Where : SignalId → (instance procedure : ℕ) → Position → Type 0
Where s j n position = (s ≡ Own 0 0) × (j ≡ 0) × (((n ≡ 1) × (position ≡ None)) ⊎ ((n ≡ 0) × (position ≡ Some 0)))

abbrev IsRaised : SignalId → (instance : ℕ) → Instruction → Type 0
IsRaised s j (Raise k) = s ≡ Own j k
IsRaised s j _ = Unit {0}

raise_is : (image : Image) (j : ℕ) (i : Instruction) (s : SignalId) → MayRaise image j i s → i ≡ Raise 0 → s ≡ Own j 0
raise_is image j i s may e = subst (λ x. IsRaised s j x) e (names image j i s may)
  where
    bounded : (j : ℕ) (i : Instruction) → MayPassBounds i → (s : SignalId) → IsRaised s j i
    bounded j (Raise k) may s = absurd may
    bounded j _ may s = tt

    divided : (j : ℕ) (i : Instruction) → MayDivide i → (s : SignalId) → IsRaised s j i
    divided j (Raise k) may s = absurd may
    divided j _ may s = tt

    names : (image : Image) (j : ℕ) (i : Instruction) (s : SignalId) → MayRaise image j i s → IsRaised s j i
    names image j _ _ (rule.own k) = refl
    names image j _ _ (rule.linked k i n e) = tt
    names image j _ _ (rule.wanted k w e) = tt
    names image j _ _ (rule.hosts fault s e) = tt
    names image j i s (rule.bounds _ may) = bounded j i may s
    names image j i s (rule.divides _ may) = divided j i may s
    names image j _ _ (rule.reads k w e f) = tt

same_instance : (j n : ℕ) (m : ModuleCode) (p : CodeProcedure) → IsCode caught j n m p → j ≡ 0
same_instance j n m p c = instance_is (with_body 0 resuming) refl j m c.is_module

raised_where : (j n at : ℕ) (m : ModuleCode) (p : CodeProcedure) (i : Instruction) (s : SignalId) → IsCode caught j n m p → slice_get (resuming ∷ raiser ∷ []) n ≡ Some p
    → instruction_at p.code at ≡ Some i → MayRaise caught j i s → Where s j n (position_of p at)
unfolding around
raised_where j zero at m p i s c e is may =
    let code = subst (λ (x : CodeProcedure). instruction_at x.code at ≡ Some i) (sym (same_Some resuming p e)) is in
    absurd (⊎_elim (λ x. raises_none caught j i s may (subst Quiet (sym x.0) tt))
    (λ x. ⊎_elim (λ y. raises_none caught j i s may (subst Quiet (sym y) tt)) (λ y. raises_none caught j i s may (subst Quiet (sym y) tt)) x) (resumes_alone at i code))
raised_where j (suc zero) at m p i s c e is may =
    let same : raiser ≡ p = same_Some raiser p e in
    let code = subst (λ (x : CodeProcedure). instruction_at x.code at ≡ Some i) (sym same) is in
    let j0 = same_instance j 1 m p c in
    let s0 : s ≡ Own 0 0 = ⊎_elim (λ x. raise_is caught j i s may x ∙ ap (λ k. Own k 0) j0) (λ x. absurd (raises_none caught j i s may (subst Quiet (sym x) tt))) (raises_alone at i code) in
    (s0, j0, inl (refl, ap (λ (x : CodeProcedure). position_of x at) (sym same)))
raised_where j (suc (suc n)) at m p i s c e is may = absurd (none-some p e)

called_where : (j n at other q x : ℕ) (m : ModuleCode) (p : CodeProcedure) (i : Instruction) (s : SignalId) → IsCode caught j n m p → slice_get (resuming ∷ raiser ∷ []) n ≡ Some p
    → instruction_at p.code at ≡ Some i → Calls caught j i other x → s ≡ Own 0 0 → Where s j n (position_of p at)
unfolding around around_at
called_where j zero at other q x m p i s c e is calls s0 =
    let same : resuming ≡ p = same_Some resuming p e in
    let code = subst (λ (y : CodeProcedure). instruction_at y.code at ≡ Some i) (sym same) is in
    let at0 : at ≡ 0 = ⊎_elim (λ y. y.1)
    (λ y. absurd (⊎_elim (λ z. calls_none caught j other x i calls (subst CallsNone (sym z) tt)) (λ z. calls_none caught j other x i calls (subst CallsNone (sym z) tt)) y))
    (resumes_alone at i code) in
    (s0, same_instance j 0 m p c, inr (refl, ap (λ (y : CodeProcedure). position_of y at) (sym same) ∙ ap (λ k. position_of resuming k) at0))
called_where j (suc zero) at other q x m p i s c e is calls s0 =
    let code = subst (λ (y : CodeProcedure). instruction_at y.code at ≡ Some i) (sym (same_Some raiser p e)) is in
    absurd (⊎_elim (λ y. calls_none caught j other x i calls (subst CallsNone (sym y) tt)) (λ y. calls_none caught j other x i calls (subst CallsNone (sym y) tt)) (raises_alone at i code))
called_where j (suc (suc n)) at other q x m p i s c e is calls s0 = absurd (none-some p e)

passed_where : (j n k : ℕ) (m : ModuleCode) (p : CodeProcedure) (s : SignalId) → IsCode caught j n m p → Where s j n (Some k) → (Catches caught j m p s k → ⊥) → ⊥
passed_where j n k m p s c at lets = ⊎_elim
    (λ x. none-some k (sym x.1))
    (λ x.
    let c0 : IsCode caught 0 0 m p = subst (λ y. IsCode caught 0 y m p) x.0 (subst (λ y. IsCode caught y n m p) at.1 c) in
    let here : Catches caught 0 m p (Own 0 0) 0 =
    one_code (λ y z. Catches caught 0 y z (Own 0 0) 0) caught 0 0 caught_code m resuming p (code_small (with_body 0 resuming) refl 0 resuming refl) c0 catches in
    lets (subst (λ y. Catches caught y m p s k) (sym at.1) (subst (λ y. Catches caught 0 m p y k) (sym at.0) (subst (λ y. Catches caught 0 m p (Own 0 0) y) (same_Some 0 k (sym x.1)) here))))
    at.2

where_is : (s : SignalId) (j n : ℕ) (position : Position) → Comes caught s j n position → Where s j n position
where_is s _ _ _ (raised j n at m p i c stands may) = raised_where j n at m p i s c (procedure_is (with_body 0 resuming) refl j n m p c) stands.is may
where_is s _ _ _ (called j n at other procedure q m p i c stands calls run more) =
    called_where j n at other q procedure m p i s c (procedure_is (with_body 0 resuming) refl j n m p c) stands.is calls (where_is s other q None more).0
where_is s _ _ _ (passed j n k m p c more lets) = absurd (passed_where j n k m p s c (where_is s j n (Some k) more) lets)

stopped : (s : SignalId) → Escapes caught s → ⊥
stopped s (escapes j named comes) = ⊎_elim
    (λ x. let z : ⊥ = (let e = x.0 in omega (arith, e)) in z)
    (λ x. none-some 0 x.1)
    (where_is s j 0 None comes).2
