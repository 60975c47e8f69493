-- Own code in its place: what its instructions work, the machine does.
use Rattle.std.proofs.Common.{◌≡◌, ℕ, suc, ◌+◌, ◌≤◌, List, [], ◌∷◌, Bool, true, false, Some, refl, sym, ap, ◌∙◌, subst, arith}
use Rattle.std.specs.Prelude.{nat_eq, option_and_then, unwrap_or, if◌then◌else◌}
use Rattle.std.proofs.lemmas.Bool.{eqb-true, eq-eqb}
use Rattle.std.proofs.lemmas.Option.{none-some, same_Some}
use Rattle.code_forms.specs.declared.instruction.Instruction.{Instruction}
use Rattle.code_forms.specs.declared.module_code.CodeEntry.{CodeEntry}
use Rattle.code_forms.specs.declared.module_code.CodeProcedure.{CodeProcedure}
use Rattle.code_forms.specs.Instructions.{bytes_of}
use Rattle.object_files.specs.declared.image.Image.{Image}
use Rattle.machine_rules.specs.Words.{push}
use Rattle.machine_rules.specs.Working.{Work, Worked, Works, Faults, Touches, works}
use Rattle.machine_rules.specs.State.{Active, Activations, Store, Runs, Stepped, Goes}
use Rattle.machine_rules.specs.LookUps.{module_number, text_of, procedure_of, procedure_under, instruction_at, instruction_under}
use Rattle.machine_rules.specs.Activations.{activation_at, own_frame, variables, variables_of, set_variables}
use Rattle.machine_rules.specs.Moves.{with}
use Rattle.machine_rules.specs.Calls.{set_of}
use Rattle.machine_rules.specs.Steps.{work_of, worked, works_in, begin, run, step, Ends, goes}
use Rattle.code_rules.specs.Reading.{Coded, Place, Own, no_more, one_more, Read, read, read_of, entry_at, phrases_around, scratch}
use Rattle.agreement_rules.specs.Own.{Done, Did, FaultAt, Strays, go_on, works_all, Outcome, Given, Raised, Comes, Does}
use Rattle.agreement_rules.specs.Reaches.{Reaches, Holds, placed, raising, ComesTo, Takes}
use Rattle.agreement_rules.proofs.Leaves.{work}
use Rattle.agreement_rules.proofs.Stacks.{set_found, set_same, placed_there, Top, top_of}

-- What is read at an offset is what the machine finds there.

entry_if : (b : Bool) (e : CodeEntry) (es : List CodeEntry) (offset : ℕ) (around : List ℕ) (r : Read)
    → (read_of (entry_at es offset) around ≡ Some r → (instruction_at es offset ≡ Some r.instruction) × (around ≡ r.around))
    → read_of (if b then Some e else entry_at es offset) around ≡ Some r
    → ((if b then Some e.instruction else instruction_at es offset) ≡ Some r.instruction) × (around ≡ r.around)
entry_if true e es offset around r h is =
    let d = same_Some (record { instruction = e.instruction; depth = e.depth; around = around }) r is in
    (ap (λ (x : Read). Some x.instruction) d, ap (λ (x : Read). x.around) d)
entry_if false e es offset around r h is = h is

pub found_there : (es : List CodeEntry) (offset : ℕ) (around : List ℕ) (r : Read) → read_of (entry_at es offset) around ≡ Some r
    → (instruction_at es offset ≡ Some r.instruction) × (around ≡ r.around)
unfolding instruction_at
found_there [] offset around r is = absurd (none-some r is)
found_there (e ∷ es) offset around r is = entry_if (nat_eq e.at offset) e es offset around r (found_there es offset around r) is

set_again : {A : Type 0} (f : ℕ → A) (j : ℕ) (x y : A) (n : ℕ) → set_of (set_of f j x) j y n ≡ set_of f j y n
unfolding set_of
set_again f j x y n = again (nat_eq n j)
  where
    again : (b : Bool) → (if b then y else (if b then x else f n)) ≡ (if b then y else f n)
    again true = refl
    again false = refl

set_here : {A : Type 0} (f : ℕ → A) (j : ℕ) (x : A) → set_of f j x j ≡ x
unfolding set_of
set_here f j x = ap (λ (b : Bool). if b then x else f j) (eq_itself j)
  where
    eq_itself : (n : ℕ) → nat_eq n n ≡ true
    eq_itself n = eq-eqb n n refl

set_old : {A : Type 0} (f : ℕ → A) (j n : ℕ) → set_of f j (f j) n ≡ f n
unfolding set_of
set_old f j n = old (nat_eq n j) refl
  where
    old : (b : Bool) → nat_eq n j ≡ b → (if b then f j else f n) ≡ f n
    old true e = ap f (sym (eqb-true n j e))
    old false e = refl

pub reaches_itself : (image : Image) (s : Stepped) → Reaches image s s
reaches_itself image s = record { by = λ end last e. e }

pub reaches_on : (image : Image) (s t u : Stepped) → Reaches image s t → Reaches image t u → Reaches image s u
reaches_on image s t u h k = record { by = λ end last e. h.by end last (k.by end last e) }

pub in_order : {P : Coded} {w : Place} {is : List Instruction} {from to : ℕ} → Own P w is from to → from ≤ to
in_order no_more = omega arith
in_order (one_more r rest) = let o = in_order rest in omega (arith, o)

module _ (image : Image) (P : Coded) (number : ℕ) (a : Active) (S : Activations) (m : Store) (h : Holds image P number a S) where
  abbrev q : ℕ
  q = own_frame a S

  abbrev stack : (offset : ℕ) → (ops vs : List ℕ) → Activations
  stack offset ops vs = set_variables (placed a offset ops ∷ S) q vs

  abbrev store : (gs : List ℕ) → (n : ℕ) → Store
  store gs n = record m { begun = n; globals = set_of m.globals a.instance gs }

  abbrev standing : (offset : ℕ) → (ops vs gs : List ℕ) → (n : ℕ) → Stepped
  standing offset ops vs gs n = Goes (Runs (stack offset ops vs) (store gs n))

  -- what comes of an instruction at an offset
  After : Instruction → (offset : ℕ) → (ops vs gs : List ℕ) → (n : ℕ) → Stepped → Worked → Type 0
  After i offset ops vs gs n s (Works w) = s ≡ standing (offset + bytes_of i) w.operands w.variables w.globals (suc n)
  After i offset ops vs gs n s (Faults fault) = s ≡ raising image fault (stack offset ops vs) (store gs (suc n))
  After i offset ops vs gs n s Touches = Unit {0}

  comes_after : (i : Instruction) (offset : ℕ) (ops vs gs : List ℕ) (n : ℕ) (t : Top (placed a offset ops) S q vs) (y : Worked)
      → After i offset ops vs gs n (worked image i y t.top t.others (store gs (suc n))) y
  unfolding After worked
  comes_after i offset ops vs gs n t (Works w) =
      ap (λ r. Goes (Runs (set_variables (placed t.top (t.top.offset + bytes_of i) w.operands ∷ t.others) r w.variables) (record (store gs (suc n)) { globals = set_of (set_of m.globals a.instance gs) t.top.instance w.globals }))) t.own
      ∙ ap (λ T. Goes (Runs T (record (store gs (suc n)) { globals = set_of (set_of m.globals a.instance gs) t.top.instance w.globals }))) (t.further (t.top.offset + bytes_of i) w.operands w.variables)
      ∙ ap (λ o. Goes (Runs (stack (o + bytes_of i) w.operands w.variables) (record (store gs (suc n)) { globals = set_of (set_of m.globals a.instance gs) t.top.instance w.globals }))) t.offset
      ∙ ap (λ j. Goes (Runs (stack (offset + bytes_of i) w.operands w.variables) (record (store gs (suc n)) { globals = set_of (set_of m.globals a.instance gs) j w.globals }))) t.instance
      ∙ ap (λ f. Goes (Runs (stack (offset + bytes_of i) w.operands w.variables) (record (store gs (suc n)) { globals = f }))) (λ d x. set_again m.globals a.instance gs w.globals x d)
  comes_after i offset ops vs gs n t (Faults fault) = ap (λ T. raising image fault T (store gs (suc n))) (sym t.is)
  comes_after i offset ops vs gs n t Touches = tt

  one_step : (w : Place) (i : Instruction) (offset : ℕ) (ops vs gs : List ℕ) (n : ℕ) → read P offset ≡ Some (record { instruction = i; depth = w.depth; around = w.around })
      → After i offset ops vs gs n (run image (stack offset ops vs) (store gs n)) (works (text_of image) number i (work ops vs gs))
  unfolding run begin works_in work_of instruction_under procedure_under with variables own_frame
  one_step w i offset ops vs gs n is =
      let t : Top (placed a offset ops) S q vs = top_of (placed a offset ops) S vs in
      let found = found_there P.entries offset (phrases_around P.routine.phrases offset) (record { instruction = i; depth = w.depth; around = w.around }) is in
      let e1 : procedure_of image t.top.instance t.top.procedure ≡ Some h.procedure =
      ap (λ j. procedure_of image j t.top.procedure) t.instance ∙ ap (λ p. procedure_of image a.instance p) t.procedure ∙ h.is_under in
      let e2 : instruction_under image t.top ≡ Some i =
      ap (λ p. option_and_then (λ (c : CodeProcedure). instruction_at c.code t.top.offset) p) e1
      ∙ ap (λ c. instruction_at c t.top.offset) h.its_code ∙ ap (λ o. instruction_at P.entries o) t.offset ∙ found.0 in
      let g = placed_there a S q offset ops h.frame (variables a S) h.stands h.is_frame in
      let e3 : variables t.top t.others ≡ vs =
      ap (λ r. variables_of (activation_at (t.top ∷ t.others) r)) t.own ∙ ap (λ T. variables_of (activation_at T q)) (sym t.is)
      ∙ set_found (placed a offset ops ∷ S) q g.0 (variables a S) vs g.1 g.2 in
      let e4 : set_of m.globals a.instance gs t.top.instance ≡ gs = ap (λ j. set_of m.globals a.instance gs j) t.instance ∙ set_here m.globals a.instance gs in
      let e5 : unwrap_or (module_number image t.top.instance) 0 ≡ number = ap (λ j. unwrap_or (module_number image j) 0) t.instance ∙ ap (λ x. unwrap_or x 0) h.number_of in
      let e6 : works_in image i t.top t.others (store gs n) ≡ works (text_of image) number i (work ops vs gs) =
      ap (λ k. works (text_of image) k i (work t.top.operands (variables t.top t.others) (set_of m.globals a.instance gs t.top.instance))) e5
      ∙ ap (λ l. works (text_of image) number i (work l (variables t.top t.others) (set_of m.globals a.instance gs t.top.instance))) t.operands
      ∙ ap (λ l. works (text_of image) number i (work ops l (set_of m.globals a.instance gs t.top.instance))) e3
      ∙ ap (λ l. works (text_of image) number i (work ops vs l)) e4 in
      let e : run image (stack offset ops vs) (store gs n) ≡ worked image i (works (text_of image) number i (work ops vs gs)) t.top t.others (store gs (suc n)) =
      ap (λ T. run image T (store gs n)) t.is
      ∙ ap (λ x. with x (store gs n) (λ j. begin image j t.top t.others (store gs n))) e2
      ∙ ap (λ y. worked image i y t.top t.others (store gs (suc n))) e6 in
      subst (λ s. After i offset ops vs gs n s (works (text_of image) number i (work ops vs gs))) (sym e) (comes_after i offset ops vs gs n t (works (text_of image) number i (work ops vs gs)))

  -- what comes of instructions up to an offset, where these phrases are around
  Lifts : (around : List ℕ) → (from to : ℕ) → Stepped → Done → Type 0
  Lifts around from to s (Did v) = (n : ℕ) × Reaches image s (standing to v.operands v.variables v.globals n)
  Lifts around from to s (FaultAt fault v) =
      (offset : ℕ) × (n : ℕ) × (from ≤ offset) × (offset ≤ to) × (phrases_around P.routine.phrases offset ≡ around) × Reaches image s (raising image fault (stack offset v.operands v.variables) (store v.globals n))
  Lifts around from to s Strays = Unit {0}

  lifts_on : (around : List ℕ) (from first to : ℕ) (s t : Stepped) (d : Done) → from ≤ first → Reaches image s t → Lifts around first to t d → Lifts around from to s d
  unfolding Lifts
  lifts_on around from first to s t (Did v) le r l = (l.0, reaches_on image s t (standing to v.operands v.variables v.globals l.0) r l.1)
  lifts_on around from first to s t (FaultAt fault v) le r l =
      let lt = l.2 in
      (l.0, l.1, omega (arith, le, lt), l.3, l.4, reaches_on image s t (raising image fault (stack l.0 v.operands v.variables) (store v.globals l.1)) r l.5)
  lifts_on around from first to s t Strays le r l = tt

  reaches_step : (offset : ℕ) (ops vs gs : List ℕ) (n : ℕ) (t : Stepped) → run image (stack offset ops vs) (store gs n) ≡ t → Reaches image (standing offset ops vs gs n) t
  unfolding step
  reaches_step offset ops vs gs n t e = record {
    by = λ end last x. goes (Runs (stack offset ops vs) (store gs n)) end last (subst (λ s. Ends image s end last) (sym e) x);
  }

  next : (around : List ℕ) (i : Instruction) (is : List Instruction) (offset to : ℕ) (ops vs gs : List ℕ) (n : ℕ) (y : Worked)
      → offset ≤ to → phrases_around P.routine.phrases offset ≡ around → After i offset ops vs gs n (run image (stack offset ops vs) (store gs n)) y
      → ((v : Work) → Lifts around (offset + bytes_of i) to (standing (offset + bytes_of i) v.operands v.variables v.globals (suc n)) (works_all (text_of image) number is v))
      → Lifts around offset to (standing offset ops vs gs n) (go_on (work ops vs gs) y (works_all (text_of image) number is))
  unfolding go_on After Lifts
  next around i is offset to ops vs gs n (Works v) le at e h =
      lifts_on around offset (offset + bytes_of i) to (standing offset ops vs gs n) (standing (offset + bytes_of i) v.operands v.variables v.globals (suc n)) (works_all (text_of image) number is v)
      (omega arith)
      (reaches_step offset ops vs gs n (standing (offset + bytes_of i) v.operands v.variables v.globals (suc n)) e) (h v)
  next around i is offset to ops vs gs n (Faults fault) le at e h =
      (offset, suc n, omega arith, le, at, reaches_step offset ops vs gs n (raising image fault (stack offset ops vs) (store gs (suc n))) e)
  next around i is offset to ops vs gs n Touches le at e h = tt

  lift : {w : Place} {is : List Instruction} {from to : ℕ} → Own P w is from to → (ops vs gs : List ℕ) (n : ℕ)
      → Lifts w.around from to (standing from ops vs gs n) (works_all (text_of image) number is (work ops vs gs))
  unfolding works_all Lifts
  lift (no_more {a = from}) ops vs gs n = (n, reaches_itself image (standing from ops vs gs n))
  lift {w = w} {to = to} (one_more {i = i} {is = is} {a = from} r rest) ops vs gs n =
      let found = found_there P.entries from (phrases_around P.routine.phrases from) (record { instruction = i; depth = w.depth; around = w.around }) r in
      next w.around i is from to ops vs gs n (works (text_of image) number i (work ops vs gs)) (let o = in_order rest in omega (arith, o)) found.1 (one_step w i from ops vs gs n r)
      (λ v. lift rest v.operands v.variables v.globals (suc n))

  old_store : (gs : List ℕ) (n : ℕ) → gs ≡ m.globals a.instance → store gs n ≡ record m { begun = n }
  old_store gs n e =
      ap (λ g. store g n) e ∙ ap (λ f. record m { begun = n; globals = f }) (λ d x. set_old m.globals a.instance x d)

  finish : (w : Place) (from to : ℕ) (rest : List ℕ) (s : Stepped) (out : Outcome) (d : Done) → Lifts w.around from to s d
      → Comes (scratch P) rest (variables a S) (m.globals a.instance) out d → ComesTo image P w from to a S m rest out s
  unfolding Lifts Comes
  finish w from to rest s (Given ws) (Did v) l c = record {
    now = record { offset = to; operands = v.operands; variables = v.variables; begun = l.0 };
    offset = refl;
    operands = c.0;
    kept = c.1;
    reaches = subst (λ x. Reaches image s (Goes (Runs (stack to v.operands v.variables) x))) (old_store v.globals l.0 c.2) l.1;
  }
  finish w from to rest s (Given ws) (FaultAt fault v) l c = absurd c
  finish w from to rest s (Given ws) Strays l c = absurd c
  finish w from to rest s (Raised fault) (Did v) l c = absurd c
  finish w from to rest s (Raised fault) (FaultAt other v) l c = record {
    now = record { offset = l.0; operands = v.operands; variables = v.variables; begun = l.1 };
    inside = (l.2, l.3);
    around = l.4;
    kept = c.1;
    reaches = subst (λ x. Reaches image s (raising image fault (stack l.0 v.operands v.variables) x)) (old_store v.globals l.1 c.2)
        (subst (λ f. Reaches image s (raising image f (stack l.0 v.operands v.variables) (store v.globals l.1))) c.0 l.5);
  }
  finish w from to rest s (Raised fault) Strays l c = absurd c

  begins_here : (offset : ℕ) (ops : List ℕ) → standing offset ops (variables a S) (m.globals a.instance) m.begun ≡ Goes (Runs (placed a offset ops ∷ S) m)
  begins_here offset ops =
      let g = placed_there a S q offset ops h.frame (variables a S) h.stands h.is_frame in
      ap (λ T. Goes (Runs T (store (m.globals a.instance) m.begun))) (set_same (placed a offset ops ∷ S) q g.0 (variables a S) g.1 g.2)
      ∙ ap (λ x. Goes (Runs (placed a offset ops ∷ S) x)) (old_store (m.globals a.instance) m.begun refl)

  pub takes_here : (w : Place) (code : List Instruction) (from to : ℕ) (ins rest : List ℕ) (out : Outcome) → Own P w code from to
      → Does (text_of image) number (scratch P) (variables a S) (m.globals a.instance) code ins out
      → ComesTo image P w from to a S m rest out (Goes (Runs (placed a from (push ins rest) ∷ S) m))
  takes_here w code from to ins rest out own does =
      subst (λ s. ComesTo image P w from to a S m rest out s) (begins_here from (push ins rest))
      (finish w from to rest (standing from (push ins rest) (variables a S) (m.globals a.instance) m.begun) out
      (works_all (text_of image) number code (work (push ins rest) (variables a S) (m.globals a.instance)))
      (lift own (push ins rest) (variables a S) (m.globals a.instance) m.begun) (does rest))

pub lifted : (image : Image) (P : Coded) (number : ℕ) (vs gs : List ℕ) (code : List Instruction) (ins : List ℕ) (out : Outcome)
    → Does (text_of image) number (scratch P) vs gs code ins out → Takes image P number vs gs code ins out
lifted image P number vs gs code ins out does w from to a S m rest own holds ev eg =
    takes_here image P number a S m holds w code from to ins rest out own
    (subst (λ l. Does (text_of image) number (scratch P) l (m.globals a.instance) code ins out) (sym ev)
    (subst (λ l. Does (text_of image) number (scratch P) vs l code ins out) (sym eg) does))
