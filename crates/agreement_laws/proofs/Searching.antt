-- Which arm of a phrase the machine finds: the first one that the meaning finds.
use Rattle.std.proofs.Common.{◌≡◌, ⊎_elim, ℕ, zero, suc, ◌+◌, ◌<◌, ◌≤◌, ◌≢◌, List, [], ◌∷◌, length, map, Bool, true, false, Option, Some, None, refl, sym, ap, ◌∙◌, subst, arith}
use Rattle.std.specs.Prelude.{All, nat_eq, nat_lt, slice_get, position, option_map, option_and_then, unwrap_or, not, ◌&&◌, ◌||◌, if◌then◌else◌}
use Rattle.std.specs.List.{list_any, position_or_len}
use Rattle.std.proofs.lemmas.Bool.{cases_lt, lt-ltb, le-ltb, eq-eqb, eqb-true, eqb-false, ne_eqb}
use Rattle.std.proofs.lemmas.Option.{none-some, same_Some}
use Rattle.mesa_types.specs.declared.faces.Import.{Import}
use Rattle.mesa_types.specs.declared.faces.Item.{Item}
use Rattle.mesa_types.specs.declared.typed_parts.Label.{Label}
use Rattle.mesa_types.specs.declared.typed_parts.Label.TheVariants.{OnAny, OnUnwind, OnOwn, OnLinked, OnBounds, OnZero}
use Rattle.mesa_types.specs.Typed.{Kinds, Arms, AndArm, Stmt}
use Rattle.mesa_types.specs.Counts.{hidden, hidden_arms}
use Rattle.mesa_types.specs.Links.{imported, IsUsed}
use Rattle.mesa_types.specs.Shapes.{count_in}
use Rattle.mesa_types.specs.Sound.{Scope, UsedItem, IsSignal, NamesSignal, AreLabels, AreGiven, LocalsFrom, ArmsIn, StmtIn, in_arm, scope_of}
use Rattle.code_forms.specs.declared.instruction.Instruction.TheVariants.{ArmEnd}
use Rattle.code_forms.specs.declared.module_code.Arm.{Arm}
use Rattle.code_forms.specs.declared.module_code.CodeLink.{CodeLink}
use Rattle.code_forms.specs.declared.module_code.ModuleCode.{ModuleCode}
use Rattle.object_files.specs.declared.image.Image.{Image}
use Rattle.object_files.specs.declared.image.Link.{Link}
use Rattle.signaller.specs.Search as search
use Rattle.signaller.specs.Search.{linked, is_meant, label_fits}
use Rattle.source_meaning.specs.Program.{Signal, SignalOf, BoundsFault, ZeroDivisor, NoInput, Unnamed, module_of, linked_signal}
use Rattle.source_meaning.specs.Signals as source
use Rattle.source_meaning.specs.Signals.{same_signal, is_for, is_unwind, some_label, NoArm, TheArm, arm_in}
use Rattle.source_meaning.specs.State.{ProcedureId}
use Rattle.machine_rules.specs.LookUps.{code_of, link_of, bound_to, signal_bound, signals_bound, links_in, links_of}
use Rattle.code_rules.specs.CodeFor.{StmtCode, ArmsCode, no_arms, and_arm, arm_from}
use Rattle.code_rules.specs.Links.{link_number, label_code}
use Rattle.code_rules.specs.Reading.{Coded, Place, Own, beyond}
use Rattle.agreement_rules.specs.Agreement.{id_of}
use Rattle.agreement_laws.specs.World.{World, Ready, CodeOf, ScopeIn}
use Rattle.agreement_laws.proofs.Codes.{imports_are}
use Rattle.agreement_laws.proofs.Linked.{SignalLinked, signal_linked}

-- Signals are compared alike.

eq_swap : (n m : ℕ) → nat_eq n m ≡ nat_eq m n
eq_swap n m = by (nat_eq n m) refl
  where
    by : (b : Bool) → nat_eq n m ≡ b → nat_eq n m ≡ nat_eq m n
    by true e = e ∙ sym (eq-eqb m n (sym (eqb-true n m e)))
    by false e = e ∙ sym (ne_eqb m n (λ d. eqb-false n m e (sym d)))

pub same_ids : (x y : Signal) → same_signal x y ≡ search.same_signal (id_of y) (id_of x)
unfolding same_signal id_of
same_ids (SignalOf a b) (SignalOf c d) = ap (λ e. e && nat_eq b d) (eq_swap a c) ∙ ap (λ e. nat_eq c a && e) (eq_swap b d)
same_ids (SignalOf a b) BoundsFault = refl
same_ids (SignalOf a b) ZeroDivisor = refl
same_ids (SignalOf a b) NoInput = refl
same_ids (SignalOf a b) Unnamed = refl
same_ids BoundsFault (SignalOf c d) = refl
same_ids BoundsFault BoundsFault = refl
same_ids BoundsFault ZeroDivisor = refl
same_ids BoundsFault NoInput = refl
same_ids BoundsFault Unnamed = refl
same_ids ZeroDivisor (SignalOf c d) = refl
same_ids ZeroDivisor BoundsFault = refl
same_ids ZeroDivisor ZeroDivisor = refl
same_ids ZeroDivisor NoInput = refl
same_ids ZeroDivisor Unnamed = refl
same_ids NoInput (SignalOf c d) = refl
same_ids NoInput BoundsFault = refl
same_ids NoInput ZeroDivisor = refl
same_ids NoInput NoInput = refl
same_ids NoInput Unnamed = refl
same_ids Unnamed (SignalOf c d) = refl
same_ids Unnamed BoundsFault = refl
same_ids Unnamed ZeroDivisor = refl
same_ids Unnamed NoInput = refl
same_ids Unnamed Unnamed = refl

-- What a label's link means.

bound_at : (ls : List CodeLink) (table : List Link) (k : ℕ) (c : CodeLink) (b : Link) → slice_get ls k ≡ Some c → slice_get table k ≡ Some b
    → slice_get (signals_bound ls table) k ≡ Some (signal_bound c.kind b)
unfolding signals_bound
bound_at [] table k c b is there = absurd (none-some c is)
bound_at (x ∷ ls) [] k c b is there = absurd (none-some b there)
bound_at (x ∷ ls) (y ∷ table) zero c b is there =
    ap (λ (z : CodeLink). Some (signal_bound z.kind y)) (same_Some x c is) ∙ ap (λ z. Some (signal_bound c.kind z)) (same_Some y b there)
bound_at (x ∷ ls) (y ∷ table) (suc k) c b is there = bound_at ls table k c b is there

signals_by : (o : Option ModuleCode) (t : Option (List Link)) (k : ℕ) (c : CodeLink) (b : Link)
    → option_and_then (λ (m : ModuleCode). slice_get m.links k) o ≡ Some c
    → option_and_then (λ (table : List Link). slice_get table k) t ≡ Some b
    → slice_get (signals_bound (links_in o) (unwrap_or t [])) k ≡ Some (signal_bound c.kind b)
unfolding links_in
signals_by None t k c b is there = absurd (none-some c is)
signals_by (Some m) None k c b is there = absurd (none-some b there)
signals_by (Some m) (Some table) k c b is there = bound_at m.links table k c b is there

signals_at : (image : Image) (j k : ℕ) (c : CodeLink) (b : Link) → link_of image j k ≡ Some c → bound_to image j k ≡ Some b
    → slice_get (links_of image j).signals k ≡ Some (signal_bound c.kind b)
unfolding links_of link_of bound_to
signals_at image j k c b is there = signals_by (code_of image j) (slice_get image.links j) k c b is there

-- Labels.

module _ (W : World) (ready : Ready W) (p : ProcedureId) (C : Coded) (c : CodeOf W p C) (Γ : Scope) (scope : ScopeIn W p Γ) where
  -- a used signal or error of the scope is one of the module
  pub used_linked : (k n : ℕ) (i : Item) → UsedItem Γ k n i → IsSignal i → SignalLinked W p.instance k n i
  unfolding UsedItem imported scope_of
  used_linked k n i used s =
      signal_linked W ready p.instance c.instance c.is_instance k n i
      (subst (λ imports. imported imports k n ≡ Some i) scope.imports used.0) (subst (λ imports. IsUsed imports k n) scope.imports used.1) s

  pub link_here : (k n : ℕ) → link_number C.imports k n ≡ link_number (module_of W.program p.instance).imports k n
  link_here k n = ap (λ imports. link_number imports k n) (sym (imports_are W p C c))

  module _ (signal : Signal) where
    abbrev Agrees : Label → Type 0
    Agrees label = is_for W.program p.instance signal label ≡ label_fits (links_of W.image p.instance) (id_of signal) (label_code C.imports label)

    linked_agrees : (k n : ℕ) (i : Item) → UsedItem Γ k n i → IsSignal i → Agrees (OnLinked k n)
    unfolding is_for
    linked_agrees k n i used s =
        let x = used_linked k n i used s in
        same_ids signal (linked_signal W.program p.instance k n)
        ∙ ap (λ o. is_meant o (id_of signal)) (sym (
        ap (λ z. linked (slice_get (links_of W.image p.instance).signals z)) (link_here k n)
        ∙ ap linked (signals_at W.image p.instance _ _ x.bound x.link x.is_bound) ∙ x.signal))

    names_agree : (label : Label) → NamesSignal Γ label → Agrees label
    unfolding NamesSignal is_for links_of id_of
    names_agree OnAny h = absurd h
    names_agree OnUnwind h = absurd h
    names_agree (OnOwn n) h = same_ids signal (SignalOf p.instance n)
    names_agree (OnLinked k n) h = linked_agrees k n h.0 h.1 h.2
    names_agree OnBounds h = same_ids signal BoundsFault
    names_agree OnZero h = same_ids signal ZeroDivisor

    any_agrees : Agrees OnAny
    unfolding is_for
    any_agrees = refl

    unwind_agrees : Agrees OnUnwind
    unfolding is_for
    unwind_agrees = refl

    all_agree : (ls : List Label) → All (NamesSignal Γ) ls
        → some_label (is_for W.program p.instance signal) ls ≡ list_any (label_fits (links_of W.image p.instance) (id_of signal)) (map (label_code C.imports) ls)
    unfolding some_label
    all_agree [] all = refl
    all_agree (label ∷ ls) all =
        ap (λ b. b || some_label (is_for W.program p.instance signal) ls) (names_agree label (all 0 label (omega arith)))
        ∙ ap (λ b. label_fits (links_of W.image p.instance) (id_of signal) (label_code C.imports label) || b)
        (all_agree ls (λ k d lt. all (suc k) d (omega (arith, lt))))

    one_agrees : (label : Label) → Agrees label
        → some_label (is_for W.program p.instance signal) (label ∷ []) ≡ list_any (label_fits (links_of W.image p.instance) (id_of signal))
        (label_code C.imports label ∷ [])
    unfolding some_label
    one_agrees label e = ap (λ b. b || false) e

    pub labels_agree : (ls : List Label) → AreLabels Γ ls
        → some_label (is_for W.program p.instance signal) ls ≡ list_any (label_fits (links_of W.image p.instance) (id_of signal)) (map (label_code C.imports) ls)
    unfolding AreLabels
    labels_agree ls h = ⊎_elim
        (λ (e : ls ≡ OnAny ∷ []). subst (λ ls. some_label (is_for W.program p.instance signal) ls ≡ list_any
        (label_fits (links_of W.image p.instance) (id_of signal)) (map (label_code C.imports) ls)) (sym e)
        (one_agrees OnAny any_agrees))
        (λ h. ⊎_elim
        (λ (e : ls ≡ OnUnwind ∷ []). subst (λ ls. some_label (is_for W.program p.instance signal) ls ≡ list_any
        (label_fits (links_of W.image p.instance) (id_of signal)) (map (label_code C.imports) ls)) (sym e)
        (one_agrees OnUnwind unwind_agrees))
        (λ (x : (ls ≢ []) × All (NamesSignal Γ) ls). all_agree ls x.1) h) h

-- UNWIND

unwind_code : (imports : List Import) (label : Label) → is_unwind label ≡ search.is_unwind (label_code imports label)
unfolding is_unwind
unwind_code imports OnAny = refl
unwind_code imports OnUnwind = refl
unwind_code imports (OnOwn n) = refl
unwind_code imports (OnLinked k n) = refl
unwind_code imports OnBounds = refl
unwind_code imports OnZero = refl

pub unwinds_agree : (imports : List Import) (ls : List Label)
    → some_label is_unwind ls ≡ list_any search.is_unwind (map (label_code imports) ls)
unfolding some_label
unwinds_agree imports [] = refl
unwinds_agree imports (label ∷ ls) =
    ap (λ b. b || some_label is_unwind ls) (unwind_code imports label)
    ∙ ap (λ b. search.is_unwind (label_code imports label) || b) (unwinds_agree imports ls)

-- The first that passes a test.

position_here : (test : Arm → Bool) (a : Arm) (arms : List Arm) → test a ≡ true → position test (a ∷ arms) ≡ Some 0
position_here test a arms e =
    let n = position_or_len test arms in
    ap (λ b. let k = if not b then 1 + n else 0 in if nat_lt k (suc (length arms)) then Some k else None) e
    ∙ ap (λ b. if b then Some 0 else None) (lt-ltb 0 (suc (length arms)) (omega arith))

next_by : (k n : ℕ) → (if nat_lt (1 + k) (suc n) then Some (1 + k) else None) ≡ option_map (λ j. suc j) (if nat_lt k n then Some k else None)
next_by k n =
    let s : 1 + k ≡ suc k = omega arith in
    ap (λ j. if nat_lt j (suc n) then Some j else None) s
    ∙ ⊎_elim
    (λ (lt : k < n). ap (λ b. if b then Some (suc k) else None) (lt-ltb (suc k) (suc n) (omega (arith, lt)))
    ∙ sym (ap (λ b. option_map (λ (j : ℕ). suc j) (if b then Some k else None)) (lt-ltb k n lt)))
    (λ (le : n ≤ k). ap (λ b. if b then Some (suc k) else None) (le-ltb (suc k) (suc n) (omega (arith, le)))
    ∙ sym (ap (λ b. option_map (λ (j : ℕ). suc j) (if b then Some k else None)) (le-ltb k n le)))
    (cases_lt k n)

position_next : (test : Arm → Bool) (a : Arm) (arms : List Arm) → test a ≡ false → position test (a ∷ arms) ≡ option_map (λ j. suc j) (position test arms)
position_next test a arms e =
    let n = position_or_len test arms in
    ap (λ b. let k = if not b then 1 + n else 0 in if nat_lt k (suc (length arms)) then Some k else None) e ∙ next_by n (length arms)

-- an arm of a phrase: its place among the arms, its code, and that it is sound
pub record FirstArm (P : Coded) (w : Place) (Γ : Scope) (n : ℕ) (all : ℕ) (fits : Label → Bool) (test : Arm → Bool) (first count : ℕ) (s : Stmt)
    (regions : List Arm) : Type 0 where
  pub labels : List Label
  pub fit : some_label fits labels ≡ true
  pub number : ℕ
  pub found : position test regions ≡ Some number
  pub start : ℕ
  pub finish : ℕ
  pub end : ℕ
  pub is_region : slice_get regions number ≡ Some (arm_from P labels first count start end)
  pub slot : ℕ
  pub low : w.slot ≤ slot
  pub high : slot + hidden s ≤ w.slot + all
  pub code : StmtCode P (record w { slot = slot }) s start finish
  pub ends : Own P (record w { slot = slot }) (ArmEnd ∷ []) finish end
  pub are_labels : AreLabels Γ labels
  pub kinds : Kinds
  pub as_many : count ≡ count_in kinds
  pub locals : LocalsFrom Γ first kinds
  pub given : AreGiven Γ labels first kinds
  pub sound : StmtIn (in_arm n labels Γ) s

abbrev pub IsFirst : Coded → Place → Scope → (n all : ℕ) → (Label → Bool) → (Arm → Bool) → List Arm → source.Arm → Type 0
IsFirst P w Γ n all fits test regions NoArm = position test regions ≡ None
IsFirst P w Γ n all fits test regions (TheArm first count s) = FirstArm P w Γ n all fits test first count s regions

module _ (P : Coded) (Γ : Scope) (n : ℕ) (fits : Label → Bool) (test : Arm → Bool)
    (agree : (ls : List Label) → AreLabels Γ ls → (first count a b : ℕ) → some_label fits ls ≡ test (arm_from P ls first count a b)) where
  -- behind one that does not fit
  further : (w : Place) (more all : ℕ) (region : Arm) (regions : List Arm) (x : source.Arm) → test region ≡ false
      → IsFirst P (beyond more w) Γ n all fits test regions x → IsFirst P w Γ n (more + all) fits test (region ∷ regions) x
  further w more all region regions NoArm e h = position_next test region regions e ∙ ap (λ o. option_map (λ (j : ℕ). suc j) o) h
  further w more all region regions (TheArm first count s) e h = record {
    labels = h.labels;
    fit = h.fit;
    number = suc h.number;
    found = position_next test region regions e ∙ ap (λ o. option_map (λ (j : ℕ). suc j) o) h.found;
    start = h.start;
    finish = h.finish;
    end = h.end;
    is_region = h.is_region;
    slot = h.slot;
    low = (let le = h.low in omega (arith, le));
    high = (let le = h.high in omega (arith, le));
    code = h.code;
    ends = h.ends;
    are_labels = h.are_labels;
    kinds = h.kinds;
    as_many = h.as_many;
    locals = h.locals;
    given = h.given;
    sound = h.sound;
  }

  first_by : (w : Place) (ls : List Label) (first count : ℕ) (s : Stmt) (arms : Arms) (regions : List Arm) (a c b : ℕ) (t : Bool) → some_label fits ls ≡ t
      → StmtCode P w s a c → Own P w (ArmEnd ∷ []) c b → ArmsIn Γ n (AndArm ls first count s arms)
      → (ArmsIn Γ n arms → IsFirst P (beyond (hidden s) w) Γ n (hidden_arms arms) fits test regions (arm_in fits arms))
      → IsFirst P w Γ n (hidden s + hidden_arms arms) fits test (arm_from P ls first count a b ∷ regions) (if t then TheArm first count s else arm_in fits arms)
  unfolding ArmsIn
  first_by w ls first count s arms regions a c b true e code ends sound rest = record {
    labels = ls;
    fit = e;
    number = 0;
    found = position_here test (arm_from P ls first count a b) regions (sym (agree ls sound.0 first count a b) ∙ e);
    start = a;
    finish = c;
    end = b;
    is_region = refl;
    slot = w.slot;
    low = omega arith;
    high = omega arith;
    code = code;
    ends = ends;
    are_labels = sound.0;
    kinds = sound.1;
    as_many = sound.2;
    locals = sound.3;
    given = sound.4;
    sound = sound.5;
  }
  first_by w ls first count s arms regions a c b false e code ends sound rest =
      further w (hidden s) (hidden_arms arms) (arm_from P ls first count a b) regions (arm_in fits arms) (sym (agree ls sound.0 first count a b) ∙ e)
      (rest sound.6)

  pub first_is : {w : Place} {arms : Arms} {regions : List Arm} → ArmsCode P w arms regions → ArmsIn Γ n arms
      → IsFirst P w Γ n (hidden_arms arms) fits test regions (arm_in fits arms)
  unfolding arm_in hidden_arms
  first_is no_arms sound = refl
  first_is {w = w} (and_arm {labels = ls} {first = first} {count = count} {s = s} {arms = arms} {regions = regions} a c b code ends more) sound =
      first_by w ls first count s arms regions a c b (some_label fits ls) refl code ends sound (λ rest. first_is more rest)
