-- The rows of the graph of a procedure.
use Rattle.std.proofs.Common.{◌≡◌, ◌⊎◌, inl, inr, ⊎_elim, ℕ, zero, suc, ◌+◌, ◌-◌, ◌^◌, ◌<◌, ◌≤◌, List, [], ◌∷◌, ◌++◌, length, get_or, Bool, true, false, Option, Some, None, refl, sym, ap, subst, ◌∙◌, arith, length-append}
use Rattle.std.specs.Prelude.{Contains, slice_get, option_map, if◌then◌else◌}
use Rattle.std.proofs.lemmas.List.{get_or_append_left}
use Rattle.std.proofs.lemmas.List.Elements.{Contains-append_left, Contains-append_right, Contains-append_cases}
use Rattle.std.proofs.lemmas.Option.{none-some, same_Some, slice_get_within, slice_get-get_or, get_or_from_slice_get}
use Rattle.std.proofs.Math.Seq.{get_or-append-add}
use Rattle.code_forms.specs.declared.instruction.Instruction.{Instruction}
use Rattle.code_forms.specs.declared.instruction.Instruction.TheVariants.{Jump, JumpIf, JumpIfNot, JumpBack, Leave}
use Rattle.code_forms.specs.declared.module_code.Arm.{Arm}
use Rattle.code_forms.specs.declared.module_code.CodeEntry.{CodeEntry}
use Rattle.code_forms.specs.declared.module_code.CodeProcedure.{CodeProcedure}
use Rattle.code_forms.specs.declared.module_code.ModuleCode.{ModuleCode}
use Rattle.code_forms.specs.declared.module_code.Phrase.{Phrase}
use Rattle.code_forms.specs.Ranges.{InOrder}
use Rattle.code_forms.specs.Routine.{routine, goes_on}
use Rattle.code_forms.proofs.Ordered.{blank, at_less, some_bytes}
use Rattle.code_forms.proofs.PhraseOrder.{no_arm}
use Rattle.survey_rules.specs.Escapes.{position_of, position_beyond}
use Rattle.survey_rules.specs.Reached.{LeadsTo}
use Rattle.survey_code.specs.Around.{AreBeyond}
use Rattle.survey_code.specs.Leads.{BeginBefore, phrase_node, EntryLeads, ahead, jumps, inside, PhraseLeads, in_arm, outward, Lists, IsGraphOf, goal_of, IsGoal, listed, AreStarts, AreEntryRows, ArePhraseRows}
use Rattle.survey_code.specs.Passings.{EachWith}
use Rattle.survey_code.proofs.Leading.{begin_once}
use Rattle.survey_code.proofs.Passings.{one_more}

-- There are few instructions.

rises : (code : List CodeEntry) → InOrder code → (k : ℕ) → k < length code → k ≤ (get_or code k blank).at
rises code o zero l = omega arith
rises code o (suc k) l =
    let before = rises code o k (omega (arith, l)) in
    let less = at_less code k (suc k) blank o (omega arith) l in
    omega (arith, before, less)

pub few : (code : List CodeEntry) → InOrder code → length code < 2 ^ 32
few code o =
    let some = o.some in
    let last = rises code o (length code - 1) (omega (arith, some)) in
    let short = o.short (length code - 1) blank (omega (arith, some)) in
    let bytes = some_bytes (get_or code (length code - 1) blank).instruction in
    omega (arith, some, last, short, bytes)

-- What is put to a row.

in_listed : {A : Type 0} (o : Option A) (x : A) → Contains (listed o) x → o ≡ Some x
in_listed None x c = absurd (let l = c.1 in omega (arith, l))
in_listed (Some y) x (zero, l, e) = ap Some e
in_listed (Some y) x (suc k, l, e) = absurd (omega (arith, l))

listed_in : {A : Type 0} (o : Option A) (x : A) → o ≡ Some x → Contains (listed o) x
listed_in None x e = absurd (none-some x e)
listed_in (Some y) x e = (0, omega arith, same_Some y x e)

pub in_more : {A : Type 0} (row row' : List A) (o : Option A) (x : A) → row' ≡ row ++ listed o → Contains row' x → Contains row x ⊎ (o ≡ Some x)
in_more row row' o x e c = ⊎_elim
    (λ (h : Contains row x). inl h)
    (λ (h : Contains (listed o) x). inr (in_listed o x h))
    (Contains-append_cases row (listed o) x (subst (λ r. Contains r x) e c))

pub more_left : {A : Type 0} (row row' : List A) (o : Option A) (x : A) → row' ≡ row ++ listed o → Contains row x → Contains row' x
more_left row row' o x e c = subst (λ r. Contains r x) (sym e) (Contains-append_left row (listed o) x c)

pub more_right : {A : Type 0} (row row' : List A) (o : Option A) (x : A) → row' ≡ row ++ listed o → o ≡ Some x → Contains row' x
more_right row row' o x e is = subst (λ r. Contains r x) (sym e) (Contains-append_right row (listed o) x (listed_in o x is))

-- The row of an instruction.

ahead_tells : (b : Bool) (y next : ℕ) → (if b then Some y else None) ≡ Some next → (b ≡ true) × (y ≡ next)
ahead_tells true y next e = (refl, same_Some y next e)
ahead_tells false y next e = absurd (none-some next e)

node_tells : (count : ℕ) (o : Option ℕ) (next : ℕ) → option_map (λ n. count + n) o ≡ Some next → (n : ℕ) × (o ≡ Some n) × (count + n ≡ next)
node_tells count None next e = absurd (none-some next e)
node_tells count (Some n) next e = (n, refl, same_Some (count + n) next e)

goal_tells : (code : List CodeEntry) (o found : Option ℕ) (next : ℕ) → IsGoal code o found → found ≡ Some next → (target : ℕ) × (o ≡ Some target) × BeginBefore code target next
goal_tells code None found next g e = absurd (none-some next (sym g ∙ e))
goal_tells code (Some target) found next g e = (target, refl, subst (λ x. BeginBefore code target x) (same_Some g.0 next (sym g.1 ∙ e)) g.2)

goal_there : (code : List CodeEntry) (o found : Option ℕ) (target number : ℕ) → IsGoal code o found → o ≡ Some target → BeginBefore code target number → found ≡ Some number
goal_there code None found target number g e b = absurd (none-some target e)
goal_there code (Some t) found target number g e b =
    g.1 ∙ ap Some (begin_once code target g.0 number (subst (λ x. BeginBefore code x g.0) (same_Some t target e) g.2) b)

goal_leads : (i : Instruction) (target : ℕ) → goal_of i ≡ Some target → LeadsTo i target
goal_leads (Jump goal) target e = same_Some goal target e
goal_leads (JumpIf goal) target e = same_Some goal target e
goal_leads (JumpIfNot goal) target e = same_Some goal target e
goal_leads (JumpBack goal) target e = same_Some goal target e
goal_leads (Leave arms goal) target e = same_Some goal target e
goal_leads _ target e = absurd (none-some target e)

leads_goal : (i : Instruction) (target : ℕ) → LeadsTo i target → goal_of i ≡ Some target
leads_goal (Jump goal) target e = ap Some e
leads_goal (JumpIf goal) target e = ap Some e
leads_goal (JumpIfNot goal) target e = ap Some e
leads_goal (JumpBack goal) target e = ap Some e
leads_goal (Leave arms goal) target e = ap Some e
leads_goal _ target e = absurd e

module _ (m : ModuleCode) (p : CodeProcedure) (k at : ℕ) (i : Instruction) (row0 row1 row2 row3 : List ℕ) (a b c : Option ℕ) where
  pub entry_lists : row0 ≡ [] → row1 ≡ row0 ++ listed a → row2 ≡ row1 ++ listed b → row3 ≡ row2 ++ listed c
      → a ≡ (if goes_on (routine m p) i then Some (k + 1) else None) → IsGoal p.code (goal_of i) b → c ≡ option_map (λ n. length p.code + n) (position_of p at)
      → Lists (EntryLeads m p k at i) row3
  entry_lists none e1 e2 e3 is_a is_b is_c = record {
    only = λ next there. ⊎_elim
        (λ (h : Contains row2 next). ⊎_elim
        (λ (h : Contains row1 next). ⊎_elim
        (λ (h : Contains row0 next). absurd (let l = h.1 in let z = ap length none in omega (arith, l, z)))
        (λ (h : a ≡ Some next). let t = ahead_tells (goes_on (routine m p) i) (k + 1) next (sym is_a ∙ h) in subst (λ x. EntryLeads m p k at i x) t.1 (ahead t.0))
        (in_more row0 row1 a next e1 h))
        (λ (h : b ≡ Some next). let t = goal_tells p.code (goal_of i) b next is_b h in jumps t.0 next (goal_leads i t.0 t.1) t.2)
        (in_more row1 row2 b next e2 h))
        (λ (h : c ≡ Some next). let t = node_tells (length p.code) (position_of p at) next (sym is_c ∙ h) in subst (λ x. EntryLeads m p k at i x) t.2 (inside t.0 t.1))
        (in_more row2 row3 c next e3 there);
    all = all;
  }
    where
      all : (next : ℕ) → EntryLeads m p k at i next → Contains row3 next
      all _ (ahead goes) =
          more_left row2 row3 c (k + 1) e3 (more_left row1 row2 b (k + 1) e2 (more_right row0 row1 a (k + 1) e1
          (is_a ∙ ap (λ (x : Bool). if x then Some (k + 1) else None) goes)))
      all number (jumps target _ leads begins) =
          more_left row2 row3 c number e3 (more_right row1 row2 b number e2 (goal_there p.code (goal_of i) b target number is_b (leads_goal i target leads) begins))
      all _ (inside n e) = more_right row2 row3 c (phrase_node p n) e3 (is_c ∙ ap (option_map (λ n. length p.code + n)) e)

-- The row of a phrase.

pub phrase_lists : (p : CodeProcedure) (arms : List Arm) (row row' : List ℕ) (beyond node : Option ℕ) → AreStarts p.code arms row → row' ≡ row ++ listed node
    → node ≡ option_map (λ n. length p.code + n) beyond → (n : ℕ) → beyond ≡ position_beyond p n → Lists (PhraseLeads p n arms) row'
phrase_lists p arms row row' beyond node starts e is n at = record {
  only = λ next there. ⊎_elim
      (λ (h : Contains row next).
      let l : h.0 < length arms = (let x = h.1 in let s = starts.0 in omega (arith, x, s)) in
      let arm = get_or arms h.0 no_arm in
      let arm_is = slice_get-get_or arms h.0 no_arm l in
      in_arm h.0 next arm arm_is (starts.1 h.0 arm next arm_is (slice_get-get_or row h.0 next h.1 ∙ ap Some h.2)))
      (λ (h : node ≡ Some next). let t = node_tells (length p.code) beyond next (sym is ∙ h) in subst (λ x. PhraseLeads p n arms x) t.2 (outward t.0 (sym at ∙ t.1)))
      (in_more row row' node next e there);
  all = all;
}
  where
    all : (next : ℕ) → PhraseLeads p n arms next → Contains row' next
    all number (in_arm k _ arm arm_is begins) =
        let l : k < length row = (let x = slice_get_within arms k arm arm_is in let s = starts.0 in omega (arith, x, s)) in
        let same = begin_once p.code arm.start (get_or row k 0) number (starts.1 k arm (get_or row k 0) arm_is (slice_get-get_or row k 0 l)) begins in
        more_left row row' node number e (k, l, get_or_default row k number l ∙ same)
      where
        get_or_default : (xs : List ℕ) (k x : ℕ) → k < length xs → get_or xs k x ≡ get_or xs k 0
        get_or_default xs k x l = get_or_from_slice_get xs k (get_or xs k 0) x (slice_get-get_or xs k 0 l)
    all _ (outward q e') = more_right row row' node (phrase_node p q) e (is ∙ ap (option_map (λ n. length p.code + n)) (at ∙ e'))

-- All of them.

left_there : {A : Type 0} (xs ys : List A) (k : ℕ) (x : A) → slice_get (xs ++ ys) k ≡ Some x → k < length xs → slice_get xs k ≡ Some x
left_there xs ys k x e l = slice_get-get_or xs k x l ∙ ap Some (sym (get_or_append_left xs ys x k l) ∙ get_or_from_slice_get (xs ++ ys) k x x e)

right_there : {A : Type 0} (xs ys : List A) (k : ℕ) (x : A) → slice_get (xs ++ ys) (length xs + k) ≡ Some x → slice_get ys k ≡ Some x
right_there xs ys k x e =
    let l = slice_get_within (xs ++ ys) (length xs + k) x e in
    let s = length-append xs ys in
    slice_get-get_or ys k x (omega (arith, l, s)) ∙ ap Some (sym (get_or-append-add xs ys k x) ∙ get_or_from_slice_get (xs ++ ys) (length xs + k) x x e)

pub all_rows : (m : ModuleCode) (p : CodeProcedure) (entries phrases graph : List (List ℕ)) → AreEntryRows m p entries → ArePhraseRows p phrases → graph ≡ entries ++ phrases
    → IsGraphOf m p graph
all_rows m p entries phrases graph es ps e =
    let read : (k : ℕ) (row : List ℕ) → slice_get graph k ≡ Some row → slice_get (entries ++ phrases) k ≡ Some row = λ k row is. ap (λ (g : List (List ℕ)). slice_get g k) (sym e) ∙ is in
    record {
      count = let l = ap length e ∙ length-append entries phrases in let x = es.0 in let y = ps.0 in omega (arith, l, x, y);
      entries = λ k entry row is there. es.1 k entry row is
          (left_there entries phrases k row (read k row there) (let l = slice_get_within p.code k entry is in let x = es.0 in omega (arith, l, x)));
      phrases = λ n phrase row is there. ps.1 n phrase row is
          (right_there entries phrases n row (ap (λ x. slice_get (entries ++ phrases) (x + n)) es.0 ∙ read (length p.code + n) row there));
    }

-- One row more.

pub entry_step : (m : ModuleCode) (p : CodeProcedure) (entries : List CodeEntry) (rows rows' : List (List ℕ)) (row : List ℕ) (n : ℕ) (d : CodeEntry)
    → entries ≡ p.code → length rows ≡ n → n < length entries → EachWith (λ k e row. Lists (EntryLeads m p k e.at e.instruction) row) p.code rows
    → Lists (EntryLeads m p n (get_or entries n d).at (get_or entries n d).instruction) row → rows' ≡ rows ++ row ∷ []
    → (length rows' ≡ n + 1) × EachWith (λ k e row. Lists (EntryLeads m p k e.at e.instruction) row) p.code rows'
entry_step m p entries rows rows' row n d same long l all here more =
    let count = ap length more ∙ length-append rows (row ∷ []) in (
      omega (arith, long, count),
      one_more (λ k e row. Lists (EntryLeads m p k e.at e.instruction) row) p.code rows rows' (get_or entries n d) row n long
          (ap (λ (xs : List CodeEntry). slice_get xs n) (sym same) ∙ slice_get-get_or entries n d l) all here more,
    )

pub phrase_step : (p : CodeProcedure) (table : List Phrase) (arms : List Arm) (beyonds : List (Option ℕ)) (rows rows' : List (List ℕ)) (row : List ℕ) (n : ℕ) (d : Phrase)
    → table ≡ p.phrases → arms ≡ (get_or table n d).arms → length rows ≡ n → n < length p.phrases → length beyonds ≡ length p.phrases → AreBeyond p.phrases beyonds
    → EachWith (λ n phrase row. Lists (PhraseLeads p n phrase.arms) row) p.phrases rows
    → ((k : ℕ) → get_or beyonds n None ≡ position_beyond p k → Lists (PhraseLeads p k arms) row) → rows' ≡ rows ++ row ∷ []
    → (length rows' ≡ n + 1) × EachWith (λ n phrase row. Lists (PhraseLeads p n phrase.arms) row) p.phrases rows'
phrase_step p table arms beyonds rows rows' row n d same its long l many are all here more =
    let count = ap length more ∙ length-append rows (row ∷ []) in (
      omega (arith, long, count),
      one_more (λ n phrase row. Lists (PhraseLeads p n phrase.arms) row) p.phrases rows rows' (get_or table n d) row n long
          (ap (λ (xs : List Phrase). slice_get xs n) (sym same) ∙ slice_get-get_or table n d (let e = ap length same in omega (arith, l, e))) all
          (subst (λ xs. Lists (PhraseLeads p n xs) row) its (here n (are n (omega (arith, l, many))))) more,
    )
