-- In the graph of a procedure exactly the reached instructions are reached.
use Rattle.std.proofs.Common.{◌≡◌, ⊎_elim, ℕ, zero, suc, ◌+◌, ◌-◌, ◌<◌, ◌≤◌, List, [], ◌∷◌, ◌++◌, length, get_or, Bool, true, false, Option, Some, None, refl, sym, ap, subst, ◌∙◌, arith}
use Rattle.std.specs.Prelude.{Contains, slice_get, if◌then◌else◌, ◌&&◌}
use Rattle.std.specs.List.{list_any}
use Rattle.std.proofs.lemmas.Bool.{cases_lt, cases_eq}
use Rattle.std.proofs.lemmas.List.{append_assoc}
use Rattle.std.proofs.lemmas.Option.{none-some, same_Some, slice_get_within, slice_get-get_or, get_or_from_slice_get}
use Rattle.code_forms.specs.declared.instruction.Instruction.{Instruction}
use Rattle.code_forms.specs.declared.instruction.Instruction.TheVariants.{Jump, JumpIf, JumpIfNot, JumpBack, Leave}
use Rattle.code_forms.specs.declared.module_code.Arm.{Arm}
use Rattle.code_forms.specs.declared.module_code.CodeEntry.{CodeEntry}
use Rattle.code_forms.specs.declared.module_code.CodeProcedure.{CodeProcedure}
use Rattle.code_forms.specs.declared.module_code.ModuleCode.{ModuleCode}
use Rattle.code_forms.specs.declared.module_code.Phrase.{Phrase}
use Rattle.code_forms.specs.Instructions.{bytes_of}
use Rattle.code_forms.specs.Ranges.{InOrder}
use Rattle.code_forms.specs.Jumps.{JumpsRightly}
use Rattle.code_forms.specs.Routine.{Routine, Begins, IsStart, routine, spots, goes_on}
use Rattle.code_forms.proofs.Leading.{begins_there}
use Rattle.code_forms.proofs.Ordered.{blank, at_less, begins_once, spots_length}
use Rattle.object_files.specs.declared.image.Image.{Image}
use Rattle.signaller.specs.Search.{covers, covers_in, has, first_of, from_of, enabled_before, around_at, around, beyond}
use Rattle.signaller.specs.Laws.{outer}
use Rattle.signaller.proofs.Enabled.{enabled_more}
use Rattle.signaller.proofs.Surrounding.{asks_enabled, leaves_the_rest}
use Rattle.code_forms.specs.Regions.{region_at}
use Rattle.machine_rules.proofs.Holding.{arm_filled}
use Rattle.machine_rules.proofs.Located.{World, Has, start_below, start_there, stands_at}
use Rattle.machine_rules.proofs.OneResult.{found}
use Rattle.survey_rules.specs.Escapes.{IsCode}
use Rattle.survey_rules.specs.Reached.{LeadsTo, Reached, in_arm, jumped}
use Rattle.survey_rules.specs.Reached as r
use Rattle.survey_rules.proofs.Codes.{has_code}
use Rattle.survey_rules.proofs.Instructions.{reached_starts}
use Rattle.survey_rules.proofs.Living.{Alive, search_alive, next_alive}
use Rattle.survey_code.specs.Around.{no_phrase}
use Rattle.survey_code.specs.Graphs.{IsGraph, IsReached, first, onward}
use Rattle.survey_code.specs.Leads.{BeginBefore, phrase_node, EntryLeads, PhraseLeads, IsGraphOf}
use Rattle.survey_code.specs.Leads as l
use Rattle.survey_code.proofs.Endings.{instruction_there}

-- Where offsets are among the instructions.

module _ (code : List CodeEntry) (order : InOrder code) where
  pub begin_at : (k : ℕ) (e : CodeEntry) (offset : ℕ) → slice_get code k ≡ Some e → e.at ≡ offset → BeginBefore code offset k
  begin_at k e offset is at =
      let within = slice_get_within code k e is in
      let read : (d : CodeEntry) → (get_or code k d).at ≡ offset = λ d. ap (λ (x : CodeEntry). x.at) (get_or_from_slice_get code k e d is) ∙ at in
      record {
        bound = omega (arith, within);
        before = λ x d low high. let less = at_less code x k d order high within in let s = read d in omega (arith, less, s);
        rest = λ x d low high. ⊎_elim
            (λ (more : k < x). let less = at_less code k x d order more high in let s = read d in omega (arith, less, s))
            (λ (most : x ≤ k). let same : k ≡ x = omega (arith, low, most) in let s = sym (ap (λ i. (get_or code i d).at) same) ∙ read d in omega (arith, s))
            (cases_lt k x);
      }

  same_place : (k k' : ℕ) (e e' : CodeEntry) → slice_get code k ≡ Some e → slice_get code k' ≡ Some e' → e.at ≡ e'.at → k ≡ k'
  same_place k k' e e' is is' at =
      begins_once code k k' e'.at blank order (subst (λ o. Begins (spots code) k o) at (begins_there code k e is)) (begins_there code k' e' is')

pub begin_once : (code : List CodeEntry) (offset a b : ℕ) → BeginBefore code offset a → BeginBefore code offset b → a ≡ b
begin_once code offset a b x y = ⊎_elim
    (λ (less : a < b). let s = y.bound in let u = y.before a blank (omega arith) less in let v = x.rest a blank (omega arith) (omega (arith, less, s)) in absurd (omega (arith, u, v)))
    (λ (most : b ≤ a). ⊎_elim
    (λ (less : b < a). let s = x.bound in let u = x.before b blank (omega arith) less in let v = y.rest b blank (omega arith) (omega (arith, less, s)) in absurd (omega (arith, u, v)))
    (λ (least : a ≤ b). omega (arith, most, least))
    (cases_lt b a))
    (cases_lt a b)

leads_start : (r : Routine) (at target : ℕ) (i : Instruction) → JumpsRightly r at i → LeadsTo i target → IsStart r.code target
leads_start r at target (Jump goal) j e = subst (λ x. IsStart r.code x) e j.start
leads_start r at target (JumpIf goal) j e = subst (λ x. IsStart r.code x) e j.start
leads_start r at target (JumpIfNot goal) j e = subst (λ x. IsStart r.code x) e j.start
leads_start r at target (JumpBack goal) j e = subst (λ x. IsStart r.code x) e j.start
leads_start r at target (Leave arms goal) j e = subst (λ x. IsStart r.code x) e j.start
leads_start r at target _ j e = absurd e

-- Phrases that are asked are among the first so many.

below_if : (c k : ℕ) (xs ys : List ℕ) (b : Bool) → ((k : ℕ) → first_of ys ≡ Some k → k < c) → first_of (if b then c ∷ xs else ys) ≡ Some k → k < suc c
below_if c k xs ys true ih e = let s = same_Some c k e in omega (arith, s)
below_if c k xs ys false ih e = let l = ih k e in omega (arith, l)

below_at : (outward : Bool) (table : List Phrase) (c o : ℕ) (x : Option Phrase) → ((o k : ℕ) → first_of (around outward table c o) ≡ Some k → k < c)
    → (k : ℕ) → first_of (around_at outward c o (around outward table c) x) ≡ Some k → k < suc c
unfolding around_at
below_at outward table c o None ih k e = let l = ih o k e in omega (arith, l)
below_at outward table c o (Some p) ih k e =
    below_if c k (around outward table c p.from) (around outward table c (if outward && list_any (λ a. has a o) p.arms then p.from else o)) (covers p o)
    (ih (if outward && list_any (λ a. has a o) p.arms then p.from else o)) e

first_below : (outward : Bool) (table : List Phrase) (count o k : ℕ) → first_of (around outward table count o) ≡ Some k → k < count
unfolding around
first_below outward table zero o k e = absurd (none-some k e)
first_below outward table (suc c) o k e = below_at outward table c o (slice_get table c) (λ o k e. first_below outward table c o k e) k e

-- An enabled phrase is one of those that are asked.

record Split (numbers : List ℕ) (n : ℕ) : Type 0 where
  before : List ℕ
  after : List ℕ
  parts : numbers ≡ before ++ n ∷ after

split_more : (numbers numbers' : List ℕ) (x n : ℕ) (b : Bool) → numbers' ≡ (if b then x ∷ numbers else numbers) → Split numbers n → Split numbers' n
split_more numbers numbers' x n true e s = record { before = x ∷ s.before; after = s.after; parts = e ∙ ap (λ xs. x ∷ xs) s.parts }
split_more numbers numbers' x n false e s = record { before = s.before; after = s.after; parts = e ∙ s.parts }

split_enabled : (table : List Phrase) (offset n : ℕ) (phrase : Phrase) → slice_get table n ≡ Some phrase → covers phrase offset ≡ true → (count : ℕ) → n < count
    → Split (enabled_before table count offset) n
split_enabled table offset n phrase is c zero within = absurd (omega (arith, within))
split_enabled table offset n phrase is c (suc count) within = ⊎_elim
    (λ (same : n ≡ count).
    let here : covers_in (slice_get table count) offset ≡ true = ap (λ i. covers_in (slice_get table i) offset) (sym same) ∙ ap (λ o. covers_in o offset) is ∙ c in
    record {
      before = [];
      after = enabled_before table count offset;
      parts = enabled_more table count offset ∙ ap (λ (b : Bool). if b then count ∷ enabled_before table count offset else enabled_before table count offset) here
          ∙ ap (λ i. i ∷ enabled_before table count offset) (sym same);
    })
    (λ (other : n ≡ count → ⊥). split_more (enabled_before table count offset) (enabled_before table (suc count) offset) count n (covers_in (slice_get table count) offset)
    (enabled_more table count offset) (split_enabled table offset n phrase is c count (⊎_elim (λ (x : n < count). x) (λ (x : count ≤ n). absurd (other (omega (arith, x, within)))) (cases_lt n count))))
    (cases_eq n count)

module _ (image : Image) (w : World image) (j n : ℕ) (m : ModuleCode) (p : CodeProcedure) (c : IsCode image j n m p) (graph : List (List ℕ)) (g : IsGraphOf m p graph) where
  abbrev h : Has image j p
  h = has_code image w j n m p c

  abbrev order : InOrder p.code
  order = h.order

  -- the next instruction
  next_at : (k : ℕ) (e : CodeEntry) → slice_get p.code k ≡ Some e → goes_on (routine m p) e.instruction ≡ true
      → (f : CodeEntry) × (slice_get p.code (k + 1) ≡ Some f) × (f.at ≡ e.at + bytes_of e.instruction)
  next_at k e is goes =
      let s = stands_at image j p h e.at e.instruction (instruction_there p.code order k e is) in
      let same = same_place p.code order s.found.number k s.found.entry e s.found.is is s.found.begins in
      let stays = (s.stood.stays goes).0 in
      let long = spots_length p.code in
      let len : k + 1 < length p.code = omega (arith, stays, long, same) in
      let joined = order.joined k e len in (
        get_or p.code (k + 1) e,
        slice_get-get_or p.code (k + 1) e len,
        sym joined ∙ ap (λ (x : CodeEntry). x.at + bytes_of x.instruction) (get_or_from_slice_get p.code k e e is),
      )

  -- What is known of a node that is reached.

  pub record Sound (node : ℕ) : Type 0 where
    pub entry : (k : ℕ) (e : CodeEntry) → slice_get p.code k ≡ Some e → node ≡ k → Reached m p e.at
    pub phrase : (q : ℕ) → node ≡ phrase_node p q → Alive m p q
    pub inside : node < length graph

  sound_entry : (k : ℕ) (e : CodeEntry) → slice_get p.code k ≡ Some e → Reached m p e.at → Sound k
  sound_entry k e is reached = let within = slice_get_within p.code k e is in let long = g.count in record {
    entry = λ k' e' is' same. subst (λ (x : CodeEntry). Reached m p x.at) (same_Some e e' (sym is ∙ ap (λ i. slice_get p.code i) same ∙ is')) reached;
    phrase = λ q same. absurd (omega (arith, within, same));
    inside = omega (arith, within, long);
  }

  sound_phrase : (q : ℕ) → Alive m p q → Sound (phrase_node p q)
  sound_phrase q alive = let within = slice_get_within p.phrases q alive.phrase alive.is in let long = g.count in record {
    entry = λ k e is same. absurd (let less = slice_get_within p.code k e is in omega (arith, less, same));
    phrase = λ q' same. subst (λ x. Alive m p x) (omega (arith, same)) alive;
    inside = omega (arith, within, long);
  }

  sound_at : (target number : ℕ) → Reached m p target → BeginBefore p.code target number → Sound number
  sound_at target number reached begins =
      let s = reached_starts image w j n m p c target reached in
      let f = found p.code target s.instruction s.is in
      let same = begin_once p.code target f.number number (begin_at p.code order f.number f.entry target f.is f.begins) begins in
      subst (λ x. Sound x) same (sound_entry f.number f.entry f.is (subst (λ x. Reached m p x) (sym f.begins) reached))

  entry_sound : (k : ℕ) (e : CodeEntry) → slice_get p.code k ≡ Some e → Reached m p e.at → (next : ℕ) → EntryLeads m p k e.at e.instruction next → Sound next
  entry_sound k e is reached _ (l.ahead goes) =
      let f = next_at k e is goes in
      sound_entry (k + 1) f.0 f.1 (subst (λ x. Reached m p x) (sym f.2) (r.onward e.at e.instruction reached (instruction_there p.code order k e is) goes))
  entry_sound k e is reached number (l.jumps target _ leads begins) =
      sound_at target number (jumped e.at target e.instruction reached (instruction_there p.code order k e is) leads) begins
  entry_sound k e is reached _ (l.inside q at) = sound_phrase q (search_alive image w j n m p c true e.at reached q at)

  phrase_sound : (q : ℕ) (phrase : Phrase) → slice_get p.phrases q ≡ Some phrase → Alive m p q → (next : ℕ) → PhraseLeads p q phrase.arms next → Sound next
  phrase_sound q phrase is alive number (l.in_arm a _ arm there begins) =
      let s = reached_starts image w j n m p c alive.at alive.reached in
      let same = same_Some alive.phrase phrase (sym alive.is ∙ is) in
      sound_at arm.start number
      (in_arm alive.at q a s.instruction phrase arm alive.reached s.is is (subst (λ (x : Phrase). covers x alive.at ≡ true) same alive.covered) there) begins
  phrase_sound q phrase is alive _ (l.outward x at) = sound_phrase x (next_alive image w j n m p c true q alive x at)

  leads_sound : (node next : ℕ) (row : List ℕ) → Sound node → slice_get graph node ≡ Some row → Contains row next → Sound next
  leads_sound node next row s is there = ⊎_elim
      (λ (less : node < length p.code).
      let e = get_or p.code node blank in
      let e_is = slice_get-get_or p.code node blank less in
      entry_sound node e e_is (s.entry node e e_is refl) next ((g.entries node e row e_is is).only next there))
      (λ (most : length p.code ≤ node).
      let q = node - length p.code in
      let same : node ≡ phrase_node p q = omega (arith, most) in
      let alive = s.phrase q same in
      phrase_sound q alive.phrase alive.is alive next ((g.phrases q alive.phrase row alive.is (ap (λ x. slice_get graph x) (sym same) ∙ is)).only next there))
      (cases_lt node (length p.code))

  first_sound : Sound 0
  first_sound =
      let e = get_or p.code 0 blank in
      sound_entry 0 e (slice_get-get_or p.code 0 blank order.some) (subst (λ x. Reached m p x) (sym (order.first blank)) r.first)

  pub sound : (node : ℕ) → IsReached graph node → Sound node
  sound _ first = first_sound
  sound next (onward node _ row reached is there) = leads_sound node next row (sound node reached) is there

  -- Each reached offset is reached in the graph.

  from_entry : (k : ℕ) (e : CodeEntry) (next : ℕ) → slice_get p.code k ≡ Some e → IsReached graph k → EntryLeads m p k e.at e.instruction next → IsReached graph next
  from_entry k e next is reached leads =
      let there = slice_get-get_or graph k [] (sound k reached).inside in
      onward k next (get_or graph k []) reached there ((g.entries k e (get_or graph k []) is there).all next leads)

  from_phrase : (q next : ℕ) → IsReached graph (phrase_node p q) → ((arms : List Arm) → ((phrase : Phrase) → slice_get p.phrases q ≡ Some phrase → arms ≡ phrase.arms) → PhraseLeads p q arms next)
      → IsReached graph next
  from_phrase q next reached leads =
      let s = sound (phrase_node p q) reached in
      let alive = s.phrase q refl in
      let there = slice_get-get_or graph (phrase_node p q) [] s.inside in
      onward (phrase_node p q) next (get_or graph (phrase_node p q) []) reached there ((g.phrases q alive.phrase (get_or graph (phrase_node p q) []) alive.is there).all next
      (leads alive.phrase.arms (λ phrase is. ap (λ (x : Phrase). x.arms) (same_Some alive.phrase phrase (sym alive.is ∙ is)))))

  -- from the first of those that are asked to each other
  walk : (numbers : List ℕ) → ((before : List ℕ) (x : ℕ) (after : List ℕ) → numbers ≡ before ++ x ∷ after → after ≡ beyond true p.phrases x)
      → ((x : ℕ) → first_of numbers ≡ Some x → IsReached graph (phrase_node p x)) → (before : List ℕ) (q : ℕ) (after : List ℕ) → numbers ≡ before ++ q ∷ after
      → IsReached graph (phrase_node p q)
  walk numbers rest begun [] q after parts = begun q (ap first_of parts)
  walk numbers rest begun (x ∷ before) q after parts =
      let reached = begun x (ap first_of parts) in
      let tail = before ++ q ∷ after in
      let is : tail ≡ beyond true p.phrases x = rest [] x tail parts in
      walk tail (λ b y a e. rest (x ∷ b) y a (parts ∙ ap (λ ys. x ∷ ys) e))
      (λ y e. from_phrase x (phrase_node p y) reached (λ arms same. l.outward y (ap first_of (sym is) ∙ e))) before q after refl

  -- a phrase in whose range an instruction is reached
  around_entry : (k : ℕ) (e : CodeEntry) (q : ℕ) (phrase : Phrase) → slice_get p.code k ≡ Some e → IsReached graph k → slice_get p.phrases q ≡ Some phrase → covers phrase e.at ≡ true
      → IsReached graph (phrase_node p q)
  around_entry k e q phrase is reached there covered =
      let fill = h.valid.phrases in
      let s = split_enabled p.phrases e.at q phrase there covered (length p.phrases) (slice_get_within p.phrases q phrase there) in
      let below = start_below p.code order e.at (record { number = k; begins = begins_there p.code k e is }) in
      let more = outer true p.phrases (region_at p.phrases e.at) in
      let parts = asks_enabled (spots p.code) p.phrases fill true e.at below ∙ ap (λ xs. xs ++ more) s.parts ∙ append_assoc s.before (q ∷ s.after) more in
      walk (around true p.phrases (length p.phrases) e.at) (λ before x after parts. leaves_the_rest true p.phrases (length p.phrases) e.at x before after parts)
      (λ x first. from_entry k e (phrase_node p x) is reached (l.inside x first)) s.before q (s.after ++ more) parts

  pub complete : (at : ℕ) → Reached m p at → (k : ℕ) (e : CodeEntry) → slice_get p.code k ≡ Some e → e.at ≡ at → IsReached graph k
  complete _ r.first k e is at =
      let same = same_place p.code order 0 k (get_or p.code 0 blank) e (slice_get-get_or p.code 0 blank order.some) is (order.first blank ∙ sym at) in
      subst (λ x. IsReached graph x) same first
  complete _ (r.onward offset i before there goes) k e is at =
      let f = found p.code offset i there in
      let reached = complete offset before f.number f.entry f.is f.begins in
      let goes' : goes_on (routine m p) f.entry.instruction ≡ true = ap (λ x. goes_on (routine m p) x) f.instruction ∙ goes in
      let x = next_at f.number f.entry f.is goes' in
      let same = same_place p.code order (f.number + 1) k x.0 e x.1 is (x.2 ∙ ap (λ y. y + bytes_of f.entry.instruction) f.begins ∙ ap (λ y. offset + bytes_of y) f.instruction ∙ sym at) in
      subst (λ y. IsReached graph y) same (from_entry f.number f.entry (f.number + 1) f.is reached (l.ahead goes'))
  complete target (jumped offset _ i before there leads) k e is at =
      let f = found p.code offset i there in
      let reached = complete offset before f.number f.entry f.is f.begins in
      from_entry f.number f.entry k f.is reached (l.jumps target k (subst (λ x. LeadsTo x target) (sym f.instruction) leads) (begin_at p.code order k e target is at))
  complete _ (in_arm offset q a i phrase arm before there phrase_is covered arm_is) k e is at =
      let f = found p.code offset i there in
      let reached = complete offset before f.number f.entry f.is f.begins in
      let around = around_entry f.number f.entry q phrase f.is reached phrase_is (subst (λ x. covers phrase x ≡ true) (sym f.begins) covered) in
      from_phrase q k around (λ arms same. l.in_arm a k arm (ap (λ (x : List Arm). slice_get x a) (same phrase phrase_is) ∙ arm_is) (begin_at p.code order k e arm.start is at))

  -- It leads nowhere else.

  start_inside : (target number : ℕ) → IsStart (spots p.code) target → BeginBefore p.code target number → number < length graph
  start_inside target number start begins =
      let s = start_there p.code target start in
      let f = found p.code target s.instruction s.is in
      let same = begin_once p.code target f.number number (begin_at p.code order f.number f.entry target f.is f.begins) begins in
      let within = slice_get_within p.code f.number f.entry f.is in
      let long = g.count in omega (arith, same, within, long)

  entry_inside : (k : ℕ) (e : CodeEntry) → slice_get p.code k ≡ Some e → (next : ℕ) → EntryLeads m p k e.at e.instruction next → next < length graph
  entry_inside k e is _ (l.ahead goes) =
      let f = next_at k e is goes in let within = slice_get_within p.code (k + 1) f.0 f.1 in let long = g.count in omega (arith, within, long)
  entry_inside k e is number (l.jumps target _ leads begins) =
      let s = stands_at image j p h e.at e.instruction (instruction_there p.code order k e is) in
      start_inside target number (leads_start (routine m p) e.at target e.instruction s.stood.jump leads) begins
  entry_inside k e is _ (l.inside q at) = let below = first_below true p.phrases (length p.phrases) e.at q at in let long = g.count in omega (arith, below, long)

  phrase_inside : (q : ℕ) (phrase : Phrase) → slice_get p.phrases q ≡ Some phrase → (next : ℕ) → PhraseLeads p q phrase.arms next → next < length graph
  phrase_inside q phrase is number (l.in_arm a _ arm there begins) =
      start_inside arm.start number (arm_filled (spots p.code) p.phrases h.valid.phrases (record { phrase = q; arm = a }) arm (record { phrase = phrase; is = is; there = there })).0 begins
  phrase_inside q phrase is _ (l.outward x at) =
      let below = first_below true p.phrases q (from_of (slice_get p.phrases q)) x at in
      let within = slice_get_within p.phrases q phrase is in let long = g.count in omega (arith, below, within, long)

  leads_inside : (node next : ℕ) (row : List ℕ) → slice_get graph node ≡ Some row → Contains row next → next < length graph
  leads_inside node next row is there = ⊎_elim
      (λ (less : node < length p.code).
      let e_is = slice_get-get_or p.code node blank less in
      entry_inside node (get_or p.code node blank) e_is next ((g.entries node (get_or p.code node blank) row e_is is).only next there))
      (λ (most : length p.code ≤ node).
      let q = node - length p.code in
      let same : node ≡ phrase_node p q = omega (arith, most) in
      let within = slice_get_within graph node row is in
      let long = g.count in
      let q_is = slice_get-get_or p.phrases q no_phrase (omega (arith, within, long, same)) in
      phrase_inside q (get_or p.phrases q no_phrase) q_is next
      ((g.phrases q (get_or p.phrases q no_phrase) row q_is (ap (λ x. slice_get graph x) (sym same) ∙ is)).only next there))
      (cases_lt node (length p.code))

  pub is_graph : IsGraph graph
  is_graph = record { some = first_sound.inside; inside = λ node next row is there. leads_inside node next row is there }
