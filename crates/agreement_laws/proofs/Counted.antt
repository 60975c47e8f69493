-- Counted loops: the head of a round, where its number is checked and given to the variable; and what the counting words become.
use Rattle.std.proofs.Common.{◌≡◌, ℕ, zero, suc, ◌+◌, ◌<◌, List, [], ◌∷◌, ◌++◌, Bool, true, false, Some, refl, sym, ap, ◌∙◌, subst, arith}
use Rattle.std.specs.Prelude.{nat_eq, if◌then◌else◌}
use Rattle.std.proofs.lemmas.Bool.{eq-eqb, ne_eqb}
use Rattle.mesa_types.specs.declared.typed_parts.Given.{Given}
use Rattle.mesa_types.specs.declared.typed_parts.Given.TheVariants.{NoVariable, GivenTo}
use Rattle.mesa_types.specs.declared.typed_parts.Home.{Home}
use Rattle.mesa_types.specs.declared.typed_parts.Home.TheVariants.{Global, Local}
use Rattle.mesa_types.specs.declared.typed_parts.Range.{Range}
use Rattle.mesa_types.specs.Typed.{Ordinal, Counting}
use Rattle.mesa_types.specs.Shapes.{words_in}
use Rattle.mesa_types.specs.Sound.{a_word, GivenIn}
use Rattle.mesa_types.specs.Operators.{wrap, differ, truth, is_true, checked}
use Rattle.code_forms.specs.declared.instruction.Instruction.{Instruction}
use Rattle.code_forms.specs.declared.instruction.Instruction.TheVariants as i
use Rattle.source_meaning.specs.Value.{Value, Word, with_part}
use Rattle.source_meaning.specs.Variables.{Where, store, store_part}
use Rattle.source_meaning.specs.State as source
use Rattle.source_meaning.specs.State.{State, Answer, Result, Run, change}
use Rattle.source_meaning.specs.Signals.{on_tried}
use Rattle.source_meaning.specs.Meaning.{counted}
use Rattle.machine_rules.specs.State.{Store, Stepped}
use Rattle.code_rules.specs.Laws.{behind_all}
use Rattle.code_rules.specs.Loops.{CountedIn, count_code, give_code, next_slot}
use Rattle.code_rules.specs.OwnCode.{check_code}
use Rattle.code_rules.specs.Reading.{Coded, Place, Own, no_more, behind}
use Rattle.code_rules.specs.Slots as slot
use Rattle.code_rules.proofs.Whole.{own_code_joins}
use Rattle.agreement_rules.specs.Operators.{PathAt}
use Rattle.agreement_rules.specs.Reaches.{Reaches}
use Rattle.agreement_rules.proofs.Lifted.{in_order}
use Rattle.agreement_rules.proofs.Results.{results_are_words}
use Rattle.agreement_laws.specs.World.{World, texts_of}
use Rattle.agreement_laws.specs.Standing.{Frames}
use Rattle.agreement_laws.specs.Relation.{Agrees, standing}
use Rattle.agreement_laws.specs.Contexts.{Site, Context, Inside}
use Rattle.agreement_laws.specs.Answers.{Passed}
use Rattle.agreement_laws.specs.Promises.{next, RaiseFollows}
use Rattle.agreement_laws.specs.Rounds.{WordsLeft}
use Rattle.agreement_laws.proofs.Control.{branch_goes}
use Rattle.agreement_laws.proofs.Moving.{inside_part}
use Rattle.agreement_laws.proofs.Owning.{law, own_gives, outcome_on}
use Rattle.agreement_laws.proofs.Shown.{show_word}
use Rattle.agreement_laws.proofs.Stores.{stored_comes}
use Rattle.agreement_laws.proofs.Tests.{held_loads}
use Rattle.agreement_laws.proofs.Words.{fine_small}

-- What the words become.

-- whether a round is left behind this one
abbrev pub flag_of : (first last : ℕ) → ℕ
flag_of first last = truth (nat_eq (truth (nat_eq first last)) 0)

flag_same : (first last : ℕ) → first ≡ last → flag_of first last ≡ 0
unfolding truth
flag_same first last e = ap (λ b. truth (nat_eq (truth b) 0)) (eq-eqb first last e)

flag_other : (first last : ℕ) → (first ≡ last → ⊥) → flag_of first last ≡ 1
unfolding truth
flag_other first last non = ap (λ b. truth (nat_eq (truth b) 0)) (ne_eqb first last non)

pub up_left : (more next first last flag : ℕ) → WordsLeft false (suc more) next first last flag
    → WordsLeft false more (wrap (next + 1)) (wrap (first + 1)) last (flag_of first last)
unfolding wrap
up_left zero next first last flag (one, small, here, there, few) = flag_same first last (omega (arith, small, here, there))
up_left (suc more) next first last flag (one, small, here, there, few) =
    (flag_other first last (λ e. omega (arith, small, here, there, few, e)), omega arith, omega (arith, here), omega (arith, small, here, there, few), omega (arith, few))

pub down_left : (more next first last flag : ℕ) → WordsLeft true (suc more) next first last flag
    → WordsLeft true more (wrap (next + 65535)) first (wrap (last + 65535)) (flag_of first last)
unfolding wrap
down_left zero next first last flag (one, small, low, there, here, few) = flag_same first last (omega (arith, small, low, here, there))
down_left (suc more) next first last flag (one, small, low, there, here, few) =
    (flag_other first last (λ e. omega (arith, small, low, here, there, few, e)), omega arith, low, omega (arith, there), omega (arith, small, low, here, few), omega (arith, few))

-- The head of a round.

whole_store : (w : Where) (h : Home) (v : Value) (s : source.Store) → store_part w h [] v s ≡ store w h v s
unfolding store store_part with_part
whole_store w (Local n) v s = refl
whole_store w (Global n) v s = refl

behind_around : (C : Coded) (code : List Instruction) (u : Place) → (behind_all C code u).around ≡ u.around
behind_around C [] u = refl
behind_around C (x ∷ code) u = behind_around C code (behind C x u)

module _ (W : World) (n : ℕ) (raises : RaiseFollows W n) (K : Site) (w : Place) (hi : ℕ) (ctx : Context W K w.points w.around w.slot hi) (Q : Stepped → Result → Type 0)
    (later : (s t : Stepped) (r : Result) → Reaches W.image s t → Q t r → Q s r)
    (out : (s : Stepped) (a : Answer) (σ : State) → Passed W (suc n) K w.around s a σ → Q s (record { answer = a; state = σ })) where
  -- the number is checked and given
  give_on : (h : Home) (range : Range) (z number a b : ℕ) (goes_on : Run) (μ : Frames) (m : Store) (σ : State) → GivenIn K.scope (GivenTo h range)
      → Own K.code w (give_code K.code (GivenTo h range) z) a b → K.ground.hold K.meant.frame z ≡ Some number → number < 65536 → Inside W K.ground a b
      → Agrees W (suc n) K.ground μ m σ
      → ((ν : Frames) (l : Store) (τ : State) → Agrees W (suc n) K.ground ν l τ → Q (standing K.ground b [] ν l) (goes_on τ))
      → Q (standing K.ground a [] μ m) (on_tried W.program (next W n) K.meant (checked range number) (λ x. change (store K.meant h (Word x)) goes_on) σ)
  unfolding GivenIn change PathAt words_in a_word
  give_on h range z number a b goes_on μ m σ given code held small inside agrees on =
      let parts = own_code_joins.splits K.code w (i.LoadL z 1 ∷ []) (check_code range ++ slot.store K.code h 0 1 ∷ []) a b code in
      let v1 = behind_all K.code (i.LoadL z 1 ∷ []) w in
      let more = own_code_joins.splits K.code v1 (check_code range) (slot.store K.code h 0 1 ∷ []) parts.0 b parts.2 in
      let v2 = behind_all K.code (check_code range) v1 in
      let go = λ (x : ℕ). change (store K.meant h (Word x)) goes_on in
      let g = own_gives W K w hi ctx (suc n) μ m σ (i.LoadL z 1 ∷ []) a parts.0 [] (number ∷ []) [] parts.1 (held_loads W K w hi ctx (suc n) μ m σ z number held agrees) agrees in
      let o1 = in_order parts.1 in let o2 = in_order more.2 in
      later (standing K.ground a [] μ m) (standing K.ground parts.0 (number ∷ []) g.frames g.store) (on_tried W.program (next W n) K.meant (checked range number) go σ) g.reaches
      (outcome_on W K v1 hi ctx n raises Q later out g.frames g.store σ (check_code range) parts.0 more.0 (number ∷ []) [] (checked range number) go more.1
      ((law W K v1 hi ctx g.frames g.store).check range number) (inside_part W K.ground a b parts.0 more.0 o1 o2 inside) g.agrees (λ x ν l e now.
      let lt = fine_small (checked range number) x (results_are_words.check range number small) e in
      let c = stored_comes W (suc n) K w hi ctx h Ordinal Ordinal [] 0 more.0 b (Word x) (x ∷ []) [] v2 ν l σ (behind_around K.code (check_code range) v1) given.0 (refl, refl) (show_word (texts_of W) x lt) more.2 now in
      later (standing K.ground more.0 (x ∷ []) ν l) (standing K.ground b [] c.frames c.store) (go x σ) c.reaches
      (on c.frames c.store (record σ { store = store K.meant h (Word x) σ.store })
      (subst (λ s. Agrees W (suc n) K.ground c.frames c.store (record σ { store = s })) (whole_store K.meant h (Word x) σ.store) c.agrees))))

  given_on : (g : Given) (z number a b : ℕ) (goes_on ends : Run) (down : Bool) (more : ℕ) (μ : Frames) (m : Store) (σ : State) → GivenIn K.scope g → Own K.code w (give_code K.code g z) a b
      → K.ground.hold K.meant.frame z ≡ Some number → number < 65536 → Inside W K.ground a b → Agrees W (suc n) K.ground μ m σ
      → ((ν : Frames) (l : Store) (τ : State) → Agrees W (suc n) K.ground ν l τ → Q (standing K.ground b [] ν l) (goes_on τ))
      → Q (standing K.ground a [] μ m) (counted W.program (next W n) K.meant (Counting g down (suc more) number) goes_on ends σ)
  unfolding counted
  given_on NoVariable z number a b goes_on ends down more μ m σ given no_more held small inside agrees on = on μ m σ agrees
  given_on (GivenTo h range) z number a b goes_on ends down more μ m σ given code held small inside agrees on =
      give_on h range z number a b goes_on μ m σ given code held small inside agrees on

module _ (W : World) (n : ℕ) (raises : RaiseFollows W n) (K : Site) (w : Place) (hi : ℕ) (ctx : Context W K w.points w.around w.slot hi) (Q : Stepped → Result → Type 0)
    (later : (s t : Stepped) (r : Result) → Reaches W.image s t → Q t r → Q s r)
    (out : (s : Stepped) (a : Answer) (σ : State) → Passed W (suc n) K w.around s a σ → Q s (record { answer = a; state = σ })) where
  -- where a round is left control goes on behind the count; else the loop is done
  pub count_on : (z : ℕ) (g : Given) (down : Bool) (done left number first last flag a b : ℕ) (goes_on ends : Run) (μ : Frames) (m : Store) (σ : State)
      → Own K.code w (count_code K.code (CountedIn z g down) done) a b → GivenIn K.scope g → K.ground.hold K.meant.frame z ≡ Some first
      → K.ground.hold K.meant.frame (z + 1) ≡ Some last → K.ground.hold K.meant.frame (z + 2) ≡ Some flag → WordsLeft down left number first last flag → Inside W K.ground a b
      → Agrees W (suc n) K.ground μ m σ
      → ((more : ℕ) → left ≡ suc more → (ν : Frames) (l : Store) (τ : State) → Agrees W (suc n) K.ground ν l τ → Q (standing K.ground b [] ν l) (goes_on τ))
      → (left ≡ 0 → (ν : Frames) (l : Store) (τ : State) → Agrees W (suc n) K.ground ν l τ → Q (standing K.ground done [] ν l) (ends τ))
      → Q (standing K.ground a [] μ m) (counted W.program (next W n) K.meant (Counting g down left number) goes_on ends σ)
  unfolding counted is_true differ
  count_on z g down done left number first last flag a b goes_on ends μ m σ code given one two three lies inside agrees on off =
      let parts = own_code_joins.splits K.code w (i.LoadL (z + 2) 1 ∷ []) (i.JumpIfNot done ∷ give_code K.code g (next_slot z down)) a b code in
      let v1 = behind_all K.code (i.LoadL (z + 2) 1 ∷ []) w in
      let more = own_code_joins.splits K.code v1 (i.JumpIfNot done ∷ []) (give_code K.code g (next_slot z down)) parts.0 b parts.2 in
      let x = own_gives W K w hi ctx (suc n) μ m σ (i.LoadL (z + 2) 1 ∷ []) a parts.0 [] (flag ∷ []) [] parts.1 (held_loads W K w hi ctx (suc n) μ m σ (z + 2) flag three agrees) agrees in
      let y = branch_goes W K w.points w.around w.slot hi ctx (suc n) v1 false done flag parts.0 more.0 [] x.frames x.store σ more.1 x.agrees in
      let o1 = in_order parts.1 in let o2 = in_order more.1 in
      later (standing K.ground a [] μ m) (standing K.ground parts.0 (flag ∷ []) x.frames x.store) (counted W.program (next W n) K.meant (Counting g down left number) goes_on ends σ) x.reaches
      (later (standing K.ground parts.0 (flag ∷ []) x.frames x.store) (standing K.ground (if differ (is_true flag) false then more.0 else done) [] y.frames y.store)
      (counted W.program (next W n) K.meant (Counting g down left number) goes_on ends σ) y.reaches
      (by left down flag lies y.frames y.store y.agrees one two more.0 (inside_part W K.ground a b more.0 b (omega (arith, o1, o2)) (omega arith) inside) more.2 on off))
    where
      by : (left : ℕ) (down : Bool) (flag : ℕ) → WordsLeft down left number first last flag → (ν : Frames) (l : Store) → Agrees W (suc n) K.ground ν l σ
          → K.ground.hold K.meant.frame z ≡ Some first → K.ground.hold K.meant.frame (z + 1) ≡ Some last → (c : ℕ) → Inside W K.ground c b
          → Own K.code (behind_all K.code (i.JumpIfNot done ∷ []) (behind_all K.code (i.LoadL (z + 2) 1 ∷ []) w)) (give_code K.code g (next_slot z down)) c b
          → ((more : ℕ) → left ≡ suc more → (ν : Frames) (l : Store) (τ : State) → Agrees W (suc n) K.ground ν l τ → Q (standing K.ground b [] ν l) (goes_on τ))
          → (left ≡ 0 → (ν : Frames) (l : Store) (τ : State) → Agrees W (suc n) K.ground ν l τ → Q (standing K.ground done [] ν l) (ends τ))
          → Q (standing K.ground (if differ (is_true flag) false then c else done) [] ν l) (counted W.program (next W n) K.meant (Counting g down left number) goes_on ends σ)
      by zero down flag lies ν l agrees one two c inside code on off =
          subst (λ x. Q (standing K.ground (if differ (is_true x) false then c else done) [] ν l) (ends σ)) (sym lies) (off refl ν l σ agrees)
      by (suc more) false flag lies ν l agrees one two c inside code on off =
          let small = lies.1 in
          subst (λ x. Q (standing K.ground (if differ (is_true x) false then c else done) [] ν l) (counted W.program (next W n) K.meant (Counting g false (suc more) number) goes_on ends σ)) (sym lies.0)
          (given_on W n raises K (behind_all K.code (i.JumpIfNot done ∷ []) (behind_all K.code (i.LoadL (z + 2) 1 ∷ []) w)) hi ctx Q later out g z number c b goes_on ends false more ν l σ given code
          (one ∙ ap Some lies.2) small inside agrees (on more refl))
      by (suc more) true flag lies ν l agrees one two c inside code on off =
          let small = lies.1 in
          subst (λ x. Q (standing K.ground (if differ (is_true x) false then c else done) [] ν l) (counted W.program (next W n) K.meant (Counting g true (suc more) number) goes_on ends σ)) (sym lies.0)
          (given_on W n raises K (behind_all K.code (i.JumpIfNot done ∷ []) (behind_all K.code (i.LoadL (z + 2) 1 ∷ []) w)) hi ctx Q later out g (z + 1) number c b goes_on ends true more ν l σ given code
          (two ∙ ap Some lies.3) small inside agrees (on more refl))
