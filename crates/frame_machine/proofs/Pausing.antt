-- What the run of the topmost activation finds, and where it comes to.
use Rattle.std.proofs.Common.{◌≡◌, ℕ, zero, suc, ◌+◌, ◌*◌, ◌<◌, ◌≤◌, List, [], ◌∷◌, ◌++◌, length, take, drop, set, Option, Some, None, refl, sym, ap, subst, ◌∙◌, arith}
use Rattle.std.specs.Prelude.{◌≢◌, slice_get, slice_index, IsSome, IsSomeAnd, IfSome}
use Rattle.std.proofs.Math.Seq.{take-append_seam}
use Rattle.std.specs.Vec.{with_items}
use Rattle.std.specs.declared.vec.Vec.{Vec}
use Rattle.std.proofs.lemmas.Bool.{false≢true}
use Rattle.std.proofs.lemmas.Option.{same_Some, slice_get_within, option_and_then_some}
use Rattle.code_forms.specs.declared.module_code.CodeEntry.{CodeEntry}
use Rattle.code_forms.specs.declared.module_code.CodeProcedure.{CodeProcedure}
use Rattle.code_forms.specs.declared.module_code.ModuleCode.{ModuleCode}
use Rattle.object_files.specs.declared.image.Image.{Image}
use Rattle.object_files.specs.declared.image.Instance.{Instance}
use Rattle.machine_rules.specs.State.{Active, Activations, Store, Runs, Stepped, Goes}
use Rattle.machine_rules.specs.LookUps.{module_number, code_in, code_of, procedure_of, text_of}
use Rattle.machine_rules.specs.Steps.{globals_in}
use Rattle.machine_topmost.specs.declared.registers.Pause.{Pause}
use Rattle.machine_topmost.specs.declared.registers.Registers.{Registers}
use Rattle.machine_topmost.specs.Flat.{Flat, Paused as PausedSo}
use Rattle.machine_topmost.specs.Running.{HasTargets, FlatPauses, Standing}
use Rattle.machine_activations.specs.declared.row.Layout.{Layout}
use Rattle.machine_activations.specs.declared.row.Row.{Row}
use Rattle.machine_activations.specs.Calling.{StandsIn}
use Rattle.machine_activations.specs.Frames.{row_at}
use Rattle.machine_activations.specs.Placed.{floor_at}
use Rattle.machine_activations.specs.Reaching.{Shown, Later}
use Rattle.machine_activations.specs.Stacks.{on}
use Rattle.machine_activations.specs.Shows.{IsPrepared, IsAmple, Shows}
use Rattle.machine_activations.proofs.Defined.{runs_as_defined}
use Rattle.machine_activations.proofs.Located.{valid_code, IsValid}
use Rattle.machine_activations.proofs.Reach.{two_ways}
use Rattle.machine_activations.proofs.Standing.{low, part_within, standing, procedure_there}
use Rattle.machine_activations.proofs.Tables.{row_there}
use Rattle.machine_ready.specs.declared.prepared.Prepared.{Prepared}
use Rattle.machine_ready.proofs.Reading.{code_at, mapped, some_there}
use Rattle.machine_signals.proofs.InImage.{has_code}
use Rattle.frame_machine.specs.SoFar.{ShowsGlobals, IsNoJump, Paused, TopRuns}
use Rattle.frame_machine.proofs.NoJump.{no_jump_at}

some_is : {X : Type 0} (o : Option X) (x : X) → o ≡ Some x → IsSome o
some_is {X} o x e = subst (λ (k : Option X). IsSome k) (sym e) refl

module_there : (image : Image) (j : ℕ) (code : ModuleCode) → code_of image j ≡ Some code → IsSome (module_number image j)
unfolding code_of
module_there image j code e = option_and_then_some (code_in image) (module_number image j) code e (λ n is there. some_is (module_number image j) n is)

-- an instance that has code is one of the image's
pub instance_low : (image : Image) (j : ℕ) → IsSome (code_of image j) → j < length image.instances
instance_low image j h =
    let c = some_there (code_of image j) h in
    let a = code_at image j c.0 c.1 in slice_get_within image.instances j a.instance a.is

-- a module's number is below the count of modules
pub module_low : (image : Image) (j n : ℕ) (code : ModuleCode) → module_number image j ≡ Some n → code_of image j ≡ Some code → n < length image.modules
unfolding module_number
module_low image j n code is e =
    let h = code_at image j code e in
    let m = mapped (λ (i : Instance). i.module) (slice_get image.instances j) n is in
    let same : m.0 ≡ h.instance = same_Some m.0 h.instance (sym m.1 ∙ h.is) in
    subst (λ k. k < length image.modules) (sym (ap (λ (i : Instance). i.module) same) ∙ m.2) (slice_get_within image.modules h.instance.module h.object h.there)

module _ (image : Image) (layout : Layout) (prepared : IsPrepared image layout) (region : List ℕ) (table : List Row) (r : Registers) (row : Row) (same : row ≡ row_at table r.top) where
  module _ (p : CodeProcedure) (a : Active) (S : Activations) (shows : Shows image layout region table r p a S) where
    is_row : row ≡ shows.rowed.row
    is_row = same ∙ ap (λ q. row_at table q) shows.top ∙ row_there table (length S) shows.rowed.row shows.rowed.there

    pub instance_so : row.instance ≡ a.instance
    instance_so = ap (λ (x : Row). x.instance) is_row ∙ shows.rowed.same_instance

    procedure_so : row.procedure ≡ a.procedure
    procedure_so = ap (λ (x : Row). x.procedure) is_row ∙ shows.rowed.same_procedure

    pub own_procedure : procedure_of image row.instance row.procedure ≡ Some p
    own_procedure = ap (λ j. procedure_of image j row.procedure) instance_so ∙ ap (λ n. procedure_of image a.instance n) procedure_so ∙ shows.is

  module _ (stands : StandsIn image layout region table r) where
    abbrev h : Shown image layout region table r stands.start stands.store
    h = stands.shown

    own : procedure_of image row.instance row.procedure ≡ Some h.procedure
    own = own_procedure h.procedure h.top h.rest h.shows

    pub some_procedure : IsSome (procedure_of image row.instance row.procedure)
    some_procedure = some_is (procedure_of image row.instance row.procedure) h.procedure own

    pub some_code : IsSome (code_of image row.instance)
    some_code = has_code image row.instance row.procedure some_procedure

    some_module_of : (o : Option ModuleCode) → code_of image row.instance ≡ o → IsSome o → IsSome (module_number image row.instance)
    some_module_of None e k = absurd (false≢true k)
    some_module_of (Some code) e k = module_there image row.instance code e

    pub some_module : IsSome (module_number image row.instance)
    some_module = some_module_of (code_of image row.instance) refl some_code

    module _ (code : ModuleCode) (is : code_of image row.instance ≡ Some code) where
      pub in_code : slice_get code.procedures row.procedure ≡ Some h.procedure
      in_code = procedure_there image row.instance row.procedure h.procedure code is own

      pub some_in_code : IsSome (slice_get code.procedures row.procedure)
      some_in_code = some_is (slice_get code.procedures row.procedure) h.procedure in_code

      pub valid : IsValid code
      valid = valid_code image layout prepared row.instance code is

      all_so : (globals : ℕ) → globals ≡ globals_in (code_of image row.instance) → globals ≡ code.global_words
      unfolding globals_in
      all_so globals e = e ∙ ap globals_in is

      -- with what is read
      module _ (ample : IsAmple layout region table r.top) (procedure : CodeProcedure) (read : slice_get code.procedures row.procedure ≡ Some procedure) where
        procedure_is : h.procedure ≡ procedure
        procedure_is = same_Some h.procedure procedure (sym in_code ∙ read)

        pub read_there : procedure_of image row.instance row.procedure ≡ Some procedure
        read_there = own ∙ ap Some procedure_is

        pub top_low : r.top < length table
        top_low = let l = low image layout prepared region table r h.procedure h.top h.rest h.shows ample in let k = ample.long in omega (arith, l, k)

        pub floor_within : r.top * layout.part + layout.frame ≤ length region
        floor_within =
            let w = part_within image layout prepared region table r h.procedure h.top h.rest h.shows ample in
            let l = prepared.laid h.top.instance h.top.procedure h.procedure h.shows.is in omega (arith, w, l.1)

        pub stands_there : (globals : ℕ) → globals ≡ globals_in (code_of image row.instance) → Standing code procedure (length region) globals (r.top * layout.part + layout.frame) r
        stands_there globals all =
            let here : code_of image h.top.instance ≡ Some code = ap (λ j. code_of image j) (sym (instance_so h.procedure h.top h.rest h.shows)) ∙ is in
            subst (λ (q : CodeProcedure). Standing code q (length region) globals (r.top * layout.part + layout.frame) r) procedure_is
            (subst (λ q. Standing code h.procedure (length region) globals (floor_at layout q) r) (sym h.shows.top)
            (standing image layout prepared region table r h.procedure h.top h.rest h.shows ample code here globals (all_so globals all)))

        module _ (number : ℕ) (numbered : module_number image row.instance ≡ Some number) (targets : List ℕ) (leads : HasTargets procedure.code targets)
            (globals globals' region' : List ℕ) (all : length globals ≡ globals_in (code_of image row.instance)) (turns count : ℕ) (pause : Pause)
            (pauses : FlatPauses (text_of image) number procedure.code targets (record { region = region; globals = globals; registers = r; turns = turns }) count pause.why
            (record { region = region'; globals = globals'; registers = pause.registers; turns = pause.turns })) where
          pub top_runs : (s : Stepped) (m : Store) → m.turns ≡ turns → m.globals (row_at table r.top).instance ≡ globals → Shown image layout region table r s m
              → TopRuns image layout region' table (row_at table r.top).instance globals' pause count s m
          top_runs s m turns_so globals_so shown =
              let a = shown.top in let S = shown.rest in let p = shown.procedure in
              let j : row.instance ≡ a.instance = instance_so p a S shown.shows in
              let k : (row_at table r.top).instance ≡ a.instance = ap (λ (x : Row). x.instance) (sym same) ∙ j in
              let own_p : p ≡ procedure = same_Some p procedure (sym (own_procedure p a S shown.shows) ∙ read_there) in
              let g : globals ≡ m.globals a.instance = sym globals_so ∙ ap m.globals k in
              let u : Flat = record { region = region'; globals = globals'; registers = pause.registers; turns = pause.turns } in
              let one : FlatPauses (text_of image) number p.code targets (record { region = region; globals = globals; registers = r; turns = turns }) count pause.why u =
              subst (λ (q : CodeProcedure). FlatPauses (text_of image) number q.code targets (record { region = region; globals = globals; registers = r; turns = turns }) count pause.why u) (sym own_p) pauses in
              let two : FlatPauses (text_of image) number p.code targets (record { region = region; globals = m.globals a.instance; registers = r; turns = turns }) count pause.why u =
              subst (λ (x : List ℕ). FlatPauses (text_of image) number p.code targets (record { region = region; globals = x; registers = r; turns = turns }) count pause.why u) g one in
              let three : FlatPauses (text_of image) number p.code targets (record { region = region; globals = m.globals a.instance; registers = r; turns = m.turns }) count pause.why u =
              subst (λ t. FlatPauses (text_of image) number p.code targets (record { region = region; globals = m.globals a.instance; registers = r; turns = t }) count pause.why u) (sym turns_so) two in
              let words : length (m.globals a.instance) ≡ code.global_words = ap (λ (x : List ℕ). length x) (sym g) ∙ all_so (length globals) all in
              let c = runs_as_defined image layout prepared region table r ample p a S shown.shows code number
              (ap (λ i. code_of image i) (sym j) ∙ is) (ap (λ i. module_number image i) (sym j) ∙ numbered) targets
              (subst (λ (q : CodeProcedure). HasTargets q.code targets) (sym own_p) leads) m words count pause.why u three in
              record {
                store = c.2.store;
                before = c.0;
                counted = c.1;
                later = subst (λ i. Later i m c.0 globals' pause.turns c.2.store) (sym k) c.2.later;
                pauses = record {
                  top = c.2.top;
                  rest = c.2.rest;
                  procedure = p;
                  shows = c.2.shows;
                  reaches = two_ways image s (Goes (Runs (a ∷ S) m)) (Goes (Runs (c.2.top ∷ c.2.rest) c.2.store)) shown.reaches c.2.reaches;
                  entry = c.2.entry;
                  fetched = c.2.fetched;
                  no_jump = λ e. subst (λ (x : CodeEntry). IsNoJump x.instruction) (same_Some three.entry c.2.entry (sym three.fetched ∙ c.2.fetched))
                      (no_jump_at (text_of image) number three.entry.instruction (slice_index targets u.registers.entry) u (three.pauses ∙ ap PausedSo e));
                  pauses = c.2.pauses;
                };
              }

-- The words of a vector that are replaced, and a vector among others.

pub same_length : {X Z : Type 0} (v : Vec X Z) (ws : List X) → length (with_items v ws).items ≡ length v.items
same_length v ws = sym (with_items v ws).ok.0 ∙ v.ok.0

pub words_then : {X Z : Type 0} (v : Vec X Z) (ws : List X) → length ws ≡ length v.items → (with_items v ws).items ≡ ws
words_then v ws same = ap (λ n. take n (ws ++ drop (length ws) v.items)) (v.ok.0 ∙ sym same) ∙ take-append_seam ws (drop (length ws) v.items)

pub some_set : {X : Type 0} (xs : List X) (i j : ℕ) (y : X) (P : X → Type 0) → (i ≡ j → P y) → IsSomeAnd (slice_get xs j) P → IsSomeAnd (slice_get (set xs i y) j) P
some_set [] i j y P mine old = old
some_set (x ∷ xs) zero zero y P mine old = mine refl
some_set (x ∷ xs) zero (suc j) y P mine old = old
some_set (x ∷ xs) (suc i) zero y P mine old = old
some_set (x ∷ xs) (suc i) (suc j) y P mine old = some_set xs i j y P (λ e. mine (ap suc e)) old

pub each_set : {X : Type 0} (xs : List X) (i j : ℕ) (y : X) (P : X → Type 0) → (i ≡ j → P y) → (i ≢ j → IfSome (slice_get xs j) P) → IfSome (slice_get (set xs i y) j) P
each_set [] i j y P mine old = tt
each_set (x ∷ xs) zero zero y P mine old = mine refl
each_set (x ∷ xs) zero (suc j) y P mine old = old (λ e. omega (arith, e))
each_set (x ∷ xs) (suc i) zero y P mine old = old (λ e. omega (arith, e))
each_set (x ∷ xs) (suc i) (suc j) y P mine old = each_set xs i j y P (λ e. mine (ap suc e)) (λ other. old (λ e. other (omega (arith, e))))

pub if_some : {X : Type 0} (o : Option X) (P Q : X → Type 0) → ((x : X) → P x → Q x) → IfSome o P → IfSome o Q
if_some None P Q f h = tt
if_some (Some x) P Q f h = f x h

-- what stands beside the activations then
pub to_paused : (image : Image) (p p' : Prepared) (i : ℕ) (globals' : List ℕ) (pause : Pause) (count : ℕ) (s : Stepped) (m : Store)
    → ((before : ℕ) (n : Store) → Later i m before globals' pause.turns n → ShowsGlobals p' n.globals)
    → on p'.stack (TopRuns image) i globals' pause count s m → Paused image p' pause count s m
to_paused image p p' i globals' pause count s m globals t = record {
  store = t.store;
  before = t.before;
  counted = t.counted;
  begun = t.later.begun;
  its_globals = globals t.before t.store t.later;
  its_turns = t.later.same_turns;
  same_started = t.later.started;
  same_control = t.later.control;
  same_input = t.later.input;
  same_fault = t.later.faulty;
  same_output = t.later.output;
  pauses = t.pauses;
}
