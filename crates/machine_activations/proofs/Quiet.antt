-- The run of the topmost activation up to its pause is a run of the machine.
use Rattle.std.proofs.Common.{◌≡◌, ℕ, ◌+◌, List, ◌∷◌, length, Some, refl, sym, ap, subst, ◌∙◌, arith}
use Rattle.code_forms.specs.declared.module_code.CodeProcedure.{CodeProcedure}
use Rattle.code_forms.specs.declared.module_code.ModuleCode.{ModuleCode}
use Rattle.code_forms.specs.Valid.{Valid, HasDepths}
use Rattle.object_files.specs.declared.image.Image.{Image}
use Rattle.machine_rules.specs.State.{Active, Activations, Store, Runs, Goes}
use Rattle.machine_rules.specs.LookUps.{module_number, text_of}
use Rattle.machine_topmost.specs.declared.registers.Why.{Why}
use Rattle.machine_topmost.specs.Flat.{Flat}
use Rattle.machine_topmost.specs.Running.{HasTargets, IsProcedureOf, Standing, FlatRuns, here, later as one_later, FlatPauses}
use Rattle.machine_topmost.proofs.Pausing.{stands_then}
use Rattle.machine_activations.specs.declared.row.Layout.{Layout}
use Rattle.machine_activations.specs.declared.row.Row.{Row}
use Rattle.machine_activations.specs.Placed.{floor_at}
use Rattle.machine_activations.specs.Shows.{IsPrepared, Shows}
use Rattle.machine_activations.specs.Reaching.{Reaches, Later, Comes}
use Rattle.machine_activations.proofs.Following.{follows}
use Rattle.machine_activations.proofs.Pausing.{pauses_here}
use Rattle.machine_activations.proofs.Reach.{reaches_itself, one_step, two_ways}

pub none_later : (instance : ℕ) (m : Store) → Later instance m 0 (m.globals instance) m.turns m
none_later instance m = record {
  begun = omega arith;
  own = refl;
  others = λ j other. refl;
  same_turns = refl;
  started = λ j. refl;
  control = refl;
  input = refl;
  faulty = refl;
  output = refl;
}

pub then_later : (instance other : ℕ) (l m n : Store) (i j : ℕ) (g h : List ℕ) (t u : ℕ) → other ≡ instance → Later instance l i g t m → Later other m j h u n → Later instance l (i + j) h u n
then_later instance other l m n i j g h t u same a b = record {
  begun = let x = a.begun in let y = b.begun in omega (arith, x, y);
  own = ap n.globals (sym same) ∙ b.own;
  others = λ k apart. b.others k (λ e. apart (e ∙ same)) ∙ a.others k apart;
  same_turns = b.same_turns;
  started = λ k. b.started k ∙ a.started k;
  control = b.control ∙ a.control;
  input = b.input ∙ a.input;
  faulty = b.faulty ∙ a.faulty;
  output = b.output ∙ a.output;
}

module _ (image : Image) (layout : Layout) (prepared : IsPrepared image layout) (table : List Row) (code : ModuleCode) (p : CodeProcedure) (valid : Valid code) (depths : HasDepths code)
    (of : IsProcedureOf code p) (targets : List ℕ) (leads : HasTargets p.code targets) (number : ℕ) (s : Flat) (a : Active) (S : Activations)
    (shows : Shows image layout s.region table s.registers p a S) (numbered : module_number image a.instance ≡ Some number)
    (standing : Standing code p (length s.region) (length s.globals) (floor_at layout (length S)) s.registers)
    (m : Store) (same : m.globals a.instance ≡ s.globals) (turns : m.turns ≡ s.turns) where
  -- so many instructions later
  record RunsSo (n : ℕ) (u : Flat) : Type 0 where
    next : Active
    rest : Activations
    store : Store
    same_instance : next.instance ≡ a.instance
    same_procedure : next.procedure ≡ a.procedure
    same_place : length rest ≡ length S
    shown : Shows image layout u.region table u.registers p next rest
    stands : Standing code p (length u.region) (length u.globals) (floor_at layout (length S)) u.registers
    later : Later a.instance m n u.globals u.turns store
    reaches : Reaches image (Goes (Runs (a ∷ S) m)) (Goes (Runs (next ∷ rest) store))

  runs_so : (n : ℕ) (u : Flat) → FlatRuns (text_of image) number p.code targets s n u → RunsSo n u
  runs_so n u here = record {
    next = a;
    rest = S;
    store = m;
    same_instance = refl;
    same_procedure = refl;
    same_place = refl;
    shown = shows;
    stands = standing;
    later = record {
      begun = omega arith;
      own = same;
      others = λ j other. refl;
      same_turns = turns;
      started = λ j. refl;
      control = refl;
      input = refl;
      faulty = refl;
      output = refl;
    };
    reaches = reaches_itself image _;
  }
  runs_so n u (one_later k t e u' before fetched went) =
      let r = runs_so k t before in
      let numbered' : module_number image r.next.instance ≡ Some number = ap (λ j. module_number image j) r.same_instance ∙ numbered in
      let stands' : Standing code p (length t.region) (length t.globals) (floor_at layout (length r.rest)) t.registers = subst (λ q. Standing code p (length t.region) (length t.globals) (floor_at layout q) t.registers) (sym r.same_place) r.stands in
      let own : r.store.globals r.next.instance ≡ t.globals = ap r.store.globals r.same_instance ∙ r.later.own in
      let f = follows image layout prepared table code p valid depths of targets leads number t r.next r.rest r.shown numbered' stands' e fetched u' went r.store own r.later.same_turns in
      record {
        next = f.next;
        rest = f.rest;
        store = f.store;
        same_instance = f.same_instance ∙ r.same_instance;
        same_procedure = f.same_procedure ∙ r.same_procedure;
        same_place = f.same_place ∙ r.same_place;
        shown = f.shows;
        stands = stands_then code p targets valid depths of leads (floor_at layout (length S)) (text_of image) number t e r.stands fetched u' went;
        later = then_later a.instance r.next.instance m r.store f.store k 1 t.globals u'.globals t.turns u'.turns r.same_instance r.later f.later;
        reaches = two_ways image _ _ _ r.reaches (one_step image _ _ f.is);
      }

  -- it comes to the pause
  pub comes_to_pause : (begun : ℕ) (why : Why) (u : Flat) → FlatPauses (text_of image) number p.code targets s begun why u
      → (count : ℕ) × (begun ≡ count + 1) × Comes image layout table p a S m count why u
  comes_to_pause begun why u pauses =
      let r = runs_so pauses.before u pauses.runs in
      let numbered' : module_number image r.next.instance ≡ Some number = ap (λ j. module_number image j) r.same_instance ∙ numbered in
      let stands' : Standing code p (length u.region) (length u.globals) (floor_at layout (length r.rest)) u.registers = subst (λ q. Standing code p (length u.region) (length u.globals) (floor_at layout q) u.registers) (sym r.same_place) r.stands in
      let own : r.store.globals r.next.instance ≡ u.globals = ap r.store.globals r.same_instance ∙ r.later.own in (
        pauses.before,
        pauses.counted,
        record {
          top = r.next;
          rest = r.rest;
          store = r.store;
          same_instance = r.same_instance;
          same_procedure = r.same_procedure;
          shows = r.shown;
          later = r.later;
          reaches = r.reaches;
          entry = pauses.entry;
          fetched = pauses.fetched;
          pauses = pauses_here image layout prepared table code p valid depths of targets leads number u r.next r.rest r.shown numbered' stands' pauses.entry pauses.fetched r.store own r.later.same_turns why pauses.pauses;
        },
      )
