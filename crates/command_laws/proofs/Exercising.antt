-- The cases of `exercise`, where `out` did not fail.
use Rattle.std.proofs.Common.{◌≡◌, ◌≢◌, ◌⊎◌, ℕ, List, [], ◌++◌, length, map, All, Option, Some, None, IfSome, refl, sym, ◌∙◌, ap, subst, inl, inr, arith, append_assoc}
use Rattle.mesa_base.specs.Outside.{Shelf, Stream, Rose}
use Rattle.exercise_texts.specs.Files.{exercise_files}
use Rattle.source_meaning.specs.Means.{Means}
use Rattle.source_meaning.specs.Program.{Program}
use Rattle.source_meaning.specs.State.{End}
use Rattle.interface_records.specs.Hosts.{IsHostItem}
use Rattle.interface_records.specs.declared.wanted.WantedItem.{WantedItem}
use Rattle.machine_ready.specs.Hosts.{IsFirstUnresolved}
use Rattle.config_rules.specs.declared.tree.Tree.{Tree}
use Rattle.object_files.specs.declared.object.Object.{Object}
use Rattle.link_tables.specs.Linked.{image_of}
use Rattle.command_rules.specs.linked_programs.specs.Objects.{AreObjectsOf}
use Rattle.command_rules.specs.frame_machine.specs.Running.{AreBytes}
use Rattle.command_rules.specs.frame_machine.specs.declared.outcome.Outcome.{Outcome}
use Rattle.line_pieces.specs.Outputs.{HasFaulted, PrintsAll}
use Rattle.command_rules.specs.Case.{Case, Memory, Refused}
use Rattle.command_rules.specs.declared.trouble.Trouble.TheVariants.{TooLarge, Unresolved}
use Rattle.command_rules.specs.Comes.{Exercised, Exercises, no_end, ended, not_summed}
use Rattle.command_rules.specs.Complete.{NoFault, Does}
use Rattle.command_rules.specs.Configurations.{Configured, left_to_loader, program, source_in}
use Rattle.command_rules.specs.Ends.{IsMeant, TellsInput}
use Rattle.command_rules.specs.Exercise.{IsNoEnd, chain, exercise_shelf, summary, within}
use Rattle.command_rules.specs.Forms.{OfConfig, image_file}
use Rattle.command_rules.specs.Passes.{Has, Stops, IsExact}
use Rattle.command_rules.specs.Worlds.{Scene}
use Rattle.command_laws.specs.Laws.{NoStreamFailed}
use Rattle.command_laws.proofs.Came.{Came, IsStill, same_value}
use Rattle.command_laws.proofs.Going.{Went, went, runs, goes_so, one_went, to_write, went_stopped, went_large, went_lacking, went_whole}
use Rattle.command_laws.proofs.OneEnd.{meant_at, run_does, run_left, shown_end, told_bytes, told_is}
use Rattle.command_laws.proofs.Sizes.{AreSmall, IsFirst, sized, stored_small}

-- ---- one text behind the other

prints_on : (a b : List ℕ) (h g f : Option (List ℕ)) → IfSome h (λ bytes. g ≡ Some (bytes ++ a)) → IfSome g (λ bytes. f ≡ Some (bytes ++ b))
    → IfSome h (λ bytes. f ≡ Some (bytes ++ (a ++ b)))
prints_on a b None g f p q = tt
prints_on a b (Some bytes) g f p q =
    let r : f ≡ Some ((bytes ++ a) ++ b) = subst (λ z. IfSome z (λ all. f ≡ Some (all ++ b))) p q in
    r ∙ ap Some (append_assoc bytes a b)

prints_both : (a b : List ℕ) (s t u : Stream) → PrintsAll a s t → PrintsAll b t u → PrintsAll (a ++ b) s u
prints_both a b s t u p q = prints_on a b s.holds t.holds u.holds p q

-- ---- the exercise's own folder and input

no_bytes : AreBytes []
no_bytes k b less = absurd (omega (arith, less))

within_tells : (old : Scene) → TellsInput (within old) []
within_tells old = (refl, no_bytes)

rose_zero : (n : ℕ) → n ≡ 0 → Rose 0 n → ⊥
rose_zero n e (inl less) = omega (arith, e, less)
rose_zero n e (inr last) = omega (arith, e, last)

still_so : (links : ℕ) (folder : Shelf) → folder.faults ≡ (λ name. 0) → IsStill (exercise_shelf links) folder
still_so links folder e file rose = rose_zero (folder.faults file) (λ i. e i file) rose

calm_so : (old mid new : Scene) → ¬ (HasFaulted old.out new.out) → mid.input.faults ≡ 0 → new.out ≡ mid.out → NoStreamFailed (within old) mid
calm_so old mid new calm dry out = record {
  no_input_fault = rose_zero mid.input.faults dry;
  no_out_fault = λ rose. calm (subst (λ s. HasFaulted old.out s) (sym out) rose);
}

quiet_so : (links : ℕ) (folder : Shelf) (old mid new : Scene) → ¬ (HasFaulted old.out new.out) → folder.faults ≡ (λ name. 0) → mid.input.faults ≡ 0
    → new.out ≡ mid.out → NoFault (exercise_shelf links) folder (within old) mid
quiet_so links folder old mid new calm still dry out =
    let streams = calm_so old mid new calm dry out in
    record { no_folder_fault = still_so links folder still; no_input_fault = streams.no_input_fault; no_out_fault = streams.no_out_fault }

-- ---- what an exercise means that has come to its end

meant_of : (links turns : ℕ) (old mid : Scene) (case : Case) (e : Exercised links turns old mid case)
    → IsMeant (program e.made.configured) turns e.outcome (within old) mid case
meant_of links turns old mid case e =
    meant_at (program e.made.configured) turns (within old) mid case e.ends.machine.end e.outcome (told_bytes (within old) [] (within_tells old)) e.ended e.ends.meant

made_came : (links turns : ℕ) (old mid : Scene) (case : Case) (e : Exercised links turns old mid case)
    → Came (source_in OfConfig chain) (exercise_files links) (Has e.made.configured)
made_came links turns old mid case e = record { trail = e.trail; comes = e.made.comes }

does_so : (P : Program) (turns : ℕ) (old mid : Scene) (case : Case) (o : Outcome) (it : IsMeant P turns o (within old) mid case) → Does P turns (within old) it.ran.output case
does_so P turns old mid case o it = record {
  input = [];
  tells = within_tells old;
  end = it.ran.answer;
  left = o.left;
  taken = it.ran.taken;
  means = subst (λ input. Means P input End turns it.ran.output it.ran.answer o.left it.ran.taken) (told_is (Some []) [] it.ran.input refl it.ran.is_input) it.ran.means;
  is_case = it.is_case;
}

-- ---- the summary

instances_same : (t : Tree) (xs ys : List Object) → length (image_of t xs).instances ≡ length (image_of t ys).instances
unfolding image_of
instances_same t xs ys = refl

summary_same : (n m : ℕ) (c d : Case) (l k : ℕ) → n ≡ m → c ≡ d → l ≡ k → summary n c l ≡ summary m d k
summary_same n m c d l k e f g = λ i. summary (e i) (f i) (g i)

module _ (links turns : ℕ) (one : IsExact (source_in OfConfig chain)) (old new : Scene) (calm : ¬ (HasFaulted old.out new.out)) where
  module _ (k : Configured) (ys : List Object) (x : Came (source_in OfConfig chain) (exercise_files links) (Has k)) (their : AreObjectsOf k.modules ys)
      (small : AreSmall (map sized (to_write chain k ys))) (all : All IsHostItem (left_to_loader k)) (output : List ℕ) (c : Case)
      (d : Does (program k) turns (within old) output c) where
    -- what must come of it
    abbrev Summed : Case → Type 0
    Summed case = ((case ≡ c) × PrintsAll (output ++ summary (length (image_of k.tree ys).instances) c d.left) old.out new.out) ⊎ (case ≡ Memory)

    end_summed : (mid : Scene) (case : Case) (R : Type 0) → IsNoEnd case → ((case ≡ c) × PrintsAll output (within old).out mid.out × R) ⊎ (case ≡ Memory) → Summed case
    end_summed mid case R none (inl it) = absurd (shown_end (program k) d.end c d.is_case (subst IsNoEnd it.0 none))
    end_summed mid case R none (inr e) = inr e

    ran_summed : (mid : Scene) (case : Case) (e : Exercised links turns old mid case)
        → PrintsAll (summary (length (image_of e.made.configured.tree e.made.objects).instances) case e.outcome.left) mid.out new.out → Summed case
    ran_summed mid case e prints =
        let same : e.made.configured ≡ k = same_value (source_in OfConfig chain) (exercise_files links) e.made.configured k one (made_came links turns old mid case e) x in
        let it : IsMeant (program k) turns e.outcome (within old) mid case =
        subst (λ (z : Configured). IsMeant (program z) turns e.outcome (within old) mid case) same (meant_of links turns old mid case e) in
        let h = run_does (program k) turns (within old) mid output case c d e.outcome it in
        let left = run_left (program k) turns (within old) mid output case c d e.outcome it in
        let many = ap (λ (z : Configured). length (image_of z.tree e.made.objects).instances) same ∙ instances_same k.tree e.made.objects ys in
        let text = summary_same _ _ case c e.outcome.left d.left many h.0 left in
        inl (h.0, prints_both output _ old.out mid.out new.out h.1 (subst (λ t. PrintsAll t mid.out new.out) text prints))

    pub exercised_whole : (case : Case) → Exercises links turns old new case → Summed case
    exercised_whole case (Exercises.no_memory same) = inr refl
    exercised_whole case (no_end folder mid _ goes none still dry out input steps) =
        end_summed mid case _ none
        (went_whole OfConfig chain turns (exercise_files links) one (exercise_shelf links) folder (within old) mid k ys x their case output c
        (calm_so old mid new calm dry out) small all d
        (goes_so OfConfig chain turns (exercise_files links) (exercise_shelf links) folder (within old) mid case refl (still_so links folder still) goes))
    exercised_whole case (ended mid _ e prints input steps) = ran_summed mid case e prints
    exercised_whole case (not_summed mid _ e rose prints input steps) = absurd (calm rose)

-- ---- what must come

-- what comes within the exercise, memory aside
abbrev WentWithin : (links turns : ℕ) → Scene → Case → Type 0
WentWithin links turns old case =
    (folder : Shelf) × (mid : Scene) × Went OfConfig chain turns (exercise_files links) (exercise_shelf links) folder (within old) mid case

went_end : (links turns : ℕ) (old mid : Scene) (case : Case) → Exercised links turns old mid case → WentWithin links turns old case
went_end links turns old mid case e =
    (e.folder, mid, went e.made.configured e.made.objects case (made_came links turns old mid case e) e.made.their (runs case e.hosts e.stored.files e.ends))

went_within : (links turns : ℕ) (old new : Scene) (case : Case) → ¬ (HasFaulted old.out new.out) → Exercises links turns old new case
    → (case ≡ Memory) ⊎ WentWithin links turns old case
went_within links turns old new case calm (Exercises.no_memory same) = inl refl
went_within links turns old new case calm (no_end folder mid _ goes none still dry out input steps) =
    inr (folder, mid, goes_so OfConfig chain turns (exercise_files links) (exercise_shelf links) folder (within old) mid case refl (still_so links folder still) goes)
went_within links turns old new case calm (ended mid _ e prints input steps) = inr (went_end links turns old mid case e)
went_within links turns old new case calm (not_summed mid _ e rose prints input steps) = absurd (calm rose)

-- what comes of each that went comes of the exercise
through : (links turns : ℕ) (old : Scene) (case : Case) (R : Type 0) → (WentWithin links turns old case → (case ≡ Memory) ⊎ R)
    → (case ≡ Memory) ⊎ WentWithin links turns old case → (case ≡ Memory) ⊎ R
through links turns old case R then (inl e) = inl e
through links turns old case R then (inr w) = then w

module _ (links turns : ℕ) (one : IsExact (source_in OfConfig chain)) (old new : Scene) (calm : ¬ (HasFaulted old.out new.out)) where
  pub exercised_stopped : (case c : Case) → Came (source_in OfConfig chain) (exercise_files links) (Stops c) → Exercises links turns old new case
      → (case ≡ Memory) ⊎ (case ≡ c)
  exercised_stopped case c x it =
      through links turns old case _
      (λ w. went_stopped OfConfig chain turns (exercise_files links) one (exercise_shelf links) w.0 (within old) w.1 case c x w.2)
      (went_within links turns old new case calm it)

  module _ (k : Configured) (ys : List Object) (x : Came (source_in OfConfig chain) (exercise_files links) (Has k)) (their : AreObjectsOf k.modules ys) where
    pub exercised_large : (case : Case) (file : List ℕ) → IsFirst (map sized (to_write chain k ys)) file → Exercises links turns old new case
        → (case ≡ Memory) ⊎ (case ≡ Refused file TooLarge)
    exercised_large case file first it =
        through links turns old case _
        (λ w. went_large OfConfig chain turns (exercise_files links) one (exercise_shelf links) w.0 (within old) w.1 k ys x their case file first w.2)
        (went_within links turns old new case calm it)

    pub exercised_lacking : (case : Case) (i : WantedItem) → AreSmall (map sized (to_write chain k ys)) → IsFirstUnresolved (left_to_loader k) i
        → Exercises links turns old new case → (case ≡ Memory) ⊎ (case ≡ Refused (image_file chain) (Unresolved i))
    exercised_lacking case i small first it =
        through links turns old case _
        (λ w. went_lacking OfConfig chain turns (exercise_files links) one (exercise_shelf links) w.0 (within old) w.1 k ys x their case i small first w.2)
        (went_within links turns old new case calm it)

-- ---- one case

either_way : (c d : Case) (R : Type 0) → d ≢ Memory → ((d ≡ c) × R) ⊎ (d ≡ Memory) → d ≡ c
either_way c d R n (inl h) = h.0
either_way c d R n (inr e) = absurd (n e)

module _ (links turns : ℕ) (one : IsExact (source_in OfConfig chain)) (old : Scene) where
  -- what comes beside an exercise that has come to its end
  beside : (mid last : Scene) (c d : Case) → ¬ (HasFaulted old.out last.out) → d ≢ Memory → Exercised links turns old mid c → Exercises links turns old last d → d ≡ c
  beside mid last c d still n e y =
      let k = e.made.configured in
      let small = stored_small (to_write chain k e.made.objects) (exercise_shelf links).files e.folder.files e.stored.files in
      let it = meant_of links turns old mid c e in
      either_way c d _ n
      (exercised_whole links turns one old last still k e.made.objects (made_came links turns old mid c e) e.made.their small e.hosts it.ran.output c
      (does_so (program k) turns old mid c e.outcome it) d y)

  pub one_exercised : (new last : Scene) (c d : Case) → ¬ (HasFaulted old.out new.out) → ¬ (HasFaulted old.out last.out) → c ≢ Memory → d ≢ Memory
      → Exercises links turns old new c → Exercises links turns old last d → c ≡ d
  one_exercised new last c d calm still m n (Exercises.no_memory same) y = absurd (m refl)
  one_exercised new last c d calm still m n x (Exercises.no_memory same) = absurd (n refl)
  one_exercised new last c d calm still m n (not_summed mid _ e rose prints input steps) y = absurd (calm rose)
  one_exercised new last c d calm still m n x (not_summed mid _ e rose prints input steps) = absurd (still rose)
  one_exercised new last c d calm still m n (ended mid _ e prints input steps) y = sym (beside mid last c d still n e y)
  one_exercised new last c d calm still m n x (ended mid _ e prints input steps) = beside mid new d c calm m e x
  one_exercised new last c d calm still m n (no_end f mid _ goes none a dry out input steps) (no_end g end _ other never b wet put taken counts) =
      one_went OfConfig chain turns (exercise_files links) one (exercise_shelf links) f g (within old) mid end [] c d (within_tells old)
      (quiet_so links f old mid new calm a dry out) (quiet_so links g old end last still b wet put) m n
      (goes_so OfConfig chain turns (exercise_files links) (exercise_shelf links) f (within old) mid c refl (still_so links f a) goes)
      (goes_so OfConfig chain turns (exercise_files links) (exercise_shelf links) g (within old) end d refl (still_so links g b) other)
