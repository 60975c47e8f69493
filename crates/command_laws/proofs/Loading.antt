-- The cases of `run`, over files that are told and without faults. What is run of the same parts differs in depths alone, and so runs alike.
use Rattle.std.proofs.Common.{◌≡◌, ◌≢◌, ◌⊎◌, ℕ, zero, suc, List, All, Some, Result, Ok, refl, sym, ◌∙◌, ap, subst, inl, inr, arith}
use Rattle.std.specs.Prelude.{false, slice_get}
use Rattle.mesa_base.specs.Outside.{Shelf, Files}
use Rattle.interface_records.specs.Hosts.{IsHostItem}
use Rattle.interface_records.specs.declared.wanted.Wanted.{Wanted as Entry}
use Rattle.interface_records.specs.declared.wanted.WantedItem.{WantedItem}
use Rattle.machine_ready.proofs.Offered.{one_unresolved, none_unresolved}
use Rattle.machine_rules.specs.State.{Ended}
use Rattle.machine_rules.specs.Steps.{Steps}
use Rattle.machine_rules.specs.declared.end.End as machine
use Rattle.machine_rules.proofs.OneResult.{results_alike}
use Rattle.object_files.specs.declared.image.Image.{Image}
use Rattle.object_rules.specs.Exact.{IsSameImage}
use Rattle.object_rules.specs.ImageForms.{ImagePart}
use Rattle.depth_laws.specs.Laws.{RunAlike, DepthsDoNotMatter}
use Rattle.loader_rules.specs.Laws.{LoadsAreAlike}
use Rattle.command_rules.specs.frame_machine.specs.declared.outcome.Outcome.{Outcome}
use Rattle.command_rules.specs.frame_machine.specs.declared.outcome.RunFault.{RunFault}
use Rattle.line_pieces.specs.Outputs.{PrintsAll}
use Rattle.line_pieces.specs.Texts.{dotted}
use Rattle.command_rules.specs.Case.{Case, Refused, Memory}
use Rattle.command_rules.specs.declared.trouble.Trouble.TheVariants.{Unresolved}
use Rattle.command_rules.specs.Comes.{Loads, not_read}
use Rattle.command_rules.specs.Complete.{StepsTo}
use Rattle.command_rules.specs.Ends.{Counts, Runs, RunsTo, TellsInput, ended, read_fault, write_fault}
use Rattle.command_rules.specs.Forms.{image_file}
use Rattle.command_rules.specs.Loading.{HostHas, IsFirstToLack, here, there, IsRunOf, host_wants, runnable_in}
use Rattle.command_rules.specs.Passes.{Has, Stops, IsExact}
use Rattle.command_rules.specs.Shown.{Names, case_of_end, case_of_run, image_names, path_of, signal_name}
use Rattle.command_rules.specs.Worlds.{Scene}
use Rattle.command_laws.specs.Laws.{NoStreamFailed}
use Rattle.command_laws.proofs.Alike.{same_run}
use Rattle.command_laws.proofs.Came.{Came, IsStill, came_to_stop, came_to_value, same_stop, same_value, never_both}
use Rattle.command_laws.proofs.OneEnd.{told_is}

-- ---- images that differ in depths alone

pub names_same : (x y : Image) → IsSameImage x y → RunAlike x y → image_names x ≡ image_names y
names_same x y same alike = λ i j k. dotted (path_of (slice_get (same.instances i) j)) (signal_name (alike.signals j k i))

ended_is : (e f : machine.End) → Ended e ≡ Ended f → e ≡ f
ended_is e f h = cc

-- over one input they come to one end and one output
one_result : (x y : Image) → RunAlike x y → (turns : ℕ) (i j o q : List ℕ) (e f : machine.End) (l m s t c d : ℕ) → i ≡ j
    → Steps x i false turns o (Ended e) l s c → Steps y j false turns q (Ended f) m t d → (e ≡ f) × (o ≡ q)
one_result x y alike turns i j o q e f l m s t c d same a b =
    let moved = subst (λ z. Steps y z false turns o (Ended e) l s c) same (alike.steps i false turns o (Ended e) l s c a) in
    let h = results_alike y j false turns q o (Ended f) (Ended e) m l t s d c b moved in
    (ended_is e f h.1, h.0)

-- where neither the input nor `out` failed a run has come to its end
record Finished (image : Image) (turns : ℕ) (old new : Scene) (r : Result Outcome RunFault) : Type 0 where
  outcome : Outcome
  is : r ≡ Ok outcome
  counts : Counts image turns outcome old new

finished : (image : Image) (turns : ℕ) (old new : Scene) (r : Result Outcome RunFault) → NoStreamFailed old new → Runs image turns old new r
    → Finished image turns old new r
finished image turns old new _ calm (ended o counts) = record { outcome = o; is = refl; counts = counts }
finished image turns old new _ calm (read_fault rose counts) = absurd (calm.no_input_fault rose)
finished image turns old new _ calm (write_fault rose counts) = absurd (calm.no_out_fault rose)

-- the case of a run that finished
case_is : (names : Names) (image : Image) (turns : ℕ) (old new : Scene) (case : Case) (it : RunsTo names image turns old new case)
    (f : Finished image turns old new it.end) → case ≡ case_of_end names f.outcome.end
case_is names image turns old new case it f = it.is_case ∙ ap (case_of_run names) f.is

module _ (law : DepthsDoNotMatter) (x y : Image) (same : IsSameImage x y) where
  alike : RunAlike x y
  alike = law x y same

  shown_same : (e f : machine.End) → e ≡ f → case_of_end (image_names x) e ≡ case_of_end (image_names y) f
  shown_same e f h = λ i. case_of_end (names_same x y same alike i) (h i)

  one_image_run : (turns : ℕ) (old new last : Scene) (input : List ℕ) (c d : Case) → TellsInput old input → NoStreamFailed old new → NoStreamFailed old last
      → RunsTo (image_names x) x turns old new c → RunsTo (image_names y) y turns old last d → c ≡ d
  one_image_run turns old new last input c d tells calm still a b =
      let f = finished x turns old new a.end calm a.runs in
      let g = finished y turns old last b.end still b.runs in
      let r = f.counts.2 in
      let s = g.counts.2 in
      let same = told_is old.input.left input r.input tells.0 r.is_input ∙ sym (told_is old.input.left input s.input tells.0 s.is_input) in
      let h = one_result x y alike turns r.input s.input r.output s.output f.outcome.end g.outcome.end f.outcome.left g.outcome.left r.taken s.taken
      f.counts.0 g.counts.0 same r.runs s.runs in
      case_is (image_names x) x turns old new c a f ∙ shown_same f.outcome.end g.outcome.end h.0 ∙ sym (case_is (image_names y) y turns old last d b g)

  image_steps : (turns : ℕ) (old new : Scene) (output : List ℕ) (case c : Case) → NoStreamFailed old new → StepsTo y turns old output c
      → RunsTo (image_names x) x turns old new case → (case ≡ c) × PrintsAll output old.out new.out
  image_steps turns old new output case c calm d a =
      let f = finished x turns old new a.end calm a.runs in
      let r = f.counts.2 in
      let same = told_is old.input.left d.input r.input d.tells.0 r.is_input in
      let h = one_result x y alike turns r.input d.input r.output output f.outcome.end d.end f.outcome.left d.left r.taken d.taken
      f.counts.0 d.count same r.runs d.steps in (
        case_is (image_names x) x turns old new case a f ∙ shown_same f.outcome.end d.end h.0 ∙ sym d.is_case,
        subst (λ z. PrintsAll z old.out new.out) h.1 r.appends,
      )

-- ---- what is wanted and is none of the host's

one_lack : (bases : List (List ℕ)) (wants : List (List Entry)) (a b : List ℕ) (i j : WantedItem) → IsFirstToLack bases wants a i → IsFirstToLack bases wants b j
    → (a ≡ b) × (i ≡ j)
one_lack _ _ a b i j (here _ bases wanted more _ x) (here _ _ _ _ _ y) = (refl, one_unresolved wanted i j x y)
one_lack _ _ a b i j (here _ bases wanted more _ x) (there _ _ _ _ _ _ all y) = absurd (none_unresolved wanted i all x)
one_lack _ _ a b i j (there _ bases wanted more _ _ all x) (here _ _ _ _ _ y) = absurd (none_unresolved wanted j all y)
one_lack _ _ a b i j (there _ bases wanted more _ _ all x) (there _ _ _ _ _ _ also y) = one_lack bases more a b i j x y

none_lacks : (bases : List (List ℕ)) (wants : List (List Entry)) (a : List ℕ) (i : WantedItem) → All (λ (wanted : List Entry). All IsHostItem wanted) wants
    → IsFirstToLack bases wants a i → ⊥
none_lacks _ _ a i all (here _ bases wanted more _ x) = none_unresolved wanted i (all zero wanted (omega arith)) x
none_lacks _ _ a i all (there _ bases wanted more _ _ _ x) = none_lacks bases more a i (λ k d less. all (suc k) d (omega (arith, less))) x

refused_by : (a b : List ℕ) (i j : WantedItem) → (a ≡ b) × (i ≡ j) → Refused (image_file a) (Unresolved i) ≡ Refused (image_file b) (Unresolved j)
refused_by a b i j e = λ k. Refused (image_file (e.0 k)) (Unresolved (e.1 k))

-- ---- what comes of the files of images

pub data Loaded (bases : List (List ℕ)) (turns : ℕ) (files : Files) (old new : Scene) : Case → Type 0 where
  halted : (case : Case) → Came (runnable_in bases) files (Stops case) → Loaded bases turns files old new case
  lacks : (parts : List ImagePart) (base : List ℕ) (i : WantedItem) → Came (runnable_in bases) files (Has parts)
      → IsFirstToLack bases (host_wants parts) base i → Loaded bases turns files old new (Refused (image_file base) (Unresolved i))
  runs : (parts : List ImagePart) (image : Image) (case : Case) → Came (runnable_in bases) files (Has parts) → IsRunOf parts image
      → HostHas parts → RunsTo (image_names image) image turns old new case → Loaded bases turns files old new case
  no_run : Loaded bases turns files old new Memory

loaded_stop : (bases : List (List ℕ)) (turns : ℕ) (files : Files) (old new : Scene) (case : Case)
    → (case ≡ Memory) ⊎ Came (runnable_in bases) files (Stops case) → Loaded bases turns files old new case
loaded_stop bases turns files old new case (inl e) = subst (λ z. Loaded bases turns files old new z) (sym e) no_run
loaded_stop bases turns files old new case (inr came) = halted case came

pub loads_so : (bases : List (List ℕ)) (turns : ℕ) (files : Files) (folder folder' : Shelf) (old new : Scene) (case : Case) → folder.files ≡ Some files
    → IsStill folder folder' → Loads bases turns folder folder' old new case → Loaded bases turns files old new case
loads_so bases turns files folder folder' old new case e still (not_read _ why onward same) =
    loaded_stop bases turns files old new case (came_to_stop (runnable_in bases) folder folder' files case e still why)
loads_so bases turns files folder folder' old new case e still (Loads.unresolved parts base i gives first same) =
    lacks parts base i (came_to_value (runnable_in bases) folder folder' files parts e gives) first
loads_so bases turns files folder folder' old new case e still (Loads.no_memory parts gives same) = no_run
loads_so bases turns files folder folder' old new case e still (Loads.ran parts image _ gives is all it) =
    runs parts image case (came_to_value (runnable_in bases) folder folder' files parts e gives) is all it

module _ (law : DepthsDoNotMatter) (load : LoadsAreAlike) (bases : List (List ℕ)) (turns : ℕ) (files : Files) (one : IsExact (runnable_in bases)) where
  same_so : (p q : List ImagePart) → Came (runnable_in bases) files (Has p) → Came (runnable_in bases) files (Has q) → q ≡ p
  same_so p q x y = same_value (runnable_in bases) files q p one y x

  no_both : (p : List ImagePart) (c : Case) → Came (runnable_in bases) files (Has p) → Came (runnable_in bases) files (Stops c) → ⊥
  no_both p c x y = never_both (runnable_in bases) files p c one x y

  lacks_and_has : (p q : List ImagePart) (base : List ℕ) (i : WantedItem) → Came (runnable_in bases) files (Has p) → Came (runnable_in bases) files (Has q)
      → HostHas p → IsFirstToLack bases (host_wants q) base i → ⊥
  lacks_and_has p q base i x y all first =
      none_lacks bases (host_wants p) base i all (subst (λ z. IsFirstToLack bases (host_wants z) base i) (same_so p q x y) first)

  pub one_loaded : (old new last : Scene) (input : List ℕ) (c d : Case) → TellsInput old input → NoStreamFailed old new → NoStreamFailed old last
      → c ≢ Memory → d ≢ Memory → Loaded bases turns files old new c → Loaded bases turns files old last d → c ≡ d
  one_loaded old new last input c d e calm still m n no_run y = absurd (m refl)
  one_loaded old new last input c d e calm still m n x no_run = absurd (n refl)
  one_loaded old new last input c d e calm still m n (halted _ x) (halted _ y) = same_stop (runnable_in bases) files c d one x y
  one_loaded old new last input c d e calm still m n (halted _ x) (lacks q base j y first) = absurd (no_both q c y x)
  one_loaded old new last input c d e calm still m n (halted _ x) (runs q z _ y is all it) = absurd (no_both q c y x)
  one_loaded old new last input c d e calm still m n (lacks q base j y first) (halted _ x) = absurd (no_both q d y x)
  one_loaded old new last input c d e calm still m n (runs q z _ y is all it) (halted _ x) = absurd (no_both q d y x)
  one_loaded old new last input c d e calm still m n (lacks p a i x first) (lacks q b j y also) =
      refused_by a b i j (one_lack bases (host_wants p) a b i j first (subst (λ z. IsFirstToLack bases (host_wants z) b j) (same_so p q x y) also))
  one_loaded old new last input c d e calm still m n (lacks p a i x first) (runs q z _ y is all it) = absurd (lacks_and_has q p a i y x all first)
  one_loaded old new last input c d e calm still m n (runs p z _ x is all it) (lacks q b j y also) = absurd (lacks_and_has p q b j x y all also)
  one_loaded old new last input c d e calm still m n (runs p a _ x is all it) (runs q b _ y be each so) =
      one_image_run law a b (same_run load p a b is (subst (λ z. IsRunOf z b) (same_so p q x y) be)) turns old new last input c d e calm still it so

  -- ---- what must come

  pub loaded_stopped : (old new : Scene) (case c : Case) → Came (runnable_in bases) files (Stops c) → Loaded bases turns files old new case
      → (case ≡ Memory) ⊎ (case ≡ c)
  loaded_stopped old new case c x no_run = inl refl
  loaded_stopped old new case c x (halted _ y) = inr (same_stop (runnable_in bases) files case c one y x)
  loaded_stopped old new case c x (lacks q base j y first) = absurd (no_both q c y x)
  loaded_stopped old new case c x (runs q z _ y is all it) = absurd (no_both q c y x)

  module _ (old new : Scene) (p : List ImagePart) (x : Came (runnable_in bases) files (Has p)) where
    pub loaded_lacking : (case : Case) (base : List ℕ) (i : WantedItem) → IsFirstToLack bases (host_wants p) base i → Loaded bases turns files old new case
        → (case ≡ Memory) ⊎ (case ≡ Refused (image_file base) (Unresolved i))
    loaded_lacking case base i first no_run = inl refl
    loaded_lacking case base i first (halted _ y) = absurd (no_both p case x y)
    loaded_lacking case base i first (lacks q b j y also) =
        inr (refused_by b base j i (one_lack bases (host_wants p) b base j i (subst (λ z. IsFirstToLack bases (host_wants z) b j) (same_so p q x y) also) first))
    loaded_lacking case base i first (runs q z _ y is all it) = absurd (lacks_and_has q p base i y x all first)

    pub loaded_run : (case : Case) (image : Image) (output : List ℕ) (c : Case) → NoStreamFailed old new → IsRunOf p image → HostHas p
        → StepsTo image turns old output c → Loaded bases turns files old new case → ((case ≡ c) × PrintsAll output old.out new.out) ⊎ (case ≡ Memory)
    loaded_run case image output c calm of_image all d no_run = inr refl
    loaded_run case image output c calm of_image all d (halted _ y) = absurd (no_both p case x y)
    loaded_run case image output c calm of_image all d (lacks q b j y also) = absurd (lacks_and_has p q b j x y all also)
    loaded_run case image output c calm of_image all d (runs q z _ y is each it) =
        inl (image_steps law z image (same_run load p z image (subst (λ w. IsRunOf w z) (same_so p q x y) is) of_image) turns old new output case c calm d it)
