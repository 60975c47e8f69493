-- A signal that nothing caught in a run of an image's file stands in each survey of that file.
use Rattle.std.proofs.Common.{◌≡◌, ℕ, zero, suc, List, [], ◌∷◌, ◌++◌, flat_map, All, Option, Some, Result, codes, refl, sym, ◌∙◌, ap, subst, append_assoc, arith}
use Rattle.std.specs.Prelude.{false, Contains}
use Rattle.std.proofs.lemmas.Option.{same_Some}
use Rattle.mesa_base.specs.Outside.{Shelf, Files}
use Rattle.code_blocks.proofs.Lists.{all_get}
use Rattle.interface_records.specs.Hosts.{IsHostItem}
use Rattle.signaller.specs.declared.signal_id.SignalId.{SignalId}
use Rattle.object_files.specs.declared.image.Image.{Image}
use Rattle.object_rules.specs.Exact.{IsSameImage}
use Rattle.object_rules.specs.ImageFiles.{IsImageFile}
use Rattle.object_rules.specs.ImageForms.{ImagePart, parts_of_image}
use Rattle.object_rules.specs.Parts.{IsWhole}
use Rattle.object_rules.proofs.ImageFileLaws.{one_image}
use Rattle.machine_rules.specs.State.{Ended}
use Rattle.machine_rules.specs.Steps.{Steps}
use Rattle.machine_rules.specs.declared.end.End.{End}
use Rattle.machine_rules.specs.declared.end.End.TheVariants as end
use Rattle.machine_rules.specs.Laws.{CanRun}
use Rattle.machine_ready.specs.Laws.{OrderedCanRun}
use Rattle.read_files.specs.Laws.{ImagesOfFilesAreInOrder}
use Rattle.survey_rules.specs.Escapes.{Escapes}
use Rattle.survey_rules.specs.Laws.{UncaughtSignalsEscape}
use Rattle.depth_laws.specs.Laws.{DepthsDoNotMatter}
use Rattle.depth_laws.proofs.Escaping.{same_escapes}
use Rattle.command_rules.specs.frame_machine.specs.declared.outcome.Outcome.{Outcome}
use Rattle.command_rules.specs.frame_machine.specs.declared.outcome.RunFault.{RunFault}
use Rattle.command_rules.specs.Case.{Case, Uncaught, Absent}
use Rattle.command_rules.specs.Comes.{Loads, not_read}
use Rattle.command_rules.specs.Ends.{Runs, RunsTo, ended, read_fault, write_fault}
use Rattle.command_rules.specs.Forms.{image_file}
use Rattle.command_rules.specs.Listing as listing
use Rattle.command_rules.specs.Loading.{HostHas, IsRunOf, Joins, host_wants, images_in, runnable_in}
use Rattle.command_rules.specs.Objects.{HoldsImage, IsImageWith, is_image, image_in}
use Rattle.command_rules.specs.Passes.{Outcome as Came, Has, Trail, Pass, FromFile, held, Follows, went, given, decided, and_then, each}
use Rattle.command_rules.specs.Passing.{Fails, refused}
use Rattle.command_rules.specs.Printing.{Report}
use Rattle.command_rules.specs.Shown.{Names, case_of_end, case_of_run, image_names, shown, signal_of}
use Rattle.command_rules.specs.Surveying.{Surveys, surveyed, escape_line, survey_text, survey_in}
use Rattle.command_rules.specs.Worlds.{Scene}
use Rattle.command_laws.specs.Laws.{HasLine, UncaughtIsSurveyed}
use Rattle.command_rules.proofs.Stopping.{runnable_so}
use Rattle.command_laws.proofs.Alike.{same_image}
use Rattle.command_laws.proofs.Loading.{names_same}

-- ---- the line of a signal in a survey

in_lines : {A : Type 0} (line : A → List ℕ) (xs : List A) (x : A) → Contains xs x → HasLine (flat_map line xs) (line x)
in_lines line [] y (k, less, e) = absurd (omega (arith, less))
in_lines line (x ∷ xs) y (zero, less, e) = record { before = []; after = flat_map line xs; is = ap (λ z. line z ++ flat_map line xs) e }
in_lines line (x ∷ xs) y (suc k, less, e) =
    let r = in_lines line xs y (k, omega (arith, less), e) in record {
      before = line x ++ r.before;
      after = r.after;
      is = ap (λ l. line x ++ l) r.is ∙ sym (append_assoc (line x) r.before (line y ++ r.after));
    }

in_text : (names : Names) (signals : List SignalId) (s : SignalId) → Contains signals s → HasLine (survey_text names signals) (escape_line names s)
unfolding survey_text
in_text names [] s (k, less, e) = absurd (omega (arith, less))
in_text names (x ∷ signals) s h = in_lines (escape_line names) (x ∷ signals) s h

-- ---- what is not read ends no call with a signal

fails_quiet : (bases : List (List ℕ)) (folder folder' : Shelf) (name : List ℕ) → Fails (runnable_in bases) folder folder' (Uncaught name) → ⊥
fails_quiet bases folder folder' name (refused trail _ comes missed called) = runnable_so bases folder.files trail (Uncaught name) comes

-- ---- one image alone is that of its file

record Alone (base : List ℕ) (files : Option Files) (parts : List ImagePart) : Type 0 where
  part : ImagePart
  is : parts ≡ part ∷ []
  trail : Trail
  comes : (image_in (image_file base)).comes files trail (Has part)

has_is : {A : Type 0} (a b : A) → ◌≡◌ {A = Came Case A} (Has a) (Has b) → a ≡ b
has_is a b e = cc

its_parts : (bases : List (List ℕ)) (a parts : List ImagePart) → Joins bases a (Has parts) → parts ≡ a
its_parts bases _ _ (Joins.alone p) = refl
its_parts bases _ _ (Joins.joined p q parts images image are l) = refl

abbrev read_one : (base : List ℕ) → Pass Case ImagePart
read_one base = image_in (image_file base)

none_more : (p : ImagePart) (files : Option Files) (t : Trail) (a : List ImagePart) → Follows (given {C = Case} []) (λ bs. given (p ∷ bs)) files t (Has a)
    → a ≡ p ∷ []
none_more p files _ a (went front more bs _ at next) = has_is a (p ∷ bs) next.1 ∙ ap (λ l. p ∷ l) (has_is bs [] at.1)

one_read : (base : List ℕ) (files : Option Files) (t : Trail) (a : List ImagePart)
    → Follows (read_one base) (λ p. and_then (given []) (λ bs. given (p ∷ bs))) files t (Has a) → Alone base files a
one_read base files _ a (went front more p _ at next) = record { part = p; is = none_more p files more a next; trail = front; comes = at }

joined_alone : (base : List ℕ) (files : Option Files) (t : Trail) (parts : List ImagePart)
    → Follows (each (λ b. image_in (image_file b)) (base ∷ [])) (λ all. decided (Joins (base ∷ []) all)) files t (Has parts) → Alone base files parts
unfolding each
joined_alone base files _ parts (went front more a _ at next) =
    let h = one_read base files front a at in
    record { part = h.part; is = its_parts (base ∷ []) a parts next.1 ∙ h.is; trail = h.trail; comes = h.comes }

alone_of : (base : List ℕ) (files : Option Files) (t : Trail) (parts : List ImagePart) → (runnable_in (base ∷ [])).comes files t (Has parts)
    → Alone base files parts
unfolding runnable_in images_in
alone_of base files t parts h = joined_alone base files t parts h

its_image : (p : ImagePart) (image : Image) → IsRunOf (p ∷ []) image → IsImageWith p image
its_image p image (IsRunOf.alone _ _ is) = is

its_wants : (p : ImagePart) → HostHas (p ∷ []) → All IsHostItem p.wanted
unfolding host_wants
its_wants p all = all zero p.wanted (omega arith)

-- ---- a run that ends with a signal

record Raised (image : Image) (names : Names) (name : List ℕ) : Type 0 where
  signal : SignalId
  escapes : Escapes image signal
  named : shown names (signal_of signal) ≡ name

record IsUncaught (names : Names) (name : List ℕ) (e : End) : Type 0 where
  signal : SignalId
  is : e ≡ end.Uncaught signal
  named : shown names (signal_of signal) ≡ name

abbrev told_of : Case → List ℕ
told_of (Uncaught name) = name
told_of _ = []

abbrev is_uncaught : Case → Type 0
is_uncaught (Uncaught name) = Unit {0}
is_uncaught _ = ⊥

uncaught_end : (names : Names) (name : List ℕ) (e : End) → Uncaught name ≡ case_of_end names e → IsUncaught names name e
uncaught_end names name end.Done is = absurd (subst is_uncaught is tt)
uncaught_end names name end.Spent is = absurd (subst is_uncaught is tt)
uncaught_end names name end.FrameLimit is = absurd (subst is_uncaught is tt)
uncaught_end names name (end.Uncaught s) is = record { signal = s; is = refl; named = sym (ap told_of is) }

module _ (law : UncaughtSignalsEscape) (depths : DepthsDoNotMatter) (runs : OrderedCanRun) (order : ImagesOfFilesAreInOrder) where
  -- of an image whose twin can be run
  raised : (image twin : Image) → IsSameImage image twin → CanRun twin → (names : Names) (turns : ℕ) (old new : Scene) (name : List ℕ) (r : Result Outcome RunFault)
      → Runs image turns old new r → Uncaught name ≡ case_of_run names r → Raised twin names name
  raised image twin same can names turns old new name _ (ended outcome counts) is =
      let u = uncaught_end names name outcome.end is in
      let c = counts.2 in
      let moved = (depths image twin same).steps c.input false turns c.output (Ended outcome.end) outcome.left c.taken counts.0 c.runs in
      let steps = subst (λ e. Steps twin c.input false turns c.output (Ended e) outcome.left c.taken counts.0) u.is moved in
      record { signal = u.signal; escapes = law twin can c.input false turns c.output u.signal outcome.left c.taken counts.0 steps; named = u.named }
  raised image twin same can names turns old new name _ (read_fault rose counts) is = absurd (subst is_uncaught is tt)
  raised image twin same can names turns old new name _ (write_fault rose counts) is = absurd (subst is_uncaught is tt)

  -- what a file holds can be run where its wanted items are the host's
  can_run : (version : ℕ) (i : Image) (bytes : List ℕ) → IsImageFile version i bytes → All IsHostItem i.wanted → CanRun i
  can_run version i bytes h all = runs i (order version i bytes h) (λ n o is. (all_get IsWhole i.modules n o is h.whole).valid) all

  -- ---- the survey of the same file

  told : (file bytes : List ℕ) (version : ℕ) (i : Image) → IsImageFile version i bytes → (name : List ℕ) → Raised i (image_names i) name → (r : Report)
      → Surveys file bytes (Has r) → HasLine r.text (codes "escapes " ++ (name ++ codes "\n"))
  told file bytes version i h name it _ (surveyed x signals (listing.is_image other _ k) s) =
      let same = (one_image version other i x bytes h k).1 in
      let at = in_text (image_names x) signals it.signal (s.all it.signal (same_escapes i x same it.signal it.escapes)) in
      let called = ap (λ names. shown names (signal_of it.signal)) (sym (names_same i x same (depths i x same))) ∙ it.named in
      subst (λ n. HasLine (survey_text (image_names x) signals) (codes "escapes " ++ (n ++ codes "\n"))) called at

  both : (file : List ℕ) (files : Files) (t u : Trail) (r : Report) (parts : ImagePart) → FromFile file (Absent file) (Surveys file) (Some files) t (Has r)
      → FromFile file (Absent file) (HoldsImage file) (Some files) u (Has parts) → (image : Image) → IsImageWith parts image → All IsHostItem parts.wanted
      → (turns : ℕ) (old new : Scene) (name : List ℕ) → RunsTo (image_names image) image turns old new (Uncaught name)
      → HasLine r.text (codes "escapes " ++ (name ++ codes "\n"))
  both file files _ _ r _ (held bytes _ at s) (held others _ also (is_image version i h)) image is all turns old new name it =
      let same = same_image (parts_of_image i) image i is (record { its = refl; whole = h.whole }) in
      let its = subst (λ b. IsImageFile version i b) (same_Some others bytes (sym also ∙ at)) h in
      let there = raised image i same (can_run version i bytes its all) (image_names image) turns old new name it.end it.runs it.is_case in
      told file bytes version i its name (subst (λ n. Raised i n name) (names_same image i same (depths image i same)) there) r s

  pub uncaught_is_surveyed : UncaughtIsSurveyed
  unfolding survey_in image_in
  uncaught_is_surveyed base turns files trail r folder folder' old new name e s (not_read _ why onward same) =
      absurd (fails_quiet (base ∷ []) folder folder' name why)
  uncaught_is_surveyed base turns files trail r folder folder' old new name e s (Loads.ran parts image _ gives is all it) =
      let a = alone_of base folder.files gives.trail parts gives.comes in
      both (image_file base) files trail a.trail r a.part s (subst (λ f. (image_in (image_file base)).comes f a.trail (Has a.part)) e a.comes)
      image (its_image a.part image (subst (λ z. IsRunOf z image) a.is is)) (its_wants a.part (subst (λ z. HostHas z) a.is all)) turns old new name it
