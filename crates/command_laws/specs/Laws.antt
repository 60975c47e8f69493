-- Each pass is exact, and what a call answers follows from its case (rule of this project).
use Rattle.std.specs.Prelude.{◌≡◌, ◌↔◌, ℕ, ◌≤◌, List, [], ◌∷◌, ◌++◌, length, Option, Some, codes}
use Rattle.mesa_base.specs.Outside.{Shelf, Files, Rose}
use Rattle.mesa_base.specs.declared.limits.TheConstants.{FILE_BYTES}
use Rattle.mesa_base.specs.declared.status.Status.{Status}
use Rattle.mesa_types.specs.Typed.{Module}
use Rattle.source_meaning.specs.Program.{Program}
use Rattle.config_rules.specs.declared.tree.Tree.{Tree}
use Rattle.agreement_rules.specs.Stands.{WantsTheHost}
use Rattle.command_rules.specs.bound_images.specs.Programs.{program_of}
use Rattle.command_rules.specs.built_runs.specs.Linked.{IsLinkedFrom}
use Rattle.object_files.specs.declared.image.Image.{Image}
use Rattle.command_rules.specs.Binding.{bound_in}
use Rattle.command_rules.specs.Case.{Case, Uncaught}
use Rattle.command_rules.specs.Comes.{Comes, Loads}
use Rattle.command_rules.specs.Complete.{Answered, Tells}
use Rattle.command_rules.specs.Configurations.{Configured, config_in, source_in}
use Rattle.command_rules.specs.Ends.{Ends, RunsTo, TellsInput}
use Rattle.command_rules.specs.Forms.{FileKind, Form, HasForm, Source}
use Rattle.command_rules.specs.Listing.{Holds, listing_in, value_in}
use Rattle.command_rules.specs.Loading.{runnable_in}
use Rattle.command_rules.specs.Modules.{interface_for, interface_in, module_in}
use Rattle.command_rules.specs.Objects.{image_in, object_in}
use Rattle.command_rules.specs.Passes.{Outcome, Has, Stops, IsExact, Trail}
use Rattle.command_rules.specs.Planning.{plan_in}
use Rattle.command_rules.specs.Printing.{Report}
use Rattle.command_rules.specs.Shown.{image_names}
use Rattle.command_rules.specs.Surveying.{survey_in}
use Rattle.command_rules.specs.Worlds.{Scene, World}
use Rattle.command_rules.specs.Writing.{Value, IsFileOf, size_of}
use Rattle.line_pieces.specs.Outputs.{HasFaulted}

-- one stop, or values that have one file in version 2: they differ in the depths of instructions at most
abbrev pub AreAlike : Outcome Case Value → Outcome Case Value → Type 0
AreAlike (Has v) (Has w) = (size_of v ≡ size_of w) × ((bytes : List ℕ) → IsFileOf v bytes ↔ IsFileOf w bytes)
AreAlike (Stops c) (Stops d) = c ≡ d
AreAlike _ _ = ⊥

abbrev pub ValuesAreAlike : FileKind → (file : List ℕ) → Type 0
ValuesAreAlike kind file = (files : Files) (t u : Trail) (o r : Outcome Case Value) → (value_in kind file).comes (Some files) t o
    → (value_in kind file).comes (Some files) u r → (t ≡ u) × AreAlike o r

-- of files that are told one thing comes, after the same files
pub record PassesAreExact : Type 0 where
  pub interfaces : (asked : Option (List ℕ)) → IsExact (interface_for asked)
  pub modules : (file : List ℕ) → IsExact (module_in file)
  pub definitions : (file : List ℕ) (stamp : ℕ) → IsExact (interface_in file stamp)
  pub configurations : (file : List ℕ) → IsExact (config_in file)
  pub objects : (file : List ℕ) → IsExact (object_in file)
  pub images : (file : List ℕ) → IsExact (image_in file)
  pub bound : (base : List ℕ) → IsExact (bound_in base)
  pub sources : (source : Source) (base : List ℕ) → IsExact (source_in source base)
  pub listings : (kind : FileKind) (file : List ℕ) → IsExact (listing_in kind file)
  pub plans : (bases : List (List ℕ)) → IsExact (plan_in bases)
  pub surveys : (base : List ℕ) → IsExact (survey_in base)
  pub runs : (bases : List (List ℕ)) → IsExact (runnable_in bases)
  pub values : (kind : FileKind) (file : List ℕ) → ValuesAreAlike kind file

-- what is configured has as many bases as modules, so that each module's object has its file
abbrev pub BasesFit : Type 0
BasesFit = (source : Source) (base : List ℕ) (files : Option Files) (trail : Trail) (c : Configured) → (source_in source base).comes files trail (Has c)
    → length c.bases ≡ length c.modules

-- what a file holds has as many bytes in version 2 as that file, and so is not too large
abbrev pub ValuesKeepTheirSize : Type 0
ValuesKeepTheirSize = (kind : FileKind) (file bytes : List ℕ) (v : Value) → Holds file bytes kind (Has v)
    → (size_of v ≡ length bytes) × (size_of v ≤ FILE_BYTES)

-- a command line has one form at most
abbrev pub WordsHaveOneForm : Type 0
WordsHaveOneForm = (words : List (List ℕ)) (f g : Form) → HasForm words f → HasForm words g → f ≡ g

-- neither the input nor `out` failed
pub record NoStreamFailed (old new : Scene) : Type 0 where
  pub no_input_fault : ¬ (Rose old.input.faults new.input.faults)
  pub no_out_fault : ¬ (HasFaulted old.out new.out)

-- over an input of bytes that are told, the runs of a program's images end in one way where no call failed
abbrev pub RunsEndOnce : Type 0
RunsEndOnce = (P : Program) (image other : Image) (turns : ℕ) (old new last : Scene) (input : List ℕ) (x y : Case) → TellsInput old input → NoStreamFailed old new
    → NoStreamFailed old last → Ends P image turns old new x → Ends P other turns old last y → x ≡ y

-- a case that comes of the words, with its status and line, is an answer
abbrev pub CasesAreAnswers : Type 0
CasesAreAnswers = (words : List (List ℕ)) (before after : World) (s : Status)
    → (case : Case) × Comes words before.folder after.folder before.scene after.scene case × Tells case before.err after.err s → Answered words before after s

-- how the machine runs an image that is linked from checked modules, and that wants nothing but the host's items, is how their program's run ends, by
-- the machine's very end
abbrev pub RunsAreMeant : Type 0
RunsAreMeant = (t : Tree) (modules : List Module) (image : Image) (turns : ℕ) (old new : Scene) (case : Case) → IsLinkedFrom t modules image → WantsTheHost image
    → (ran : RunsTo (image_names image) image turns old new case)
    → (e : Ends (program_of t modules) image turns old new case) × (e.machine.end ≡ ran.end)

-- among others the text has this line
pub record HasLine (text line : List ℕ) : Type 0 where
  pub before : List ℕ
  pub after : List ℕ
  pub is : text ≡ before ++ (line ++ after)

-- where `run` says that nothing caught a signal, each survey of the same file has the line of that signal. So where a survey says that no signal escapes, no
-- run of that file says so
abbrev pub UncaughtIsSurveyed : Type 0
UncaughtIsSurveyed = (base : List ℕ) (turns : ℕ) (files : Files) (trail : Trail) (r : Report) (folder folder' : Shelf) (old new : Scene) (name : List ℕ)
    → folder.files ≡ Some files → (survey_in base).comes (Some files) trail (Has r) → Loads (base ∷ []) turns folder folder' old new (Uncaught name)
    → HasLine r.text (codes "escapes " ++ (name ++ codes "\n"))
