-- For words, files and an input that are told one case comes where no call failed, want of memory aside.
use Rattle.std.proofs.Common.{◌≡◌, ◌≢◌, ℕ, List, Some, refl, subst}
use Rattle.mesa_base.specs.Outside.{Shelf, Files}
use Rattle.depth_laws.specs.Laws.{DepthsDoNotMatter}
use Rattle.loader_rules.specs.Laws.{LoadsAreAlike}
use Rattle.command_rules.specs.Binding.{bound_in}
use Rattle.command_rules.specs.Case.{Case, Memory, Usage}
use Rattle.command_rules.specs.Comes.{Compiles, Defines, Binds, Loads, Goes, Shows, Plans, ShowsEscapes, Upgrades, Exercises, Comes}
use Rattle.command_rules.specs.Complete.{NoFault, OneCaseComes}
use Rattle.command_rules.specs.Ends.{TellsInput}
use Rattle.command_rules.specs.Exercise.{chain}
use Rattle.command_rules.specs.Forms.{OfConfig, Form, Compile, Define, Bind, Run, Go, Show, Upgrade, Exercise, Plan, Survey, HasForm, HasNoForm, kind_file, module_file}
use Rattle.command_rules.specs.Listing.{listing_in}
use Rattle.command_rules.specs.Modules.{interface_in, module_in}
use Rattle.command_rules.specs.Planning.{plan_in}
use Rattle.command_rules.specs.Surveying.{survey_in}
use Rattle.command_rules.specs.Worlds.{Scene}
use Rattle.command_laws.specs.Laws.{PassesAreExact}
use Rattle.command_laws.proofs.Came.{streams}
use Rattle.command_laws.proofs.Exercising.{one_exercised}
use Rattle.command_laws.proofs.Going.{goes_so, one_went}
use Rattle.command_laws.proofs.Loading.{loads_so, one_loaded}
use Rattle.command_laws.proofs.Making.{OfCompile, OfDefine, OfBind, compile_made, define_made, bind_made, compiles_likely, defines_likely, binds_likely, one_made}
use Rattle.command_laws.proofs.OneForm.{one_form}
use Rattle.command_laws.proofs.Showing.{prints_so, one_printed, upgrades_so, one_renewed}

-- what comes of a form
abbrev pub FormComes : Form → (folder folder' : Shelf) → (old new : Scene) → Case → Type 0
FormComes (Compile base) folder folder' old new case = Compiles base folder folder' case
FormComes (Define base stamp) folder folder' old new case = Defines base stamp folder folder' case
FormComes (Bind base) folder folder' old new case = Binds base folder folder' case
FormComes (Run bases turns) folder folder' old new case = Loads bases turns folder folder' old new case
FormComes (Go source base turns) folder folder' old new case = Goes source base turns folder folder' old new case
FormComes (Show kind base) folder folder' old new case = Shows kind base folder folder' old new case
FormComes (Upgrade kind base) folder folder' old new case = Upgrades kind base folder folder' case
FormComes (Exercise links turns) folder folder' old new case = Exercises links turns old new case
FormComes (Plan bases) folder folder' old new case = Plans bases folder folder' old new case
FormComes (Survey base) folder folder' old new case = ShowsEscapes base folder folder' old new case

pub data Meets (words : List (List ℕ)) (folder folder' : Shelf) (old new : Scene) : Case → Type 0 where
  no_form : HasNoForm words → Meets words folder folder' old new Usage
  of_form : (form : Form) (case : Case) → HasForm words form → FormComes form folder folder' old new case → Meets words folder folder' old new case

pub meets : (words : List (List ℕ)) (folder folder' : Shelf) (old new : Scene) (case : Case) → Comes words folder folder' old new case
    → Meets words folder folder' old new case
meets words folder folder' old new case (Comes.usage none here same) = no_form none
meets words folder folder' old new case (Comes.compiles base _ form it same) = of_form (Compile base) case form it
meets words folder folder' old new case (Comes.defines base stamp _ form it same) = of_form (Define base stamp) case form it
meets words folder folder' old new case (Comes.binds base _ form it same) = of_form (Bind base) case form it
meets words folder folder' old new case (Comes.loads bases turns _ form it) = of_form (Run bases turns) case form it
meets words folder folder' old new case (Comes.goes source base turns _ form it) = of_form (Go source base turns) case form it
meets words folder folder' old new case (Comes.shows kind base _ form it) = of_form (Show kind base) case form it
meets words folder folder' old new case (Comes.upgrades kind base _ form it same) = of_form (Upgrade kind base) case form it
meets words folder folder' old new case (Comes.exercises links turns _ form it here) = of_form (Exercise links turns) case form it
meets words folder folder' old new case (Comes.plans bases _ form it) = of_form (Plan bases) case form it
meets words folder folder' old new case (Comes.surveys base _ form it) = of_form (Survey base) case form it

met_so : (words : List (List ℕ)) (folder folder' : Shelf) (old new : Scene) (form : Form) (case : Case) → HasForm words form
    → Meets words folder folder' old new case → FormComes form folder folder' old new case
met_so words folder folder' old new form case has (no_form none) = absurd (none form has)
met_so words folder folder' old new form case has (of_form other _ also it) =
    subst (λ f. FormComes f folder folder' old new case) (one_form words other form also has) it

-- what comes under words of a form comes of it
pub of_its_form : (words : List (List ℕ)) (folder folder' : Shelf) (old new : Scene) (form : Form) (case : Case) → HasForm words form
    → Comes words folder folder' old new case → FormComes form folder folder' old new case
of_its_form words folder folder' old new form case has comes =
    met_so words folder folder' old new form case has (meets words folder folder' old new case comes)

module _ (exact : PassesAreExact) (law : DepthsDoNotMatter) (alike : LoadsAreAlike) where
  one_of_form : (form : Form) (folder folder' last : Shelf) (old new new' : Scene) (files : Files) (input : List ℕ) (c d : Case) → folder.files ≡ Some files
      → TellsInput old input → NoFault folder folder' old new → NoFault folder last old new' → c ≢ Memory → d ≢ Memory
      → FormComes form folder folder' old new c → FormComes form folder last old new' d → c ≡ d
  one_of_form (Compile base) folder folder' last old new new' files input c d e i calm still m n x y =
      one_made (module_in (module_file base)) (OfCompile base) files (exact.modules (module_file base)) (compiles_likely base) folder folder' last c d m n
      (compile_made base files folder folder' c e calm.no_folder_fault x) (compile_made base files folder last d e still.no_folder_fault y)
  one_of_form (Define base stamp) folder folder' last old new new' files input c d e i calm still m n x y =
      one_made (interface_in (module_file base) stamp) (OfDefine base) files (exact.definitions (module_file base) stamp) (defines_likely base) folder folder' last c d m n
      (define_made base stamp files folder folder' c e calm.no_folder_fault x) (define_made base stamp files folder last d e still.no_folder_fault y)
  one_of_form (Bind base) folder folder' last old new new' files input c d e i calm still m n x y =
      one_made (bound_in base) (OfBind base) files (exact.bound base) (binds_likely base) folder folder' last c d m n
      (bind_made base files folder folder' c e calm.no_folder_fault x) (bind_made base files folder last d e still.no_folder_fault y)
  one_of_form (Run bases turns) folder folder' last old new new' files input c d e i calm still m n x y =
      one_loaded law alike bases turns files (exact.runs bases) old new new' input c d i (streams folder folder' old new calm) (streams folder last old new' still) m n
      (loads_so bases turns files folder folder' old new c e calm.no_folder_fault x) (loads_so bases turns files folder last old new' d e still.no_folder_fault y)
  one_of_form (Go source base turns) folder folder' last old new new' files input c d e i calm still m n x y =
      one_went source base turns files (exact.sources source base) folder folder' last old new new' input c d i calm still m n
      (goes_so source base turns files folder folder' old new c e calm.no_folder_fault x) (goes_so source base turns files folder last old new' d e still.no_folder_fault y)
  one_of_form (Show kind base) folder folder' last old new new' files input c d e i calm still m n x y =
      one_printed (listing_in kind (kind_file kind base)) files (exact.listings kind (kind_file kind base)) old new new' c d m n
      (prints_so (listing_in kind (kind_file kind base)) files folder folder' old new c e calm.no_folder_fault calm.no_out_fault x)
      (prints_so (listing_in kind (kind_file kind base)) files folder last old new' d e still.no_folder_fault still.no_out_fault y)
  one_of_form (Upgrade kind base) folder folder' last old new new' files input c d e i calm still m n x y =
      one_renewed kind base files folder folder' last c d m n
      (upgrades_so kind base files folder folder' c e calm.no_folder_fault x) (upgrades_so kind base files folder last d e still.no_folder_fault y)
  one_of_form (Exercise links turns) folder folder' last old new new' files input c d e i calm still m n x y =
      one_exercised links turns (exact.sources OfConfig chain) old new new' c d calm.no_out_fault still.no_out_fault m n x y
  one_of_form (Plan bases) folder folder' last old new new' files input c d e i calm still m n x y =
      one_printed (plan_in bases) files (exact.plans bases) old new new' c d m n
      (prints_so (plan_in bases) files folder folder' old new c e calm.no_folder_fault calm.no_out_fault x)
      (prints_so (plan_in bases) files folder last old new' d e still.no_folder_fault still.no_out_fault y)
  one_of_form (Survey base) folder folder' last old new new' files input c d e i calm still m n x y =
      one_printed (survey_in base) files (exact.surveys base) old new new' c d m n
      (prints_so (survey_in base) files folder folder' old new c e calm.no_folder_fault calm.no_out_fault x)
      (prints_so (survey_in base) files folder last old new' d e still.no_folder_fault still.no_out_fault y)

  agree : (words : List (List ℕ)) (folder folder' last : Shelf) (old new new' : Scene) (files : Files) (input : List ℕ) (c d : Case) → folder.files ≡ Some files
      → TellsInput old input → NoFault folder folder' old new → NoFault folder last old new' → c ≢ Memory → d ≢ Memory
      → Comes words folder last old new' d → Meets words folder folder' old new c → Meets words folder last old new' d → c ≡ d
  agree words folder folder' last old new new' files input c d e i calm still m n comes (no_form none) (no_form also) = refl
  agree words folder folder' last old new new' files input c d e i calm still m n comes (no_form none) (of_form form _ has y) = absurd (none form has)
  agree words folder folder' last old new new' files input c d e i calm still m n comes (of_form form _ has x) y =
      one_of_form form folder folder' last old new new' files input c d e i calm still m n x (of_its_form words folder last old new' form d has comes)

  pub one_case : OneCaseComes
  one_case words folder folder' last old new new' files input c d e i calm still x y m n =
      agree words folder folder' last old new new' files input c d e i calm still m n y
      (meets words folder folder' old new c x) (meets words folder last old new' d y)
