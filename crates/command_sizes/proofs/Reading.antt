-- What a module that comes of a file was made of: its text, its tree, and the interfaces that were read.
use Rattle.std.proofs.Common.{◌≡◌, ℕ, ◌+◌, Bool, true, false, List, [], ◌∷◌, length, map, Some, None, refl, sym, ◌∙◌, ap, subst}
use Rattle.std.specs.Prelude.{if◌then◌else◌}
use Rattle.mesa_base.specs.Outside.{Files}
use Rattle.mesa_types.specs.Typed.{Module}
use Rattle.syntax_trees.specs.declared.syntax.DirectoryItem.{DirectoryItem}
use Rattle.syntax_trees.specs.declared.syntax.Module as written
use Rattle.interface_records.specs.Faces.{iodefs}
use Rattle.interface_records.specs.PlainTypes.{plain_interface}
use Rattle.interface_records.specs.Spelled.{InterfaceCanBeSpelled, InterfacesCanBeSpelled}
use Rattle.interface_records.specs.declared.interface.Interface.{Interface}
use Rattle.face_rules.proofs.Versions.{interface_grows}
use Rattle.spelled_laws.specs.Laws.{BuiltInFits, InterfacesFit}
use Rattle.command_rules.specs.checked_texts.specs.Asked.{asked, is_built_in}
use Rattle.command_rules.specs.checked_texts.specs.Texts.{Begins, Reads}
use Rattle.command_rules.specs.checked_texts.specs.declared.purpose.Purpose.TheVariants.{Program}
use Rattle.file_sizes.specs.Sizes.{total, interface_size}
use Rattle.object_sizes.specs.TextSizes.{AreGiven, files_size}
use Rattle.command_rules.specs.Case.{Case, Absent}
use Rattle.command_rules.specs.Forms.{interface_file}
use Rattle.command_rules.specs.Modules as rules
use Rattle.command_rules.specs.Modules.{Begun, Checks, Decodes, begun, checked, is_file, interface_for, module_in, program_of}
use Rattle.command_rules.specs.Passes.{Outcome, Has, Trail, FromFile, held, Follows, went, given, each}
use Rattle.command_sizes.specs.Sum.{bytes_of, bytes_asked}
use Rattle.command_sizes.proofs.Versions.{as_long}

pub has_is : {A : Type 0} (a b : A) → ◌≡◌ {A = Outcome Case A} (Has a) (Has b) → a ≡ b
has_is a b e = cc

-- an interface that was read for an item of a DIRECTORY
record IsRead (files : Files) (d : DirectoryItem) (i : Interface) : Type 0 where
  built_in : is_built_in d ≡ true → i ≡ iodefs
  long : (if is_built_in d then 0 else interface_size i) ≡ bytes_asked files (asked d)
  spelled : InterfaceCanBeSpelled (plain_interface i)

-- those for all items
pub record AreRead (files : Files) (ds : List DirectoryItem) (is : List Interface) : Type 0 where
  pub given : AreGiven ds is
  pub long : files_size ds is ≡ total (bytes_asked files) (map asked ds)
  pub spelled : InterfacesCanBeSpelled (map plain_interface is)

-- a text that begins as a program
pub record IsBegun (files : Files) (file : List ℕ) (b : Begun) : Type 0 where
  pub held : files file ≡ Some b.0
  pub begins : Begins b.0 Program b.1

-- what the module in a file was made of
pub record IsMade (files : Files) (file : List ℕ) (m : Module) : Type 0 where
  pub text : List ℕ
  pub tree : written.Module
  pub interfaces : List Interface
  pub held : files file ≡ Some text
  pub begins : Begins text Program tree
  pub read : AreRead files tree.directory interfaces
  pub reads : Reads text interfaces m

-- ---- interfaces

module _ (interfaces_fit : InterfacesFit) (built_in_fits : BuiltInFits) (files : Files) where
  decoded : (file bytes : List ℕ) (i : Interface) → Decodes file bytes (Has i) → (length bytes ≡ interface_size i) × InterfaceCanBeSpelled (plain_interface i)
  decoded file bytes i (is_file version _ h) = (as_long version i bytes h, (interfaces_fit i).1 ((interface_grows version).fits i h.spells.fits.1))

  from_file : (base : List ℕ) (t : Trail) (i : Interface) → (interface_for (Some base)).comes (Some files) t (Has i)
      → (interface_size i ≡ bytes_asked files (Some base)) × InterfaceCanBeSpelled (plain_interface i)
  unfolding interface_for
  from_file base _ i (held bytes _ is h) = let d = decoded (interface_file base) bytes i h in (sym d.0 ∙ sym (ap bytes_of is), d.1)

  from_none : (t : Trail) (i : Interface) → (interface_for None).comes (Some files) t (Has i) → i ≡ iodefs
  unfolding interface_for
  from_none t i h = has_is i iodefs h.1

  one_read : (d : DirectoryItem) (t : Trail) (i : Interface) → (interface_for (asked d)).comes (Some files) t (Has i) → IsRead files d i
  one_read d t i h = let r = by (is_built_in d) h in record { built_in = r.0; long = r.1; spelled = r.2 }
    where
      by : (b : Bool) → (interface_for (if b then None else Some d.file)).comes (Some files) t (Has i)
          → (b ≡ true → i ≡ iodefs) × ((if b then 0 else interface_size i) ≡ bytes_asked files (if b then None else Some d.file)) × InterfaceCanBeSpelled (plain_interface i)
      by true k = let e = from_none t i k in
          ((λ _. e), refl, subst (λ (x : Interface). InterfaceCanBeSpelled (plain_interface x)) (sym e) ((interfaces_fit iodefs).1 built_in_fits))
      by false k = let e = from_file d.file t i k in ((λ f. cc), e.0, e.1)

  none_read : AreRead files [] []
  unfolding AreGiven files_size total InterfacesCanBeSpelled
  none_read = record { given = tt; long = refl; spelled = tt }

  one_more : (d : DirectoryItem) (ds : List DirectoryItem) (i : Interface) (is : List Interface) → IsRead files d i → AreRead files ds is → AreRead files (d ∷ ds) (i ∷ is)
  unfolding AreGiven files_size total InterfacesCanBeSpelled
  one_more d ds i is one all = record {
    given = (one.built_in, all.given);
    long = ap (λ n. n + files_size ds is) one.long ∙ ap (λ n. bytes_asked files (asked d) + n) all.long;
    spelled = (one.spelled, all.spelled);
  }

  module _ (d : DirectoryItem) (ds : List DirectoryItem) (again : (t : Trail) (is : List Interface) → (each interface_for (map asked ds)).comes (Some files) t (Has is) → AreRead files ds is) where
    then_read : (i : Interface) (t : Trail) (is : List Interface) → IsRead files d i
        → Follows (each interface_for (map asked ds)) (λ js. given (i ∷ js)) (Some files) t (Has is) → AreRead files (d ∷ ds) is
    then_read i _ is one (went t u js _ rest last) =
        subst (AreRead files (d ∷ ds)) (sym (has_is is (i ∷ js) last.1)) (one_more d ds i js one (again t js rest))

  pub all_read : (ds : List DirectoryItem) (t : Trail) (is : List Interface) → (each interface_for (map asked ds)).comes (Some files) t (Has is) → AreRead files ds is
  unfolding each
  all_read [] t is h = subst (AreRead files []) (sym (has_is is [] h.1)) none_read
  all_read (d ∷ ds) _ is (went t u i _ first rest) = then_read d ds (all_read ds) i u is (one_read d t i first) rest

  -- ---- modules

  begins_so : (file bytes : List ℕ) (b : Begun) → files file ≡ Some bytes → rules.Begins file Program bytes (Has b) → IsBegun files file b
  begins_so file bytes _ is (begun tree h) = record { held = is; begins = h }

  from_text : (file : List ℕ) (t : Trail) (b : Begun) → FromFile file (Absent file) (rules.Begins file Program) (Some files) t (Has b) → IsBegun files file b
  from_text file _ b (held bytes _ is h) = begins_so file bytes b is h

  checked_so : (file bytes : List ℕ) (is : List Interface) (m : Module) → Checks file bytes is (Has m) → Reads bytes is m
  checked_so file bytes is m (checked _ h) = h

  from_program : (file : List ℕ) (b : Begun) (t : Trail) (m : Module) → IsBegun files file b → (program_of file b).comes (Some files) t (Has m) → IsMade files file m
  unfolding program_of
  from_program file b _ m start (went t u is _ asked last) = record {
    text = b.0;
    tree = b.1;
    interfaces = is;
    held = start.held;
    begins = start.begins;
    read = all_read (b.1).directory t is asked;
    reads = checked_so file b.0 is m last.1;
  }

  pub made_so : (file : List ℕ) (t : Trail) (m : Module) → (module_in file).comes (Some files) t (Has m) → IsMade files file m
  unfolding module_in
  made_so file _ m (went t u b _ first rest) = from_program file b u m (from_text file t b first) rest
