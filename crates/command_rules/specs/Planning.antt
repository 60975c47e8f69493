-- From texts, and the files that were made of them before, to their plan (rule of this project).
use Rattle.std.specs.Prelude.{ℕ, suc, List, [], ◌∷◌, ◌++◌, map, flat_map, filter_map, Option, None, Some, slice_get, unwrap_or, option_map, length, codes}
use Rattle.syntax_trees.specs.declared.syntax.Module.{Module}
use Rattle.syntax_trees.specs.declared.syntax.ModuleKind.{ModuleKind}
use Rattle.syntax_trees.specs.declared.syntax.ModuleKind.TheVariants as kind
use Rattle.interface_records.specs.declared.interface.Interface as interfaces
use Rattle.object_files.specs.declared.object.Object as objects
use Rattle.checked_texts.specs.Texts.{HasNoTree}
use Rattle.checked_texts.specs.declared.text_fault.TextFault.{TextFault}
use Rattle.checked_texts.specs.written_trees.specs.Laws.{IsTreeOf}
use Rattle.include_rules.specs.Naming.{naming}
use Rattle.include_rules.specs.Order.{IsOrder, IsCycle}
use Rattle.include_rules.specs.Stale.{Faced, faces_of, stale}
use Rattle.include_rules.specs.Stale as faced
use Rattle.include_rules.specs.declared.entries.TextEntry.{TextEntry}
use Rattle.command_rules.specs.Case.{Case, Refused, Absent, Text}
use Rattle.command_rules.specs.declared.trouble.Trouble.TheVariants.{Cycle}
use Rattle.command_rules.specs.Forms.{FileKind, InterfaceFile, ObjectFile, kind_file, module_file}
use Rattle.command_rules.specs.Listing.{Holds}
use Rattle.command_rules.specs.Passes.{Outcome, Has, Stops, Pass, decided, given, from_file, if_there, and_then, each}
use Rattle.command_rules.specs.Printing.{Report}
use Rattle.command_rules.specs.Writing.{OfInterface, OfObject}

-- ---- the texts: of each its tree, or its lexical or syntax fault

pub data Parses (file bytes : List ℕ) : Outcome Case Module → Type 0 where
  parsed : (tree : Module) → IsTreeOf bytes tree → Parses file bytes (Has tree)
  refused : (why : TextFault) → HasNoTree bytes why → Parses file bytes (Stops (Refused file (Text why)))

unfoldable pub text_in : (base : List ℕ) → Pass Case TextEntry
text_in base =
    and_then (from_file (module_file base) (Absent (module_file base)) (Parses (module_file base))) (λ tree.
    given (record { base = base; «module» = tree }))

-- ---- the files that were made of them

-- an interface of definitions, an object of a program
unfoldable pub kind_made : ModuleKind → FileKind
kind_made (kind.Interface place opens definitions) = InterfaceFile
kind_made (kind.Program place imports exports opens inner) = ObjectFile

abbrev pub file_made : TextEntry → List ℕ
file_made t = kind_file (kind_made t.module.kind) t.base

-- what is looked at of such a file, or its first fault; it may not be there
pub data Faces (number : ℕ) (file : List ℕ) (kind : FileKind) : Option (List ℕ) → Outcome Case (Option Faced) → Type 0 where
  not_there : Faces number file kind None (Has None)
  interface : (bytes : List ℕ) (i : interfaces.Interface) → Holds file bytes kind (Has (OfInterface i)) → Faces number file kind (Some bytes) (Has (Some (faced.OfInterface i.face)))
  object : (bytes : List ℕ) (o : objects.Object) → Holds file bytes kind (Has (OfObject o)) → Faces number file kind (Some bytes) (Has (Some (faced.OfObject number (faces_of o.shape))))
  is_none : (bytes : List ℕ) (case : Case) → Holds file bytes kind (Stops case) → Faces number file kind (Some bytes) (Stops case)

unfoldable pub faces_in : ℕ × TextEntry → Pass Case (Option Faced)
faces_in (number, t) = if_there (file_made t) (Faces number (file_made t) (kind_made t.module.kind))

-- the texts with their numbers, from this one on
unfoldable pub numbered : ℕ → List TextEntry → List (ℕ × TextEntry)
numbered n [] = []
numbered n (t ∷ texts) = (n, t) ∷ numbered (suc n) texts

-- ---- the plan

-- what is read: the texts, and for each the file that was made of it, if it is there
pub record Gathered : Type 0 where
  pub texts : List TextEntry
  pub made : List (Option Faced)

unfoldable pub gathered_in : (bases : List (List ℕ)) → Pass Case Gathered
gathered_in bases =
    and_then (each text_in bases) (λ texts.
    and_then (each faces_in (numbered 0 texts)) (λ made.
    given (record { texts = texts; made = made })))

-- the base of the text of this number
abbrev pub base_at : List TextEntry → ℕ → List ℕ
base_at texts k = unwrap_or (option_map (λ (t : TextEntry). t.base) (slice_get texts k)) []

-- the files that are not there, in the order of the texts
unfoldable pub missing_files : List TextEntry → List (Option Faced) → List (List ℕ)
missing_files [] made = []
missing_files (t ∷ texts) [] = []
missing_files (t ∷ texts) (None ∷ made) = file_made t ∷ missing_files texts made
missing_files (t ∷ texts) (Some f ∷ made) = missing_files texts made

abbrev pub line : List ℕ → List ℕ → List ℕ
line word name = word ++ (codes " " ++ (name ++ codes "\n"))

-- `order NAME` for each text, `stale NAME` for each that is stale, `missing FILE` for each file that is not there
unfoldable pub plan_text : (texts : List TextEntry) → (order stale : List ℕ) → (missing : List (List ℕ)) → List ℕ
plan_text texts order stale missing =
    flat_map (λ k. line (codes "order") (base_at texts k)) order
    ++ (flat_map (λ k. line (codes "stale") (base_at texts k)) stale
    ++ flat_map (line (codes "missing")) missing)

abbrev pub files_there : List (Option Faced) → List Faced
files_there made = filter_map (λ f. f) made

-- they have an order, and so a plan, or a cycle
pub data Concludes (g : Gathered) : Outcome Case Report → Type 0 where
  planned : (order : List ℕ) → IsOrder (naming g.texts) order
      → Concludes g (Has (record { text = plan_text g.texts order (stale (length g.texts) (files_there g.made)) (missing_files g.texts g.made); missing = missing_files g.texts g.made }))
  -- the line is that of the first text of the cycle
  circling : (k : ℕ) (rest : List ℕ) → IsCycle (naming g.texts) (k ∷ rest)
      → Concludes g (Stops (Refused (module_file (base_at g.texts k)) (Cycle (map (base_at g.texts) (k ∷ rest)))))

unfoldable pub plan_in : (bases : List (List ℕ)) → Pass Case Report
plan_in bases = and_then (gathered_in bases) (λ g. decided (Concludes g))
