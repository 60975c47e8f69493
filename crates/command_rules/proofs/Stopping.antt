-- What stops a pass: a file that is not there, or what one holds.
use Rattle.std.proofs.Common.{ℕ, List, [], ◌∷◌, map, Option, Some, None, sym, subst}
use Rattle.mesa_base.specs.Outside.{Files}
use Rattle.syntax_trees.specs.PlainSyntax.{syntax}
use Rattle.mesa_types.specs.Typed.{Module}
use Rattle.interface_records.specs.Faces.{iodefs}
use Rattle.interface_records.specs.declared.interface.Interface as records
use Rattle.cmesa_grammar.specs.Syntax.{Config}
use Rattle.config_rules.specs.Components.{components}
use Rattle.config_rules.specs.Through as through
use Rattle.config_rules.specs.Tree.{IsTree, IsSingle}
use Rattle.config_rules.specs.declared.tree.Tree.{Tree}
use Rattle.include_rules.specs.declared.entries.TextEntry.{TextEntry}
use Rattle.linked_programs.specs.bound_images.specs.Programs.{shape_of}
use Rattle.object_rules.specs.ImageForms.{ImagePart}
use Rattle.checked_texts.specs.Asked.{asks}
use Rattle.checked_texts.specs.declared.purpose.Purpose.{Purpose}
use Rattle.checked_texts.specs.declared.purpose.Purpose.TheVariants.{Program, Interface}
use Rattle.command_rules.specs.Binding.{object_of, objects_of, binding_of, bound_in}
use Rattle.command_rules.specs.Case.{Case, Done, Uncaught, Spent, FrameLimit, Refused, Absent, ReadFault, WriteFault, FolderFault, Memory, Usage, Trouble}
use Rattle.command_rules.specs.declared.trouble.Trouble.TheVariants.{Text, Tree as OfTree, File, Item, Unresolved, TooLarge, Cycle, Load}
use Rattle.command_rules.specs.Configurations.{config_in, source_in, tree_in, single_of, bases_of, component_in, modules_of, configuration_of, Grows, fault, Binds, bad, Configures, lexical, syntactic, no_base}
use Rattle.command_rules.specs.Forms.{Source, OfModule, OfConfig, FileKind, ImageFile, module_file, config_file, interface_file, object_file, image_file}
use Rattle.command_rules.specs.Listing.{Holds, no_interface, no_object, no_image, value_in, Lists, listing_in}
use Rattle.command_rules.specs.Loading.{Joins, images_in, runnable_in}
use Rattle.command_rules.specs.Modules as m
use Rattle.command_rules.specs.Modules.{interface_for, interfaces_for, Begun, begun_for, module_in, interface_in, definitions_of, Checks, Defines, Decodes, Begins, refused}
use Rattle.command_rules.specs.Objects.{HoldsObject, HoldsImage, object_in, image_in, shape_in}
use Rattle.command_rules.specs.Passes.{Outcome, Has, Stops, Trail, Pass, decided, given, FromFile, held, missing, from_file, IfThere, asked, if_there, Follows, stopped, went, and_then, each}
use Rattle.command_rules.specs.Planning.{Parses, text_in, file_made, kind_made, Faces, faces_in, numbered, Gathered, gathered_in, Concludes, plan_in}
use Rattle.command_rules.specs.Surveying.{Surveys, survey_in}

-- a fault of what a file holds
abbrev pub IsOfFile : Trouble → Type 0
IsOfFile (Text why) = Unit {0}
IsOfFile (OfTree cause place) = Unit {0}
IsOfFile (File why) = Unit {0}
IsOfFile (Item why) = Unit {0}
IsOfFile (Unresolved item) = ⊥
IsOfFile TooLarge = ⊥
IsOfFile (Cycle bases) = Unit {0}
IsOfFile (Load why) = Unit {0}

abbrev pub IsOfFiles : Case → Type 0
IsOfFiles Done = ⊥
IsOfFiles (Uncaught signal) = ⊥
IsOfFiles Spent = ⊥
IsOfFiles FrameLimit = ⊥
IsOfFiles (Refused file why) = IsOfFile why
IsOfFiles (Absent file) = Unit {0}
IsOfFiles ReadFault = ⊥
IsOfFiles WriteFault = ⊥
IsOfFiles (FolderFault file) = ⊥
IsOfFiles Memory = ⊥
IsOfFiles Usage = ⊥

abbrev StopsSo : {A : Type 0} → (Outcome Case A → Type 0) → Type 0
StopsSo R = (case : Case) → R (Stops case) → IsOfFiles case

abbrev pub PassStopsSo : {A : Type 0} → Pass Case A → Type 0
PassStopsSo p = (files : Option Files) (trail : Trail) (case : Case) → p.comes files trail (Stops case) → IsOfFiles case

decided_so : {A : Type 0} (R : Outcome Case A → Type 0) → StopsSo R → PassStopsSo (decided R)
decided_so R so files trail case h = so case h.1

is_value : {A : Type 0} → Outcome Case A → Type 0
is_value (Has a) = Unit {0}
is_value (Stops case) = ⊥

given_so : {A : Type 0} (a : A) → PassStopsSo (given {C = Case} a)
unfolding is_value
given_so a files trail case h = absurd (subst is_value (sym h.1) tt)

file_so : {A : Type 0} (file : List ℕ) (R : List ℕ → Outcome Case A → Type 0) → ((bytes : List ℕ) → StopsSo (R bytes)) → (files : Option Files) (trail : Trail)
    (case : Case) → FromFile file (Absent file) R files trail (Stops case) → IsOfFiles case
file_so file R so files trail case (held bytes _ is r) = so bytes case r
file_so file R so files trail case (missing none) = tt

from_file_so : {A : Type 0} (file : List ℕ) (R : List ℕ → Outcome Case A → Type 0) → ((bytes : List ℕ) → StopsSo (R bytes)) → PassStopsSo (from_file file (Absent file) R)
from_file_so file R so files trail case h = file_so file R so files trail case h

there_so : {A : Type 0} (file : List ℕ) (R : Option (List ℕ) → Outcome Case A → Type 0) → ((bytes : Option (List ℕ)) → StopsSo (R bytes)) → (files : Option Files)
    (trail : Trail) (case : Case) → IfThere file R files trail (Stops case) → IsOfFiles case
there_so file R so files trail case (asked bytes _ is r) = so bytes case r

if_there_so : {A : Type 0} (file : List ℕ) (R : Option (List ℕ) → Outcome Case A → Type 0) → ((bytes : Option (List ℕ)) → StopsSo (R bytes)) → PassStopsSo (if_there file R)
if_there_so file R so files trail case h = there_so file R so files trail case h

follow_so : {A B : Type 0} (p : Pass Case A) (q : A → Pass Case B) → PassStopsSo p → ((a : A) → PassStopsSo (q a)) → (files : Option Files) (trail : Trail) (case : Case)
    → Follows p q files trail (Stops case) → IsOfFiles case
follow_so p q so then files trail case (stopped _ _ at) = so files trail case at
follow_so p q so then files trail case (went front more a _ at next) = then a files more case next

and_then_so : {A B : Type 0} (p : Pass Case A) (q : A → Pass Case B) → PassStopsSo p → ((a : A) → PassStopsSo (q a)) → PassStopsSo (and_then p q)
and_then_so p q so then files trail case h = follow_so p q so then files trail case h

each_so : {X A : Type 0} (q : X → Pass Case A) → ((x : X) → PassStopsSo (q x)) → (xs : List X) → PassStopsSo (each q xs)
unfolding each
each_so q so [] = given_so []
each_so q so (x ∷ xs) =
    and_then_so (q x) (λ a. and_then (each q xs) (λ bs. given (a ∷ bs))) (so x)
    (λ a. and_then_so (each q xs) (λ bs. given (a ∷ bs)) (each_so q so xs) (λ bs. given_so (a ∷ bs)))

-- ---- the parts

decodes_so : (file bytes : List ℕ) → StopsSo (Decodes file bytes)
decodes_so file bytes case (Decodes.is_none why h) = tt

holds_object_so : (file bytes : List ℕ) → StopsSo (HoldsObject file bytes)
holds_object_so file bytes case (HoldsObject.is_none why h) = tt

holds_image_so : (file bytes : List ℕ) → StopsSo (HoldsImage file bytes)
holds_image_so file bytes case (HoldsImage.is_none why h) = tt

begins_so : (file : List ℕ) (purpose : Purpose) (bytes : List ℕ) → StopsSo (Begins file purpose bytes)
begins_so file purpose bytes case (refused why h) = tt

checks_so : (file bytes : List ℕ) (all : List records.Interface) → StopsSo (Checks file bytes all)
checks_so file bytes all case (Checks.wrong why h) = tt

defines_so : (file : List ℕ) (stamp : ℕ) (bytes : List ℕ) (all : List records.Interface) → StopsSo (Defines file stamp bytes all)
defines_so file stamp bytes all case (Defines.wrong why h) = tt

configures_so : (file bytes : List ℕ) → StopsSo (Configures file bytes)
configures_so file bytes case (lexical f h) = tt
configures_so file bytes case (syntactic ts f h has) = tt
configures_so file bytes case (no_base ts x place h parses some) = tt

grows_so : (file : List ℕ) (is_tree : through.Answer Tree → Type 0) → StopsSo (Grows file is_tree)
grows_so file is_tree case (fault cause place h) = tt

binds_so : (file : List ℕ) (t : Tree) → StopsSo (Binds file t)
binds_so file t case (bad w some) = tt

-- ---- the passes

interface_so : (asked : Option (List ℕ)) → PassStopsSo (interface_for asked)
unfolding interface_for
interface_so None = given_so iodefs
interface_so (Some base) = from_file_so (interface_file base) (Decodes (interface_file base)) (decodes_so (interface_file base))

begun_so : (file : List ℕ) (purpose : Purpose) → PassStopsSo (begun_for file purpose)
begun_so file purpose = from_file_so file (Begins file purpose) (begins_so file purpose)

interfaces_so : (b : Begun) → PassStopsSo (interfaces_for b)
interfaces_so b = each_so interface_for interface_so (asks (syntax b.1))

program_so : (file : List ℕ) (b : Begun) → PassStopsSo (m.program_of file b)
unfolding m.program_of
program_so file b = and_then_so (interfaces_for b) _ (interfaces_so b) (λ all. decided_so (Checks file b.0 all) (checks_so file b.0 all))

pub module_so : (file : List ℕ) → PassStopsSo (module_in file)
unfolding module_in
module_so file = and_then_so (begun_for file Program) (m.program_of file) (begun_so file Program) (program_so file)

definition_so : (file : List ℕ) (stamp : ℕ) (b : Begun) → PassStopsSo (definitions_of file stamp b)
unfolding definitions_of
definition_so file stamp b = and_then_so (interfaces_for b) _ (interfaces_so b) (λ all. decided_so (Defines file stamp b.0 all) (defines_so file stamp b.0 all))

pub interface_in_so : (file : List ℕ) (stamp : ℕ) → PassStopsSo (interface_in file stamp)
unfolding interface_in
interface_in_so file stamp = and_then_so (begun_for file (Interface stamp)) (definitions_of file stamp) (begun_so file (Interface stamp)) (definition_so file stamp)

config_so : (file : List ℕ) → PassStopsSo (config_in file)
unfolding config_in
config_so file = from_file_so file (Configures file) (configures_so file)

tree_so : (file : List ℕ) (is_tree : through.Answer Tree → Type 0) → PassStopsSo (tree_in file is_tree)
unfolding tree_in
tree_so file is_tree =
    and_then_so (decided (Grows file is_tree)) _ (decided_so (Grows file is_tree) (grows_so file is_tree)) (λ t.
    and_then_so (decided (Binds file t)) _ (decided_so (Binds file t) (binds_so file t)) (λ _.
    given_so t))

configured_so : (file : List ℕ) (k : Config) → PassStopsSo (configuration_of file k)
unfolding configuration_of
configured_so file k =
    and_then_so (modules_of k) _ (each_so component_in (λ x. module_so (module_file x.file)) (components k)) (λ modules.
    and_then_so (tree_in file (IsTree k (map shape_of modules))) _ (tree_so file (IsTree k (map shape_of modules))) (λ t.
    given_so (record { tree = t; bases = bases_of k; modules = modules })))

single_so : (base : List ℕ) (x : Module) → PassStopsSo (single_of base x)
unfolding single_of
single_so base x =
    and_then_so (tree_in (module_file base) (IsSingle (shape_of x))) _ (tree_so (module_file base) (IsSingle (shape_of x))) (λ t.
    given_so (record { tree = t; bases = base ∷ []; modules = x ∷ [] }))

pub source_so : (source : Source) (base : List ℕ) → PassStopsSo (source_in source base)
unfolding source_in
source_so OfModule base = and_then_so (module_in (module_file base)) (single_of base) (module_so (module_file base)) (single_so base)
source_so OfConfig base =
    and_then_so (config_in (config_file base)) (configuration_of (config_file base)) (config_so (config_file base)) (configured_so (config_file base))

object_so : (file : List ℕ) → PassStopsSo (object_in file)
unfolding object_in
object_so file = from_file_so file (HoldsObject file) (holds_object_so file)

pub image_so : (file : List ℕ) → PassStopsSo (image_in file)
unfolding image_in
image_so file = from_file_so file (HoldsImage file) (holds_image_so file)

joins_so : (bases : List (List ℕ)) (parts : List ImagePart) → StopsSo (Joins bases parts)
joins_so bases _ case (Joins.not_joined p q parts images why are is) = tt

pub runnable_so : (bases : List (List ℕ)) → PassStopsSo (runnable_in bases)
unfolding runnable_in images_in
runnable_so bases =
    and_then_so (each (λ base. image_in (image_file base)) bases) (λ parts. decided (Joins bases parts))
    (each_so (λ base. image_in (image_file base)) (λ base. image_so (image_file base)) bases) (λ parts. decided_so (Joins bases parts) (joins_so bases parts))

binding_so : (file : List ℕ) (k : Config) → PassStopsSo (binding_of file k)
unfolding binding_of
binding_so file k =
    and_then_so (objects_of k) _ (each_so object_of (λ x. object_so (object_file x.file)) (components k)) (λ parts.
    and_then_so (tree_in file (IsTree k (map shape_in parts))) _ (tree_so file (IsTree k (map shape_in parts))) (λ t.
    given_so (record { tree = t; parts = parts })))

pub bound_so : (base : List ℕ) → PassStopsSo (bound_in base)
unfolding bound_in
bound_so base = and_then_so (config_in (config_file base)) (binding_of (config_file base)) (config_so (config_file base)) (binding_so (config_file base))

-- ---- files that are listed or upgraded

holds_so : (kind : FileKind) (file bytes : List ℕ) → StopsSo (Holds file bytes kind)
holds_so kind file bytes case (no_interface why h) = tt
holds_so kind file bytes case (no_object why h) = tt
holds_so kind file bytes case (no_image why h) = tt

lists_so : (kind : FileKind) (file bytes : List ℕ) → StopsSo (Lists kind file bytes)
lists_so kind file bytes case (Lists.is_none _ h) = holds_so kind file bytes case h

pub value_so : (kind : FileKind) (file : List ℕ) → PassStopsSo (value_in kind file)
unfolding value_in
value_so kind file = from_file_so file (λ bytes. Holds file bytes kind) (holds_so kind file)

pub listing_so : (kind : FileKind) (file : List ℕ) → PassStopsSo (listing_in kind file)
unfolding listing_in
listing_so kind file = from_file_so file (Lists kind file) (lists_so kind file)

-- ---- texts that are planned

parses_so : (file bytes : List ℕ) → StopsSo (Parses file bytes)
parses_so file bytes case (Parses.refused why h) = tt

text_so : (base : List ℕ) → PassStopsSo (text_in base)
unfolding text_in
text_so base =
    and_then_so (from_file (module_file base) (Absent (module_file base)) (Parses (module_file base))) _
    (from_file_so (module_file base) (Parses (module_file base)) (parses_so (module_file base))) (λ tree.
    given_so (record { base = base; «module» = tree }))

looks_so : (number : ℕ) (file : List ℕ) (kind : FileKind) (bytes : Option (List ℕ)) → StopsSo (Faces number file kind bytes)
looks_so number file kind bytes case (Faces.is_none some _ h) = holds_so kind file some case h

faces_so : (x : ℕ × TextEntry) → PassStopsSo (faces_in x)
unfolding faces_in
faces_so (number, t) = if_there_so (file_made t) (Faces number (file_made t) (kind_made t.module.kind)) (looks_so number (file_made t) (kind_made t.module.kind))

gathered_so : (bases : List (List ℕ)) → PassStopsSo (gathered_in bases)
unfolding gathered_in
gathered_so bases =
    and_then_so (each text_in bases) _ (each_so text_in text_so bases) (λ texts.
    and_then_so (each faces_in (numbered 0 texts)) _ (each_so faces_in faces_so (numbered 0 texts)) (λ made.
    given_so (record { texts = texts; made = made })))

concludes_so : (g : Gathered) → StopsSo (Concludes g)
concludes_so g case (Concludes.circling k rest h) = tt

pub plan_so : (bases : List (List ℕ)) → PassStopsSo (plan_in bases)
unfolding plan_in
plan_so bases = and_then_so (gathered_in bases) (λ g. decided (Concludes g)) (gathered_so bases) (λ g. decided_so (Concludes g) (concludes_so g))

-- ---- images that are surveyed

surveys_so : (file bytes : List ℕ) → StopsSo (Surveys file bytes)
surveys_so file bytes case (Surveys.is_none _ h) = holds_so ImageFile file bytes case h

pub survey_so : (base : List ℕ) → PassStopsSo (survey_in base)
unfolding survey_in
survey_so base = from_file_so (image_file base) (Surveys (image_file base)) (surveys_so (image_file base))
