-- The line on `err` that says how a call ends (rule of this project).
use Rattle.std.specs.Prelude.{ℕ, List, [], ◌++◌, flat_map, Option, Some, None, codes, decimal}
use Rattle.mesa_base.specs.declared.place.Place.{Place}
use Rattle.mesa_base.specs.declared.file_fault.Field.{Field}
use Rattle.mesa_base.specs.declared.file_fault.Field.TheVariants as field
use Rattle.code_forms.specs.declared.bad_code.CodeFault.{CodeFault}
use Rattle.code_forms.specs.declared.bad_code.CodeFault.TheVariants as code
use Rattle.object_rules.specs.declared.object_fault.ObjectFault.{ObjectFault}
use Rattle.object_rules.specs.declared.object_fault.ObjectFault.TheVariants as file
use Rattle.interface_records.specs.declared.wanted.WantedItem.{WantedItem}
use Rattle.config_rules.specs.declared.fault.TreeCause.{TreeCause}
use Rattle.config_rules.specs.declared.fault.TreeCause.TheVariants as tree
use Rattle.linked_programs.specs.import_binder.specs.declared.fault.BindFault.{BindFault}
use Rattle.linked_programs.specs.import_binder.specs.declared.fault.BindFault.TheVariants as bind
use Rattle.loader_rules.specs.declared.fault.LoadFault.{LoadFault}
use Rattle.loader_rules.specs.declared.fault.LoadFault.TheVariants as load
use Rattle.checked_texts.specs.TextFaults.{fault_name, fault_place}
use Rattle.line_pieces.specs.Texts.{path_text, stamp_text, with_blank}
use Rattle.command_rules.specs.Case.{Case, Done, Uncaught, Spent, FrameLimit, Refused, Absent, ReadFault, WriteFault, FolderFault, Memory, Usage, Trouble, Text, Tree, File, Item, Unresolved, TooLarge, Cycle, Load}

-- ---- what lines are made of

-- FACE.ITEM
abbrev pub item_text : WantedItem → List ℕ
item_text i = i.face ++ (codes "." ++ i.item)

-- PATH FACE.ITEM
abbrev pub placed_item : WantedItem → List ℕ
placed_item i = path_text i.at ++ (codes " " ++ item_text i)

abbrev pub field_name : Field → List ℕ
field_name field.Version = codes "version"
field_name field.Name = codes "name"
field_name field.Kind = codes "kind"
field_name field.TypeTag = codes "type"
field_name field.Number = codes "number"
field_name field.Length = codes "length"
field_name field.Opcode = codes "opcode"
field_name field.Twice = codes "twice"

abbrev pub tree_cause : TreeCause → List ℕ
tree_cause tree.UnknownComponent = codes "UnknownComponent"
tree_cause tree.TwiceNamed = codes "TwiceNamed"
tree_cause tree.CountDiffers = codes "CountDiffers"
tree_cause tree.RecordClash = codes "RecordClash"
tree_cause tree.UnknownRecord = codes "UnknownRecord"
tree_cause tree.InterfaceDiffers = codes "InterfaceDiffers"
tree_cause tree.UnknownControl = codes "UnknownControl"
tree_cause tree.TooManyInstances = codes "TooManyInstances"
tree_cause tree.TooNested = codes "TooNested"

-- ---- why a file is refused

-- Fault AT, the offset in the procedure's code
abbrev pub code_cause : CodeFault → List ℕ
code_cause (code.BadJump at) = codes "BadJump " ++ decimal at
code_cause (code.StackDiffers at) = codes "StackDiffers " ++ decimal at
code_cause (code.BadOperand at) = codes "BadOperand " ++ decimal at
code_cause (code.CatchRange at) = codes "CatchRange " ++ decimal at

abbrev pub file_cause : ObjectFault → List ℕ
file_cause file.BadMagic = codes "BadMagic"
file_cause file.TooLong = codes "TooLong"
file_cause (file.Cut at) = codes "Cut " ++ decimal at
file_cause (file.BadField at what) = codes "BadField " ++ (decimal at ++ (codes " " ++ field_name what))
file_cause (file.TrailingBytes at) = codes "TrailingBytes " ++ decimal at
file_cause (file.Code in_module procedure fault) =
    codes "Code " ++ (decimal in_module ++ (codes " " ++ (decimal procedure ++ (codes ": " ++ code_cause fault))))
file_cause file.Memory = codes "Memory"

abbrev pub bind_cause : BindFault → List ℕ
bind_cause (bind.NoExporter i) = codes "NoExporter " ++ placed_item i
bind_cause (bind.Twice i one other) = codes "Twice " ++ (placed_item i ++ (codes ": " ++ (path_text one ++ (codes ", " ++ path_text other))))
bind_cause (bind.OtherInterface i one) = codes "OtherInterface " ++ (placed_item i ++ (codes ": " ++ path_text one))
bind_cause (bind.OtherStamp i wanted found) =
    codes "OtherStamp " ++ (placed_item i ++ (codes ": wanted " ++ (stamp_text wanted ++ (codes ", found " ++ stamp_text found))))
bind_cause bind.Memory = codes "Memory"

abbrev pub load_cause : LoadFault → List ℕ
load_cause (load.NoExporter k i) = codes "NoExporter " ++ item_text i
load_cause (load.Twice k i one other) = codes "Twice " ++ (item_text i ++ (codes ": " ++ (path_text one ++ (codes ", " ++ path_text other))))
load_cause (load.OtherStamp k i wanted found) =
    codes "OtherStamp " ++ (item_text i ++ (codes ": wanted " ++ (stamp_text wanted ++ (codes ", found " ++ stamp_text found))))
load_cause (load.FaceDiffers k i) = codes "FaceDiffers " ++ item_text i
load_cause (load.OddRecord k name) = codes "OddRecord " ++ name
load_cause (load.TooManyInstances k) = codes "TooManyInstances"
load_cause (load.TooNested k) = codes "TooNested"
load_cause load.Memory = codes "Memory"

-- what the line says of a file
abbrev pub of_file : List ℕ → List ℕ → List ℕ
of_file name text = name ++ (codes ": " ++ (text ++ codes "\n"))

-- FILE:LINE:COLUMN: Cause, or FILE: Cause where it has no place
abbrev pub of_cause : List ℕ → Option Place → List ℕ → List ℕ
of_cause name None cause = of_file name cause
of_cause name (Some place) cause =
    name ++ (codes ":" ++ (decimal place.line ++ (codes ":" ++ (decimal place.column ++ (codes ": " ++ (cause ++ codes "\n"))))))

abbrev pub refusal : List ℕ → Trouble → List ℕ
refusal name (Text why) = of_cause name (fault_place why) (fault_name why)
refusal name (Tree cause place) = of_cause name (Some place) (tree_cause cause)
refusal name (File why) = of_file name (file_cause why)
refusal name (Item why) = of_file name (bind_cause why)
refusal name (Unresolved i) = of_file name (codes "Unresolved " ++ (item_text i ++ (codes " " ++ stamp_text i.stamp)))
refusal name TooLarge = of_file name (codes "TooLarge")
refusal name (Cycle bases) = of_file name (codes "Cycle" ++ flat_map with_blank bases)
refusal name (Load why) = of_file name (load_cause why)

-- the line, ended by a line feed; there is none where the call is done
abbrev pub line_of : Case → List ℕ
line_of Done = []
line_of (Uncaught signal) = codes "uncaught " ++ (signal ++ codes "\n")
line_of Spent = codes "turns spent\n"
line_of FrameLimit = codes "frames full\n"
line_of (Refused name why) = refusal name why
line_of (Absent name) = of_file name (codes "absent")
line_of ReadFault = codes "input failed\n"
line_of WriteFault = codes "output failed\n"
line_of (FolderFault name) = of_file name (codes "folder failed")
line_of Memory = codes "out of memory\n"
line_of Usage = codes "usage: mesa compile, bind, list, run, go or exercise\n"
