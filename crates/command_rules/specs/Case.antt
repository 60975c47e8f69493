-- The answers of a call, with the status of each (rule of this project).
use Rattle.std.specs.Prelude.{ℕ, List}
use Rattle.mesa_base.specs.declared.status.Status.{Status}
use Rattle.mesa_base.specs.declared.status.Status.TheVariants as status
pub use Rattle.command_rules.specs.declared.trouble.Trouble.{Trouble}
pub use Rattle.command_rules.specs.declared.trouble.Trouble.TheVariants.{Text, Tree, File, Item, Unresolved, TooLarge, Cycle, Load}

pub data Case : Type 0 where
  Done : Case
  Uncaught : (signal : List ℕ) → Case
  Spent : Case
  FrameLimit : Case
  Refused : (file : List ℕ) → Trouble → Case
  Absent : (file : List ℕ) → Case
  ReadFault : Case
  WriteFault : Case
  FolderFault : (file : List ℕ) → Case
  Memory : Case
  Usage : Case

abbrev pub status_of : Case → Status
status_of Done = status.Done
status_of (Uncaught signal) = status.Uncaught
status_of Spent = status.Spent
status_of FrameLimit = status.FrameLimit
status_of (Refused file why) = status.Refused
status_of (Absent file) = status.Absent
status_of ReadFault = status.ReadFault
status_of WriteFault = status.WriteFault
status_of (FolderFault file) = status.FolderFault
status_of Memory = status.Memory
status_of Usage = status.Usage

-- the answers of a call that has written nothing
abbrev pub IsBeforeWrite : Status → Type 0
IsBeforeWrite status.Usage = Unit {0}
IsBeforeWrite status.Refused = Unit {0}
IsBeforeWrite status.Absent = Unit {0}
IsBeforeWrite status.FolderFault = ⊥
IsBeforeWrite status.Memory = ⊥
IsBeforeWrite status.Done = ⊥
IsBeforeWrite status.Uncaught = ⊥
IsBeforeWrite status.Spent = ⊥
IsBeforeWrite status.FrameLimit = ⊥
IsBeforeWrite status.ReadFault = ⊥
IsBeforeWrite status.WriteFault = ⊥

-- the answers of a call that has run nothing
abbrev pub IsBeforeRun : Status → Type 0
IsBeforeRun status.Usage = Unit {0}
IsBeforeRun status.Refused = Unit {0}
IsBeforeRun status.Absent = Unit {0}
IsBeforeRun status.FolderFault = Unit {0}
IsBeforeRun status.Memory = Unit {0}
IsBeforeRun status.Done = ⊥
IsBeforeRun status.Uncaught = ⊥
IsBeforeRun status.Spent = ⊥
IsBeforeRun status.FrameLimit = ⊥
IsBeforeRun status.ReadFault = ⊥
IsBeforeRun status.WriteFault = ⊥
