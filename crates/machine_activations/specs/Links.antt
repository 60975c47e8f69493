-- What the links of an image are bound to takes and gives as many words as the links (rule of this project).
use Rattle.std.specs.Prelude.{◌≡◌, ℕ, Some, IsSomeAnd}
use Rattle.code_forms.specs.declared.module_code.CodeKind.{CodeKind}
use Rattle.code_forms.specs.declared.module_code.CodeKind.TheVariants.{Procedure, Signal, Error}
use Rattle.code_forms.specs.declared.module_code.CodeLink.{CodeLink}
use Rattle.code_forms.specs.declared.module_code.CodeProcedure.{CodeProcedure}
use Rattle.code_forms.specs.declared.module_code.CodeSignal.{CodeSignal}
use Rattle.object_files.specs.declared.image.Image.{Image}
use Rattle.object_files.specs.declared.image.Link.{Link}
use Rattle.object_files.specs.declared.image.Link.TheVariants.{Wanted, To}
use Rattle.machine_rules.specs.LookUps.{called, signal_of, link_of, bound_to, Host, WriteChar, WriteString, WriteDecimal, ReadChar, EndOfInput, host_of}

-- the words that a procedure of the host takes and gives
abbrev pub host_takes : Host → ℕ
host_takes WriteChar = 1
host_takes WriteString = 2
host_takes WriteDecimal = 1
host_takes ReadChar = 0
host_takes EndOfInput = 0

abbrev pub host_gives : Host → ℕ
host_gives WriteChar = 0
host_gives WriteString = 0
host_gives WriteDecimal = 0
host_gives ReadChar = 1
host_gives EndOfInput = 1

-- the link has this kind, and so many words of arguments and results
abbrev pub IsLike : CodeLink → CodeKind → (args results : ℕ) → Type 0
IsLike l kind args results = (l.kind ≡ kind) × (l.args ≡ args) × (l.results ≡ results)

-- a procedure above 0, or a signal or error, of an instance is like a link of this kind
abbrev pub IsOfInstance : Image → CodeLink → CodeKind → (instance number : ℕ) → Type 0
IsOfInstance image l Procedure j p = IsSomeAnd (called image j p) (λ (procedure : CodeProcedure). IsLike l Procedure procedure.args procedure.results)
IsOfInstance image l Signal j k = IsSomeAnd (signal_of image j k) (λ (s : CodeSignal). IsLike l s.kind s.args s.results)
IsOfInstance image l Error j k = IsSomeAnd (signal_of image j k) (λ (s : CodeSignal). IsLike l s.kind s.args s.results)

-- a wanted procedure is one of the host's, which is like the link; of a wanted signal or error nothing is asked, since none is taken back
abbrev pub IsOfHost : Image → CodeLink → CodeKind → (wanted : ℕ) → Type 0
IsOfHost image l Procedure n = IsSomeAnd (host_of image n) (λ h. IsLike l Procedure (host_takes h) (host_gives h))
IsOfHost image l Signal n = Unit {0}
IsOfHost image l Error n = Unit {0}

abbrev pub IsBoundLike : Image → CodeLink → Link → Type 0
IsBoundLike image l (Wanted n) = IsOfHost image l l.kind n
IsBoundLike image l (To j number) = IsOfInstance image l l.kind j number

-- each link of an instance's module is bound to what is like it
abbrev pub BindsLinks : Image → Type 0
BindsLinks image = (j k : ℕ) (l : CodeLink) → link_of image j k ≡ Some l → IsSomeAnd (bound_to image j k) (IsBoundLike image l)
