-- A program: its instances, each with its path, its typed module and what each item that it uses stands for, and the
-- instances to start (rule of this project; Language Manual, chapter 7).
use Rattle.std.specs.Prelude.{ℕ, zero, suc, List, [], ◌∷◌, Bool, true, false, ◌&&◌, Option, Some, None, slice_get, length, codes, bytes_eq, nat_eq, if◌then◌else◌}
use Rattle.mesa_types.specs.Typed.{Kinds, NoKinds, Null, Body, Procedure, Module}
use Rattle.mesa_types.specs.declared.typed_parts.Callee.{Callee}
use Rattle.mesa_types.specs.declared.typed_parts.Callee.TheVariants.{OwnProcedure, LinkedProcedure}
use Rattle.mesa_types.specs.declared.typed_parts.Raised.{Raised}
use Rattle.mesa_types.specs.declared.typed_parts.Raised.TheVariants.{OwnSignal, LinkedSignal, TheBoundsFault, TheZeroDivisor, TheUnnamed}
use Rattle.mesa_types.specs.Shapes.{join}
use Rattle.mesa_types.specs.Plain.{kinds_of}
use Rattle.mesa_types.specs.Links.{imported}
use Rattle.mesa_types.specs.declared.faces.ItemKind.{ItemKind}
use Rattle.mesa_types.specs.declared.faces.ItemKind.TheVariants as kind
use Rattle.mesa_types.specs.declared.faces.Item.{Item}

-- a procedure of the host (the built-in interface IODefs)
pub data Host : Type 0 where
  WriteChar : Host
  WriteString : Host
  WriteDecimal : Host
  ReadChar : Host
  EndOfInput : Host

-- a signal or error is one of an instance, by its number, or a predeclared one, IODefs.NoInput, or the one without a name
pub data Signal : Type 0 where
  SignalOf : (instance number : ℕ) → Signal
  BoundsFault : Signal
  ZeroDivisor : Signal
  NoInput : Signal
  Unnamed : Signal

-- what a used item, or a name, stands for; procedures of an instance are numbered from 1, since 0 is its module's body
pub data Target : Type 0 where
  ToProcedure : (instance number : ℕ) → Target
  ToHost : Host → Target
  ToSignal : Signal → Target

-- `links`: what an item stands for, by the number of the import and that of the item in its face
pub record Instance : Type 0 where
  pub path : List (List ℕ)
  pub code : Module
  pub links : (import item : ℕ) → Target

pub record Program : Type 0 where
  pub instances : List Instance
  pub control : List ℕ

unfoldable pub or_else : {A : Type 0} → A → Option A → A
or_else a None = a
or_else a (Some b) = b

-- what stands for a number that is out of range; no lawful program has one
unfoldable pub no_body : Body
no_body = record { variables = NoKinds; does = Null }

unfoldable pub head_named : List ℕ → Item
head_named name = record { kind = kind.Procedure; name = name; takes = []; gives = [] }

unfoldable pub no_procedure : Procedure
no_procedure = record { head = head_named []; body = no_body }

unfoldable pub no_module : Module
no_module = record { name = []; imports = []; exports = []; globals = NoKinds; signals = []; strings = []; procedures = []; body = no_body }

unfoldable pub no_instance : Instance
no_instance = record { path = []; code = no_module; links = λ import item. ToSignal Unnamed }

unfoldable pub instance_of : Program → ℕ → Instance
instance_of P i = or_else no_instance (slice_get P.instances i)

unfoldable pub module_of : Program → ℕ → Module
module_of P i = (instance_of P i).code

-- the body of a module, as its procedure 0
unfoldable pub main_of : Module → Procedure
main_of m = record { head = head_named m.name; body = m.body }

unfoldable pub procedure_in : Module → ℕ → Procedure
procedure_in m zero = main_of m
procedure_in m (suc k) = or_else no_procedure (slice_get m.procedures k)

unfoldable pub procedure_of : Program → ℕ → ℕ → Procedure
procedure_of P i q = procedure_in (module_of P i) q

-- the variables of a procedure beyond its parameters: the results, then those of its blocks and arms
unfoldable pub beyond_parameters : Procedure → Kinds
beyond_parameters p = join (kinds_of p.head.gives) p.body.variables

unfoldable pub string_of : Program → ℕ → ℕ → List ℕ
string_of P i k = or_else [] (slice_get (module_of P i).strings k)

-- what is called in instance i
unfoldable pub callee_of : Program → ℕ → Callee → Target
callee_of P i (OwnProcedure q) = ToProcedure i q
callee_of P i (LinkedProcedure import item) = (instance_of P i).links import item

unfoldable pub signal_in : Target → Signal
signal_in (ToSignal s) = s
signal_in (ToProcedure i q) = Unnamed
signal_in (ToHost h) = Unnamed

unfoldable pub linked_signal : Program → ℕ → (import item : ℕ) → Signal
linked_signal P i import item = signal_in ((instance_of P i).links import item)

-- what is raised in instance i
unfoldable pub raised_of : Program → ℕ → Raised → Signal
raised_of P i (OwnSignal n) = SignalOf i n
raised_of P i (LinkedSignal import item) = linked_signal P i import item
raised_of P i TheBoundsFault = BoundsFault
raised_of P i TheZeroDivisor = ZeroDivisor
raised_of P i TheUnnamed = Unnamed

unfoldable pub is_signal : ItemKind → Bool
is_signal kind.Signal = true
is_signal kind.Procedure = false
is_signal kind.Error = false

-- so many values may be given back to who raised this: it is a SIGNAL with so many results
unfoldable pub takes_back : Option Item → ℕ → Bool
takes_back None n = false
takes_back (Some i) n = is_signal i.kind && nat_eq n (length i.gives)

unfoldable pub resumes : Program → Signal → ℕ → Bool
resumes P (SignalOf i k) n = takes_back (slice_get (module_of P i).signals k) n
resumes P BoundsFault n = false
resumes P ZeroDivisor n = false
resumes P NoInput n = false
resumes P Unnamed n = false

-- what an item of the built-in interface stands for, by its name
unfoldable pub host_of : List ℕ → Option Host
host_of name =
    if bytes_eq name (codes "WriteChar") then Some WriteChar
    else (if bytes_eq name (codes "WriteString") then Some WriteString
    else (if bytes_eq name (codes "WriteDecimal") then Some WriteDecimal
    else (if bytes_eq name (codes "ReadChar") then Some ReadChar
    else (if bytes_eq name (codes "EndOfInput") then Some EndOfInput else None))))

unfoldable pub host_target : Option Host → Target
host_target None = ToSignal NoInput
host_target (Some h) = ToHost h

unfoldable pub target_of : Option Item → Target
target_of None = ToSignal Unnamed
target_of (Some i) = host_target (host_of i.name)

-- the program of a single module that imports nothing but the built-in interface; its one instance is started
unfoldable pub single : Module → Program
single m = record {
  instances = record { path = m.name ∷ []; code = m; links = λ import item. target_of (imported m.imports import item) } ∷ [];
  control = 0 ∷ [];
}
