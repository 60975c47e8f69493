-- What a pass comes to over files that are told, where no call failed.
use Rattle.std.proofs.Common.{◌≡◌, ◌⊎◌, List, ℕ, Some, refl, ap, subst, inl, inr}
use Rattle.mesa_base.specs.Outside.{Shelf, Files, Rose}
use Rattle.command_rules.specs.Case.{Case, Memory}
use Rattle.command_rules.specs.Complete.{NoFault}
use Rattle.command_rules.specs.Passes.{Outcome, Has, Stops, Trail, Pass, IsExact}
use Rattle.command_rules.specs.Passing.{Fails, refused, failed, memory, Gives}
use Rattle.command_rules.specs.Worlds.{Scene}
use Rattle.command_laws.specs.Laws.{NoStreamFailed}

pub record Came {A : Type 0} (p : Pass Case A) (files : Files) (o : Outcome Case A) : Type 0 where
  pub trail : Trail
  pub comes : p.comes (Some files) trail o

-- no call on the folder failed
abbrev pub IsStill : Shelf → Shelf → Type 0
IsStill folder folder' = (file : List ℕ) → ¬ (Rose (folder.faults file) (folder'.faults file))

pub came_to_stop : {A : Type 0} (p : Pass Case A) (folder folder' : Shelf) (files : Files) (case : Case) → folder.files ≡ Some files
    → IsStill folder folder' → Fails p folder folder' case → (case ≡ Memory) ⊎ Came p files (Stops case)
came_to_stop p folder folder' files case e still (refused trail _ comes missed called) =
    inr (record { trail = trail; comes = subst (λ f. p.comes f trail (Stops case)) e comes })
came_to_stop p folder folder' files case e still (failed trail file asks rose called) = absurd (still file rose)
came_to_stop p folder folder' files case e still memory = inl refl

pub came_so : {A : Type 0} (p : Pass Case A) (folder : Shelf) (files : Files) (trail : Trail) (o : Outcome Case A) → folder.files ≡ Some files
    → p.comes folder.files trail o → Came p files o
came_so p folder files trail o e comes = record { trail = trail; comes = subst (λ f. p.comes f trail o) e comes }

pub came_to_value : {A : Type 0} (p : Pass Case A) (folder folder' : Shelf) (files : Files) (a : A) → folder.files ≡ Some files → Gives p folder folder' a
    → Came p files (Has a)
came_to_value p folder folder' files a e g = came_so p folder files g.trail (Has a) e g.comes

stop_or : {A : Type 0} → Case → Outcome Case A → Case
stop_or d (Has a) = d
stop_or d (Stops c) = c

value_or : {A : Type 0} → A → Outcome Case A → A
value_or d (Has a) = a
value_or d (Stops c) = d

is_value : {A : Type 0} → Outcome Case A → Type 0
is_value (Has a) = Unit {0}
is_value (Stops c) = ⊥

pub same_stop : {A : Type 0} (p : Pass Case A) (files : Files) (c d : Case) → IsExact p → Came p files (Stops c) → Came p files (Stops d) → c ≡ d
unfolding stop_or
same_stop p files c d one x y = ap (stop_or c) (one files x.trail y.trail (Stops c) (Stops d) x.comes y.comes).1

pub same_value : {A : Type 0} (p : Pass Case A) (files : Files) (a b : A) → IsExact p → Came p files (Has a) → Came p files (Has b) → a ≡ b
unfolding value_or
same_value p files a b one x y = ap (value_or a) (one files x.trail y.trail (Has a) (Has b) x.comes y.comes).1

pub never_both : {A : Type 0} (p : Pass Case A) (files : Files) (a : A) (c : Case) → IsExact p → Came p files (Has a) → Came p files (Stops c) → ⊥
unfolding is_value
never_both p files a c one x y = subst is_value (one files x.trail y.trail (Has a) (Stops c) x.comes y.comes).1 tt

pub streams : (folder folder' : Shelf) (old new : Scene) → NoFault folder folder' old new → NoStreamFailed old new
streams folder folder' old new calm = record { no_input_fault = calm.no_input_fault; no_out_fault = calm.no_out_fault }
