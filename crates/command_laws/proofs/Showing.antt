-- The cases of `list`, `plan` and `survey`, which print what their pass comes to, and of `upgrade`, over files that are told and without faults.
use Rattle.std.proofs.Common.{◌≡◌, ◌≢◌, ◌⊎◌, ℕ, List, [], ◌∷◌, Some, refl, sym, subst, inl, inr}
use Rattle.mesa_base.specs.Outside.{Shelf, Files}
use Rattle.line_pieces.specs.Outputs.{HasFaulted, PrintsAll}
use Rattle.command_rules.specs.Case.{Case, Done, Memory}
use Rattle.command_rules.specs.Comes.{Upgrades, not_held}
use Rattle.command_rules.specs.Forms.{FileKind, kind_file}
use Rattle.command_rules.specs.Listing.{value_in}
use Rattle.command_rules.specs.Passes.{Outcome, Has, Stops, Pass, IsExact}
use Rattle.command_rules.specs.Printing.{Report, Prints}
use Rattle.command_rules.specs.Worlds.{Scene}
use Rattle.command_rules.specs.Writing.{Target, Value, holding, StoresAll}
use Rattle.command_laws.proofs.Came.{Came, IsStill, came_to_stop, came_to_value, came_so, same_stop, same_value, never_both}
use Rattle.command_laws.proofs.Holding.{part_of, to_parts, parts_in, parts_exact, part_comes, whole_comes, value_like}
use Rattle.command_laws.proofs.Likeness.{one_like, stored_like}
use Rattle.command_laws.proofs.Making.{not_kept}

-- ---- list, plan and survey

pub data Printed (p : Pass Case Report) (files : Files) (old new : Scene) : Case → Type 0 where
  halted : (case : Case) → Came p files (Stops case) → Printed p files old new case
  printed : (r : Report) → Came p files (Has r) → PrintsAll r.text old.out new.out → Printed p files old new Done
  no_text : Printed p files old new Memory

printed_stop : (p : Pass Case Report) (files : Files) (old new : Scene) (case : Case) → (case ≡ Memory) ⊎ Came p files (Stops case) → Printed p files old new case
printed_stop p files old new case (inl e) = subst (λ z. Printed p files old new z) (sym e) no_text
printed_stop p files old new case (inr came) = halted case came

pub prints_so : (p : Pass Case Report) (files : Files) (folder folder' : Shelf) (old new : Scene) (case : Case) → folder.files ≡ Some files
    → IsStill folder folder' → ¬ (HasFaulted old.out new.out) → Prints p folder folder' old new case → Printed p files old new case
prints_so p files folder folder' old new case e still calm (Prints.not_read _ why onward same) =
    printed_stop p files old new case (came_to_stop p folder folder' files case e still why)
prints_so p files folder folder' old new case e still calm (Prints.no_memory r gives same) = no_text
prints_so p files folder folder' old new case e still calm (Prints.printed r gives missed prints input steps) =
    printed r (came_to_value p folder folder' files r e gives) prints
prints_so p files folder folder' old new case e still calm (Prints.not_printed r gives rose prints input steps) = absurd (calm rose)

module _ (p : Pass Case Report) (files : Files) (one : IsExact p) where
  pub one_printed : (old new last : Scene) (c d : Case) → c ≢ Memory → d ≢ Memory → Printed p files old new c → Printed p files old last d → c ≡ d
  one_printed old new last c d m n no_text y = absurd (m refl)
  one_printed old new last c d m n x no_text = absurd (n refl)
  one_printed old new last c d m n (halted _ x) (halted _ y) = same_stop p files c d one x y
  one_printed old new last c d m n (halted _ x) (printed r y all) = absurd (never_both p files r c one y x)
  one_printed old new last c d m n (printed r y all) (halted _ x) = absurd (never_both p files r d one y x)
  one_printed old new last c d m n (printed r x all) (printed q y every) = refl

  pub printed_stopped : (old new : Scene) (case c : Case) → Came p files (Stops c) → Printed p files old new case → (case ≡ Memory) ⊎ (case ≡ c)
  printed_stopped old new case c x no_text = inl refl
  printed_stopped old new case c x (halted _ y) = inr (same_stop p files case c one y x)
  printed_stopped old new case c x (printed r y all) = absurd (never_both p files r c one y x)

  pub printed_whole : (old new : Scene) (case : Case) (r : Report) → Came p files (Has r) → Printed p files old new case
      → ((case ≡ Done) × PrintsAll r.text old.out new.out) ⊎ (case ≡ Memory)
  printed_whole old new case r x no_text = inr refl
  printed_whole old new case r x (halted _ y) = absurd (never_both p files r case one x y)
  printed_whole old new case r x (printed q y all) =
      inl (refl, subst (λ (z : Report). PrintsAll z.text old.out new.out) (same_value p files q r one y x) all)

-- ---- upgrade

-- what is written over the file of this base
abbrev pub over : FileKind → (base : List ℕ) → Value → List Target
over kind base v = holding (kind_file kind base) v ∷ []

pub data Renewed (kind : FileKind) (base : List ℕ) (files : Files) (folder folder' : Shelf) : Case → Type 0 where
  halted : (case : Case) → Came (parts_in kind (kind_file kind base)) files (Stops case) → Renewed kind base files folder folder' case
  wrote : (v : Value) → Came (parts_in kind (kind_file kind base)) files (Has (part_of v)) → StoresAll (over kind base v) folder.files folder'.files
      → Renewed kind base files folder folder' Done
  no_bytes : Renewed kind base files folder folder' Memory

part_came : (kind : FileKind) (file : List ℕ) (files : Files) (o : Outcome Case Value) → Came (value_in kind file) files o
    → Came (parts_in kind file) files (to_parts o)
part_came kind file files o x = record { trail = x.trail; comes = part_comes kind file (Some files) x.trail o x.comes }

renewed_stop : (kind : FileKind) (base : List ℕ) (files : Files) (folder folder' : Shelf) (case : Case)
    → (case ≡ Memory) ⊎ Came (value_in kind (kind_file kind base)) files (Stops case) → Renewed kind base files folder folder' case
renewed_stop kind base files folder folder' case (inl e) = subst (λ z. Renewed kind base files folder folder' z) (sym e) no_bytes
renewed_stop kind base files folder folder' case (inr came) = halted case (part_came kind (kind_file kind base) files (Stops case) came)

pub upgrades_so : (kind : FileKind) (base : List ℕ) (files : Files) (folder folder' : Shelf) (case : Case) → folder.files ≡ Some files
    → IsStill folder folder' → Upgrades kind base folder folder' case → Renewed kind base files folder folder' case
upgrades_so kind base files folder folder' case e still (not_held _ why onward) =
    renewed_stop kind base files folder folder' case (came_to_stop (value_in kind (kind_file kind base)) folder folder' files case e still why)
upgrades_so kind base files folder folder' case e still (Upgrades.no_memory v gives) = no_bytes
upgrades_so kind base files folder folder' case e still (Upgrades.stored v trail comes s) =
    wrote v (part_came kind (kind_file kind base) files (Has v) (came_so (value_in kind (kind_file kind base)) folder files trail (Has v) e comes)) s.files
upgrades_so kind base files folder folder' case e still (Upgrades.not_stored v trail _ comes it) =
    renewed_stop kind base files folder folder' case (inl (not_kept _ trail folder folder' case still it))

module _ (kind : FileKind) (base : List ℕ) (files : Files) where
  pub one_renewed : (folder folder' last : Shelf) (c d : Case) → c ≢ Memory → d ≢ Memory → Renewed kind base files folder folder' c
      → Renewed kind base files folder last d → c ≡ d
  one_renewed folder folder' last c d m n no_bytes y = absurd (m refl)
  one_renewed folder folder' last c d m n x no_bytes = absurd (n refl)
  one_renewed folder folder' last c d m n (halted _ x) (halted _ y) =
      same_stop (parts_in kind (kind_file kind base)) files c d (parts_exact kind (kind_file kind base)) x y
  one_renewed folder folder' last c d m n (halted _ x) (wrote v y s) =
      absurd (never_both (parts_in kind (kind_file kind base)) files (part_of v) c (parts_exact kind (kind_file kind base)) y x)
  one_renewed folder folder' last c d m n (wrote v y s) (halted _ x) =
      absurd (never_both (parts_in kind (kind_file kind base)) files (part_of v) d (parts_exact kind (kind_file kind base)) y x)
  one_renewed folder folder' last c d m n (wrote v x s) (wrote w y r) = refl

  pub renewed_stopped : (folder folder' : Shelf) (case c : Case) → Came (value_in kind (kind_file kind base)) files (Stops c)
      → Renewed kind base files folder folder' case → (case ≡ Memory) ⊎ (case ≡ c)
  renewed_stopped folder folder' case c x no_bytes = inl refl
  renewed_stopped folder folder' case c x (halted _ y) =
      inr (same_stop (parts_in kind (kind_file kind base)) files case c (parts_exact kind (kind_file kind base)) y
      (part_came kind (kind_file kind base) files (Stops c) x))
  renewed_stopped folder folder' case c x (wrote v y s) =
      absurd (never_both (parts_in kind (kind_file kind base)) files (part_of v) c (parts_exact kind (kind_file kind base)) y
      (part_came kind (kind_file kind base) files (Stops c) x))

  pub renewed_whole : (folder folder' : Shelf) (case : Case) (v : Value) → Came (value_in kind (kind_file kind base)) files (Has v)
      → Renewed kind base files folder folder' case → ((case ≡ Done) × StoresAll (over kind base v) folder.files folder'.files) ⊎ (case ≡ Memory)
  renewed_whole folder folder' case v x no_bytes = inr refl
  renewed_whole folder folder' case v x (halted _ y) =
      absurd (never_both (parts_in kind (kind_file kind base)) files (part_of v) case (parts_exact kind (kind_file kind base))
      (part_came kind (kind_file kind base) files (Has v) x) y)
  renewed_whole folder folder' case v x (wrote w y s) =
      let same = same_value (parts_in kind (kind_file kind base)) files (part_of w) (part_of v) (parts_exact kind (kind_file kind base)) y
      (part_came kind (kind_file kind base) files (Has v) x) in
      let whole = whole_comes kind (kind_file kind base) (Some files) x.trail v x.comes in
      inl (refl, stored_like (over kind base w) (over kind base v) (one_like _ _ (value_like (kind_file kind base) w v whole same)) folder.files folder'.files s)
