-- What files can spell of interfaces stays so in what is checked with them, whatever files it comes of.
use Rattle.std.proofs.Common.{◌≡◌, ℕ, suc, List, [], ◌∷◌, length, map, All, Option, Some, None, sym, ap, subst, ◌∙◌}
use Rattle.std.proofs.lemmas.List.Elements.{All-nil, All-cons, All-head, All-tail}
use Rattle.mesa_base.specs.Outside.{Files}
use Rattle.mesa_types.specs.Typed.{Module}
use Rattle.interface_records.specs.Faces.{iodefs}
use Rattle.interface_records.specs.PlainTypes.{plain_interface}
use Rattle.interface_records.specs.Spelled.{InSixBytes, InterfaceCanBeSpelled, InterfacesCanBeSpelled}
use Rattle.interface_records.specs.declared.interface.Interface.{Interface}
use Rattle.face_rules.specs.InterfaceForms as form
use Rattle.face_rules.proofs.Versions.{interface_grows}
use Rattle.spelled_laws.specs.Laws.{BuiltInFits, InterfacesFit}
use Rattle.command_passes.specs.checked_texts.specs.Laws.{CanBeKept, DefinedInterfacesCanBeSpelled, ReadModulesCanBeKept}
use Rattle.command_passes.specs.command_rules.specs.Configurations.{component_in}
use Rattle.command_passes.specs.command_rules.specs.Forms.{interface_file, module_file}
use Rattle.command_passes.specs.command_rules.specs.Modules.{Begun, Decodes, is_file, Checks, checked, Defines, defined, interface_for, module_in, program_of, interface_in, definitions_of}
use Rattle.command_passes.specs.command_rules.specs.Passes.{Outcome, Has, Trail, Pass, held, Follows, went, given, each}
use Rattle.command_sources.specs.Laws.{DefinitionsCanBeWritten, ModulesOfFilesCanBeKept}

has_is : {C A : Type 0} (a b : A) → ◌≡◌ {A = Outcome C A} (Has a) (Has b) → a ≡ b
has_is a b e = cc

-- ---- what is so of each value of a list

more_so : {C A : Type 0} (P : A → Type 0) (p : Pass C (List A)) (n : ℕ) (files : Option Files) (m : Trail) (a : A) (vs : List A) → P a
    → ((k : Trail) (bs : List A) → p.comes files k (Has bs) → (length bs ≡ n) × All P bs)
    → Follows p (λ bs. given (a ∷ bs)) files m (Has vs) → (length vs ≡ suc n) × All P vs
more_so P p n files _ a vs its rest_so (went k z bs _ rest last) =
    let e = has_is vs (a ∷ bs) last.1 in let h = rest_so k bs rest in
    (ap length e ∙ ap suc h.0, subst (All P) (sym e) (All-cons P a bs its h.1))

each_so : {C X A : Type 0} (P : A → Type 0) (q : X → Pass C A) → ((x : X) (files : Option Files) (t : Trail) (a : A) → (q x).comes files t (Has a) → P a)
    → (xs : List X) (files : Option Files) (t : Trail) (vs : List A) → (each q xs).comes files t (Has vs) → (length vs ≡ length xs) × All P vs
unfolding each
each_so P q one [] files t vs h = let e = has_is vs [] h.1 in (ap length e, subst (All P) (sym e) (All-nil P))
each_so P q one (x ∷ xs) files _ vs (went t m a _ h rest) =
    more_so P (each q xs) (length xs) files m a vs (one x files t a h) (λ k bs more. each_so P q one xs files k bs more) rest

-- ---- interfaces

abbrev IsSpelled : Interface → Type 0
IsSpelled i = InterfaceCanBeSpelled (plain_interface i)

spelled_list : (is : List Interface) → All IsSpelled is → InterfacesCanBeSpelled (map plain_interface is)
unfolding InterfacesCanBeSpelled
spelled_list [] h = tt
spelled_list (i ∷ is) h = (All-head IsSpelled i is h, spelled_list is (All-tail IsSpelled i is h))

module _ (interfaces_fit : InterfacesFit) (built_in_fits : BuiltInFits) where
  decoded : (file bytes : List ℕ) (i : Interface) → Decodes file bytes (Has i) → IsSpelled i
  decoded file bytes i (is_file version _ h) = (interfaces_fit i).1 ((interface_grows version).fits i h.spells.fits.1)

  spelled_for : (asked : Option (List ℕ)) (files : Option Files) (t : Trail) (i : Interface) → (interface_for asked).comes files t (Has i) → IsSpelled i
  unfolding interface_for
  spelled_for None files t i h = subst IsSpelled (sym (has_is i iodefs h.1)) ((interfaces_fit iodefs).1 built_in_fits)
  spelled_for (Some base) files _ i (held bytes _ _ is) = decoded (interface_file base) bytes i is

  spelled_each : (asked : List (Option (List ℕ))) (files : Option Files) (t : Trail) (is : List Interface) → (each interface_for asked).comes files t (Has is)
      → InterfacesCanBeSpelled (map plain_interface is)
  spelled_each asked files t is h = spelled_list is (each_so IsSpelled interface_for spelled_for asked files t is h).1

  -- ---- modules

  module _ (kept : ReadModulesCanBeKept) where
    checked_so : (file bytes : List ℕ) (is : List Interface) (m : Module) → InterfacesCanBeSpelled (map plain_interface is) → Checks file bytes is (Has m) → CanBeKept m
    checked_so file bytes is m spelled (checked _ h) = kept bytes is m spelled h

    of_program : (file : List ℕ) (b : Begun) (files : Option Files) (t : Trail) (m : Module) → (program_of file b).comes files t (Has m) → CanBeKept m
    unfolding program_of
    of_program file b files _ m (went t u is _ asked last) = checked_so file b.0 is m (spelled_each _ files t is asked) last.1

    of_module : (file : List ℕ) (files : Option Files) (t : Trail) (m : Module) → (module_in file).comes files t (Has m) → CanBeKept m
    unfolding module_in
    of_module file files _ m (went t u b _ begun last) = of_program file b files u m last

    pub can_be_kept : ModulesOfFilesCanBeKept
    can_be_kept = record {
      one = of_module;
      all = λ components files t modules h.
          let so = each_so CanBeKept component_in (λ x. of_module (module_file x.file)) components files t modules h in
          record { as_many = so.0; kept = so.1 };
    }

  -- ---- definitions

  module _ (spelled_so : DefinedInterfacesCanBeSpelled) where
    defined_so : (file bytes : List ℕ) (stamp : ℕ) (is : List Interface) (i : Interface) → InSixBytes stamp → InterfacesCanBeSpelled (map plain_interface is)
        → Defines file stamp bytes is (Has i) → (form.interface 2).fits i
    defined_so file bytes stamp is i six spelled (defined _ h) = (interfaces_fit i).0 (spelled_so bytes stamp is i six spelled h)

    of_definitions : (file : List ℕ) (stamp : ℕ) (b : Begun) (files : Option Files) (t : Trail) (i : Interface) → InSixBytes stamp
        → (definitions_of file stamp b).comes files t (Has i) → (form.interface 2).fits i
    unfolding definitions_of
    of_definitions file stamp b files _ i six (went t u is _ asked last) = defined_so file b.0 stamp is i six (spelled_each _ files t is asked) last.1

    pub can_be_written : DefinitionsCanBeWritten
    unfolding interface_in
    can_be_written file stamp files _ i six (went t u b _ begun last) = of_definitions file stamp b files u i six last
