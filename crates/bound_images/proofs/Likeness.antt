-- What supplies an item in the program is like the item's link in the image.
use Rattle.std.proofs.Common.{◌≡◌, ℕ, zero, suc, List, [], ◌∷◌, map, Some, slice_get, refl, sym, ap, subst, ◌∙◌}
use Rattle.std.specs.Prelude.{option_map, option_and_then, IsSomeAnd}
use Rattle.std.proofs.lemmas.Option.{none-some, same_Some, slice_get-map}
use Rattle.mesa_types.specs.Shapes.{words_in_all}
use Rattle.mesa_types.specs.Sound.{IsGiven}
use Rattle.mesa_types.specs.Types.{types_in}
use Rattle.mesa_types.specs.Typed.{Procedure, Module}
use Rattle.mesa_types.specs.declared.faces.Item.{Item}
use Rattle.mesa_types.specs.declared.faces.ItemKind.{ItemKind}
use Rattle.mesa_types.specs.declared.faces.ItemKind.TheVariants as kind
use Rattle.mesa_types.specs.declared.types.FieldType.{FieldType}
use Rattle.code_forms.specs.declared.module_code.CodeProcedure.{CodeProcedure}
use Rattle.code_forms.specs.declared.module_code.CodeSignal.{CodeSignal}
use Rattle.code_forms.specs.declared.module_code.ModuleCode.{ModuleCode}
use Rattle.code_forms.specs.Routine.{Routine}
use Rattle.code_rules.specs.Modules.{CodeFor, ProcedureCode, ProceduresCode, procedures_of, kind_code, words_of_fields, signal_code, link_code}
use Rattle.object_files.specs.declared.image.Image.{Image}
use Rattle.machine_ready.specs.machine_rules.specs.LookUps.{code_of, procedure_of, called, signal_of}
use Rattle.machine_ready.specs.machine_activations.specs.Links.{IsLike, IsOfInstance}
use Rattle.agreement_laws.proofs.Linked.{kinds_same}
use Rattle.bound_images.proofs.Elements.{get_map}

-- fields of the same types take as many words
words_same : (a b : List FieldType) → types_in a ≡ types_in b → words_of_fields a ≡ words_of_fields b
words_same a b e = ap words_in_all (kinds_same a b e)

-- a procedure of a module has its code in its place
record CodedAt (m : Module) (r : CodeProcedure → Routine) (p : Procedure) (cs : List CodeProcedure) (n : ℕ) : Type 0 where
  procedure : CodeProcedure
  there : slice_get cs n ≡ Some procedure
  code : ProcedureCode m r p procedure

coded_at : (m : Module) (r : CodeProcedure → Routine) (ps : List Procedure) (cs : List CodeProcedure) (n : ℕ) (p : Procedure) → ProceduresCode m r ps cs → slice_get ps n ≡ Some p
    → CodedAt m r p cs n
coded_at m r [] cs n p h e = absurd (none-some p e)
coded_at m r (q ∷ ps) [] n p h e = absurd h
coded_at m r (q ∷ ps) (c ∷ cs) zero p h e = record { procedure = c; there = refl; code = subst (λ x. ProcedureCode m r x c) (same_Some q p e) h.0 }
coded_at m r (q ∷ ps) (c ∷ cs) (suc n) p h e = let x = coded_at m r ps cs n p h.1 e in record { procedure = x.procedure; there = x.there; code = x.code }

-- what a module of an image gives
module _ (image : Image) (j : ℕ) (m : Module) (c : ModuleCode) (code : CodeFor m c) (there : code_of image j ≡ Some c) where
  module _ (i given : Item) (takes : types_in given.takes ≡ types_in i.takes) (gives : types_in given.gives ≡ types_in i.gives) where
    abbrev Likely : ItemKind → ℕ → Type 0
    Likely k q = IsOfInstance image (link_code i) (kind_code k) j q

    procedure_alike : (p : ℕ) → i.kind ≡ kind.Procedure → slice_get (map (λ (q : Procedure). q.head) m.procedures) p ≡ Some given → Likely kind.Procedure (suc p)
    unfolding called procedure_of
    procedure_alike p is at =
        let h = get_map (λ (q : Procedure). q.head) m.procedures p given at in
        let x = coded_at m _ (procedures_of m) c.procedures (suc p) h.0 code.each_procedure h.1 in
        let args : words_of_fields i.takes ≡ x.procedure.args =
        sym (x.code.args ∙ ap (λ (y : Item). words_of_fields y.takes) h.2 ∙ words_same given.takes i.takes takes) in
        let results : words_of_fields i.gives ≡ x.procedure.results =
        sym (x.code.results ∙ ap (λ (y : Item). words_of_fields y.gives) h.2 ∙ words_same given.gives i.gives gives) in
        let there_is : called image j (suc p) ≡ Some x.procedure = ap (λ o. option_and_then (λ (y : ModuleCode). slice_get y.procedures (suc p)) o) there ∙ x.there in
        subst (λ o. IsSomeAnd o (λ (y : CodeProcedure). IsLike (link_code i) (kind_code kind.Procedure) y.args y.results)) (sym there_is) (ap kind_code is, args, results)

    signal_alike : (q : ℕ) → i.kind ≡ given.kind → slice_get m.signals q ≡ Some given
        → IsSomeAnd (signal_of image j q) (λ (s : CodeSignal). IsLike (link_code i) s.kind s.args s.results)
    unfolding signal_of
    signal_alike q is at =
        let there_is : signal_of image j q ≡ Some (signal_code given) =
        ap (λ o. option_and_then (λ (y : ModuleCode). slice_get y.signals q) o) there ∙ ap (λ l. slice_get l q) code.each_signal ∙ slice_get-map signal_code m.signals q
        ∙ ap (option_map signal_code) at in
        subst (λ o. IsSomeAnd o (λ (s : CodeSignal). IsLike (link_code i) s.kind s.args s.results)) (sym there_is)
        (ap kind_code is, sym (words_same given.takes i.takes takes), sym (words_same given.gives i.gives gives))

    by_kind : (k : ItemKind) (q : ℕ) → i.kind ≡ k → IsGiven m k q given → Likely k q
    unfolding IsGiven
    by_kind kind.Procedure q is g = subst (Likely kind.Procedure) (sym g.1) (procedure_alike g.0 is g.2)
    by_kind kind.Signal q is g = signal_alike q (is ∙ sym g.1) g.0
    by_kind kind.Error q is g = signal_alike q (is ∙ sym g.1) g.0

    pub given_alike : (q : ℕ) → IsGiven m i.kind q given → IsOfInstance image (link_code i) (link_code i).kind j q
    given_alike q g = by_kind i.kind q refl g
