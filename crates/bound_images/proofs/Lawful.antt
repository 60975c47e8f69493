-- The program of a tree from which an image is built is lawful.
use Rattle.std.proofs.Common.{◌≡◌, ℕ, zero, suc, ◌<◌, false, List, [], ◌∷◌, map, All, Option, Some, None, slice_get, refl, sym, ap, subst, ◌∙◌, arith}
use Rattle.std.specs.Prelude.{codes}
use Rattle.std.proofs.lemmas.Option.{none-some, same_Some}
use Rattle.mesa_types.specs.Links.{imported, IsUsed}
use Rattle.mesa_types.specs.Sound.{Sound, ExportIn, PairIn, IsGiven}
use Rattle.mesa_types.specs.Types.{types_in}
use Rattle.mesa_types.specs.Typed.{Module}
use Rattle.mesa_types.specs.declared.types.FieldType.{FieldType, roll-FieldType, out-roll-FieldType}
use Rattle.mesa_types.specs.declared.types.TypeTree.{TypeTree}
use Rattle.mesa_types.specs.declared.types.TypeTree.TheOpen.{FieldType-F}
use Rattle.mesa_types.specs.declared.types.TypeTree.TheVariants as v
use Rattle.mesa_types.specs.declared.faces.Export.{Export}
use Rattle.mesa_types.specs.declared.faces.Face.{Face}
use Rattle.mesa_types.specs.declared.faces.Import.{Import}
use Rattle.mesa_types.specs.declared.faces.Item.{Item}
use Rattle.mesa_types.specs.declared.faces.ItemKind.{ItemKind}
use Rattle.mesa_types.specs.declared.faces.ItemKind.TheVariants as kind
use Rattle.mesa_types.specs.declared.faces.Shape.{Shape}
use Rattle.interface_records.specs.Faces.{iodefs}
use Rattle.source_meaning.specs.Program.{Program, Target, host_of, host_target}
use Rattle.source_meaning.specs.Lawful.{host_takes, host_gives, Supplies, StandsFor, LawfulInstance, Lawful}
use Rattle.config_rules.specs.declared.tree.TreeInstance.{TreeInstance}
use Rattle.config_rules.specs.Resolves.{Resolution, Left, Bound, NoExporter, Twice, OtherInterface, OtherStamp, Want, is_bad}
use Rattle.bound_images.specs.Programs.{given_as, target_by, target, program_of}
use Rattle.bound_images.specs.Built.{LeavesToHost}
use Rattle.config_rules.proofs.Members.{Mem, map_get, mapped_length}
use Rattle.bound_images.proofs.Chosen.{IsBound, is_bound, OutletOf, outlet_from, GivenBy, given_there}
use Rattle.bound_images.proofs.Elements.{all_mem, all_by, get_map, one_there}
use Rattle.bound_images.proofs.Modules.{World, program, meant, ModuleOf, module_for, code_is, imports_are, face_known, face_of_export, Known, known, among_all, same_item}
use Rattle.bound_images.proofs.Using.{using_item}

-- ---- what an item of the built-in interface stands for is of its kind and types

one_type : (name : Option (List ℕ)) (t : TypeTree) → types_in (roll-FieldType (record { name = name; kind = t }) ∷ []) ≡ t ∷ []
one_type name t = ap (λ (f : FieldType-F TypeTree FieldType). f.kind ∷ []) (out-roll-FieldType (record { name = name; kind = t }))

abbrev OfHost : Program → Item → Type 0
OfHost P i = StandsFor P (host_target (host_of i.name)) i

of_host : (P : Program) (n : ℕ) (i : Item) → slice_get iodefs.face.items n ≡ Some i → OfHost P i
unfolding StandsFor host_target host_of host_takes host_gives
of_host P zero i is = subst (OfHost P) (same_Some _ i is) (refl, one_type (Some (codes "c")) v.Character, refl)
of_host P (suc zero) i is = subst (OfHost P) (same_Some _ i is) (refl, one_type (Some (codes "s")) v.String, refl)
of_host P (suc (suc zero)) i is = subst (OfHost P) (same_Some _ i is) (refl, one_type (Some (codes "n")) v.Integer, refl)
of_host P (suc (suc (suc zero))) i is = subst (OfHost P) (same_Some _ i is) (refl, refl, one_type None v.Character)
of_host P (suc (suc (suc (suc zero)))) i is = subst (OfHost P) (same_Some _ i is) (refl, refl, one_type None v.Boolean)
of_host P (suc (suc (suc (suc (suc zero))))) i is = subst (OfHost P) (same_Some _ i is) (refl, refl, refl)
of_host P (suc (suc (suc (suc (suc (suc n)))))) i is = absurd (none-some i is)

-- ---- the instance to which an item is bound supplies it

module _ (W : World) (w : Want) (K : Known W w) (j q : ℕ) (E : IsBound W.tree w.face w.item.name j q) where
  abbrev export : Export
  export = E.outlet.gives

  exporter : OutletOf W.tree.instances 0 E.outlet
  exporter = outlet_from 0 W.tree.instances E.outlet E.is

  number : j ≡ exporter.place
  number = let e = E.instance in let n = exporter.number in omega (arith, e, n)

  its : ModuleOf W exporter.its
  its = module_for W exporter.place exporter.its exporter.there

  given : GivenBy w.item.name export.face export.given
  given = given_there w.item.name export.face export.given E.given

  pair : PairIn its.its export.face given.pair
  unfolding ExportIn
  pair =
      let exported = subst (λ (s : Shape). Mem export s.exports) (sym its.shape) exporter.gives in
      let sound = all_mem (ExportIn its.its) its.its.exports (W.built.sound exporter.its.component its.its its.there).exports export exported in
      all_mem (PairIn its.its export.face) export.given sound.2 given.pair given.is

  -- the item of the pair is the one that is wanted
  same : pair.wanted ≡ w.item
  same =
      one_there export.face.items given.pair.item pair.wanted given.item pair.is_wanted given.there
      ∙ same_item W w K export.face (face_known W exporter.its its export.face (face_of_export exporter.its.shape export exporter.gives)) E.interface E.stamp
      given.pair.item given.item given.there given.named

  its_code : (meant W exporter.its).code ≡ its.its
  its_code = code_is W exporter.its its

  supplies : Supplies (program W) j q w.item
  unfolding program_of
  supplies = record {
    instance = meant W exporter.its;
    given = pair.given;
    is_there = ap (λ m. slice_get (map (meant W) W.tree.instances) m) number ∙ map_get (meant W) W.tree.instances exporter.place exporter.its exporter.there;
    is_given =
        subst (λ (m : Module). IsGiven m w.item.kind q pair.given) (sym its_code)
        (subst (λ (i : Item). IsGiven its.its i.kind q pair.given) same
        (subst (λ (m : ℕ). IsGiven its.its pair.wanted.kind m pair.given) (given.number ∙ E.number) pair.is_given));
    takes = pair.takes ∙ ap (λ (i : Item). types_in i.takes) same;
    gives = pair.gives ∙ ap (λ (i : Item). types_in i.gives) same;
  }

pub supplied : (W : World) (w : Want) → Known W w → (j q : ℕ) → w.answer ≡ Bound j q → Supplies (program W) j q w.item
supplied W w K j q bound = supplies W w K j q (is_bound W.tree K.spot w.face w.item.name j q (sym K.resolves ∙ bound))

as_given : (P : Program) (i : Item) (j q : ℕ) → Supplies P j q i → (k : ItemKind) → i.kind ≡ k → StandsFor P (given_as k j q) i
unfolding given_as StandsFor
as_given P i j q s kind.Procedure e = (e, s)
as_given P i j q s kind.Signal e = ((λ p. absurd (let g : kind.Signal ≡ kind.Procedure = sym e ∙ p in cc)), s)
as_given P i j q s kind.Error e = ((λ p. absurd (let g : kind.Error ≡ kind.Procedure = sym e ∙ p in cc)), s)

-- ---- each used item stands for one of its own kind and types

module _ (W : World) (host : LeavesToHost W.tree) where
  host_item : (w : Want) (K : Known W w) → w.answer ≡ Left → slice_get iodefs.face.items K.number ≡ Some w.item
  host_item w K left =
      let h = host K.place w K.is left in
      let face : w.face ≡ iodefs.face = W.built.agree w.face iodefs.face K.face (zero, omega arith, refl) h.0 h.1 in
      subst (λ (f : Face). slice_get f.items K.number ≡ Some w.item) face K.there

  want_stands : (w : Want) → Known W w → (a : Resolution) → w.answer ≡ a → is_bad a ≡ false → StandsFor (program W) (target_by w.item a) w.item
  unfolding target_by is_bad
  want_stands w K Left e good = of_host (program W) K.number w.item (host_item w K e)
  want_stands w K (Bound j q) e good = as_given (program W) w.item j q (supplied W w K j q e) w.item.kind refl
  want_stands w K NoExporter e good = cc
  want_stands w K (Twice j k) e good = cc
  want_stands w K (OtherInterface j) e good = cc
  want_stands w K (OtherStamp s) e good = cc

  used_stands : (j : ℕ) (x : TreeInstance) → slice_get W.tree.instances j ≡ Some x → (k n : ℕ) (i : Item) → imported x.shape.imports k n ≡ Some i → IsUsed x.shape.imports k n
      → StandsFor (program W) (target W.tree x k n) i
  used_stands j x at k n i e u =
      let U = using_item W j x at k n i e u in
      let K = known W U.want (among_all W.tree j x at _ U.want U.is_there) in
      subst (λ (y : Item). StandsFor (program W) (target W.tree x k n) y) U.item
      (subst (λ (g : Target). StandsFor (program W) g U.want.item) (sym U.stands) (want_stands U.want K U.want.answer refl K.good))

  instance_lawful : (j : ℕ) (x : TreeInstance) → slice_get W.tree.instances j ≡ Some x → LawfulInstance (program W) (meant W x)
  instance_lawful j x at =
      let M = module_for W j x at in
      record {
        sound = subst Sound (sym (code_is W x M)) (W.built.sound x.component M.its M.there);
        links =
            subst (λ (ms : List Import). (k n : ℕ) (i : Item) → imported ms k n ≡ Some i → IsUsed ms k n → StandsFor (program W) (target W.tree x k n) i)
            (sym (imports_are W x M)) (used_stands j x at);
      }

  pub whole : Lawful (program W)
  unfolding program_of
  whole = record {
    instances = all_by (LawfulInstance (program W)) (map (meant W) W.tree.instances) (λ j m there.
        let r = get_map (meant W) W.tree.instances j m there in
        subst (LawfulInstance (program W)) r.2 (instance_lawful j r.0 r.1));
    control = subst (λ n. All (λ j. j < n) W.tree.control) (sym (mapped_length (meant W) W.tree.instances)) W.built.tree.control;
  }
