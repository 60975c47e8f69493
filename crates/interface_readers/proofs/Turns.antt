-- The names that an index shows when an interface has one constant or one type more.
use Rattle.std.proofs.Common.{◌≡◌, ℕ, List, [], ◌∷◌, ◌++◌, refl, sym, ap, ◌∙◌, subst}
use Rattle.file_forms.specs.Seen.{Shows}
use Rattle.file_forms.specs.declared.seen.Seen.{Seen}
use Rattle.mesa_types.specs.declared.faces.Face.{Face}
use Rattle.mesa_types.specs.declared.types.TypeTree.{TypeTree}
use Rattle.interface_records.specs.declared.interface.Constant.{Constant}
use Rattle.interface_records.specs.declared.interface.NamedType.{NamedType}
use Rattle.interface_records.specs.declared.interface.Interface.{Interface}
use Rattle.face_rules.specs.FaceForms.{item_names}
use Rattle.face_rules.specs.InterfaceForms.{constant_names, type_names}
use Rattle.face_rules.proofs.SeenLaws.{shows_more}

-- the interface and a type were held together
pub constant_grown : (before held after : Interface) (c : Constant) (kind : TypeTree) → let joined : Interface × TypeTree = (held, kind) in joined ≡ (before, c.kind)
    → after ≡ record held { constants = held.constants ++ record { name = c.name; kind = kind; value = c.value } ∷ [] } → after ≡ record before { constants = before.constants ++ c ∷ [] }
constant_grown before held after c kind same grown =
    grown ∙ ap (λ (p : Interface × TypeTree). record p.0 { constants = p.0.constants ++ record { name = c.name; kind = p.1; value = c.value } ∷ [] }) same

pub type_grown : (before held after : Interface) (t : NamedType) (kind : TypeTree) → let joined : Interface × TypeTree = (held, kind) in joined ≡ (before, t.kind)
    → after ≡ record held { types = held.types ++ record { name = t.name; kind = kind } ∷ [] } → after ≡ record before { types = before.types ++ t ∷ [] }
type_grown before held after t kind same grown =
    grown ∙ ap (λ (p : Interface × TypeTree). record p.0 { types = p.0.types ++ record { name = t.name; kind = p.1 } ∷ [] }) same

pub constant_shown : (old new : Seen) (before after : Interface) (c : Constant) (x : List ℕ) → after ≡ record before { constants = before.constants ++ c ∷ [] } → x ≡ c.name
    → ((names : List (List ℕ)) → Shows old names → Shows new (names ++ x ∷ [])) → Shows old (item_names before.face.items ++ constant_names before.constants)
    → Shows new (item_names after.face.items ++ constant_names after.constants)
constant_shown old new before after c x grown called adds shown =
    subst (λ (i : Interface). Shows new (item_names i.face.items ++ constant_names i.constants)) (sym grown)
    (shows_more (λ (k : Constant). k.name) new (item_names before.face.items) before.constants (before.constants ++ c ∷ []) c x refl called (adds _ shown))

pub type_shown : (old new : Seen) (before after : Interface) (t : NamedType) (x : List ℕ) → after ≡ record before { types = before.types ++ t ∷ [] } → x ≡ t.name
    → ((names : List (List ℕ)) → Shows old names → Shows new (names ++ x ∷ [])) → Shows old (item_names before.face.items ++ constant_names before.constants ++ type_names before.types)
    → Shows new (item_names after.face.items ++ constant_names after.constants ++ type_names after.types)
type_shown old new before after t x grown called adds shown =
    subst (λ (i : Interface). Shows new (item_names i.face.items ++ constant_names i.constants ++ type_names i.types)) (sym grown)
    (shows_more (λ (k : NamedType). k.name) new (item_names before.face.items ++ constant_names before.constants) before.types (before.types ++ t ∷ []) t x refl called (adds _ shown))

pub shows_as : (seen : Seen) (i : Interface) (f : Face) (cs : List Constant) → i.face ≡ f → i.constants ≡ cs → Shows seen (item_names i.face.items ++ constant_names i.constants ++ type_names i.types)
    → Shows seen (item_names f.items ++ constant_names cs ++ type_names i.types)
shows_as seen i f cs same equal shown =
    subst (λ (g : Face). Shows seen (item_names g.items ++ constant_names cs ++ type_names i.types)) same
    (subst (λ (ds : List Constant). Shows seen (item_names i.face.items ++ constant_names ds ++ type_names i.types)) equal shown)
