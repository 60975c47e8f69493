use Rattle.std.proofs.Common.{◌≡◌, true, false, Some, None, refl, slice_get, sym, ap, ◌∙◌, zero-add}
use Rattle.std.specs.Prelude.{bytes_eq}
use Rattle.std.proofs.lemmas.Option.{slice_get_past, slice_get_read}
use Rattle.config_templates.specs.Places.{place_in, names_of_components}
use Rattle.config_templates.proofs.ModuleLaws.{module_at, module_of, module_by_place, same_name, other_name, differs, equals}
use Rattle.config_templates.proofs.AnswerLaws.{ok}
use Rattle.config_templates.specs.Modules.{of_shape}
use Rattle.config_templates.proofs.modules.Modules.shape.Goals as goal

pub returns-in_default : goal.returns-in_default
returns-in_default c =
    let m = c.args.self.now in
    let i = c.args.component.now in
    let none : place_in (names_of_components m.components.now) i.name ≡ None = cc in
    module_by_place 0 m.components.now m.shapes.now i ∙ ap (module_at 0 m.shapes.now i) none

pub returns-in_default-get : goal.returns-in_default-get
returns-in_default-get c =
    let m = c.args.self.now in
    let i = c.args.component.now in
    let place : place_in (names_of_components m.components.now) i.name ≡ Some c.in-Some.place = cc in
    let none : slice_get m.shapes.now c.in-Some.place ≡ None = slice_get_past _ _ c.in_default-get.ensures.lookup.3 in
    module_by_place 0 m.components.now m.shapes.now i ∙ ap (module_at 0 m.shapes.now i) place ∙ ap (module_of _ i) none

pub returns-then-ne : goal.returns-then-ne
returns-then-ne c =
    let m = c.args.self.now in
    let i = c.args.component.now in
    let s = c.in-Some-get.shape.now in
    let place : place_in (names_of_components m.components.now) i.name ≡ Some c.in-Some.place = cc in
    let there : slice_get m.shapes.now c.in-Some.place ≡ Some s = slice_get_read _ _ _ _ refl c.in-Some-get.ensures.lookup.3.0 c.in-Some-get.ensures.lookup.1 in
    let other : bytes_eq s.name i.name ≡ false =
    sym (ap (λ y. bytes_eq y c.bytes-name.result.now) c.bytes.ensures ∙ ap (bytes_eq s.name) c.bytes-name.ensures) ∙ differs _ c.if-ne.ensures in
    module_by_place 0 m.components.now m.shapes.now i ∙ ap (module_at 0 m.shapes.now i) place ∙ ap (module_of _ i) there ∙ other_name _ s i other

pub returns : goal.returns
returns c =
    let m = c.args.self.now in
    let i = c.args.component.now in
    let s = c.in-Some-get.shape.now in
    let place : place_in (names_of_components m.components.now) i.name ≡ Some c.in-Some.place = cc in
    let there : slice_get m.shapes.now c.in-Some.place ≡ Some s = slice_get_read _ _ _ _ refl c.in-Some-get.ensures.lookup.3.0 c.in-Some-get.ensures.lookup.1 in
    let same : bytes_eq s.name i.name ≡ true =
    sym (ap (λ y. bytes_eq y c.bytes-name.result.now) c.bytes.ensures ∙ ap (bytes_eq s.name) c.bytes-name.ensures) ∙ equals _ c.if-ne.ensures in
    module_by_place 0 m.components.now m.shapes.now i ∙ ap (module_at 0 m.shapes.now i) place ∙ ap (module_of _ i) there ∙ same_name _ s i same
    ∙ ap (λ n. ok (of_shape n s)) (zero-add c.in-Some.place)
