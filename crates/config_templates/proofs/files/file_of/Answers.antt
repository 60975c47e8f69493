use Rattle.std.proofs.Common.{◌≡◌, Some, None, refl, slice_get, sym, ap, ◌∙◌}
use Rattle.std.proofs.lemmas.Option.{slice_get_past, slice_get_read}
use Rattle.config_templates.specs.Places.{place_in, names_of_files}
use Rattle.config_templates.proofs.PlaceLaws.{file_at, file_in, file_by_place}
use Rattle.config_templates.proofs.files.file_of.Goals as goal

pub returns-in_default : goal.returns-in_default
returns-in_default c =
    let all = c.args.directory.now in
    let name = c.args.name.now in
    let none : place_in (names_of_files all) name ≡ None = cc in
    c.bytes-in_default.ensures ∙ sym (file_by_place all name ∙ ap (file_at all name) none)

pub returns-in-None : goal.returns-in-None
returns-in-None c =
    let all = c.args.directory.now in
    let name = c.args.name.now in
    let place : place_in (names_of_files all) name ≡ Some c.in-Some.place = cc in
    let none : slice_get all c.in-Some.place ≡ None = slice_get_past _ _ c.in-None.ensures.lookup.3 in
    c.bytes-in-None.ensures ∙ sym (file_by_place all name ∙ ap (file_at all name) place ∙ ap (file_in name) none)

pub returns-in-Some-get : goal.returns-in-Some-get
returns-in-Some-get c =
    let all = c.args.directory.now in
    let name = c.args.name.now in
    let place : place_in (names_of_files all) name ≡ Some c.in-Some.place = cc in
    let item : slice_get all c.in-Some.place ≡ Some c.in-Some-get.item.now = slice_get_read _ _ _ _ refl c.in-Some-get.ensures.lookup.3.0 c.in-Some-get.ensures.lookup.1 in
    c.as_slice.ensures ∙ sym (file_by_place all name ∙ ap (file_at all name) place ∙ ap (file_in name) item)
