use Rattle.std.proofs.Common.{◌≡◌, ◌+◌, sym, ap, ◌∙◌, drop, arith}
use Rattle.std.proofs.lemmas.List.{drop_all}
use Rattle.check_scopes.specs.Scopes.{over, nothing, with_name}
use Rattle.check_scopes.specs.Shows.{listed}
use Rattle.config_templates.specs.Places.{place_in, names_of_files}
use Rattle.config_templates.proofs.PlaceLaws.{from, begun, next, ended}
use Rattle.config_templates.proofs.Turns.{next_at}
use Rattle.config_templates.proofs.files.file_places.Goals as goal

pub loop-at-init : goal.loop-at-init
loop-at-init c = begun (listed c.new-places.result) (names_of_files c.args.directory.now) c.new-places.ensures

pub loop-at-preserved : goal.loop-at-preserved
loop-at-preserved c =
    let all = c.args.directory.now in
    let i = c.loop-at.at in
    let old = listed c.loop-at.places in
    let put : listed c.declare_first.new.self ≡ over old (with_name c.index-directory-at.result.name.name i nothing) = c.in_ok-declare_first.ensures.ok ∙ ap (λ y. over old (with_name y i nothing)) c.bytes.ensures in
    sym (next old (listed c.declare_first.new.self) i c.index-directory-at.result.name.name (names_of_files (drop (i + 1) all)) put)
    ∙ ap (λ xs. over old (from i (place_in (names_of_files xs)))) (sym (next_at all i c.index-directory-at.result (omega arith) c.index-directory-at.is))
    ∙ c.loop-at.invariant

pub returns : goal.returns
returns c =
    sym (ended (listed c.loop-at.places) c.loop-at.at)
    ∙ ap (λ xs. over (listed c.loop-at.places) (from c.loop-at.at (place_in (names_of_files xs)))) (sym (drop_all c.loop-at.at c.args.directory.now (omega arith)))
    ∙ c.loop-at.invariant
