use Rattle.std.proofs.Common.{ap, sym, ◌∙◌}
use Rattle.import_binder.specs.Choosing.{shown}
use Rattle.import_binder.specs.Places.{place_shown}
use Rattle.import_binder.proofs.Single.{none_there, put_there, refused_there}
use Rattle.import_binder.proofs.links.put_link.Goals as goal

pub returns-in_default-clause-ok : goal.returns-in_default-clause-ok
returns-in_default-clause-ok c = none_there c.args.indexed.now.tree.now c.args.instance.now c.args.face.now (place_shown c.args.place.now) c.args.links.now _ c.in_default.ensures

pub returns-in_ok-push-in-StandsFor-clause-ok : goal.returns-in_ok-push-in-StandsFor-clause-ok
unfolding shown
returns-in_ok-push-in-StandsFor-clause-ok c =
    put_there c.args.indexed.now.tree.now c.args.instance.now c.args.face.now (place_shown c.args.place.now) c.in-Some.item.now _ c.in-Some.ensures c.args.links.now c.push.new.self
    c.in-StandsFor.binding c.in_ok-push-in-StandsFor.ensures.ok (ap shown (sym c.in-StandsFor.is) ∙ c.in_ok-found.ensures)

pub returns-in-IsBad-clause-err : goal.returns-in-IsBad-clause-err
unfolding shown
returns-in-IsBad-clause-err c =
    refused_there c.args.indexed.now.tree.now c.args.instance.now c.args.face.now (place_shown c.args.place.now) c.in-Some.item.now _ c.in-Some.ensures c.in-IsBad.cause c.refuse.result
    (ap shown (sym c.in-IsBad.is) ∙ c.in_ok-found.ensures) c.refuse.ensures
