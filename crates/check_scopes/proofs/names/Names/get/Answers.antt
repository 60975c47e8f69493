-- The newest index is asked first.
use Rattle.std.proofs.Common.{Some, ap, ◌∙◌}
use Rattle.std.specs.Option.{option_map, option_or}
use Rattle.check_scopes.specs.Shows.{means, valued, layered}
use Rattle.check_scopes.proofs.names.Names.get.Goals as goal

pub returns-in-Some : goal.returns-in-Some
unfolding means valued
returns-in-Some g c =
    ap Some c.deref.ensures
    ∙ ap (λ o. option_or (option_map (λ r. r.value) o) (layered c.args.self.now.frozen.items c.args.name.now)) c.in-Some.ensures

pub returns-in-None : goal.returns-in-None
unfolding means valued
returns-in-None g c =
    c.found.ensures ∙ ap (λ ls. layered ls c.args.name.now) c.as_slice.ensures.value
    ∙ ap (λ o. option_or (option_map (λ r. r.value) o) (layered c.args.self.now.frozen.items c.args.name.now)) c.in-None.ensures
