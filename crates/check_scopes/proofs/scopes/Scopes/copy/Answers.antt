-- Each is copied in turn, and shows what it showed.
use Rattle.std.proofs.Common.{refl, ap, sym, ◌∙◌, map, rules}
use Rattle.std.proofs.lemmas.List.{length-map}
use Rattle.check_scopes.specs.Shows.{means, shows}
use Rattle.check_scopes.proofs.Copying.{kept, copied_more, shown_as, all_copied}
use Rattle.check_scopes.proofs.scopes.Scopes.copy.Goals as goal

pub loop-at-init : goal.loop-at-init
loop-at-init g c = record { stays = refl; copied = ap (map means) c.new-scopes.ensures.items }

pub loop-at-preserved : goal.loop-at-preserved
loop-at-preserved g c =
    let all = c.loop-at.self.scopes.items in
    let old = c.args.self.now.scopes.items in
    let here = c.index_mut.result.now in
    record {
      stays = kept all c.loop-at.at here c.share.new.self (search rules) (search rules) ∙ c.loop-at.invariant.stays;
      copied = ap (map means) c.in_ok-push.ensures.items
          ∙ copied_more all c.loop-at.scopes.items c.loop-at.at c.len-at-end.result here _ (map means old)
          (c.len-at-end.ensures ∙ c.args.self.now.scopes.ok.0 ∙ sym (length-map old means)) c.loop-at-test.true (search rules) (search rules)
          c.loop-at.invariant.stays c.loop-at.invariant.copied;
    }

pub returns-clause-same : goal.returns-clause-same
unfolding shows
returns-clause-same g c = all_copied c.loop-at.scopes.items c.args.self.now.scopes.items c.loop-at.at c.len-at-end.result
    (c.len-at-end.ensures ∙ c.args.self.now.scopes.ok.0) c.loop-at-test.false c.loop-at.invariant.copied

pub returns-clause-stays : goal.returns-clause-stays
unfolding shows
returns-clause-stays g c = shown_as c.loop-at.self.scopes.items c.args.self.now.scopes.items c.loop-at.invariant.stays
