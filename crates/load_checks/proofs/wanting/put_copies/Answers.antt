use Rattle.std.proofs.Common.{List, ◌+◌, ◌++◌, ◌∷◌, [], drop, ap, sym, ◌∙◌, append_assoc}
use denote.Ref.{Bor}
use Rattle.interface_records.specs.declared.wanted.Wanted.{Wanted as Entry}
use Rattle.load_checks.specs.Wanting.{entries_shown}
use Rattle.load_checks.proofs.Looping.{next_shown}
use Rattle.load_checks.proofs.wanting.put_copies.Goals as goal

pub loop-entry-preserved : goal.loop-entry-preserved
loop-entry-preserved c =
    let es = c.args.entries.now in
    let at = c.loop-entry.entry-index in
    let x = c.entry-item.result in
    ap (λ (l : List Entry). l ++ drop (at + 1) (entries_shown es)) c.in_ok-put_copy.ensures
    ∙ append_assoc c.loop-entry.wanteds (x.now ∷ []) (drop (at + 1) (entries_shown es))
    ∙ ap (λ (l : List Entry). c.loop-entry.wanteds ++ l) (sym (next_shown (λ (y : Bor Entry). y.now) es at x x c.loop-entry-test.true c.entry-item.is))
    ∙ c.loop-entry.invariant
