use Rattle.std.proofs.Common.{rules, sym}
use Rattle.std.proofs.lemmas.Cmp.{ranked}
use Rattle.std.proofs.lemmas.List.Elements.{Contains-get_or}
use Rattle.std.proofs.lemmas.List.Sorted.{answers_always}
use Rattle.mesa_types.specs.declared.faces.Pair.{Pair}
use Rattle.import_binder.proofs.numbers.pair_of.Goals as goal

-- the closure gives a pair's item
pub returns-in-Ok : goal.returns-in-Ok
returns-in-Ok c =
    let none : Pair = record { item = 0; number = 0 } in
    let equal = c.in-Ok.ensures.position (λ (p : Pair). p.item) (answers_always _ _ _ (λ f a r g called. search rules)) in
    (ranked _ c.args.item _ (sym (equal none)), Contains-get_or c.args.pairs.now c.in-Ok.at none c.in-Ok.ensures.bound)
