use Rattle.std.proofs.Common.{◌≤◌, ◌<◌, ◌-◌, ℕ, List, length, get_or, refl, ap, subst, ◌∙◌, ◌++◌, arith}
use Rattle.std.specs.Option.{option_to_list}
use Rattle.std.specs.Vec.{vec_len}
use Rattle.code_forms.specs.declared.module_code.Phrase.{Phrase}
use Rattle.signaller.proofs.Sweeping.{sweeps_pop}
use Rattle.signaller.proofs.sweep.close.Goals as goal

pub closing-preserved : goal.closing-preserved
closing-preserved c =
    let same = c.as_slice.ensures.value in
    let over = c.closing-test.ensures.over refl in
    let some : 0 < vec_len c.closing.opened = (let o = over.0 in let l = c.as_slice.ensures.len in omega (arith, o, l)) in
    sweeps_pop c.args.table.now c.closing.opened.items c.pop.new.self.items (get_or c.closing.opened.items (vec_len c.closing.opened - 1) 0) c.args.next c.args.at
    (c.pop.ensures.items ∙ ap (λ o. c.pop.new.self.items ++ option_to_list o) (c.pop.ensures.value 0 some)) c.closing.invariant
    (subst (λ (l : List ℕ). (d : Phrase) → (get_or c.args.table.now (get_or l (length l - 1) 0) d).to ≤ c.args.at) same over.1)
