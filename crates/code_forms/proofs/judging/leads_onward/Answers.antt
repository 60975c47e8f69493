use Rattle.std.proofs.Common.{◌≡◌, false, true, refl, sym, subst}
use Rattle.std.proofs.lemmas.Option.{slice_get_within}
use Rattle.code_forms.specs.Around.{routine_around}
use Rattle.code_forms.specs.Depths.{AgreesOnward, AgreesAt, Reaches, backward_target, outward_target}
use Rattle.code_forms.specs.Routine.{Routine, spots, spot_of}
use Rattle.code_forms.proofs.Depths.{own_settled, agree_onward, places_agree, agree_at, places_at}
use Rattle.code_forms.proofs.Leading.{back_low, out_low, next_led, target_led, leads_to, spot_there}
use Rattle.code_forms.proofs.Ordered.{blank, spots_length}
use Rattle.code_forms.proofs.judging.leads_onward.Goals as goal

pub returns-then-not-agrees_with : goal.returns-then-not-agrees_with
returns-then-not-agrees_with c s =
    let r : Routine = routine_around c.args.around.now (spots c.args.code.now) in let q = c.requires in
    let h : false ≡ true = c.if-not-agrees_with.ensures.1
    (places_agree r c.args.i c.args.code.now c.next_of-next.result c.args.after (sym (spots_length c.args.code.now)) q.marked
    (next_led r c.args.code.now c.args.i c.args.entry c.next_of-next.result refl q.is c.next_of-next.ensures)
    (subst (λ n. AgreesOnward r c.args.i n) (sym q.after) s.onward)) in
    cc

pub returns-then-not-agrees_with-2 : goal.returns-then-not-agrees_with-2
returns-then-not-agrees_with-2 c s =
    let r : Routine = routine_around c.args.around.now (spots c.args.code.now) in let q = c.requires in
    let h : false ≡ true = c.if-not-agrees_with-2.ensures.1
    (places_agree r c.args.i c.args.code.now c.target_of-target.result c.args.after (sym (spots_length c.args.code.now)) q.marked
    (target_led r c.args.code.now c.args.i c.args.entry c.target_of-target.result refl q.is c.target_of-target.ensures)
    (subst (λ n. AgreesOnward r c.args.i n) (sym q.after) s.onward)) in
    cc

pub returns-then-not-agrees_at : goal.returns-then-not-agrees_at
returns-then-not-agrees_at c s =
    let r : Routine = routine_around c.args.around.now (spots c.args.code.now) in let q = c.requires in
    let h : false ≡ true = c.if-not-agrees_at.ensures.1
    (λ j d f. places_at r c.args.i c.args.code.now (backward_target c.args.entry.instruction) c.args.after q.marked
    (back_low r c.args.code.now c.args.i c.args.entry q.order q.is q.jump) (slice_get_within c.args.code.now c.args.i c.args.entry q.is)
    (subst (λ n. AgreesAt r (backward_target c.args.entry.instruction) n) (sym q.after) s.backward) j d
    (subst (λ t. Reaches (spots c.args.code.now) t j) c.backward_target.ensures f)) in
    cc

pub returns-then-not-agrees_at-2 : goal.returns-then-not-agrees_at-2
returns-then-not-agrees_at-2 c s =
    let r : Routine = routine_around c.args.around.now (spots c.args.code.now) in let q = c.requires in
    let h : false ≡ true = c.if-not-agrees_at-2.ensures.1
    (λ j d f. places_at r c.args.i c.args.code.now (outward_target c.args.entry.instruction) 0 q.marked
    (out_low r c.args.code.now c.args.i c.args.entry q.order q.rise q.froms q.is q.jump) (slice_get_within c.args.code.now c.args.i c.args.entry q.is)
    s.outward j d (subst (λ t. Reaches (spots c.args.code.now) t j) c.outward_target.ensures f)) in
    cc

pub returns : goal.returns
returns c =
    let r : Routine = routine_around c.args.around.now (spots c.args.code.now) in let q = c.requires in
    let code = c.args.code.now in let i = c.args.i in let entry = c.args.entry in
    let st = own_settled r i code entry q.marked q.is in
    let stay = c.if-not-stays.ensures.0 refl in
    let leads = leads_to r code i entry c.next_of-next.result c.target_of-target.result q.order refl q.is stay c.next_of-next.ensures c.target_of-target.ensures in
    let within = slice_get_within code i entry q.is in (
      record {
        fits = q.fits;
        returns = c.if-not-returns_rightly.ensures.0 refl;
        stays = stay;
        onward = agree_onward r i code c.next_of-next.result c.target_of-target.result (spot_of entry) entry.depth c.args.after blank (sym (spots_length code)) (spot_there code i entry q.is) st q.after q.marked leads
            (c.if-not-agrees_with.ensures.0 refl) (c.if-not-agrees_with-2.ensures.0 refl);
        backward = subst (λ n. AgreesAt r (backward_target entry.instruction) n) q.after
            (agree_at r i code (backward_target entry.instruction) c.args.after blank refl q.marked (back_low r code i entry q.order q.is q.jump) within
            (λ j d f. c.if-not-agrees_at.ensures.0 refl j d (subst (λ t. Reaches (spots code) t j) (sym c.backward_target.ensures) f)));
        outward = agree_at r i code (outward_target entry.instruction) 0 blank refl q.marked (out_low r code i entry q.order q.rise q.froms q.is q.jump) within
            (λ j d f. c.if-not-agrees_at-2.ensures.0 refl j d (subst (λ t. Reaches (spots code) t j) (sym c.outward_target.ensures) f));
      },
      leads,
      refl,
    )
