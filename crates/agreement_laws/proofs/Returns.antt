-- The rows of RETURN with results, and of RESUME.
use Rattle.std.proofs.Common.{◌≡◌, ℕ, zero, suc, ◌+◌, ◌≤◌, List, [], ◌∷◌, ◌++◌, length, Some, refl, sym, ap, ◌∙◌, subst, arith}
use Rattle.std.specs.Prelude.{All}
use Rattle.mesa_types.specs.declared.types.FieldType.{FieldType}
use Rattle.mesa_types.specs.Typed.{Kind, Kinds, NoKinds, AndKind, Exprs, Leave}
use Rattle.mesa_types.specs.Shapes.{words_in_all, count_in, join, KindAt}
use Rattle.mesa_types.specs.Counts.{words_given}
use Rattle.mesa_types.specs.Plain.{kinds_of}
use Rattle.mesa_types.specs.Sound.{Arranged, ExprsIn, LabelGives, IsForRaises, scope_of}
use Rattle.mesa_types.proofs.Arranged.{arranged_words}
use Rattle.mesa_types.proofs.WordSizes.{sizes_agree}
use Rattle.code_forms.specs.declared.instruction.Instruction.{Instruction}
use Rattle.code_forms.specs.declared.instruction.Instruction.TheVariants as i
use Rattle.code_forms.specs.Instructions.{bytes_of}
use Rattle.source_meaning.specs.Value.{arrange, with_from}
use Rattle.source_meaning.specs.State.{State, Go, Resumed, Result, give, change, value_then}
use Rattle.source_meaning.specs.Variables.{store_from}
use Rattle.machine_rules.specs.State.{Stepped}
use Rattle.machine_rules.specs.Words.{push, put_words}
use Rattle.code_rules.specs.Laws.{behind_all}
use Rattle.code_rules.specs.OwnCode.{arrange_code}
use Rattle.code_rules.specs.Points.{OutOf}
use Rattle.code_rules.specs.Reading.{Coded, Destination, Place, Own, one_more, behind, read, jump_to, phrases_around}
use Rattle.code_rules.specs.Slots.{local_slot, sizes}
use Rattle.code_rules.proofs.Whole.{own_code_joins}
use Rattle.agreement_rules.specs.Operators.{Lies}
use Rattle.agreement_rules.specs.Reaches.{Reaches}
use Rattle.agreement_rules.proofs.Lifted.{in_order, found_there, reaches_itself}
use Rattle.agreement_laws.specs.World.{World, CodeOf, ScopeIn, texts_of, locals_of, meant_procedure}
use Rattle.agreement_laws.specs.Relation.{Ground, heres, Agrees, standing}
use Rattle.agreement_laws.specs.Contexts.{Site, Context, Inside}
use Rattle.agreement_laws.specs.Answers.{Valued}
use Rattle.agreement_laws.proofs.Codes.{locals_are, named_here, locals_lie}
use Rattle.agreement_laws.proofs.Control.{begun_more, agreed_begun}
use Rattle.agreement_laws.proofs.Doing.{Did, did_later, did_out}
use Rattle.agreement_laws.proofs.Jumps.{own_reads, jumps_from}
use Rattle.agreement_laws.proofs.Lists.{arranged_on}
use Rattle.agreement_laws.proofs.Parameters.{AllFrom, from_by, put_behind, put_lies}
use Rattle.agreement_laws.proofs.Stacks.{with_words}
use Rattle.agreement_laws.proofs.Stores.{works_here, store_l_works, same_globals}
use Rattle.agreement_laws.proofs.Storing.{agreed_variables}

-- Where results lie.

joined_at : (ks js : Kinds) (n : ℕ) (k : Kind) → KindAt js n k → KindAt (join ks js) (count_in ks + n) k
unfolding join count_in KindAt
joined_at NoKinds js n k h = let e : n ≡ 0 + n = omega arith in subst (λ x. KindAt js x k) e h
joined_at (AndKind j ks) js n k h =
    let e : suc (count_in ks + n) ≡ (1 + count_in ks) + n = omega arith in subst (λ x. KindAt (AndKind j (join ks js)) x k) e (joined_at ks js n k h)

left_at : (ks js : Kinds) (n : ℕ) (k : Kind) → KindAt ks n k → KindAt (join ks js) n k
unfolding join KindAt
left_at NoKinds js n k h = absurd h
left_at (AndKind j ks) js zero k h = h
left_at (AndKind j ks) js (suc n) k h = left_at ks js n k h

counted : (fields : List FieldType) → count_in (kinds_of fields) ≡ length fields
unfolding count_in
counted [] = refl
counted (f ∷ fields) = let e = counted fields in omega (arith, e)

results_from : (W : World) (K : Site) → CodeOf W K.ground.here.procedure K.code → ScopeIn W K.ground.here.procedure K.scope → (first : ℕ) → first ≡ K.scope.takes
    → AllFrom K.code.locals first K.scope.gives
unfolding scope_of
results_from W K code scope first e =
    let p = meant_procedure W K.ground.here.procedure in
    let takes = kinds_of p.head.takes in
    let gives = kinds_of p.head.gives in
    subst (λ ks. AllFrom K.code.locals first ks) (sym scope.gives)
    (subst (λ k. AllFrom K.code.locals k gives) (counted p.head.takes ∙ sym scope.takes ∙ sym e)
    (subst (λ ks. AllFrom ks (count_in takes) gives) (locals_are W K.ground.here.procedure K.code code)
    (from_by (join takes (join gives p.body.variables)) gives (count_in takes) (λ n k h. joined_at takes (join gives p.body.variables) n k (left_at gives p.body.variables n k h)))))

-- Instructions behind own code have the same phrases around.

pub behind_around : (P : Coded) (is : List Instruction) (w : Place) → (behind_all P is w).around ≡ w.around
behind_around P [] w = refl
behind_around P (j ∷ is) w = behind_around P is (behind P j w)

pub record Pair (P : Coded) (around : List ℕ) (x y : Instruction) (a b : ℕ) : Type 0 where
  pub depth : ℕ
  pub first : read P a ≡ Some (record { instruction = x; depth = depth; around = around })
  pub other : ℕ
  pub second : read P (a + bytes_of x) ≡ Some (record { instruction = y; depth = other; around = around })
  pub within : a + bytes_of x ≤ b

pair : {P : Coded} {v : Place} {x y : Instruction} {a b : ℕ} → Own P v (x ∷ y ∷ []) a b → Pair P v.around x y a b
pair {P = P} {v = v} {x = x} (one_more r rest) = record {
  depth = v.depth;
  first = r;
  other = (behind P x v).depth;
  second = own_reads rest;
  within = in_order rest;
}

module _ (W : World) (n : ℕ) (K : Site) (w : Place) (hi : ℕ) (ctx : Context W K w.points w.around w.slot hi) where
  abbrev G : Ground
  G = K.ground

  abbrev Q : ℕ → Stepped → Result → Type 0
  Q b s r = Did W (suc n) K w.around b s r

  given_size : (es : Exprs) (places : List ℕ) (js all : Kinds) → ExprsIn K.scope es js → Arranged places js all → words_given es ≡ words_in_all all
  given_size es places js all sound arranged = sizes_agree.of_values K.scope es js sound ∙ arranged_words places js all arranged

  pub resume_row : (places : List ℕ) (es : Exprs) (js all : Kinds) (c b : ℕ) (s : Stepped) (r : Result) → IsForRaises K.scope.arm → All (LabelGives K.scope all) K.scope.arm
      → ExprsIn K.scope es js → Arranged places js all → Own K.code w (arrange_code places (sizes es) ++ i.Resume (words_given es) ∷ []) c b
      → Valued W (suc n) K w.around js c [] s r → Did W (suc n) K w.around b s (value_then (λ vs. give (Resumed (arrange places vs))) r.answer r.state)
  unfolding give
  resume_row places es js all c b s r arm labels sound arranged own valued =
      let x = own_code_joins.splits K.code w (arrange_code places (sizes es)) (i.Resume (words_given es) ∷ []) c b own in
      let d = x.0 in
      let v = behind_all K.code (arrange_code places (sizes es)) w in
      let there = found_there K.code.entries d (phrases_around K.code.routine.phrases d) (record { instruction = i.Resume (words_given es); depth = v.depth; around = v.around }) (own_reads x.2) in
      arranged_on W n K w hi ctx (Q b) (λ s t r k h. did_later W (suc n) K w.around b s t r k h) (λ s a σ h. did_out W (suc n) K w.around b s a σ h)
      places es js all c d [] (λ vs. give (Resumed (arrange places vs))) s r sound arranged x.1 valued (λ vs words μ m shown agrees. record {
        kinds = all;
        labels = labels;
        in_arm = arm;
        offset = d;
        is_there = there.0 ∙ ap (λ k. Some (i.Resume k)) (given_size es places js all sound arranged);
        words = words;
        shown = shown;
        comes = record { frames = μ; store = m; agrees = agrees; reaches = reaches_itself W.image (standing G d (push words []) μ m) };
      })

  pub return_row : (places : List ℕ) (es : Exprs) (js : Kinds) (arms first c b : ℕ) (to : Destination) (s : Stepped) (r : Result) → first ≡ K.scope.takes
      → ExprsIn K.scope es js → Arranged places js K.scope.gives → w.points Leave ≡ OutOf arms to
      → Own K.code w (arrange_code places (sizes es) ++ i.StoreL (local_slot K.code first) (words_given es) ∷ jump_to arms to ∷ []) c b → Inside W K.ground c b
      → Valued W (suc n) K w.around js c [] s r
      → Did W (suc n) K w.around b s (value_then (λ vs. change (store_from K.meant first (arrange places vs)) (give (Go K.meant.frame Leave))) r.answer r.state)
  unfolding give change store_from
  return_row places es js arms first c b to s r is_first sound arranged leads own inside valued =
      let f = K.meant.frame in
      let gives = K.scope.gives in
      let x = own_code_joins.splits K.code w (arrange_code places (sizes es)) (i.StoreL (local_slot K.code first) (words_given es) ∷ jump_to arms to ∷ []) c b own in
      let d = x.0 in
      let j = i.StoreL (local_slot K.code first) (words_given es) in
      let low = in_order x.1 in
      let p = subst (λ near. Pair K.code near j (jump_to arms to) d b) (behind_around K.code (arrange_code places (sizes es)) w) (pair x.2) in
      let from = results_from W K ctx.code_of ctx.scope_in first is_first in
      arranged_on W n K w hi ctx (Q b) (λ s t r k h. did_later W (suc n) K w.around b s t r k h) (λ s a σ h. did_out W (suc n) K w.around b s a σ h)
      places es js gives c d [] (λ vs. change (store_from K.meant first (arrange places vs)) (give (Go f Leave))) s r sound arranged x.1 valued (λ vs words μ m shown h.
      let σ = r.state in
      let us = arrange places vs in
      let new = put_words (μ f) (local_slot K.code first) words in
      let gs = m.globals G.here.procedure.instance in
      let τ : State = record σ { store = store_from K.meant first us σ.store } in
      let kinds = ap (λ p. locals_of W p) (named_here W K w.points w.around w.slot hi ctx (suc n) μ m σ h) ∙ locals_are W G.here.procedure K.code ctx.code_of in
      let agrees : Agrees W (suc n) G (with_words μ f new) (begun_more m) τ =
      agreed_begun W (suc n) G (with_words μ f new) m τ
      (agreed_variables W (suc n) G.control G.hold (heres G) μ m σ f (with_from (σ.store.variables f) first us) new
      (subst (λ ks. Lies (texts_of W) ks (with_from (σ.store.variables f) first us) new) (sym kinds)
      (put_lies (texts_of W) K.code.locals (μ f) first gives us words from shown (σ.store.variables f) (locals_lie W K w.points w.around w.slot hi ctx (suc n) μ m σ h)))
      (λ y u e. put_behind (texts_of W) K.code.locals (μ f) first gives us words from shown y
      (let a = h.laid.above f y u e in let z = ap words_in_all kinds in omega (arith, a, z)) ∙ h.laid.held f y u e) h) in
      let goes : Reaches W.image (standing G d (push words []) μ m) (standing G (d + bytes_of j) [] (with_words μ f new) (begun_more m)) =
      subst (λ l. Reaches W.image (standing G d (push words []) μ m) (standing G (d + bytes_of j) [] (with_words μ f new) l)) (same_globals m G.here.procedure.instance)
      (works_here W (suc n) K w hi ctx μ m σ d p.depth (push words []) j (record { operands = []; variables = new; globals = gs }) p.first
      (λ number. store_l_works (texts_of W) number (μ f) gs words [] (local_slot K.code first) (words_given es)
      (given_size es places js gives sound arranged ∙ sym shown.size)) h) in
      did_later W (suc n) K w.around b (standing G d (push words []) μ m) (standing G (d + bytes_of j) [] (with_words μ f new) (begun_more m)) (record { answer = Go f Leave; state = τ }) goes (
        tt,
        jumps_from W (suc n) K w hi ctx Leave arms (d + bytes_of j) p.other to (with_words μ f new) (begun_more m) τ leads p.second
            (let y = p.within in inside (d + bytes_of j) (omega (arith, low)) y) agrees,
      ))
