-- The rows of calls and raises as expressions: the arguments in order of place, the phrase of the brackets, and what comes out of it.
use Rattle.std.proofs.Common.{◌≡◌, ℕ, suc, ◌+◌, ◌<◌, List, [], ◌∷◌, refl, subst, arith}
use Rattle.mesa_types.specs.declared.faces.Item.{Item}
use Rattle.mesa_types.specs.declared.typed_parts.Callee.{Callee}
use Rattle.mesa_types.specs.declared.typed_parts.Raised.{Raised}
use Rattle.mesa_types.specs.Typed.{Kinds, Exprs, Phrase, NoPhrase, Catch}
use Rattle.mesa_types.specs.Counts.{hidden_phrase}
use Rattle.mesa_types.specs.Plain.{kinds_of}
use Rattle.mesa_types.specs.Sound.{Arranged, CalleeIs, RaisedIs, ExprsIn, PhraseIn}
use Rattle.code_forms.specs.declared.instruction.Instruction.{Instruction}
use Rattle.code_forms.proofs.Ordered.{some_bytes}
use Rattle.source_meaning.specs.Value.{arrange}
use Rattle.source_meaning.specs.Program.{callee_of, raised_of}
use Rattle.source_meaning.specs.State.{Result, carry, after, value_then}
use Rattle.source_meaning.specs.Variables.{Where}
use Rattle.source_meaning.specs.Signals.{catching, raise, through}
use Rattle.source_meaning.specs.Calls.{call}
use Rattle.machine_rules.specs.State.{Stepped}
use Rattle.machine_rules.specs.Words.{push}
use Rattle.code_rules.specs.CodeFor.{PhraseCode}
use Rattle.code_rules.specs.Laws as runs
use Rattle.code_rules.specs.Links.{call_code, raise_code}
use Rattle.code_rules.specs.OwnCode.{arrange_code}
use Rattle.code_rules.specs.Reading.{Coded, Place, Own, no_more, one_more}
use Rattle.code_rules.specs.Slots.{sizes}
use Rattle.agreement_laws.specs.World.{World}
use Rattle.agreement_laws.specs.Relation.{standing}
use Rattle.agreement_laws.specs.Contexts.{Site, InPlace, Inside}
use Rattle.agreement_laws.specs.Answers.{Gave, Valued}
use Rattle.agreement_laws.specs.Promises.{next, caught, PhraseFollows, PhrasesFollow, CallFollows, RaisedFollows}
use Rattle.agreement_laws.proofs.Following.{gave_keeps, valued_later, valued_out}
use Rattle.agreement_laws.proofs.Lists.{arranged_on}
use Rattle.agreement_laws.proofs.Moving.{own_run}

pub same_instance : (ph : Phrase) (w : Where) → (catching ph w).instance ≡ w.instance
unfolding catching
same_instance NoPhrase w = refl
same_instance (Catch n arms) w = refl

one_longer : {P : Coded} {w : Place} {j : Instruction} {a b : ℕ} → Own P w (j ∷ []) a b → a < b
one_longer (one_more {i = j} r no_more) = let s = some_bytes j in omega (arith, s)

-- w stands behind the arguments, v has the phrase of the brackets around
module _ (W : World) (n : ℕ) (K : Site) (w v : Place) (ph : Phrase) (phrases : PhrasesFollow W n) (place : InPlace W K w (hidden_phrase ph)) where
  abbrev bound : ℕ
  bound = suc n

  abbrev over : Site
  over = caught ph (w.slot + hidden_phrase ph) K

  phrase_of : (d b : ℕ) → PhraseCode K.code w ph d b v → PhraseIn K.scope ph → d < b → runs.Run K.code v.around d b → Inside W K.ground d b → PhraseFollows W n K w v ph 0
  phrase_of d b code sound lt runs inside =
      phrases K w v ph d b 0 code sound lt runs (subst (λ k. InPlace W K w k) (omega arith) place) inside

  pub call_row : CallFollows W n → (callee : Callee) (i : Item) (places : List ℕ) (es : Exprs) (js : Kinds) (c d b : ℕ) (rest : List ℕ) (s : Stepped) (r : Result)
      → CalleeIs K.scope callee i → ExprsIn K.scope es js → Arranged places js (kinds_of i.takes) → PhraseIn K.scope ph
      → Own K.code w (arrange_code places (sizes es)) c d → PhraseCode K.code w ph d b v → Own K.code v (call_code K.code.imports callee ∷ []) d b → Inside W K.ground d b
      → Valued W bound K w.around js c rest s r
      → Valued W bound K w.around (kinds_of i.gives) b rest s
      (value_then (λ vs. through (next W n) K.meant ph (call W.program (next W n) (catching ph K.meant) (callee_of W.program K.meant.instance callee) (arrange places vs))) r.answer r.state)
  unfolding through after carry
  call_row calls callee i places es js c d b rest s r is sound arranged phrase_in own code own_call inside h =
      let f = phrase_of d b code phrase_in (one_longer own_call) (own_run own_call) inside in
      arranged_on W n K w (w.slot + hidden_phrase ph) place (λ s r. Valued W bound K w.around (kinds_of i.gives) b rest s r)
      (λ s t r k h. valued_later W bound K w.around (kinds_of i.gives) b rest s t r k h) (λ s a σ h. valued_out W bound K w.around (kinds_of i.gives) b rest s a σ h)
      places es js (kinds_of i.takes) c d rest
      (λ vs. through (next W n) K.meant ph (call W.program (next W n) (catching ph K.meant) (callee_of W.program K.meant.instance callee) (arrange places vs))) s r
      sound arranged own h (λ vs words μ m shown agrees.
      let out = call W.program (next W n) (catching ph K.meant) (callee_of W.program K.meant.instance callee) (arrange places vs) r.state in
      let x = calls over v callee i (arrange places vs) words v.points (w.slot + hidden_phrase ph) (w.slot + (hidden_phrase ph + 0)) d b rest μ m r.state is shown own_call f.context inside agrees in
      f.expression (λ s vs σ. Gave W bound K.ground (kinds_of i.gives) b rest s vs σ) (gave_keeps W bound K w.around (kinds_of i.gives) b rest)
      (standing K.ground d (push words rest) μ m) out
      (subst (λ j. Valued W bound over v.around (kinds_of i.gives) b rest (standing K.ground d (push words rest) μ m)
      (call W.program (next W n) (catching ph K.meant) (callee_of W.program j callee) (arrange places vs) r.state)) (same_instance ph K.meant) x))

  pub raise_row : RaisedFollows W n → (raised : Raised) (all gives : Kinds) (places : List ℕ) (es : Exprs) (js : Kinds) (c d b : ℕ) (rest : List ℕ) (s : Stepped) (r : Result)
      → RaisedIs K.scope raised all gives → ExprsIn K.scope es js → Arranged places js all → PhraseIn K.scope ph
      → Own K.code w (arrange_code places (sizes es)) c d → PhraseCode K.code w ph d b v → Own K.code v (raise_code K.code.imports raised ∷ []) d b → Inside W K.ground d b
      → Valued W bound K w.around js c rest s r
      → Valued W bound K w.around gives b rest s
      (value_then (λ vs. through (next W n) K.meant ph (raise W.program (next W n) (catching ph K.meant) (raised_of W.program K.meant.instance raised) (arrange places vs))) r.answer r.state)
  unfolding through after carry
  raise_row raises raised all gives places es js c d b rest s r is sound arranged phrase_in own code own_raise inside h =
      let f = phrase_of d b code phrase_in (one_longer own_raise) (own_run own_raise) inside in
      arranged_on W n K w (w.slot + hidden_phrase ph) place (λ s r. Valued W bound K w.around gives b rest s r)
      (λ s t r k h. valued_later W bound K w.around gives b rest s t r k h) (λ s a σ h. valued_out W bound K w.around gives b rest s a σ h)
      places es js all c d rest
      (λ vs. through (next W n) K.meant ph (raise W.program (next W n) (catching ph K.meant) (raised_of W.program K.meant.instance raised) (arrange places vs))) s r
      sound arranged own h (λ vs words μ m shown agrees.
      let out = raise W.program (next W n) (catching ph K.meant) (raised_of W.program K.meant.instance raised) (arrange places vs) r.state in
      let x = raises over v raised all gives (arrange places vs) words v.points (w.slot + hidden_phrase ph) (w.slot + (hidden_phrase ph + 0)) d b rest μ m r.state is shown own_raise f.context inside agrees in
      f.expression (λ s vs σ. Gave W bound K.ground gives b rest s vs σ) (gave_keeps W bound K w.around gives b rest)
      (standing K.ground d (push words rest) μ m) out
      (subst (λ j. Valued W bound over v.around gives b rest (standing K.ground d (push words rest) μ m)
      (raise W.program (next W n) (catching ph K.meant) (raised_of W.program j raised) (arrange places vs) r.state)) (same_instance ph K.meant) x))
