-- The rows of values one after the other, and of constructors.
use Rattle.std.proofs.Common.{◌≡◌, ⊎_elim, ℕ, zero, suc, ◌+◌, ◌-◌, ◌*◌, ◌<◌, ◌≤◌, List, [], ◌∷◌, ◌++◌, length, refl, sym, ap, ◌∙◌, subst, arith}
use Rattle.std.proofs.lemmas.Bool.{cases_lt}
use Rattle.mesa_types.specs.Typed.{Kind, Ordinal, Longs, Texts, Array, Record, Kinds, NoKinds, AndKind, Exprs, NoExprs, AndExpr}
use Rattle.mesa_types.specs.Shapes.{one, copies, words_in, words_in_all}
use Rattle.mesa_types.specs.Sound.{Scope, Constructs, Arranged, ExprsIn}
use Rattle.mesa_types.proofs.WordSizes.{sizes_agree}
use Rattle.source_meaning.specs.Value.{Value, Many, Values, NoValues, AndValue, arrange}
use Rattle.source_meaning.specs.Value as value
use Rattle.source_meaning.specs.State.{State, Answer, Gives, Result, Run, carry, after, give, give_value, value_then, on_values}
use Rattle.machine_rules.specs.State.{Store, Stepped}
use Rattle.machine_rules.specs.Words.{push}
use Rattle.code_rules.specs.OwnCode.{arrange_code}
use Rattle.code_rules.specs.Reading.{Place, Own, scratch}
use Rattle.code_rules.specs.Slots.{sizes}
use Rattle.agreement_rules.specs.Layout.{Strings, Slots, slots_of, each, value_at, values_at, Show}
use Rattle.agreement_rules.specs.Operators.{sizes_of}
use Rattle.agreement_rules.specs.Own.{Given}
use Rattle.agreement_rules.specs.Reaches.{Reaches}
use Rattle.agreement_rules.proofs.Arranged.{values_are_arranged}
use Rattle.agreement_rules.proofs.Lifted.{lifted}
use Rattle.agreement_rules.proofs.Memory.{slots_left, slots_right, length_both, push_both}
use Rattle.agreement_rules.proofs.Values.{value_same, values_same, small_words}
use Rattle.agreement_laws.specs.World.{World, texts_of}
use Rattle.agreement_laws.specs.Standing.{Frames}
use Rattle.agreement_laws.specs.Relation.{Agrees, standing}
use Rattle.agreement_laws.specs.Contexts.{Site, Context}
use Rattle.agreement_laws.specs.Answers.{Gave, Passed, Valued}
use Rattle.agreement_laws.proofs.Following.{valued_later, valued_out, value_on}
use Rattle.agreement_laws.proofs.Going.{values_on}
use Rattle.agreement_laws.proofs.Owning.{own_gives}
use Rattle.agreement_laws.proofs.Shown.{show_none}
use Rattle.agreement_laws.proofs.Words.{values_here}

-- One value and then others.

one_words : (k : Kind) → words_in_all (one k) ≡ words_in k
unfolding words_in_all one
one_words k = omega arith

pub show_and : (texts : Strings) (k : Kind) (ks : Kinds) (vs : Values) (ws us : List ℕ)
    → Show texts (one k) (value.one (value_at texts (slots_of ws) 0 k)) ws → Show texts ks vs us
    → Show texts (AndKind k ks) (AndValue (value_at texts (slots_of ws) 0 k) vs) (ws ++ us)
unfolding words_in_all values_at
show_and texts k ks vs ws us h g =
    let lw : length ws ≡ words_in k = h.size ∙ one_words k in
    let lu = g.size in
    let l = length_both ws us in
    record {
      size = omega (arith, lw, lu, l);
      worth =
          ap (λ v. AndValue v vs) (value_same texts (slots_of ws) (slots_of (ws ++ us)) 0 0 k (λ i lt. sym (slots_left ws us (0 + i) (omega (arith, lt, lw)))))
          ∙ ap (λ s. AndValue (value_at texts (slots_of (ws ++ us)) 0 k) s) (g.worth
          ∙ values_same texts (slots_of us) (slots_of (ws ++ us)) 0 (0 + words_in k) ks (λ i lt.
          ap (λ j. slots_of us j) (omega arith) ∙ sym (slots_right ws us i) ∙ ap (λ j. slots_of (ws ++ us) j) (omega (arith, lw))));
      small = small_words (ws ++ us) (λ n lt. ⊎_elim
          (λ (less : n < length ws). let e = slots_left ws us n less in let x = h.small n in omega (arith, e, x))
          (λ (more : length ws ≤ n).
          let j : ℕ = n - length ws in
          let e = slots_right ws us j in let d : length ws + j ≡ n = omega (arith, more) in
          let f = ap (λ i. slots_of (ws ++ us) i) d in let x = g.small j in omega (arith, e, f, x))
          (cases_lt n (length ws)));
    }

-- Constructed values.

each_same : (n : ℕ) (f g : ℕ → Value) → ((i : ℕ) → f i ≡ g i) → each n f ≡ each n g
unfolding each
each_same zero f g h = refl
each_same (suc n) f g h = ap (λ v. AndValue v (each n (λ i. f (suc i)))) (h 0) ∙ ap (λ vs. AndValue (g 0) vs) (each_same n (λ i. f (suc i)) (λ i. g (suc i)) (λ i. h (suc i)))

copies_are : (texts : Strings) (m : Slots) (s n : ℕ) (k : Kind) → values_at texts m s (copies n k) ≡ each n (λ i. value_at texts m (s + i * words_in k) k)
unfolding values_at each copies
copies_are texts m s zero k = refl
copies_are texts m s (suc n) k =
    ap (λ x. AndValue (value_at texts m x k) (values_at texts m (s + words_in k) (copies n k))) (omega arith)
    ∙ ap (λ vs. AndValue (value_at texts m (s + 0 * words_in k) k) vs) (copies_are texts m (s + words_in k) n k
    ∙ each_same n (λ i. value_at texts m ((s + words_in k) + i * words_in k) k) (λ i. value_at texts m (s + suc i * words_in k) k) (λ i.
    ap (λ x. value_at texts m x k) (let e : suc i * words_in k ≡ words_in k + i * words_in k = grind arith in omega (arith, e))))

pub show_built : (texts : Strings) (k : Kind) (places : List ℕ) (all : Kinds) (vs : Values) (ws : List ℕ) → Constructs k places all → words_in_all all ≡ words_in k
    → Show texts all vs ws → Show texts (one k) (value.one (Many vs)) ws
unfolding Constructs values_at value_at one value.one words_in_all
show_built texts Ordinal places all vs ws c e h = absurd c
show_built texts Longs places all vs ws c e h = absurd c
show_built texts Texts places all vs ws c e h = absurd c
show_built texts (Array n k) places all vs ws c e h = record {
  size = let s = h.size in omega (arith, s, e);
  worth = ap (λ us. AndValue (Many us) NoValues) (h.worth ∙ ap (λ ks. values_at texts (slots_of ws) 0 ks) c.1 ∙ copies_are texts (slots_of ws) 0 n k);
  small = h.small;
}
show_built texts (Record ks) places all vs ws c e h = record {
  size = let s = h.size in omega (arith, s, e);
  worth = ap (λ us. AndValue (Many us) NoValues) (h.worth ∙ ap (λ ks. values_at texts (slots_of ws) 0 ks) c);
  small = h.small;
}

-- the words of each value
pub sizes_are : (Γ : Scope) (es : Exprs) (ks : Kinds) → ExprsIn Γ es ks → sizes es ≡ sizes_of ks
unfolding ExprsIn
sizes_are Γ NoExprs ks h = sym (ap sizes_of h)
sizes_are Γ (AndExpr e es) ks h =
    ap (λ n. n ∷ sizes es) (sizes_agree.of_expression Γ e (one h.0) h.2 ∙ one_words h.0)
    ∙ ap (λ l. words_in h.0 ∷ l) (sizes_are Γ es h.1 h.3) ∙ sym (ap sizes_of h.4)

module _ (W : World) (bound : ℕ) (K : Site) (around : List ℕ) where
  pub none_row : (b : ℕ) (rest : List ℕ) (μ : Frames) (m : Store) (σ : State) → Agrees W bound K.ground μ m σ
      → Valued W bound K around NoKinds b rest (standing K.ground b rest μ m) (give (Gives NoValues) σ)
  unfolding give
  none_row b rest μ m σ h = values_here W bound K around NoKinds b rest [] NoValues μ m σ (show_none (texts_of W)) h

  pub and_row : (j : Kind) (js : Kinds) (c b : ℕ) (rest : List ℕ) (others : Run) (s : Stepped) (r : Result) → Valued W bound K around (one j) c rest s r
      → ((words : List ℕ) (μ : Frames) (m : Store) → Agrees W bound K.ground μ m r.state
      → Valued W bound K around js b (push words rest) (standing K.ground c (push words rest) μ m) (others r.state))
      → Valued W bound K around (AndKind j js) b rest s
      (value_then (λ us. on_values others (λ vs. give (Gives (AndValue (value.nth us 0) vs)))) r.answer r.state)
  unfolding on_values after carry give
  and_row j js c b rest others s r h others_follow =
      value_on W bound K around (λ s r. Valued W bound K around (AndKind j js) b rest s r) (λ s t r k h. valued_later W bound K around (AndKind j js) b rest s t r k h)
      (λ s a σ h. valued_out W bound K around (AndKind j js) b rest s a σ h) j c rest (λ v. on_values others (λ vs. give (Gives (AndValue v vs)))) s r h (λ words μ m shown agrees.
      values_on W bound K around (λ s r. Valued W bound K around (AndKind j js) b rest s r) (λ s t r k h. valued_later W bound K around (AndKind j js) b rest s t r k h)
      (λ s a σ h. valued_out W bound K around (AndKind j js) b rest s a σ h) js b (push words rest)
      (λ vs. give (Gives (AndValue (value_at (texts_of W) (slots_of words) 0 j) vs))) (standing K.ground c (push words rest) μ m) (others r.state) (others_follow words μ m agrees)
      (λ vs us ν l more agrees.
      let x = values_here W bound K around (AndKind j js) b rest (words ++ us) (AndValue (value_at (texts_of W) (slots_of words) 0 j) vs) ν l (others r.state).state
      (show_and (texts_of W) j js vs words us shown more) agrees in
      subst (λ ops. Gave W bound K.ground (AndKind j js) b rest (standing K.ground b ops ν l) (AndValue (value_at (texts_of W) (slots_of words) 0 j) vs) (others r.state).state)
      (push_both words us rest) x))

module _ (W : World) (n : ℕ) (K : Site) (w : Place) (hi : ℕ) (ctx : Context W K w.points w.around w.slot hi) where
  -- values come into the order of their places
  pub arranged_on : (Q : Stepped → Result → Type 0) (later : (s t : Stepped) (r : Result) → Reaches W.image s t → Q t r → Q s r)
      (out : (s : Stepped) (a : Answer) (σ : State) → Passed W (suc n) K w.around s a σ → Q s (record { answer = a; state = σ }))
      (places : List ℕ) (es : Exprs) (js all : Kinds) (c b : ℕ) (rest : List ℕ) (k : Values → Run) (s : Stepped) (r : Result)
      → ExprsIn K.scope es js → Arranged places js all → Own K.code w (arrange_code places (sizes es)) c b → Valued W (suc n) K w.around js c rest s r
      → ((vs : Values) (words : List ℕ) (μ : Frames) (m : Store) → Show (texts_of W) all (arrange places vs) words → Agrees W (suc n) K.ground μ m r.state
      → Q (standing K.ground b (push words rest) μ m) (k vs r.state)) → Q s (value_then k r.answer r.state)
  arranged_on Q later out places es js all c b rest k s r sound arranged own h on =
      values_on W (suc n) K w.around Q later out js c rest k s r h (λ vs words μ m shown agrees.
      let number = ctx.code_of.number in
      let gs = m.globals K.ground.here.procedure.instance in
      let x = values_are_arranged (texts_of W) number (scratch K.code) (μ K.meant.frame) gs places js all vs words arranged shown in
      let own2 : Own K.code w (arrange_code places (sizes_of js)) c b = subst (λ l. Own K.code w (arrange_code places l) c b) (sizes_are K.scope es js sound) own in
      let g = own_gives W K w hi ctx (suc n) μ m r.state (arrange_code places (sizes_of js)) c b words x.0 rest own2
      (lifted W.image K.code number (μ K.meant.frame) gs (arrange_code places (sizes_of js)) words (Given x.0) x.2) agrees in
      later (standing K.ground c (push words rest) μ m) (standing K.ground b (push x.0 rest) g.frames g.store) (k vs r.state) g.reaches
      (on vs x.0 g.frames g.store x.1 g.agrees))

  pub construct_row : (places : List ℕ) (es : Exprs) (k : Kind) (js all : Kinds) (c b : ℕ) (rest : List ℕ) (s : Stepped) (r : Result) → ExprsIn K.scope es js
      → Arranged places js all → Constructs k places all → words_in_all all ≡ words_in k → Own K.code w (arrange_code places (sizes es)) c b
      → Valued W (suc n) K w.around js c rest s r
      → Valued W (suc n) K w.around (one k) b rest s (value_then (λ vs. give_value (Many (arrange places vs))) r.answer r.state)
  unfolding give_value give
  construct_row places es k js all c b rest s r sound arranged built size own h =
      arranged_on (λ s r. Valued W (suc n) K w.around (one k) b rest s r) (λ s t r k2 h. valued_later W (suc n) K w.around (one k) b rest s t r k2 h)
      (λ s a σ h. valued_out W (suc n) K w.around (one k) b rest s a σ h) places es js all c b rest (λ vs. give_value (Many (arrange places vs))) s r sound arranged own h
      (λ vs words μ m shown agrees. values_here W (suc n) K w.around (one k) b rest words (value.one (Many (arrange places vs))) μ m r.state
      (show_built (texts_of W) k places all (arrange places vs) words built size shown) agrees)
