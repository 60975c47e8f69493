-- Jumps on relations over LONG numbers.
use Rattle.std.proofs.Common.{◌≡◌, ℕ, ◌<◌, List, [], ◌∷◌, ◌++◌, Bool, refl, sym, ap, ◌∙◌, subst}
use Rattle.std.specs.Prelude.{if◌then◌else◌}
use Rattle.mesa_types.specs.declared.typed_parts.Base.{Base}
use Rattle.mesa_base.specs.declared.relation.Relation.{Relation}
use Rattle.mesa_base.specs.declared.relation.Relation.TheVariants.{Equal, NotEqual, Less, AtMost, Greater, AtLeast}
use Rattle.mesa_types.specs.Sound.{a_long}
use Rattle.mesa_types.specs.Operators.{differ, truth}
use Rattle.mesa_types.specs.Longs.{two_words, shifted_long, related_long}
use Rattle.source_meaning.specs.Value.{nth, long}
use Rattle.source_meaning.specs.State.{State, Result, Run, carry, after, give_word, value_then, on_values, on_long}
use Rattle.machine_rules.specs.State.{Store, Stepped}
use Rattle.machine_rules.specs.Words.{push}
use Rattle.code_rules.specs.OwnCode.{long_comparison, is_opposite, long_relation_code, long_relation_jump, jump_where}
use Rattle.code_rules.specs.Laws.{behind_all}
use Rattle.code_rules.specs.Reading.{Place, Own}
use Rattle.code_rules.proofs.Whole.{own_code_joins}
use Rattle.agreement_laws.specs.World.{World}
use Rattle.agreement_laws.specs.Standing.{Frames}
use Rattle.agreement_laws.specs.Relation.{Agrees, standing}
use Rattle.agreement_laws.specs.Contexts.{Site, Context}
use Rattle.agreement_laws.specs.Answers.{Comes, Valued}
use Rattle.agreement_laws.proofs.Branches.{Led, led_later, led_out, led_here, plain, less_turned, differ_turned, truth_true}
use Rattle.agreement_laws.proofs.Control.{branch_goes}
use Rattle.agreement_laws.proofs.Going.{comes_later}
use Rattle.agreement_laws.proofs.Following.{long_on}
use Rattle.agreement_laws.proofs.Owning.{law, own_gives}

comparison_is : (b : Base) (o : Relation) → long_relation_code b (plain o) ≡ long_comparison b o
comparison_is b Equal = refl
comparison_is b NotEqual = refl
comparison_is b Less = refl
comparison_is b AtMost = refl
comparison_is b Greater = refl
comparison_is b AtLeast = refl

related_turned : (o : Relation) (b : Base) (x y : ℕ) → differ (is_opposite o) (related_long (plain o) b x y) ≡ related_long o b x y
unfolding differ related_long
related_turned Equal b x y = refl
related_turned NotEqual b x y = refl
related_turned Less b x y = refl
related_turned AtMost b x y = sym (less_turned (shifted_long b x) (shifted_long b y))
related_turned Greater b x y = refl
related_turned AtLeast b x y = sym (less_turned (shifted_long b y) (shifted_long b x))

module _ (W : World) (bound : ℕ) (K : Site) (w : Place) (hi : ℕ) (ctx : Context W K w.points w.around w.slot hi) where
  -- the words of the two are on the operands
  pub long_related_goes : (base : Base) (o : Relation) (sense : Bool) (target a b x y : ℕ) (rest : List ℕ) (μ : Frames) (m : Store) (σ : State) → x < 4294967296 → y < 4294967296
      → Own K.code w (long_relation_jump base o sense target) a b → Agrees W bound K.ground μ m σ
      → Comes W bound K.ground (if differ (related_long o base x y) sense then b else target) rest (standing K.ground a (push (two_words x ++ two_words y) rest) μ m) σ
  long_related_goes base o sense target a b x y rest μ m σ lx ly own agrees =
      let turned = is_opposite o in
      let t = related_long (plain o) base x y in
      let parts = own_code_joins.splits K.code w (long_comparison base o) (jump_where (differ turned sense) target ∷ []) a b own in
      let c = parts.0 in
      let ins = two_words x ++ two_words y in
      let first : Own K.code w (long_relation_code base (plain o)) a c = subst (λ l. Own K.code w l a c) (sym (comparison_is base o)) parts.1 in
      let g = own_gives W K w hi ctx bound μ m σ (long_relation_code base (plain o)) a c ins (truth t ∷ []) rest first ((law W K w hi ctx μ m).long_relation base (plain o) x y lx ly) agrees in
      let j = branch_goes W K w.points w.around w.slot hi ctx bound (behind_all K.code (long_comparison base o) w) (differ turned sense) target (truth t) c b rest g.frames g.store σ parts.2 g.agrees in
      comes_later W bound K.ground (if differ (related_long o base x y) sense then b else target) rest (standing K.ground a (push ins rest) μ m)
      (standing K.ground c (truth t ∷ rest) g.frames g.store) σ g.reaches
      (subst (λ z. Comes W bound K.ground (if z then b else target) rest (standing K.ground c (truth t ∷ rest) g.frames g.store) σ)
      (ap (λ z. differ z (differ turned sense)) (truth_true t) ∙ differ_turned t turned sense ∙ ap (λ z. differ z sense) (related_turned o base x y)) j)

  pub long_relation_led_row : (base : Base) (o : Relation) (sense : Bool) (target f c b : ℕ) (rest : List ℕ) (second : Run) (s : Stepped) (r : Result)
      → Valued W bound K w.around a_long f rest s r
      → ((x : ℕ) (μ : Frames) (m : Store) → Agrees W bound K.ground μ m r.state
      → Valued W bound K w.around a_long c (push (two_words x) rest) (standing K.ground f (push (two_words x) rest) μ m) (second r.state))
      → Own K.code w (long_relation_jump base o sense target) c b
      → Led W bound K w.around sense target b rest s
      (value_then (λ vs. on_long second (λ y. give_word (truth (related_long o base (long (nth vs 0)) y)))) r.answer r.state)
  unfolding on_long on_values after carry two_words
  long_relation_led_row base o sense target f c b rest second s r h second_follows own =
      let Q = Led W bound K w.around sense target b rest in
      let later = led_later W bound K w.around sense target b rest in
      let out = led_out W bound K w.around sense target b rest in
      long_on W bound K w.around Q later out f rest (λ x. on_long second (λ y. give_word (truth (related_long o base x y)))) s r h (λ x μ m lx agrees.
      long_on W bound K w.around Q later out c (push (two_words x) rest) (λ y. give_word (truth (related_long o base x y)))
      (standing K.ground f (push (two_words x) rest) μ m) (second r.state) (second_follows x μ m agrees) (λ y ν l ly agrees.
      led_here W bound K w.around sense target b (truth (related_long o base x y)) rest (standing K.ground c (push (two_words x ++ two_words y) rest) ν l) (second r.state).state
      (subst (λ z. Comes W bound K.ground (if differ z sense then b else target) rest (standing K.ground c (push (two_words x ++ two_words y) rest) ν l) (second r.state).state)
      (sym (truth_true (related_long o base x y))) (long_related_goes base o sense target c b x y rest ν l (second r.state).state lx ly own agrees))))
