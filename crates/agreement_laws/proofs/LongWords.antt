-- The rows of expressions over LONG numbers: numbers, conversions, runs of operators, negation, relations, intervals, each as that of words beside it.
use Rattle.std.proofs.Common.{◌≡◌, ℕ, suc, ◌+◌, ◌<◌, List, [], ◌∷◌, ◌++◌, refl, sym, ap, subst, arith}
use Rattle.mesa_types.specs.declared.typed_parts.Base.{Base}
use Rattle.mesa_types.specs.declared.typed_parts.Bases.{Bases}
use Rattle.mesa_types.specs.declared.typed_parts.Conversion.{Conversion}
use Rattle.mesa_types.specs.declared.typed_parts.Conversion.TheVariants as conversion
use Rattle.mesa_types.specs.declared.typed_parts.Operator.{Operator}
use Rattle.mesa_base.specs.declared.relation.Relation.{Relation}
use Rattle.std.specs.Prelude.{Bool}
use Rattle.mesa_types.specs.Typed.{Kind, Ordinal, Longs, Expr}
use Rattle.mesa_types.specs.Shapes.{one}
use Rattle.mesa_types.specs.Sound.{a_word, a_long, Converts}
use Rattle.mesa_types.specs.Operators.{Tried, Fine, truth}
use Rattle.mesa_types.specs.Longs.{more_of, two_words, opposite_long, tried_long, related_long, lies_in_long, converted}
use Rattle.code_forms.specs.declared.instruction.Instruction.{Instruction}
use Rattle.code_forms.specs.declared.instruction.Instruction.TheVariants as i
use Rattle.source_meaning.specs.Value.{Value, Word, Long, nth, word, long}
use Rattle.source_meaning.specs.Value as value
use Rattle.source_meaning.specs.State.{State, Answer, Result, Run, carry, after, give, give_value, give_word, give_long, value_then, on_values, on_long}
use Rattle.source_meaning.specs.Signals.{on_tried}
use Rattle.source_meaning.specs.Meaning.{number_for, value_by}
use Rattle.machine_rules.specs.State.{Store, Stepped}
use Rattle.machine_rules.specs.Words.{push}
use Rattle.code_rules.specs.OwnCode.{long_code, conversion_code, long_relation_code, long_operator_code, long_within_code}
use Rattle.code_rules.specs.Reading.{Place, Own, past, scratch}
use Rattle.agreement_rules.specs.Own.{Given, long_outcome}
use Rattle.agreement_rules.specs.Operators.{words_for, outcome_by, IsTakenBy}
use Rattle.agreement_rules.specs.Results.{AreWords}
use Rattle.agreement_rules.proofs.Results.{results_are_words}
use Rattle.agreement_rules.specs.Layout.{Strings, slots_of, value_at, Show}
use Rattle.agreement_rules.specs.Reaches.{Reaches}
use Rattle.agreement_laws.specs.World.{World, texts_of}
use Rattle.agreement_laws.specs.Standing.{Frames}
use Rattle.agreement_laws.specs.Relation.{Agrees, standing}
use Rattle.agreement_laws.specs.Contexts.{Site, InPlace, Inside}
use Rattle.agreement_laws.specs.Answers.{Passed, Valued}
use Rattle.agreement_laws.specs.Promises.{next, RaiseFollows}
use Rattle.agreement_laws.proofs.Following.{valued_later, valued_out, long_on, value_on}
use Rattle.agreement_laws.proofs.Owning.{Leads, law, own_gave, words_made, made_given, conversion_on, long_outcome_on}
use Rattle.agreement_laws.proofs.Shown.{show_word, show_long, the_word, the_long}
use Rattle.agreement_laws.proofs.Words.{one_small, values_here, word_gave}

two_small : (x : ℕ) → AreWords (Given (two_words x)) → x < 4294967296
unfolding AreWords two_words more_of
two_small x h = let m = h 0 0 (omega arith) in omega (arith, m)

pub long_fine_small : (t : Tried) (x : ℕ) → AreWords (long_outcome t) → t ≡ Fine x → x < 4294967296
unfolding long_outcome
long_fine_small t x h e = two_small x (subst (λ y. AreWords (long_outcome y)) e h)

-- What a conversion takes and makes.

-- the value of a word, or of a LONG number, by the words that a conversion takes
pub record ATaken (c : Conversion) (v : Value) (ws : List ℕ) : Type 0 where
  pub is_taken : IsTakenBy c (number_for c v)
  pub words : ws ≡ words_for c (number_for c v)

of_word : (texts : Strings) (v : Value) (ws : List ℕ) → Show texts a_word (value.one v) ws → (word v < 65536) × (ws ≡ word v ∷ [])
unfolding value.one nth word
of_word texts v ws shown =
    let i = the_word texts (value.one v) ws shown in
    let e : word v ≡ i.word = ap (λ us. word (nth us 0)) i.is in
    (subst (λ n. n < 65536) (sym e) i.small, subst (λ n. ws ≡ n ∷ []) (sym e) i.words)

of_long : (texts : Strings) (v : Value) (ws : List ℕ) → Show texts a_long (value.one v) ws → (long v < 4294967296) × (ws ≡ two_words (long v))
unfolding value.one nth long
of_long texts v ws shown =
    let i = the_long texts (value.one v) ws shown in
    let e : long v ≡ i.long = ap (λ us. long (nth us 0)) i.is in
    (subst (λ n. n < 4294967296) (sym e) i.small, subst (λ n. ws ≡ two_words n) (sym e) i.words)

pub the_taken : (texts : Strings) (c : Conversion) (j k : Kind) (v : Value) (ws : List ℕ) → Converts c j k → Show texts (one j) (value.one v) ws → ATaken c v ws
unfolding Converts IsTakenBy words_for number_for a_word a_long
the_taken texts conversion.Kept j k v ws con shown =
    let t = of_long texts v ws (subst (λ x. Show texts (one x) (value.one v) ws) con.0 shown) in record { is_taken = t.0; words = t.1 }
the_taken texts (conversion.Widened from to) j k v ws con shown =
    let t = of_word texts v ws (subst (λ x. Show texts (one x) (value.one v) ws) con.0 shown) in record { is_taken = t.0; words = t.1 }
the_taken texts (conversion.Narrowed from to r) j k v ws con shown =
    let t = of_long texts v ws (subst (λ x. Show texts (one x) (value.one v) ws) con.1 shown) in record { is_taken = t.0; words = t.1 }
the_taken texts conversion.InCommon j k v ws con shown =
    let t = of_long texts v ws (subst (λ x. Show texts (one x) (value.one v) ws) con.0 shown) in record { is_taken = t.0; words = t.1 }

made_by : (texts : Strings) (c : Conversion) (j k : Kind) (y : ℕ) → Converts c j k → AreWords (Given (words_made c y))
    → Show texts (one k) (value.one (value_by c y)) (words_made c y)
unfolding Converts words_made value_by a_word a_long
made_by texts conversion.Kept j k y con small = subst (λ x. Show texts (one x) (value.one (Long y)) (two_words y)) (sym con.1) (show_long texts y (two_small y small))
made_by texts (conversion.Widened from to) j k y con small =
    subst (λ x. Show texts (one x) (value.one (Long y)) (two_words y)) (sym con.1) (show_long texts y (two_small y small))
made_by texts (conversion.Narrowed from to r) j k y con small =
    subst (λ x. Show texts (one x) (value.one (Word y)) (y ∷ [])) (sym con.2) (show_word texts y (one_small y small))
made_by texts conversion.InCommon j k y con small = subst (λ x. Show texts (one x) (value.one (Long y)) (two_words y)) (sym con.1) (show_long texts y (two_small y small))

-- what comes of it are words of its value
pub made_shown : (texts : Strings) (c : Conversion) (j k : Kind) (x y : ℕ) → Converts c j k → IsTakenBy c x → converted c x ≡ Fine y
    → Show texts (one k) (value.one (value_by c y)) (words_made c y)
made_shown texts c j k x y con taken e =
    made_by texts c j k y con (subst (λ o. AreWords o) (made_given c y) (subst (λ t. AreWords (outcome_by c t)) e (results_are_words.conversion c x taken)))

made_as_long : (c : Conversion) (j : Kind) (y : ℕ) → Converts c j Longs → AreWords (Given (words_made c y)) → (words_made c y ≡ two_words y) × (y < 4294967296)
unfolding Converts words_made
made_as_long conversion.Kept j y con small = (refl, two_small y small)
made_as_long (conversion.Widened from to) j y con small = (refl, two_small y small)
made_as_long (conversion.Narrowed from to r) j y con small = absurd (other con.2)
  where
    other : Longs ≡ Ordinal → ⊥
    other e = cc
made_as_long conversion.InCommon j y con small = (refl, two_small y small)

-- a LONG number is made
pub long_made : (c : Conversion) (j : Kind) (x y : ℕ) → Converts c j Longs → IsTakenBy c x → converted c x ≡ Fine y → (words_made c y ≡ two_words y) × (y < 4294967296)
long_made c j x y con taken e =
    made_as_long c j y con (subst (λ o. AreWords o) (made_given c y) (subst (λ t. AreWords (outcome_by c t)) e (results_are_words.conversion c x taken)))

module _ (W : World) (bound : ℕ) (K : Site) (around : List ℕ) where
  -- it is there already
  pub long_here : (b : ℕ) (rest : List ℕ) (x : ℕ) (μ : Frames) (m : Store) (σ : State) → x < 4294967296 → Agrees W bound K.ground μ m σ
      → Valued W bound K around a_long b rest (standing K.ground b (push (two_words x) rest) μ m) (give_long x σ)
  unfolding give_long give_value give
  long_here b rest x μ m σ lt h = values_here W bound K around a_long b rest (two_words x) (value.one (Long x)) μ m σ (show_long (texts_of W) x lt) h

-- a LONG number, and what gives one in its place
pub long_then : (W : World) (n : ℕ) (K : Site) (around : List ℕ) (c b : ℕ) (rest : List ℕ) (s : Stepped) (r : Result) (k : ℕ → Run) → Valued W (suc n) K around a_long c rest s r
    → ((x : ℕ) (μ : Frames) (m : Store) → x < 4294967296 → Agrees W (suc n) K.ground μ m r.state
    → Valued W (suc n) K around a_long b rest (standing K.ground c (push (two_words x) rest) μ m) (k x r.state))
    → Valued W (suc n) K around a_long b rest s (value_then (λ vs. k (long (nth vs 0))) r.answer r.state)
long_then W n K around c b rest s r k h on =
    long_on W (suc n) K around (λ s r. Valued W (suc n) K around a_long b rest s r) (λ s t r k h. valued_later W (suc n) K around a_long b rest s t r k h)
    (λ s a σ h. valued_out W (suc n) K around a_long b rest s a σ h) c rest k s r h on

module _ (W : World) (n : ℕ) (K : Site) (w : Place) (ctx : InPlace W K w 0) where
  abbrev hi : ℕ
  hi = w.slot + 0

  -- the number of own code
  long_gave : (μ : Frames) (m : Store) (σ : State) (code : List Instruction) (a b x : ℕ) (ins rest : List ℕ) → Own K.code w code a b
      → Leads W K w hi ctx μ m code ins (Given (two_words x)) → x < 4294967296 → Agrees W (suc n) K.ground μ m σ
      → Valued W (suc n) K w.around a_long b rest (standing K.ground a (push ins rest) μ m) (give_long x σ)
  unfolding give_long give_value give
  long_gave μ m σ code a b x ins rest own takes lt h =
      own_gave W K w hi ctx (suc n) μ m σ a_long code a b ins (two_words x) rest (value.one (Long x)) own takes (show_long (texts_of W) x lt) h

  pub long_number_row : (x : ℕ) (a b : ℕ) (rest : List ℕ) (μ : Frames) (m : Store) (σ : State) → x < 4294967296 → Own K.code w (long_code x) a b
      → Agrees W (suc n) K.ground μ m σ → Valued W (suc n) K w.around a_long b rest (standing K.ground a rest μ m) (give_long x σ)
  long_number_row x a b rest μ m σ lt own h = long_gave μ m σ (long_code x) a b x [] rest own ((law W K w hi ctx μ m).long_leaf x) lt h

  module _ (c b : ℕ) (rest : List ℕ) (inside : Inside W K.ground c b) where
    pub negate_long_row : (s : Stepped) (r : Result) → Valued W (suc n) K w.around a_long c rest s r → Own K.code w (i.NegD ∷ []) c b
        → Valued W (suc n) K w.around a_long b rest s (value_then (λ vs. give_long (opposite_long (long (nth vs 0)))) r.answer r.state)
    negate_long_row s r h own = long_then W n K w.around c b rest s r (λ x. give_long (opposite_long x)) h (λ x μ m lt agrees.
        long_gave μ m r.state (i.NegD ∷ []) c b (opposite_long x) (two_words x) rest own ((law W K w hi ctx μ m).long_negation x lt)
        (two_small (opposite_long x) (results_are_words.long_negation x)) agrees)

    -- a value of the one kind is taken, and one of the other given
    pub converted_row : RaiseFollows W n → (conversion : Conversion) (j k : Kind) (s : Stepped) (r : Result) → Converts conversion j k → Valued W (suc n) K w.around (one j) c rest s r
        → Own K.code w (conversion_code conversion) c b
        → Valued W (suc n) K w.around (one k) b rest s
        (value_then (λ vs. on_tried W.program (next W n) K.meant (converted conversion (number_for conversion (nth vs 0))) (λ x. give_value (value_by conversion x))) r.answer r.state)
    unfolding give_value give
    converted_row raises conversion j k s r con h own =
        let Q : Stepped → Result → Type 0 = λ s r. Valued W (suc n) K w.around (one k) b rest s r in
        let later : (s t : Stepped) (r : Result) → Reaches W.image s t → Q t r → Q s r = λ s t r q h. valued_later W (suc n) K w.around (one k) b rest s t r q h in
        let out : (s : Stepped) (a : Answer) (σ : State) → Passed W (suc n) K w.around s a σ → Q s (record { answer = a; state = σ }) =
        λ s a σ h. valued_out W (suc n) K w.around (one k) b rest s a σ h in
        let go = λ (v : Value). on_tried W.program (next W n) K.meant (converted conversion (number_for conversion v)) (λ x. give_value (value_by conversion x)) in
        value_on W (suc n) K w.around Q later out j c rest go s r h (λ words μ m shown agrees.
        let v = value_at (texts_of W) (slots_of words) 0 j in
        let t = the_taken (texts_of W) conversion j k v words con shown in
        let x = number_for conversion v in
        subst (λ l. Q (standing K.ground c (push l rest) μ m) (go v r.state)) (sym t.words)
        (conversion_on W K w hi ctx n raises Q later out μ m r.state conversion c b rest x (λ x. give_value (value_by conversion x)) own t.is_taken inside agrees (λ y ν l e agrees.
        values_here W (suc n) K w.around (one k) b rest (words_made conversion y) (value.one (value_by conversion y)) ν l r.state
        (made_shown (texts_of W) conversion j k x y con t.is_taken e) agrees)))

    -- two operands, the second over the first one's words
    pub relate_long_row : (base : Base) (o : Relation) (f : ℕ) (second : Run) (s : Stepped) (r : Result) → Valued W (suc n) K w.around a_long f rest s r
        → ((x : ℕ) (μ : Frames) (m : Store) → Agrees W (suc n) K.ground μ m r.state
        → Valued W (suc n) K w.around a_long c (push (two_words x) rest) (standing K.ground f (push (two_words x) rest) μ m) (second r.state))
        → Own K.code w (long_relation_code base o) c b
        → Valued W (suc n) K w.around a_word b rest s
        (value_then (λ vs. on_long second (λ y. give_word (truth (related_long o base (long (nth vs 0)) y)))) r.answer r.state)
    unfolding on_long on_values after carry two_words
    relate_long_row base o f second s r h second_follows own =
        let Q : Stepped → Result → Type 0 = λ s r. Valued W (suc n) K w.around a_word b rest s r in
        let later : (s t : Stepped) (r : Result) → Reaches W.image s t → Q t r → Q s r = λ s t r q h. valued_later W (suc n) K w.around a_word b rest s t r q h in
        let out : (s : Stepped) (a : Answer) (σ : State) → Passed W (suc n) K w.around s a σ → Q s (record { answer = a; state = σ }) =
        λ s a σ h. valued_out W (suc n) K w.around a_word b rest s a σ h in
        long_on W (suc n) K w.around Q later out f rest (λ x. on_long second (λ y. give_word (truth (related_long o base x y)))) s r h (λ x μ m lx agrees.
        long_on W (suc n) K w.around Q later out c (push (two_words x) rest) (λ y. give_word (truth (related_long o base x y)))
        (standing K.ground f (push (two_words x) rest) μ m) (second r.state) (second_follows x μ m agrees) (λ y ν l ly agrees.
        word_gave W n K w ctx ν l (second r.state).state (long_relation_code base o) c b (truth (related_long o base x y)) (two_words x ++ two_words y) rest own
        ((law W K w hi ctx ν l).long_relation base o x y lx ly) (one_small _ (results_are_words.test (related_long o base x y))) agrees))

    pub within_long_row : (bases : Bases) (p q : Bool) (f g : ℕ) (second third : Run) (s : Stepped) (r : Result) → Valued W (suc n) K w.around a_long f rest s r
        → ((x : ℕ) (μ : Frames) (m : Store) → Agrees W (suc n) K.ground μ m r.state
        → Valued W (suc n) K w.around a_long g (push (two_words x) rest) (standing K.ground f (push (two_words x) rest) μ m) (second r.state))
        → ((x y : ℕ) (μ : Frames) (m : Store) → Agrees W (suc n) K.ground μ m (second r.state).state
        → Valued W (suc n) K w.around a_long c (push (two_words y) (push (two_words x) rest)) (standing K.ground g (push (two_words y) (push (two_words x) rest)) μ m) (third (second r.state).state))
        → Own K.code w (long_within_code (scratch K.code) bases p q) c b
        → Valued W (suc n) K w.around a_word b rest s
        (value_then (λ vs. on_long second (λ y. on_long third (λ z. give_word (truth (lies_in_long bases (long (nth vs 0)) p y q z))))) r.answer r.state)
    unfolding on_long on_values after carry two_words
    within_long_row bases p q f g second third s r h second_follows third_follows own =
        let Q : Stepped → Result → Type 0 = λ s r. Valued W (suc n) K w.around a_word b rest s r in
        let later : (s t : Stepped) (r : Result) → Reaches W.image s t → Q t r → Q s r = λ s t r q h. valued_later W (suc n) K w.around a_word b rest s t r q h in
        let out : (s : Stepped) (a : Answer) (σ : State) → Passed W (suc n) K w.around s a σ → Q s (record { answer = a; state = σ }) =
        λ s a σ h. valued_out W (suc n) K w.around a_word b rest s a σ h in
        long_on W (suc n) K w.around Q later out f rest (λ x. on_long second (λ y. on_long third (λ z. give_word (truth (lies_in_long bases x p y q z))))) s r h (λ x μ m lx agrees.
        long_on W (suc n) K w.around Q later out g (push (two_words x) rest) (λ y. on_long third (λ z. give_word (truth (lies_in_long bases x p y q z))))
        (standing K.ground f (push (two_words x) rest) μ m) (second r.state) (second_follows x μ m agrees) (λ y ν l ly agrees.
        long_on W (suc n) K w.around Q later out c (push (two_words y) (push (two_words x) rest)) (λ z. give_word (truth (lies_in_long bases x p y q z)))
        (standing K.ground g (push (two_words y) (push (two_words x) rest)) ν l) (third (second r.state).state) (third_follows x y ν l agrees) (λ z ξ k lz agrees.
        word_gave W n K w ctx ξ k (third (second r.state).state).state (long_within_code (scratch K.code) bases p q) c b (truth (lies_in_long bases x p y q z))
        (two_words x ++ (two_words y ++ two_words z)) rest own ((law W K w hi ctx ξ k).long_within bases p q x y z lx ly lz)
        (one_small _ (results_are_words.test (lies_in_long bases x p y q z))) agrees)))

-- A run of operators.

module _ (W : World) (n : ℕ) (K : Site) (w : Place) (raises : RaiseFollows W n) where
  pub long_operation_row : (o : Operator) (e : Expr) (x d f b : ℕ) (rest : List ℕ) (second : Run) (k : ℕ → Run) (a : ℕ) (μ : Frames) (m : Store) (σ : State) → x < 4294967296
      → Own K.code (past e w) (long_operator_code o) d f → Inside W K.ground d f → InPlace W K (past e w) 0
      → Valued W (suc n) K w.around a_long d (push (two_words x) rest) (standing K.ground a (push (two_words x) rest) μ m) (second σ)
      → ((y : ℕ) (ν : Frames) (l : Store) → y < 4294967296 → Agrees W (suc n) K.ground ν l (second σ).state
      → Valued W (suc n) K w.around a_long b rest (standing K.ground f (push (two_words y) rest) ν l) (k y (second σ).state))
      → Valued W (suc n) K w.around a_long b rest (standing K.ground a (push (two_words x) rest) μ m)
      (on_long second (λ right. on_tried W.program (next W n) K.meant (tried_long o x right) k) σ)
  unfolding on_long on_values after carry two_words
  long_operation_row o e x d f b rest second k a μ m σ lx own inside_own place second_follows more =
      let Q : Stepped → Result → Type 0 = λ s r. Valued W (suc n) K w.around a_long b rest s r in
      let later : (s t : Stepped) (r : Result) → Reaches W.image s t → Q t r → Q s r = λ s t r k h. valued_later W (suc n) K w.around a_long b rest s t r k h in
      let out : (s : Stepped) (a : Answer) (σ : State) → Passed W (suc n) K w.around s a σ → Q s (record { answer = a; state = σ }) =
      λ s a σ h. valued_out W (suc n) K w.around a_long b rest s a σ h in
      long_on W (suc n) K w.around Q later out d (push (two_words x) rest) (λ right. on_tried W.program (next W n) K.meant (tried_long o x right) k)
      (standing K.ground a (push (two_words x) rest) μ m) (second σ) second_follows (λ right ξ t ly agrees.
      long_outcome_on W K (past e w) _ place n raises Q later out ξ t (second σ).state (long_operator_code o) d f (two_words x ++ two_words right) rest (tried_long o x right) k own
      ((law W K (past e w) _ place ξ t).long_operator o x right lx ly) inside_own agrees (λ y ζ u is agrees.
      more y ζ u (long_fine_small (tried_long o x right) y (results_are_words.long_operator o x right lx ly) is) agrees))
