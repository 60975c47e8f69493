-- The rows of expressions of one word: numbers, checks, bytes and lengths of strings, relations, intervals.
use Rattle.std.proofs.Common.{◌≡◌, ℕ, suc, ◌+◌, ◌<◌, List, [], ◌∷◌, length, Bool, not, sym, subst, arith}
use Rattle.mesa_types.specs.declared.typed_parts.Base.{Base}
use Rattle.mesa_types.specs.declared.typed_parts.Bases.{Bases}
use Rattle.mesa_types.specs.declared.typed_parts.Range.{Range}
use Rattle.mesa_base.specs.declared.relation.Relation.{Relation}
use Rattle.mesa_types.specs.Typed.{Texts, Kinds}
use Rattle.mesa_types.specs.Shapes.{one}
use Rattle.mesa_types.specs.Sound.{a_word}
use Rattle.mesa_types.specs.Operators.{Tried, Fine, opposite, related, lies_in, truth, is_true, checked, byte_at}
use Rattle.code_forms.specs.declared.instruction.Instruction.{Instruction}
use Rattle.code_forms.specs.declared.instruction.Instruction.TheVariants as i
use Rattle.source_meaning.specs.Value.{Word, Values, nth, word, bytes}
use Rattle.source_meaning.specs.Value as value
use Rattle.source_meaning.specs.State.{State, Answer, Result, Run, carry, after, give, give_value, give_word, value_then, on_values, on_word}
use Rattle.source_meaning.specs.Signals.{on_tried}
use Rattle.machine_rules.specs.State.{Store, Stepped}
use Rattle.machine_rules.specs.Words.{push}
use Rattle.code_rules.specs.OwnCode.{check_code, relation_code, within_code}
use Rattle.code_rules.specs.Reading.{Place, Own, scratch}
use Rattle.agreement_rules.specs.Own.{Given, outcome}
use Rattle.agreement_rules.specs.Results.{AreWords}
use Rattle.agreement_rules.proofs.Results.{results_are_words}
use Rattle.agreement_rules.specs.Layout.{Show}
use Rattle.agreement_rules.specs.Reaches.{Reaches}
use Rattle.agreement_rules.specs.Stands.{TextFits}
use Rattle.agreement_rules.proofs.Lifted.{reaches_itself}
use Rattle.agreement_laws.specs.World.{World, texts_of}
use Rattle.agreement_laws.specs.Standing.{Frames}
use Rattle.agreement_laws.specs.Relation.{Agrees, standing}
use Rattle.agreement_laws.specs.Contexts.{Site, InPlace, Inside}
use Rattle.agreement_laws.specs.Answers.{Gave, Passed, Valued}
use Rattle.agreement_laws.specs.Promises.{next, RaiseFollows}
use Rattle.agreement_laws.proofs.Going.{values_on}
use Rattle.agreement_laws.proofs.Following.{valued_later, valued_out, word_on}
use Rattle.agreement_laws.proofs.Owning.{Leads, law, own_gave, outcome_on}
use Rattle.agreement_laws.proofs.Shown.{show_word, the_text}

pub one_small : (x : ℕ) → AreWords (Given (x ∷ [])) → x < 65536
unfolding AreWords
one_small x h = h 0 0 (omega arith)

pub fine_small : (t : Tried) (x : ℕ) → AreWords (outcome t) → t ≡ Fine x → x < 65536
unfolding outcome
fine_small t x h e = one_small x (subst (λ y. AreWords (outcome y)) e h)

module _ (W : World) (bound : ℕ) (K : Site) (around : List ℕ) where
  -- it is there already
  pub values_here : (ks : Kinds) (b : ℕ) (rest words : List ℕ) (vs : Values) (μ : Frames) (m : Store) (σ : State) → Show (texts_of W) ks vs words
      → Agrees W bound K.ground μ m σ → Gave W bound K.ground ks b rest (standing K.ground b (push words rest) μ m) vs σ
  values_here ks b rest words vs μ m σ shown h = record {
    words = words;
    shown = shown;
    comes = record { frames = μ; store = m; agrees = h; reaches = reaches_itself W.image (standing K.ground b (push words rest) μ m) };
  }

  pub word_here : (b : ℕ) (rest : List ℕ) (x : ℕ) (μ : Frames) (m : Store) (σ : State) → x < 65536 → Agrees W bound K.ground μ m σ
      → Valued W bound K around a_word b rest (standing K.ground b (x ∷ rest) μ m) (give_word x σ)
  unfolding give_word give_value give
  word_here b rest x μ m σ lt h = values_here a_word b rest (x ∷ []) (value.one (Word x)) μ m σ (show_word (texts_of W) x lt) h

module _ (W : World) (n : ℕ) (K : Site) (w : Place) (ctx : InPlace W K w 0) where
  abbrev hi : ℕ
  hi = w.slot + 0

  -- the word of own code
  pub word_gave : (μ : Frames) (m : Store) (σ : State) (code : List Instruction) (a b x : ℕ) (ins rest : List ℕ) → Own K.code w code a b
      → Leads W K w hi ctx μ m code ins (Given (x ∷ [])) → x < 65536 → Agrees W (suc n) K.ground μ m σ
      → Valued W (suc n) K w.around a_word b rest (standing K.ground a (push ins rest) μ m) (give_word x σ)
  unfolding give_word give_value give
  word_gave μ m σ code a b x ins rest own takes lt h =
      own_gave W K w hi ctx (suc n) μ m σ a_word code a b ins (x ∷ []) rest (value.one (Word x)) own takes (show_word (texts_of W) x lt) h

  pub number_row : (x : ℕ) (a b : ℕ) (rest : List ℕ) (μ : Frames) (m : Store) (σ : State) → x < 65536 → Own K.code w (i.Lit x ∷ []) a b
      → Agrees W (suc n) K.ground μ m σ → Valued W (suc n) K w.around a_word b rest (standing K.ground a rest μ m) (give_word x σ)
  number_row x a b rest μ m σ lt own h = word_gave μ m σ (i.Lit x ∷ []) a b x [] rest own ((law W K w hi ctx μ m).number_leaf x) lt h

  module _ (c b : ℕ) (rest : List ℕ) (inside : Inside W K.ground c b) where
    -- what is wanted
    abbrev Q : Stepped → Result → Type 0
    Q s r = Valued W (suc n) K w.around a_word b rest s r

    later : (s t : Stepped) (r : Result) → Reaches W.image s t → Q t r → Q s r
    later s t r k h = valued_later W (suc n) K w.around a_word b rest s t r k h

    out : (s : Stepped) (a : Answer) (σ : State) → Passed W (suc n) K w.around s a σ → Q s (record { answer = a; state = σ })
    out s a σ h = valued_out W (suc n) K w.around a_word b rest s a σ h

    pub negate_row : (s : Stepped) (r : Result) → Valued W (suc n) K w.around a_word c rest s r → Own K.code w (i.Neg ∷ []) c b
        → Q s (value_then (λ vs. give_word (opposite (word (nth vs 0)))) r.answer r.state)
    negate_row s r h own = word_on W (suc n) K w.around Q later out c rest (λ x. give_word (opposite x)) s r h (λ x μ m lt agrees.
        word_gave μ m r.state (i.Neg ∷ []) c b (opposite x) (x ∷ []) rest own ((law W K w hi ctx μ m).negation x)
        (one_small (opposite x) (results_are_words.negation x)) agrees)

    pub not_row : (s : Stepped) (r : Result) → Valued W (suc n) K w.around a_word c rest s r → Own K.code w (i.Not ∷ []) c b
        → Q s (value_then (λ vs. give_word (truth (not (is_true (word (nth vs 0)))))) r.answer r.state)
    not_row s r h own = word_on W (suc n) K w.around Q later out c rest (λ x. give_word (truth (not (is_true x)))) s r h (λ x μ m lt agrees.
        word_gave μ m r.state (i.Not ∷ []) c b (truth (not (is_true x))) (x ∷ []) rest own ((law W K w hi ctx μ m).complement x)
        (one_small (truth (not (is_true x))) (results_are_words.test (not (is_true x)))) agrees)

    pub checked_row : RaiseFollows W n → (range : Range) (s : Stepped) (r : Result) → Valued W (suc n) K w.around a_word c rest s r → Own K.code w (check_code range) c b
        → Q s (value_then (λ vs. on_tried W.program (next W n) K.meant (checked range (word (nth vs 0))) (λ y. give_word y)) r.answer r.state)
    checked_row raises range s r h own =
        word_on W (suc n) K w.around Q later out c rest (λ x. on_tried W.program (next W n) K.meant (checked range x) (λ y. give_word y)) s r h (λ x μ m lt agrees.
        outcome_on W K w hi ctx n raises Q later out μ m r.state (check_code range) c b (x ∷ []) rest (checked range x) (λ y. give_word y) own
        ((law W K w hi ctx μ m).check range x) inside agrees (λ y ν l e agrees.
        word_here W (suc n) K w.around b rest y ν l r.state (fine_small (checked range x) y (results_are_words.check range x lt) e) agrees))

    -- two operands, the second over the first one's word
    pub relate_row : (base : Base) (o : Relation) (f : ℕ) (second : Run) (s : Stepped) (r : Result) → Valued W (suc n) K w.around a_word f rest s r
        → ((x : ℕ) (μ : Frames) (m : Store) → Agrees W (suc n) K.ground μ m r.state
        → Valued W (suc n) K w.around a_word c (x ∷ rest) (standing K.ground f (x ∷ rest) μ m) (second r.state))
        → Own K.code w (relation_code base o) c b
        → Q s (value_then (λ vs. on_word second (λ y. give_word (truth (related o base (word (nth vs 0)) y)))) r.answer r.state)
    unfolding on_word on_values after carry
    relate_row base o f second s r h second_follows own =
        word_on W (suc n) K w.around Q later out f rest (λ x. on_word second (λ y. give_word (truth (related o base x y)))) s r h (λ x μ m lt agrees.
        word_on W (suc n) K w.around Q later out c (x ∷ rest) (λ y. give_word (truth (related o base x y))) (standing K.ground f (x ∷ rest) μ m) (second r.state)
        (second_follows x μ m agrees) (λ y ν l ly agrees.
        word_gave ν l (second r.state).state (relation_code base o) c b (truth (related o base x y)) (x ∷ y ∷ []) rest own
        ((law W K w hi ctx ν l).relation base o x y) (one_small _ (results_are_words.test (related o base x y))) agrees))

    pub within_row : (bases : Bases) (p q : Bool) (f g : ℕ) (second third : Run) (s : Stepped) (r : Result) → Valued W (suc n) K w.around a_word f rest s r
        → ((x : ℕ) (μ : Frames) (m : Store) → Agrees W (suc n) K.ground μ m r.state
        → Valued W (suc n) K w.around a_word g (x ∷ rest) (standing K.ground f (x ∷ rest) μ m) (second r.state))
        → ((x y : ℕ) (μ : Frames) (m : Store) → Agrees W (suc n) K.ground μ m (second r.state).state
        → Valued W (suc n) K w.around a_word c (y ∷ x ∷ rest) (standing K.ground g (y ∷ x ∷ rest) μ m) (third (second r.state).state))
        → Own K.code w (within_code (scratch K.code) bases p q) c b
        → Q s (value_then (λ vs. on_word second (λ y. on_word third (λ z. give_word (truth (lies_in bases (word (nth vs 0)) p y q z))))) r.answer r.state)
    unfolding on_word on_values after carry
    within_row bases p q f g second third s r h second_follows third_follows own =
        word_on W (suc n) K w.around Q later out f rest (λ x. on_word second (λ y. on_word third (λ z. give_word (truth (lies_in bases x p y q z))))) s r h (λ x μ m lx agrees.
        word_on W (suc n) K w.around Q later out g (x ∷ rest) (λ y. on_word third (λ z. give_word (truth (lies_in bases x p y q z)))) (standing K.ground f (x ∷ rest) μ m) (second r.state)
        (second_follows x μ m agrees) (λ y ν l ly agrees.
        word_on W (suc n) K w.around Q later out c (y ∷ x ∷ rest) (λ z. give_word (truth (lies_in bases x p y q z))) (standing K.ground g (y ∷ x ∷ rest) ν l) (third (second r.state).state)
        (third_follows x y ν l agrees) (λ z ξ k lz agrees.
        word_gave ξ k (third (second r.state).state).state (within_code (scratch K.code) bases p q) c b (truth (lies_in bases x p y q z)) (x ∷ y ∷ z ∷ []) rest own
        ((law W K w hi ctx ξ k).within bases p q x y z lx ly lz) (one_small _ (results_are_words.test (lies_in bases x p y q z))) agrees)))

    -- of strings
    pub length_row : ((m k : ℕ) → TextFits (texts_of W m k)) → (s : Stepped) (r : Result) → Valued W (suc n) K w.around (one Texts) c rest s r → Own K.code w (i.StrLen ∷ []) c b
        → Q s (value_then (λ vs. give_word (length (bytes (nth vs 0)))) r.answer r.state)
    unfolding bytes nth value.one
    length_row fit s r h own =
        values_on W (suc n) K w.around Q later out (one Texts) c rest (λ vs. give_word (length (bytes (nth vs 0)))) s r h (λ vs words μ m shown agrees.
        let t = the_text (texts_of W) vs words shown in
        let size = length (texts_of W t.first t.second) in
        subst (λ l. Q (standing K.ground c (push l rest) μ m) (give_word (length (bytes (nth vs 0))) r.state)) (sym t.words)
        (subst (λ v. Q (standing K.ground c (push (t.first ∷ t.second ∷ []) rest) μ m) (give_word (length (bytes (nth v 0))) r.state)) (sym t.is)
        (word_gave μ m r.state (i.StrLen ∷ []) c b size (t.first ∷ t.second ∷ []) rest own ((law W K w hi ctx μ m).length_of t.first t.second)
        (fit t.first t.second).short agrees)))

    pub byte_row : RaiseFollows W n → ((m k : ℕ) → TextFits (texts_of W m k)) → (f : ℕ) (second : Run) (s : Stepped) (r : Result) → Valued W (suc n) K w.around (one Texts) f rest s r
        → ((words : List ℕ) (μ : Frames) (m : Store) → Agrees W (suc n) K.ground μ m r.state
        → Valued W (suc n) K w.around a_word c (push words rest) (standing K.ground f (push words rest) μ m) (second r.state))
        → Own K.code w (i.StrAt ∷ []) c b
        → Q s (value_then (λ vs. on_word second (λ x. on_tried W.program (next W n) K.meant (byte_at (bytes (nth vs 0)) x) (λ y. give_word y))) r.answer r.state)
    unfolding on_word on_values after carry bytes nth value.one
    byte_row raises fit f second s r h second_follows own =
        values_on W (suc n) K w.around Q later out (one Texts) f rest
        (λ vs. on_word second (λ x. on_tried W.program (next W n) K.meant (byte_at (bytes (nth vs 0)) x) (λ y. give_word y))) s r h (λ vs words μ m shown agrees.
        let t = the_text (texts_of W) vs words shown in
        let text = texts_of W t.first t.second in
        let goes = λ (v : Values). on_word second (λ x. on_tried W.program (next W n) K.meant (byte_at (bytes (nth v 0)) x) (λ y. give_word y)) r.state in
        let over : List ℕ = t.second ∷ t.first ∷ rest in
        subst (λ l. Q (standing K.ground f (push l rest) μ m) (goes vs)) (sym t.words)
        (subst (λ v. Q (standing K.ground f over μ m) (goes v)) (sym t.is)
        (word_on W (suc n) K w.around Q later out c over (λ x. on_tried W.program (next W n) K.meant (byte_at text x) (λ y. give_word y))
        (standing K.ground f over μ m) (second r.state) (second_follows (t.first ∷ t.second ∷ []) μ m agrees) (λ x ν l lx agrees.
        outcome_on W K w hi ctx n raises Q later out ν l (second r.state).state (i.StrAt ∷ []) c b (t.first ∷ t.second ∷ x ∷ []) rest (byte_at text x) (λ y. give_word y) own
        ((law W K w hi ctx ν l).byte_of t.first t.second x) inside agrees (λ y ξ k e agrees.
        word_here W (suc n) K w.around b rest y ξ k (second r.state).state (fine_small (byte_at text x) y (results_are_words.byte_of text x (fit t.first t.second).bytes) e) agrees)))))
