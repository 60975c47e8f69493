-- The rows of runs of operators and of suffixes.
use Rattle.std.proofs.Common.{◌≡◌, ℕ, zero, suc, ◌+◌, ◌*◌, ◌<◌, ◌≤◌, List, [], ◌∷◌, Bool, true, false, refl, sym, ap, ◌∙◌, subst, arith}
use Rattle.std.specs.Prelude.{◌&&◌, nat_lt}
use Rattle.std.proofs.lemmas.Bool.{and_parts, ltb-true, true≢false}
use Rattle.mesa_types.specs.declared.typed_parts.Operator.{Operator}
use Rattle.mesa_types.specs.declared.typed_parts.Range.{Range}
use Rattle.mesa_types.specs.declared.typed_parts.Home.{Home}
use Rattle.mesa_types.specs.declared.typed_parts.Home.TheVariants.{Global, Local}
use Rattle.mesa_types.specs.Typed.{Kind, Array, Record, Kinds, NoKinds, AndKind, Expr, Suffixes, NoSuffix, Field, Index}
use Rattle.mesa_types.specs.Shapes.{HasWords, AllHaveWords, words_in, words_in_all, KindAt, PartOf}
use Rattle.mesa_types.specs.Operators.{WordFault, OutOfBounds, Tried, Fine, Faulty, wrap, fits, element, fine_if, checked, tried, indexed}
use Rattle.mesa_types.specs.Sound.{Scope, a_word, SuffixesIn, VariableIn, scope_of}
use Rattle.code_forms.specs.declared.instruction.Instruction.{Instruction}
use Rattle.source_meaning.specs.Value.{Word, NoValues, AndValue, nth, word, path_of}
use Rattle.source_meaning.specs.State.{State, Answer, Gives, Result, Run, carry, after, give, value_then, on_values, on_word}
use Rattle.source_meaning.specs.Signals.{on_tried}
use Rattle.machine_rules.specs.State.{Store, Stepped}
use Rattle.code_rules.specs.OwnCode.{check_code, index_code, operator_code}
use Rattle.code_rules.specs.Reading.{Place, Own, past, scratch}
use Rattle.code_rules.specs.Slots.{fields_of}
use Rattle.agreement_rules.specs.Operators.{PathAt, offset_of}
use Rattle.agreement_rules.specs.Own.{Given, Raised}
use Rattle.agreement_rules.specs.Reaches.{Reaches}
use Rattle.agreement_rules.proofs.Lifted.{reaches_itself}
use Rattle.agreement_rules.proofs.Results.{results_are_words}
use Rattle.agreement_rules.proofs.Values.{kind_within}
use Rattle.agreement_laws.specs.World.{World, CodeOf, ScopeIn}
use Rattle.agreement_laws.specs.Standing.{Frames}
use Rattle.agreement_laws.specs.Relation.{Agrees, standing}
use Rattle.agreement_laws.specs.Contexts.{Site, Context, InPlace, Inside}
use Rattle.agreement_laws.specs.Answers.{Comes, Answered, Passed, Valued}
use Rattle.agreement_laws.specs.Promises.{next, Found, RaiseFollows}
use Rattle.agreement_laws.proofs.Following.{valued_later, valued_out, word_on}
use Rattle.agreement_laws.proofs.Going.{Keeps, comes_later, answered_later, passed_answered, answered_on}
use Rattle.agreement_laws.proofs.Owning.{Leads, law, tried_on, outcome_on}
use Rattle.agreement_laws.proofs.Words.{fine_small}

-- Kinds with words.

kind_has_words : (ks : Kinds) (n : ℕ) (k : Kind) → AllHaveWords ks → KindAt ks n k → HasWords k
unfolding HasWords KindAt
kind_has_words NoKinds n k h at = absurd at
kind_has_words (AndKind j ks) zero k h at = subst HasWords at h.0
kind_has_words (AndKind j ks) (suc n) k h at = kind_has_words ks n k h.1 at

pub all_have_words : (ks : Kinds) (n : ℕ) (k : Kind) → AllHaveWords ks → KindAt ks n k → HasWords k
all_have_words ks n k h at = kind_has_words ks n k h at

record_has_words : (ks : Kinds) (n : ℕ) (k : Kind) → HasWords (Record ks) → KindAt ks n k → HasWords k
unfolding HasWords KindAt
record_has_words NoKinds n k h at = absurd h
record_has_words (AndKind j ks) zero k h at = subst HasWords at h.0
record_has_words (AndKind j ks) (suc n) k h at = kind_has_words ks n k h.1 at

pub field_has_words : (ks : Kinds) (n : ℕ) (part j : Kind) → j ≡ Record ks → KindAt ks n part → HasWords j → HasWords part
field_has_words ks n part j e at h = record_has_words ks n part (subst HasWords e h) at

array_has_words : (n : ℕ) (part : Kind) → HasWords (Array n part) → (0 < n) × HasWords part
unfolding HasWords
array_has_words n part h = h

pub element_has_words : (n : ℕ) (part j : Kind) → j ≡ Array n part → HasWords j → HasWords part
element_has_words n part j e h = (array_has_words n part (subst HasWords e h)).1

-- a variable has words
pub variable_has_words : (W : World) (K : Site) (C : CodeOf W K.ground.here.procedure K.code) (h : Home) (j : Kind)
    → ScopeIn W K.ground.here.procedure K.scope → VariableIn K.scope h j → HasWords j
unfolding VariableIn scope_of
variable_has_words W K C (Local n) j Γ v = all_have_words K.scope.locals n j (subst AllHaveWords (sym Γ.locals) C.have_words) v
variable_has_words W K C (Global n) j Γ v = all_have_words K.scope.globals n j (subst AllHaveWords (sym Γ.globals) C.sound.have_words) v

-- Where parts lie.

record_words : (ks : Kinds) → words_in (Record ks) ≡ words_in_all ks
unfolding words_in
record_words ks = refl

array_words : (n : ℕ) (k : Kind) → words_in (Array n k) ≡ n * words_in k
unfolding words_in
array_words n k = refl

pub field_within : (ks : Kinds) (f offset : ℕ) (part j : Kind) → j ≡ Record ks → PartOf ks f offset part → offset + words_in part ≤ words_in j
field_within ks f offset part j e at =
    let w = kind_within ks f part at.is_there in
    let d = ap words_in e ∙ record_words ks in
    let l = at.lies in omega (arith, w, d, l)

one_at_least : (n w : ℕ) → 0 < n → w ≤ n * w
one_at_least zero w h = absurd (omega (arith, h))
one_at_least (suc n) w h = let e : suc n * w ≡ w + n * w = grind arith in omega (arith, e)

pub fields_within : (Γ : Scope) (s : Suffixes) (j k : Kind) → HasWords j → SuffixesIn Γ s j k → fields_of s ≤ words_in j
unfolding SuffixesIn
fields_within Γ NoSuffix j k some h = omega arith
fields_within Γ (Field f offset s) j k some h =
    let w = field_within h.0 f offset h.1 j h.2 h.3 in
    let l = fields_within Γ s h.1 k (field_has_words h.0 f h.1 j h.2 h.3.is_there some) h.4 in omega (arith, w, l)
fields_within Γ (Index range first count words e s) j k some h =
    let a = array_has_words count h.0 (subst HasWords h.1 some) in
    let l = fields_within Γ s h.0 k a.1 h.7 in
    let m = one_at_least count (words_in h.0) a.0 in
    let d = ap words_in h.1 ∙ array_words count h.0 in omega (arith, l, m, d)

-- An index that is fine is below the number of elements.

less_by : (b : Bool) (x y n : ℕ) → (b ≡ true → y < n) → fine_if b y ≡ Fine x → x < n
unfolding fine_if
less_by true x y n h e = subst (λ z. z < n) (fine_same y x e) (h refl)
  where
    fine_same : (y x : ℕ) → Fine y ≡ Fine x → y ≡ x
    fine_same y x e = ap (λ (t : Tried). elim t [ Fine z ↦ z | Faulty f ↦ 0 ]) e
less_by false x y n h e = absurd (no_fault x e)
  where
    no_fault : (x : ℕ) → Faulty OutOfBounds ≡ Fine x → ⊥
    no_fault x e = let f : true ≡ false = ap (λ (t : Tried). elim t [ Fine z ↦ false | Faulty f ↦ true ]) e in true≢false f

pub index_less : (range : Range) (first n i x : ℕ) → indexed range first n i ≡ Fine x → x < n
unfolding indexed
index_less range first n i x e =
    less_by (fits range i && nat_lt (element first i) n) x (element first i) n
    (λ h. ltb-true (element first i) n (and_parts (fits range i) (nat_lt (element first i) n) h).1) e

no_wrap : (n : ℕ) → n < 65536 → wrap n ≡ n
unfolding wrap
no_wrap n lt = omega (arith, lt)

element_within : (first fields x n w : ℕ) → x < n → fields ≤ w → first + n * w < 65536 → (first + fields) + x * w < 65536
element_within first fields x n w lt le small =
    let e : suc x * w ≡ w + x * w = grind arith in
    let m : suc x * w ≤ n * w = grind (arith, lt) in omega (arith, e, m, le, small)

next_within : (first x n w : ℕ) → x < n → first + n * w < 65536 → (first + x * w) + w < 65536
next_within first x n w lt small =
    let e : suc x * w ≡ w + x * w = grind arith in
    let m : suc x * w ≤ n * w = grind (arith, lt) in omega (arith, e, m, small)

-- A run of operators.

module _ (W : World) (n : ℕ) (K : Site) (w : Place) (hi : ℕ) (ctx : Context W K w.points w.around w.slot hi) (raises : RaiseFollows W n) where
  pub operation_row : (range : Range) (o : Operator) (e : Expr) (x c d f b : ℕ) (rest : List ℕ) (second : Run) (k : ℕ → Run) (a : ℕ) (μ : Frames) (m : Store) (σ : State) → x < 65536
      → Own K.code w (check_code range) a c → Own K.code (past e w) (operator_code (scratch K.code) o) d f → Inside W K.ground a c → Inside W K.ground d f
      → InPlace W K (past e w) 0 → Agrees W (suc n) K.ground μ m σ
      → ((left : ℕ) (ν : Frames) (l : Store) → Agrees W (suc n) K.ground ν l σ
      → Valued W (suc n) K w.around a_word d (left ∷ rest) (standing K.ground c (left ∷ rest) ν l) (second σ))
      → ((y : ℕ) (ν : Frames) (l : Store) → y < 65536 → Agrees W (suc n) K.ground ν l (second σ).state
      → Valued W (suc n) K w.around a_word b rest (standing K.ground f (y ∷ rest) ν l) (k y (second σ).state))
      → Valued W (suc n) K w.around a_word b rest (standing K.ground a (x ∷ rest) μ m)
      (on_tried W.program (next W n) K.meant (checked range x) (λ left. on_word second (λ right. on_tried W.program (next W n) K.meant (tried o left right) k)) σ)
  unfolding on_word on_values after carry
  operation_row range o e x c d f b rest second k a μ m σ lt check own inside_check inside_own place agrees second_follows more =
      let Q : Stepped → Result → Type 0 = λ s r. Valued W (suc n) K w.around a_word b rest s r in
      let later : (s t : Stepped) (r : Result) → Reaches W.image s t → Q t r → Q s r = λ s t r k h. valued_later W (suc n) K w.around a_word b rest s t r k h in
      let out : (s : Stepped) (a : Answer) (σ : State) → Passed W (suc n) K w.around s a σ → Q s (record { answer = a; state = σ }) =
      λ s a σ h. valued_out W (suc n) K w.around a_word b rest s a σ h in
      outcome_on W K w hi ctx n raises Q later out μ m σ (check_code range) a c (x ∷ []) rest (checked range x)
      (λ left. on_word second (λ right. on_tried W.program (next W n) K.meant (tried o left right) k)) check ((law W K w hi ctx μ m).check range x) inside_check agrees
      (λ left ν l is agrees.
      let lx = fine_small (checked range x) left (results_are_words.check range x lt) is in
      word_on W (suc n) K w.around Q later out d (left ∷ rest) (λ right. on_tried W.program (next W n) K.meant (tried o left right) k)
      (standing K.ground c (left ∷ rest) ν l) (second σ) (second_follows left ν l agrees) (λ right ξ t ly agrees.
      outcome_on W K (past e w) _ place n raises Q later out ξ t (second σ).state (operator_code (scratch K.code) o) d f (left ∷ right ∷ []) rest (tried o left right) k own
      ((law W K (past e w) _ place ξ t).operator o left right lx ly) inside_own agrees (λ y ζ u is agrees.
      more y ζ u (fine_small (tried o left right) y (results_are_words.operator o left right lx ly) is) agrees)))

-- Suffixes.

module _ (W : World) (n : ℕ) (K : Site) (around : List ℕ) where
  abbrev pub Lies : (j k : Kind) → (b first : ℕ) → (rest : List ℕ) → Stepped → Result → Type 0
  Lies j k b first rest s r = Answered W (suc n) K around (λ s vs σ. Found W (suc n) K.ground j k b first rest s vs σ) s r.answer r.state

  found_keeps : (j k : Kind) (b first : ℕ) (rest : List ℕ) → Keeps W (suc n) (λ s vs σ. Found W (suc n) K.ground j k b first rest s vs σ)
  found_keeps j k b first rest s t vs σ r h = record {
    offset = h.offset;
    path_at = h.path_at;
    comes = comes_later W (suc n) K.ground b ((first + h.offset) ∷ rest) s t σ r h.comes;
  }

  pub lies_later : (j k : Kind) (b first : ℕ) (rest : List ℕ) (s t : Stepped) (r : Result) → Reaches W.image s t → Lies j k b first rest t r → Lies j k b first rest s r
  lies_later j k b first rest s t r k2 h =
      answered_later W (suc n) K around (λ s vs σ. Found W (suc n) K.ground j k b first rest s vs σ) (found_keeps j k b first rest) s t r.answer r.state k2 h

  pub lies_out : (j k : Kind) (b first : ℕ) (rest : List ℕ) (s : Stepped) (a : Answer) (σ : State) → Passed W (suc n) K around s a σ → Lies j k b first rest s (record { answer = a; state = σ })
  lies_out j k b first rest s a σ h = passed_answered W (suc n) K around (λ s vs σ. Found W (suc n) K.ground j k b first rest s vs σ) s a σ h

  pub no_suffix_row : (j k : Kind) (a first : ℕ) (rest : List ℕ) (μ : Frames) (m : Store) (σ : State) → j ≡ k → Agrees W (suc n) K.ground μ m σ
      → Lies j k a first rest (standing K.ground a ((first + 0) ∷ rest) μ m) (give (Gives NoValues) σ)
  unfolding give PathAt path_of
  no_suffix_row j k a first rest μ m σ e agrees = record {
    offset = 0;
    path_at = (e, refl);
    comes = record { frames = μ; store = m; agrees = agrees; reaches = reaches_itself W.image (standing K.ground a ((first + 0) ∷ rest) μ m) };
  }

  -- one step of the path, in front of those that follow it
  pub step_on : (j part k : Kind) (b first next_first more : ℕ) (rest : List ℕ) (x : ℕ) (s : Stepped) (r : Result)
      → ((path : List ℕ) (d : ℕ) → PathAt path part k d → PathAt (x ∷ path) j k (more + d)) → next_first ≡ first + more → Lies part k b next_first rest s r
      → Lies j k b first rest s (value_then (λ p. give (Gives (AndValue (Word x) p))) r.answer r.state)
  unfolding give path_of word
  step_on j part k b first next_first more rest x s r leads e h =
      answered_on W (suc n) K around (Lies j k b first rest) (lies_later j k b first rest) (lies_out j k b first rest)
      (λ s vs σ. Found W (suc n) K.ground part k b next_first rest s vs σ) (λ p. give (Gives (AndValue (Word x) p))) s r.answer r.state h (λ vs f. record {
        offset = more + f.offset;
        path_at = leads (path_of vs) f.offset f.path_at;
        comes = subst (λ o. Comes W (suc n) K.ground b (o ∷ rest) s r.state) (omega (arith, e)) f.comes;
      })

  field_leads : (ks : Kinds) (part j k : Kind) (f offset : ℕ) (path : List ℕ) (d : ℕ) → j ≡ Record ks → PartOf ks f offset part → PathAt path part k d → PathAt (f ∷ path) j k (offset + d)
  unfolding PathAt
  field_leads ks part j k f offset path d e at h =
      subst (λ x. PathAt (f ∷ path) x k (offset + d)) (sym e) (part, d, at.is_there, h, ap (λ z. z + d) at.lies)

  pub suffix_field_row : (ks : Kinds) (part j k : Kind) (f offset a b first : ℕ) (rest : List ℕ) (s : Suffixes) (others : Run) (μ : Frames) (m : Store) (σ : State)
      → j ≡ Record ks → PartOf ks f offset part
      → Lies part k b (first + offset) rest (standing K.ground a ((first + offset + fields_of s) ∷ rest) μ m) (others σ)
      → Lies j k b first rest (standing K.ground a ((first + (offset + fields_of s)) ∷ rest) μ m) (on_values others (λ p. give (Gives (AndValue (Word f) p))) σ)
  unfolding on_values after carry
  suffix_field_row ks part j k f offset a b first rest s others μ m σ e at h =
      step_on j part k b first (first + offset) offset rest f (standing K.ground a ((first + (offset + fields_of s)) ∷ rest) μ m) (others σ)
      (λ path d at2. field_leads ks part j k f offset path d e at at2) refl
      (subst (λ o. Lies part k b (first + offset) rest (standing K.ground a (o ∷ rest) μ m) (others σ)) (omega arith) h)

  pub element_leads : (count : ℕ) (part j k : Kind) (x : ℕ) (path : List ℕ) (d : ℕ) → j ≡ Array count part → x < count → PathAt path part k d → PathAt (x ∷ path) j k (x * words_in part + d)
  unfolding PathAt
  element_leads count part j k x path d e lt h = subst (λ y. PathAt (x ∷ path) y k (x * words_in part + d)) (sym e) (d, lt, h, refl)

module _ (W : World) (n : ℕ) (K : Site) (w : Place) (hi : ℕ) (ctx : Context W K w.points w.around w.slot hi) (raises : RaiseFollows W n) where
  given_of : (μ : Frames) (m : Store) (code : List Instruction) (words o i : ℕ) (t : Tried) (x : ℕ) → t ≡ Fine x
      → Leads W K w hi ctx μ m code (o ∷ i ∷ []) (offset_of o words t) → Leads W K w hi ctx μ m code (o ∷ i ∷ []) (Given (wrap (o + x * words) ∷ []))
  unfolding offset_of
  given_of μ m code words o i t x e h = subst (λ y. Leads W K w hi ctx μ m code (o ∷ i ∷ []) (offset_of o words y)) e h

  raised_of : (μ : Frames) (m : Store) (code : List Instruction) (words o i : ℕ) (t : Tried) (fault : WordFault) → t ≡ Faulty fault
      → Leads W K w hi ctx μ m code (o ∷ i ∷ []) (offset_of o words t) → Leads W K w hi ctx μ m code (o ∷ i ∷ []) (Raised fault)
  unfolding offset_of
  raised_of μ m code words o i t fault e h = subst (λ y. Leads W K w hi ctx μ m code (o ∷ i ∷ []) (offset_of o words y)) e h

  pub suffix_index_row : (range : Range) (lowest count words : ℕ) (s : Suffixes) (part j k : Kind) (c d b first : ℕ) (rest : List ℕ) (t : Stepped) (r : Result) (others : Run)
      → j ≡ Array count part → words ≡ words_in part → first + words_in j < 65536 → fields_of s ≤ words_in part → Own K.code w (index_code range lowest count words) c d
      → Inside W K.ground c d → Valued W (suc n) K w.around a_word c ((first + fields_of s) ∷ rest) t r
      → ((next_first : ℕ) (μ : Frames) (m : Store) → next_first + words_in part < 65536 → Agrees W (suc n) K.ground μ m r.state
      → Lies W n K w.around part k b next_first rest (standing K.ground d ((next_first + fields_of s) ∷ rest) μ m) (others r.state))
      → Lies W n K w.around j k b first rest t
      (value_then (λ vs. on_tried W.program (next W n) K.meant (indexed range lowest count (word (nth vs 0))) (λ x. on_values others (λ p. give (Gives (AndValue (Word x) p))))) r.answer r.state)
  unfolding on_values after carry
  suffix_index_row range lowest count words s part j k c d b first rest t r others e size small fields own inside h others_follow =
      let Q = Lies W n K w.around j k b first rest in
      let later = lies_later W n K w.around j k b first rest in
      let out = lies_out W n K w.around j k b first rest in
      let o = first + fields_of s in
      let all : first + count * words_in part < 65536 = (let z = ap words_in e ∙ array_words count part in omega (arith, small, z)) in
      word_on W (suc n) K w.around Q later out c (o ∷ rest)
      (λ i. on_tried W.program (next W n) K.meant (indexed range lowest count i) (λ x. on_values others (λ p. give (Gives (AndValue (Word x) p))))) t r h (λ i μ m lt agrees.
      tried_on W K w hi ctx n raises Q later out μ m r.state (index_code range lowest count words) c d (o ∷ i ∷ []) rest (λ x. wrap (o + x * words) ∷ []) (indexed range lowest count i)
      (λ x. on_values others (λ p. give (Gives (AndValue (Word x) p)))) own
      (λ x is. given_of μ m (index_code range lowest count words) words o i (indexed range lowest count i) x is ((law W K w hi ctx μ m).index range lowest count words o i lt))
      (λ fault is. raised_of μ m (index_code range lowest count words) words o i (indexed range lowest count i) fault is ((law W K w hi ctx μ m).index range lowest count words o i lt)) inside agrees
      (λ x ν l is agrees.
      let less = index_less range lowest count i x is in
      let top : wrap (o + x * words) ≡ (first + x * words_in part) + fields_of s =
      ap (λ z. wrap (o + x * z)) size ∙ no_wrap (o + x * words_in part) (element_within first (fields_of s) x count (words_in part) less fields all) ∙ omega arith in
      step_on W n K w.around j part k b first (first + x * words_in part) (x * words_in part) rest x (standing K.ground d (wrap (o + x * words) ∷ rest) ν l) (others r.state)
      (λ path z at. element_leads W n K w.around count part j k x path z e less at) refl
      (subst (λ z. Lies W n K w.around part k b (first + x * words_in part) rest (standing K.ground d (z ∷ rest) ν l) (others r.state)) (sym top)
      (others_follow (first + x * words_in part) ν l (next_within first x count (words_in part) less all) agrees))))
