-- Parts of some values that an extractor takes: where their words lie, and how one is brought to the top and checked.
use Rattle.std.proofs.Common.{◌≡◌, ℕ, zero, suc, ◌+◌, ◌<◌, ◌≤◌, List, [], ◌∷◌, ◌++◌, length, Bool, true, false, sym, ap, ◌∙◌, subst, inl, inr, ⊎_elim, ◌⊎◌, arith}
use Rattle.std.specs.Prelude.{Contains}
use Rattle.std.proofs.lemmas.Bool.{cases_order, true≢false}
use Rattle.mesa_types.specs.declared.typed_parts.Conversion.{Conversion}
use Rattle.mesa_types.specs.declared.typed_parts.Part.{Part}
use Rattle.mesa_types.specs.declared.typed_parts.Range.{Range}
use Rattle.mesa_types.specs.declared.typed_parts.Range.TheVariants.{Every, From}
use Rattle.mesa_types.specs.Typed.{Kind, Kinds, NoKinds, AndKind, Suffixes, NoSuffix, Field, Index}
use Rattle.mesa_types.specs.Shapes.{one, words_in, words_before, HasWords, KindAt, PartOf}
use Rattle.mesa_types.specs.Operators.{Tried, Fine, Faulty, fits, fine_if, checked}
use Rattle.mesa_types.specs.Longs.{converted}
use Rattle.mesa_types.specs.Sound.{Scope, a_word, ChecksKind, Converts, SuffixesIn}
use Rattle.code_forms.specs.declared.instruction.Instruction.{Instruction}
use Rattle.source_meaning.specs.Value.{Value, Values, nth, word}
use Rattle.source_meaning.specs.Value as value
use Rattle.source_meaning.specs.State.{State, Result, Run}
use Rattle.source_meaning.specs.Signals.{on_tried}
use Rattle.source_meaning.specs.Meaning.{number_for, value_by}
use Rattle.machine_rules.specs.State.{Store, Stepped}
use Rattle.machine_rules.specs.Words.{push, words_at}
use Rattle.code_rules.specs.CodeFor.{words_over}
use Rattle.code_rules.specs.Laws.{behind_all}
use Rattle.code_rules.specs.OwnCode.{lift_code, check_code, conversion_code}
use Rattle.code_rules.specs.Reading.{Place, Own, no_more, scratch}
use Rattle.code_rules.proofs.Whole.{own_code_joins}
use Rattle.agreement_rules.specs.Layout.{Strings, slots_of, value_at, Show}
use Rattle.agreement_rules.specs.Own.{Did as Worked, works_all, Given}
use Rattle.agreement_rules.specs.Reaches.{Reaches}
use Rattle.agreement_rules.proofs.Leaves.{work}
use Rattle.agreement_rules.proofs.Lifted.{lifted, in_order}
use Rattle.agreement_rules.proofs.Memory.{length_both, push_both}
use Rattle.agreement_rules.proofs.Rows.{lift_works, comes}
use Rattle.agreement_rules.proofs.Values.{kind_within, nth_value, read_shows}
use Rattle.agreement_laws.specs.World.{World, texts_of}
use Rattle.agreement_laws.specs.Standing.{Frames}
use Rattle.agreement_laws.specs.Relation.{Ground, Agrees, standing}
use Rattle.agreement_laws.specs.Contexts.{Site, Context, Inside}
use Rattle.agreement_laws.specs.Promises.{next, RaiseFollows}
use Rattle.agreement_laws.proofs.Doing.{Did, did_later, did_out}
use Rattle.agreement_laws.proofs.LongWords.{the_taken, made_shown}
use Rattle.agreement_laws.proofs.Moving.{inside_part}
use Rattle.agreement_laws.proofs.Owning.{Leads, law, own_gives, outcome_on, words_made, conversion_on}
use Rattle.agreement_laws.proofs.Returns.{behind_around}
use Rattle.agreement_laws.proofs.Shown.{the_word}
use Rattle.agreement_laws.proofs.Spread.{moved, own_moved}
use Rattle.agreement_laws.proofs.Suffixed.{field_has_words, element_has_words}
use Rattle.agreement_laws.proofs.Taking.{Off, OffAll, LieApart, untaken, take_out}

-- Where parts lie.

-- what suffixes name has words where the variable has
pub suffix_has_words : (Γ : Scope) (s : Suffixes) (j k : Kind) → HasWords j → SuffixesIn Γ s j k → HasWords k
unfolding SuffixesIn
suffix_has_words Γ NoSuffix j k some h = subst HasWords h some
suffix_has_words Γ (Field f offset s) j k some h = suffix_has_words Γ s h.1 k (field_has_words h.0 f h.1 j h.2 h.3.is_there some) h.4
suffix_has_words Γ (Index range first count words e s) j k some h = suffix_has_words Γ s h.0 k (element_has_words count h.0 j h.1 some) h.7

before_later : (ks : Kinds) (n m : ℕ) (k : Kind) → KindAt ks n k → n < m → words_before ks n + words_in k ≤ words_before ks m
unfolding KindAt words_before
before_later NoKinds n m k at lt = absurd at
before_later (AndKind j ks) n zero k at lt = absurd (omega (arith, lt))
before_later (AndKind j ks) zero (suc m) k at lt = let e = ap words_in at in omega (arith, e)
before_later (AndKind j ks) (suc n) (suc m) k at lt = let x = before_later ks n m k at (omega (arith, lt)) in omega (arith, x)

-- a part of values of these kinds, with some words
pub record IsPart (ks : Kinds) (p : Part) : Type 0 where
  pub kind : Kind
  pub part_of : PartOf ks p.field p.offset kind
  pub words : p.words ≡ words_in kind
  pub some : 0 < p.words

part_before : (ks : Kinds) (p q : Part) → IsPart ks p → IsPart ks q → p.field < q.field → p.offset + p.words ≤ q.offset
part_before ks p q x y lt =
    let b = before_later ks p.field q.field x.kind x.part_of.is_there lt in
    let a = x.part_of.lies in let c = y.part_of.lies in let w = x.words in omega (arith, a, b, c, w)

off_other : (ks : Kinds) (p q : Part) → IsPart ks p → IsPart ks q → (q.field ≡ p.field → ⊥) → Off p q
off_other ks p q x y differ =
    ⊎_elim
    (λ (e : p.field ≡ q.field). absurd (differ (sym e)))
    (λ (o : (p.field < q.field) ⊎ (q.field < p.field)).
    ⊎_elim (λ (lt : p.field < q.field). inl (part_before ks p q x y lt)) (λ (lt : q.field < p.field). inr (part_before ks q p y x lt)) o)
    (cases_order p.field q.field)

-- parts that were taken, none of which is still to be taken
abbrev pub Took : Kinds → (to_take : List ℕ) → List Part → Type 0
Took ks to_take [] = Unit {0}
Took ks to_take (q ∷ qs) = IsPart ks q × (Contains to_take q.field → ⊥) × Took ks to_take qs

pub off_took : (ks : Kinds) (to_take : List ℕ) (p : Part) (t : List Part) → IsPart ks p → Contains to_take p.field → Took ks to_take t → OffAll p t
off_took ks to_take p [] is there h = tt
off_took ks to_take p (q ∷ t) is there h =
    (off_other ks p q is h.0 (λ e. h.1 (subst (λ f. Contains to_take f) (sym e) there)), off_took ks to_take p t is there h.2)

pub took_less : (ks : Kinds) (f : ℕ) (to_take : List ℕ) (t : List Part) → Took ks (f ∷ to_take) t → Took ks to_take t
took_less ks f to_take [] h = tt
took_less ks f to_take (q ∷ t) h = (h.0, (λ c. h.1 (suc c.0, omega (arith, c.1), c.2)), took_less ks f to_take t h.2)

pub within_all : (texts : Strings) (ks : Kinds) (vs : Values) (words : List ℕ) (p : Part) → Show texts ks vs words → IsPart ks p → p.offset + p.words ≤ length words
within_all texts ks vs words p shown x =
    let size = shown.size in let a = x.part_of.lies in let w = x.words in
    let k = kind_within ks p.field x.kind x.part_of.is_there in omega (arith, size, a, w, k)

-- its words show its value
pub part_shown : (texts : Strings) (ks : Kinds) (vs : Values) (words : List ℕ) (f offset : ℕ) (k : Kind) → Show texts ks vs words → PartOf ks f offset k
    → Show texts (one k) (value.one (nth vs f)) (words_at words offset (words_in k))
part_shown texts ks vs words f offset k shown at =
    let lies = at.lies in
    let e : nth vs f ≡ value_at texts (slots_of words) offset k =
    ap (λ us. nth us f) shown.worth ∙ nth_value texts (slots_of words) 0 ks f k at.is_there ∙ ap (λ x. value_at texts (slots_of words) x k) (omega (arith, lies)) in
    subst (λ v. Show texts (one k) (value.one v) (words_at words offset (words_in k))) (sym e)
    (read_shows texts words offset k (λ i lt. shown.small (offset + i)))

-- A word that is checked is as it was.

fine_is : (b : Bool) (x y : ℕ) → fine_if b x ≡ Fine y → x ≡ y
unfolding fine_if
fine_is true x y e = ap (λ (t : Tried). elim t [ Fine z ↦ z | Faulty f ↦ 0 ]) e
fine_is false x y e = absurd (true≢false (ap (λ (t : Tried). elim t [ Fine z ↦ false | Faulty f ↦ true ]) e))

checked_is : (range : Range) (x y : ℕ) → checked range x ≡ Fine y → x ≡ y
unfolding checked
checked_is range x y e = fine_is (fits range x) x y e

module _ (W : World) (n : ℕ) (K : Site) (w : Place) (hi : ℕ) (ctx : Context W K w.points w.around w.slot hi) (b : ℕ) where
  abbrev G : Ground
  G = K.ground

  -- what is wanted
  abbrev Q : Stepped → Result → Type 0
  Q s r = Did W (suc n) K w.around b s r

  -- words come to the top over others
  lifts : (μ : Frames) (m : Store) (part after : List ℕ) → Leads W K w hi ctx μ m (lift_code (length part) (length after)) (part ++ after) (Given (after ++ part))
  lifts μ m part after =
      let number = ctx.code_of.number in
      let vs = μ K.meant.frame in let gs = m.globals G.here.procedure.instance in
      let code = lift_code (length part) (length after) in
      lifted W.image K.code number vs gs code (part ++ after) (Given (after ++ part)) (λ rest.
      comes (texts_of W) number (scratch K.code) vs gs rest (after ++ part) (works_all (texts_of W) number code (work (push (part ++ after) rest) vs gs))
      (ap (λ l. works_all (texts_of W) number code (work l vs gs)) (push_both part after rest) ∙ lift_works (texts_of W) number vs gs part after rest
      ∙ ap (λ l. Worked (work l vs gs)) (sym (push_both after part rest))))

  -- the part on top is checked; where it is not a word there is no check
  checked_part : RaiseFollows W n → (range : Range) (k : Kind) (v : Value) (words rest : List ℕ) (c d : ℕ) (others : Run) (μ : Frames) (m : Store) (σ : State)
      → ChecksKind range k → Show (texts_of W) (one k) (value.one v) words → Own K.code w (check_code range) c d → Inside W G c d → Agrees W (suc n) G μ m σ
      → ((ν : Frames) (l : Store) → Agrees W (suc n) G ν l σ → Q (standing G d (push words rest) ν l) (others σ))
      → Q (standing G c (push words rest) μ m) (on_tried W.program (next W n) K.meant (checked range (word v)) (λ x. others) σ)
  unfolding ChecksKind checked fits fine_if on_tried a_word nth value.one word
  checked_part raises Every k v words rest c d others μ m σ checks shown no_more inside h on = on μ m h
  checked_part raises (From base first last) k v words rest c d others μ m σ checks shown own inside h on =
      let range = From base first last in
      let i = the_word (texts_of W) (value.one v) words (subst (λ j. Show (texts_of W) (one j) (value.one v) words) checks.1 shown) in
      let e : word v ≡ i.word = ap (λ us. word (nth us 0)) i.is in
      let run : ℕ → Result = λ y. on_tried W.program (next W n) K.meant (checked range y) (λ x. others) σ in
      subst (λ l. Q (standing G c (push l rest) μ m) (run (word v))) (sym i.words)
      (subst (λ y. Q (standing G c (i.word ∷ rest) μ m) (run y)) (sym e)
      (outcome_on W K w hi ctx n raises Q (λ s t r k h. did_later W (suc n) K w.around b s t r k h) (λ s a σ h. did_out W (suc n) K w.around b s a σ h)
      μ m σ (check_code range) c d (i.word ∷ []) rest (checked range i.word) (λ x. others) own ((law W K w hi ctx μ m).check range i.word) inside h (λ y ν l is agrees.
      subst (λ z. Q (standing G d (z ∷ rest) ν l) (others σ)) (checked_is range i.word y is)
      (subst (λ l2. Q (standing G d (push l2 rest) ν l) (others σ)) i.words (on ν l agrees)))))

module _ (W : World) (n : ℕ) (raises : RaiseFollows W n) (K : Site) (w : Place) (hi : ℕ) (ctx : Context W K w.points w.around w.slot hi) (b : ℕ) where
  -- Under some words on top stands what is left of the value. The part comes to the top; how it goes on from there is said of the code behind.
  lifted_row : (ks : Kinds) (vs : Values) (words : List ℕ) (t : List Part) (p : Part) (tops : List ℕ) (over : ℕ) (behind : List Instruction) (u : Place) (a c : ℕ)
      (μ : Frames) (m : Store) (σ : State) (result : Result) → Show (texts_of W) ks vs words → (is : IsPart ks p) → OffAll p t → LieApart (length words) t
      → over ≡ words_over (length words) t p + length tops → u.around ≡ w.around → Own K.code u (lift_code p.words over ++ behind) a c → Inside W K.ground a c
      → Agrees W (suc n) K.ground μ m σ
      → ((v : Place) (part : List ℕ) (o : ℕ) (ν : Frames) (l : Store) → v.around ≡ w.around → Show (texts_of W) (one is.kind) (value.one (nth vs p.field)) part → Own K.code v behind o c
      → Inside W K.ground o c → Agrees W (suc n) K.ground ν l σ
      → Q W n K w hi ctx b (standing K.ground o (push part (push tops (push (untaken (p ∷ t) 0 words) []))) ν l) result)
      → Q W n K w hi ctx b (standing K.ground a (push tops (push (untaken t 0 words) [])) μ m) result
  lifted_row ks vs words t p tops over behind u a c μ m σ result shown is off apart size same own inside h on =
      let G = K.ground in
      let k = is.kind in
      let lift = lift_code p.words over in
      let x = own_code_joins.splits K.code u lift behind a c own in
      let v1 = behind_all K.code lift u in
      let near1 : v1.around ≡ w.around = behind_around K.code lift u ∙ same in
      let low = in_order x.1 in let high = in_order x.2 in
      let o = take_out t p words is.some (within_all (texts_of W) ks vs words p shown is) off apart in
      let after = o.after ++ tops in
      let rest = push o.before [] in
      let long : over ≡ length after = (let z = o.over in let d = length_both o.after tops in omega (arith, size, z, d)) in
      let code : Own K.code (moved u w) (lift_code (length o.part) (length after)) a x.0 =
      own_moved w same (subst (λ z. Own K.code u (lift_code z (length after)) a x.0) (sym o.size) (subst (λ z. Own K.code u (lift_code p.words z) a x.0) long x.1)) in
      let g = own_gives W K (moved u w) hi ctx (suc n) μ m σ (lift_code (length o.part) (length after)) a x.0 (o.part ++ after) (after ++ o.part) rest code
      (lifts W n K (moved u w) hi ctx b μ m o.part after) h in
      let stack : push tops (push (untaken t 0 words) []) ≡ push (o.part ++ after) rest =
      ap (λ l. push tops (push l [])) o.all_words ∙ ap (λ l. push tops l) (push_both o.before (o.part ++ o.after) [] ∙ push_both o.part o.after rest)
      ∙ sym (push_both o.after tops (push o.part rest)) ∙ sym (push_both o.part after rest) in
      let left : push (after ++ o.part) rest ≡ push o.part (push tops (push (untaken (p ∷ t) 0 words) [])) =
      push_both after o.part rest ∙ ap (λ l. push o.part l) (push_both o.after tops rest)
      ∙ ap (λ l. push o.part (push tops l)) (sym (push_both o.before o.after []) ∙ ap (λ l. push l []) (sym o.other_words)) in
      let whole = push tops (push (untaken (p ∷ t) 0 words) []) in
      let shows : Show (texts_of W) (one k) (value.one (nth vs p.field)) o.part =
      subst (λ l. Show (texts_of W) (one k) (value.one (nth vs p.field)) l) (sym (o.is ∙ ap (λ z. words_at words p.offset z) is.words))
      (part_shown (texts_of W) ks vs words p.field p.offset k shown is.part_of) in
      did_later W (suc n) K w.around b (standing G a (push tops (push (untaken t 0 words) [])) μ m) (standing G x.0 (push o.part whole) g.frames g.store) result
      (subst (λ l. Reaches W.image (standing G a l μ m) (standing G x.0 (push o.part whole) g.frames g.store)) (sym stack)
      (subst (λ l. Reaches W.image (standing G a (push (o.part ++ after) rest) μ m) (standing G x.0 l g.frames g.store)) left g.reaches))
      (on v1 o.part x.0 g.frames g.store near1 shows x.2 (inside_part W G a c x.0 c low (omega arith) inside) g.agrees)

  -- and is checked
  pub part_row : (ks : Kinds) (vs : Values) (words : List ℕ) (t : List Part) (p : Part) (range : Range) (tops : List ℕ) (over : ℕ) (behind : List Instruction) (u : Place) (a c : ℕ)
      (others : Run) (μ : Frames) (m : Store) (σ : State) → Show (texts_of W) ks vs words → (is : IsPart ks p) → OffAll p t → LieApart (length words) t → ChecksKind range is.kind
      → over ≡ words_over (length words) t p + length tops → u.around ≡ w.around → Own K.code u (lift_code p.words over ++ (check_code range ++ behind)) a c → Inside W K.ground a c
      → Agrees W (suc n) K.ground μ m σ
      → ((v : Place) (part : List ℕ) (o : ℕ) (ν : Frames) (l : Store) → v.around ≡ w.around → Show (texts_of W) (one is.kind) (value.one (nth vs p.field)) part → Own K.code v behind o c
      → Agrees W (suc n) K.ground ν l σ → Q W n K w hi ctx b (standing K.ground o (push part (push tops (push (untaken (p ∷ t) 0 words) []))) ν l) (others σ))
      → Q W n K w hi ctx b (standing K.ground a (push tops (push (untaken t 0 words) [])) μ m)
      (on_tried W.program (next W n) K.meant (checked range (word (nth vs p.field))) (λ x. others) σ)
  part_row ks vs words t p range tops over behind u a c others μ m σ shown is off apart checks size same own inside h on =
      lifted_row ks vs words t p tops over (check_code range ++ behind) u a c μ m σ (on_tried W.program (next W n) K.meant (checked range (word (nth vs p.field))) (λ x. others) σ)
      shown is off apart size same own inside h (λ v part o ν l near shows code within agrees.
      let y = own_code_joins.splits K.code v (check_code range) behind o c code in
      let v2 = behind_all K.code (check_code range) v in
      let near2 : v2.around ≡ w.around = behind_around K.code (check_code range) v ∙ near in
      let high = in_order y.2 in
      checked_part W n K (moved v w) hi ctx b raises range is.kind (nth vs p.field) part (push tops (push (untaken (p ∷ t) 0 words) [])) o y.0 others ν l σ checks shows (own_moved w near y.1)
      (inside_part W K.ground o c o y.0 (omega arith) high within) agrees (λ ξ q now. on v2 part y.0 ξ q near2 shows y.2 now))

  -- or converted
  pub converted_part_row : (ks : Kinds) (vs : Values) (words : List ℕ) (t : List Part) (p : Part) (conversion : Conversion) (given : Kind) (tops : List ℕ) (over : ℕ) (behind : List Instruction)
      (u : Place) (a c : ℕ) (others : ℕ → Run) (μ : Frames) (m : Store) (σ : State) → Show (texts_of W) ks vs words → (is : IsPart ks p) → OffAll p t → LieApart (length words) t
      → Converts conversion is.kind given
      → over ≡ words_over (length words) t p + length tops → u.around ≡ w.around → Own K.code u (lift_code p.words over ++ (conversion_code conversion ++ behind)) a c → Inside W K.ground a c
      → Agrees W (suc n) K.ground μ m σ
      → ((v : Place) (x : ℕ) (part : List ℕ) (o : ℕ) (ν : Frames) (l : Store) → v.around ≡ w.around → Show (texts_of W) (one given) (value.one (value_by conversion x)) part → Own K.code v behind o c
      → Agrees W (suc n) K.ground ν l σ → Q W n K w hi ctx b (standing K.ground o (push part (push tops (push (untaken (p ∷ t) 0 words) []))) ν l) (others x σ))
      → Q W n K w hi ctx b (standing K.ground a (push tops (push (untaken t 0 words) [])) μ m)
      (on_tried W.program (next W n) K.meant (converted conversion (number_for conversion (nth vs p.field))) others σ)
  converted_part_row ks vs words t p conversion given tops over behind u a c others μ m σ shown is off apart con size same own inside h on =
      let y0 = on_tried W.program (next W n) K.meant (converted conversion (number_for conversion (nth vs p.field))) others σ in
      let left = push tops (push (untaken (p ∷ t) 0 words) []) in
      lifted_row ks vs words t p tops over (conversion_code conversion ++ behind) u a c μ m σ y0 shown is off apart size same own inside h (λ v part o ν l near shows code within agrees.
      let y = own_code_joins.splits K.code v (conversion_code conversion) behind o c code in
      let v2 = behind_all K.code (conversion_code conversion) v in
      let near2 : v2.around ≡ w.around = behind_around K.code (conversion_code conversion) v ∙ near in
      let high = in_order y.2 in
      let taken = the_taken (texts_of W) conversion is.kind given (nth vs p.field) part con shows in
      let x = number_for conversion (nth vs p.field) in
      subst (λ l2. Q W n K w hi ctx b (standing K.ground o (push l2 left) ν l) y0) (sym taken.words)
      (conversion_on W K (moved v w) hi ctx n raises (λ s r. Did W (suc n) K w.around b s r) (λ s t r k h. did_later W (suc n) K w.around b s t r k h)
      (λ s a σ h. did_out W (suc n) K w.around b s a σ h) ν l σ conversion o y.0 left x others (own_moved w near y.1) taken.is_taken
      (inside_part W K.ground o c o y.0 (omega arith) high within) agrees (λ z ξ q e now.
      on v2 z (words_made conversion z) y.0 ξ q near2 (made_shown (texts_of W) conversion is.kind given x z con taken.is_taken e) y.2 now)))
