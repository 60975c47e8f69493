-- Extractors follow their meaning: each target in order takes its part of what is left of the value, and the rest is dropped.
use Rattle.std.proofs.Common.{◌≡◌, ℕ, suc, ◌+◌, ◌-◌, List, [], ◌∷◌, ◌++◌, length, Bool, true, false, refl, sym, ap, ◌∙◌, subst, arith}
use Rattle.mesa_types.specs.declared.typed_parts.Conversion.{Conversion}
use Rattle.mesa_types.specs.declared.typed_parts.Conversion.TheVariants as conversion
use Rattle.mesa_types.specs.declared.typed_parts.Home.{Home}
use Rattle.mesa_types.specs.declared.typed_parts.Part.{Part}
use Rattle.mesa_types.specs.declared.typed_parts.Range.{Range}
use Rattle.mesa_types.specs.Typed.{Kind, Ordinal, Longs, Record, Kinds, Expr, Suffixes, Extract, Targets, NoTargets, AndTarget, AndConverted}
use Rattle.mesa_types.specs.Shapes.{one, HasWords, words_in, words_in_all}
use Rattle.mesa_types.specs.Counts.{hidden, hidden_expr, hidden_suffixes, hidden_targets, words_of, words_after}
use Rattle.mesa_types.specs.Sound.{AllDiffer, ChecksKind, Converts, VariableIn, SuffixesIn, StmtIn, TargetsIn, taken}
use Rattle.mesa_types.proofs.WordSizes.{sizes_agree, values_have_words}
use Rattle.code_forms.specs.declared.instruction.Instruction.TheVariants as i
use Rattle.source_meaning.specs.Value.{Values, nth, word, parts, path_of}
use Rattle.source_meaning.specs.Value as value
use Rattle.source_meaning.specs.State.{State, Result, Run, carry, after, give, change, value_then, on_values, on_value}
use Rattle.source_meaning.specs.Variables.{store_part}
use Rattle.source_meaning.specs.Signals.{on_tried}
use Rattle.source_meaning.specs.Meaning.{value as meant_value, path, number_for, value_by, targets, does}
use Rattle.mesa_types.specs.Operators.{checked}
use Rattle.mesa_types.specs.Longs.{converted}
use Rattle.machine_rules.specs.State.{Store, Stepped}
use Rattle.machine_rules.specs.Words.{push}
use Rattle.code_rules.specs.CodeFor as row
use Rattle.code_rules.specs.CodeFor.{TargetsCode, words_taken, words_over, leaving}
use Rattle.code_rules.specs.OwnCode.{pop_code, lift_code, check_code, conversion_code}
use Rattle.code_rules.specs.Reading.{Place, Own, beyond, deeper}
use Rattle.code_rules.specs.Slots.{store, store_within, fields_of, HasNoIndex}
use Rattle.code_rules.proofs.Whole.{expr_run, path_run, targets_run}
use Rattle.agreement_rules.specs.Layout.{Strings, slots_of, value_at, values_at, Show}
use Rattle.agreement_rules.specs.Reaches.{Reaches}
use Rattle.agreement_rules.proofs.Lifted.{in_order}
use Rattle.agreement_laws.specs.World.{World, texts_of}
use Rattle.agreement_laws.specs.Standing.{Frames}
use Rattle.agreement_laws.specs.Relation.{Ground, Agrees, standing}
use Rattle.agreement_laws.specs.Contexts.{Site, Context, InPlace, Inside}
use Rattle.agreement_laws.specs.Answers.{Answered}
use Rattle.agreement_laws.specs.Promises as promise
use Rattle.agreement_laws.specs.Promises.{next, Found, Now, RaiseFollows, ExpressionsFollow, Follows}
use Rattle.agreement_laws.proofs.Doing.{Did, did_later, did_out}
use Rattle.agreement_laws.proofs.Fields.{variable_small}
use Rattle.agreement_laws.proofs.Following.{value_on}
use Rattle.agreement_laws.proofs.Going.{answered_on, values_on}
use Rattle.agreement_laws.proofs.Ifs.{drops}
use Rattle.agreement_laws.proofs.Moving.{place_part, place_first, run_order, inside_part}
use Rattle.agreement_laws.proofs.Owning.{law, own_gives}
use Rattle.agreement_laws.proofs.Parts.{IsPart, Took, off_took, took_less, within_all, suffix_has_words, part_row, converted_part_row}
use Rattle.agreement_laws.proofs.Stores.{stored_comes, stored_within_comes}
use Rattle.agreement_laws.proofs.Suffixed.{variable_has_words}
use Rattle.agreement_laws.proofs.Taking.{OffAll, LieApart, untaken, untaken_none, untaken_long}
use Rattle.agreement_laws.proofs.Variables.{static, static_path, static_at}

module _ (W : World) (n : ℕ) (raises : RaiseFollows W n) (K : Site) (w : Place) (hi : ℕ) (ctx : Context W K w.points w.around w.slot hi) (b : ℕ) where
  abbrev G : Ground
  G = K.ground

  -- what a target does with its part of the values
  abbrev takes : (vs : Values) → Part → Home → Range → Run → (path : List ℕ) → Run
  takes vs p h range others path =
      on_tried W.program (next W n) K.meant (checked range (word (nth vs p.field))) (λ x. change (store_part K.meant h path (nth vs p.field)) others)

  abbrev converts : (vs : Values) → Part → Home → Conversion → Run → (path : List ℕ) → Run
  converts vs p h conversion others path =
      on_tried W.program (next W n) K.meant (converted conversion (number_for conversion (nth vs p.field))) (λ x. change (store_part K.meant h path (value_by conversion x)) others)

  -- the part goes to a part of a variable along fields
  target_row : (ks : Kinds) (vs : Values) (words : List ℕ) (t : List Part) (p : Part) (range : Range) (h : Home) (s : Suffixes) (j : Kind) (u : Place) (a c : ℕ) (others : Run)
      (μ : Frames) (m : Store) (σ : State) → Show (texts_of W) ks vs words → (is : IsPart ks p) → OffAll p t → LieApart (length words) t → ChecksKind range is.kind → HasNoIndex s
      → VariableIn K.scope h j → SuffixesIn K.scope s j is.kind → u.around ≡ w.around
      → Own K.code u (lift_code p.words (words_over (length words) t p) ++ (check_code range ++ store K.code h (fields_of s) p.words ∷ [])) a c → Inside W G a c
      → Agrees W (suc n) G μ m σ
      → ((ν : Frames) (l : Store) → Agrees W (suc n) G ν l (record σ { store = store_part K.meant h (path_of (static s)) (nth vs p.field) σ.store })
      → Did W (suc n) K w.around b (standing G c (push (untaken (p ∷ t) 0 words) []) ν l)
      (others (record σ { store = store_part K.meant h (path_of (static s)) (nth vs p.field) σ.store })))
      → Did W (suc n) K w.around b (standing G a (push (untaken t 0 words) []) μ m) (takes vs p h range others (path_of (static s)) σ)
  unfolding change
  target_row ks vs words t p range h s j u a c others μ m σ shown is off apart checks static_s there sound same own inside agrees on =
      let left = push (untaken (p ∷ t) 0 words) [] in
      let path = path_of (static s) in
      let τ : State = record σ { store = store_part K.meant h path (nth vs p.field) σ.store } in
      part_row W n raises K w hi ctx b ks vs words t p range [] (words_over (length words) t p) (store K.code h (fields_of s) p.words ∷ []) u a c
      (change (store_part K.meant h path (nth vs p.field)) others) μ m σ shown is off apart checks (omega arith) same own inside agrees (λ v part o ν l near shows code now.
      let q = stored_comes W (suc n) K w hi ctx h j is.kind path (fields_of s) o c (nth vs p.field) part left v ν l σ near there
      (static_at K.scope s j is.kind static_s sound) shows (subst (λ z. Own K.code v (store K.code h (fields_of s) z ∷ []) o c) is.words code) now in
      did_later W (suc n) K w.around b (standing G o (push part left) ν l) (standing G c left q.frames q.store) (others τ) q.reaches (on q.frames q.store q.agrees))

  -- to an element, whose offset is on the operands
  target_within_row : (ks : Kinds) (vs : Values) (words : List ℕ) (t : List Part) (p : Part) (range : Range) (h : Home) (j : Kind) (u : Place) (d c : ℕ) (others : Run)
      (from : Stepped) (r : Result) → Show (texts_of W) ks vs words → (is : IsPart ks p) → OffAll p t → LieApart (length words) t → ChecksKind range is.kind
      → VariableIn K.scope h j → u.around ≡ w.around
      → Own K.code u (lift_code p.words (suc (words_over (length words) t p)) ++ (check_code range ++ store_within K.code h p.words ∷ [])) d c → Inside W G d c
      → Answered W (suc n) K w.around (λ s vs σ. Found W (suc n) G j is.kind d 0 (push (untaken t 0 words) []) s vs σ) from r.answer r.state
      → ((path : List ℕ) (ν : Frames) (l : Store) → Agrees W (suc n) G ν l (record r.state { store = store_part K.meant h path (nth vs p.field) r.state.store })
      → Did W (suc n) K w.around b (standing G c (push (untaken (p ∷ t) 0 words) []) ν l)
      (others (record r.state { store = store_part K.meant h path (nth vs p.field) r.state.store })))
      → Did W (suc n) K w.around b from (value_then (λ us. takes vs p h range others (path_of us)) r.answer r.state)
  unfolding change
  target_within_row ks vs words t p range h j u d c others from r shown is off apart checks there same own inside answered on =
      let left = push (untaken (p ∷ t) 0 words) [] in
      let rest = push (untaken t 0 words) [] in
      answered_on W (suc n) K w.around (λ s r. Did W (suc n) K w.around b s r) (λ s t r k h. did_later W (suc n) K w.around b s t r k h)
      (λ s a σ h. did_out W (suc n) K w.around b s a σ h) (λ s vs σ. Found W (suc n) G j is.kind d 0 rest s vs σ) (λ us. takes vs p h range others (path_of us)) from r.answer r.state
      answered (λ us x.
      let g = x.comes in
      let z = x.offset in
      let e : 0 + z ≡ z = omega arith in
      let path = path_of us in
      let τ : State = record r.state { store = store_part K.meant h path (nth vs p.field) r.state.store } in
      did_later W (suc n) K w.around b from (standing G d (z ∷ rest) g.frames g.store) (takes vs p h range others path r.state)
      (subst (λ y. Reaches W.image from (standing G d (y ∷ rest) g.frames g.store)) e g.reaches)
      (part_row W n raises K w hi ctx b ks vs words t p range (z ∷ []) (suc (words_over (length words) t p)) (store_within K.code h p.words ∷ []) u d c
      (change (store_part K.meant h path (nth vs p.field)) others) g.frames g.store r.state shown is off apart checks (omega arith) same own inside g.agrees (λ v part o ν l near shows code now.
      let q = stored_within_comes W (suc n) K w hi ctx h j is.kind path z o c (nth vs p.field) part left v ν l r.state near there
      x.path_at shows (subst (λ y. Own K.code v (store_within K.code h y ∷ []) o c) is.words code) now in
      did_later W (suc n) K w.around b (standing G o (push part (z ∷ left)) ν l) (standing G c left q.frames q.store) (others τ) q.reaches (on path q.frames q.store q.agrees))))

  -- the same of a part that is converted
  converted_target_row : (ks : Kinds) (vs : Values) (words : List ℕ) (t : List Part) (p : Part) (conversion : Conversion) (given : Kind) (h : Home) (s : Suffixes) (j : Kind) (u : Place) (a c : ℕ)
      (others : Run) (μ : Frames) (m : Store) (σ : State) → Show (texts_of W) ks vs words → (is : IsPart ks p) → OffAll p t → LieApart (length words) t → Converts conversion is.kind given
      → words_after conversion ≡ words_in given → HasNoIndex s → VariableIn K.scope h j → SuffixesIn K.scope s j given → u.around ≡ w.around
      → Own K.code u (lift_code p.words (words_over (length words) t p) ++ (conversion_code conversion ++ store K.code h (fields_of s) (words_after conversion) ∷ [])) a c → Inside W G a c
      → Agrees W (suc n) G μ m σ
      → ((x : ℕ) (ν : Frames) (l : Store) → Agrees W (suc n) G ν l (record σ { store = store_part K.meant h (path_of (static s)) (value_by conversion x) σ.store })
      → Did W (suc n) K w.around b (standing G c (push (untaken (p ∷ t) 0 words) []) ν l)
      (others (record σ { store = store_part K.meant h (path_of (static s)) (value_by conversion x) σ.store })))
      → Did W (suc n) K w.around b (standing G a (push (untaken t 0 words) []) μ m) (converts vs p h conversion others (path_of (static s)) σ)
  unfolding change
  converted_target_row ks vs words t p conversion given h s j u a c others μ m σ shown is off apart con size static_s there sound same own inside agrees on =
      let left = push (untaken (p ∷ t) 0 words) [] in
      let path = path_of (static s) in
      converted_part_row W n raises K w hi ctx b ks vs words t p conversion given [] (words_over (length words) t p) (store K.code h (fields_of s) (words_after conversion) ∷ []) u a c
      (λ x. change (store_part K.meant h path (value_by conversion x)) others) μ m σ shown is off apart con (omega arith) same own inside agrees (λ v x part o ν l near shows code now.
      let q = stored_comes W (suc n) K w hi ctx h j given path (fields_of s) o c (value_by conversion x) part left v ν l σ near there
      (static_at K.scope s j given static_s sound) shows (subst (λ z. Own K.code v (store K.code h (fields_of s) z ∷ []) o c) size code) now in
      did_later W (suc n) K w.around b (standing G o (push part left) ν l) (standing G c left q.frames q.store)
      (others (record σ { store = store_part K.meant h path (value_by conversion x) σ.store })) q.reaches (on x q.frames q.store q.agrees))

  converted_within_row : (ks : Kinds) (vs : Values) (words : List ℕ) (t : List Part) (p : Part) (conversion : Conversion) (given : Kind) (h : Home) (j : Kind) (u : Place) (d c : ℕ) (others : Run)
      (from : Stepped) (r : Result) → Show (texts_of W) ks vs words → (is : IsPart ks p) → OffAll p t → LieApart (length words) t → Converts conversion is.kind given
      → words_after conversion ≡ words_in given → VariableIn K.scope h j → u.around ≡ w.around
      → Own K.code u (lift_code p.words (suc (words_over (length words) t p)) ++ (conversion_code conversion ++ store_within K.code h (words_after conversion) ∷ [])) d c → Inside W G d c
      → Answered W (suc n) K w.around (λ s vs σ. Found W (suc n) G j given d 0 (push (untaken t 0 words) []) s vs σ) from r.answer r.state
      → ((path : List ℕ) (x : ℕ) (ν : Frames) (l : Store) → Agrees W (suc n) G ν l (record r.state { store = store_part K.meant h path (value_by conversion x) r.state.store })
      → Did W (suc n) K w.around b (standing G c (push (untaken (p ∷ t) 0 words) []) ν l)
      (others (record r.state { store = store_part K.meant h path (value_by conversion x) r.state.store })))
      → Did W (suc n) K w.around b from (value_then (λ us. converts vs p h conversion others (path_of us)) r.answer r.state)
  unfolding change
  converted_within_row ks vs words t p conversion given h j u d c others from r shown is off apart con size there same own inside answered on =
      let left = push (untaken (p ∷ t) 0 words) [] in
      let rest = push (untaken t 0 words) [] in
      answered_on W (suc n) K w.around (λ s r. Did W (suc n) K w.around b s r) (λ s t r k h. did_later W (suc n) K w.around b s t r k h)
      (λ s a σ h. did_out W (suc n) K w.around b s a σ h) (λ s vs σ. Found W (suc n) G j given d 0 rest s vs σ) (λ us. converts vs p h conversion others (path_of us)) from r.answer r.state
      answered (λ us x.
      let g = x.comes in
      let z = x.offset in
      let e : 0 + z ≡ z = omega arith in
      let path = path_of us in
      did_later W (suc n) K w.around b from (standing G d (z ∷ rest) g.frames g.store) (converts vs p h conversion others path r.state)
      (subst (λ y. Reaches W.image from (standing G d (y ∷ rest) g.frames g.store)) e g.reaches)
      (converted_part_row W n raises K w hi ctx b ks vs words t p conversion given (z ∷ []) (suc (words_over (length words) t p)) (store_within K.code h (words_after conversion) ∷ []) u d c
      (λ x. change (store_part K.meant h path (value_by conversion x)) others) g.frames g.store r.state shown is off apart con (omega arith) same own inside g.agrees
      (λ v y part o ν l near shows code now.
      let q = stored_within_comes W (suc n) K w hi ctx h j given path z o c (value_by conversion y) part left v ν l r.state near there
      x.path_at shows (subst (λ y. Own K.code v (store_within K.code h y ∷ []) o c) size code) now in
      did_later W (suc n) K w.around b (standing G o (push part (z ∷ left)) ν l) (standing G c left q.frames q.store)
      (others (record r.state { store = store_part K.meant h path (value_by conversion y) r.state.store })) q.reaches (on path y q.frames q.store q.agrees))))

longs_have : HasWords Longs
unfolding HasWords
longs_have = tt

ordinals_have : HasWords Ordinal
unfolding HasWords
ordinals_have = tt

made_words : (c : Conversion) (j k : Kind) → Converts c j k → words_after c ≡ words_in k
unfolding Converts words_after words_in
made_words conversion.Kept j k con = sym (ap words_in con.1)
made_words (conversion.Widened from to) j k con = sym (ap words_in con.1)
made_words (conversion.Narrowed from to r) j k con = sym (ap words_in con.2)
made_words conversion.InCommon j k con = sym (ap words_in con.1)

taken_has_words : (c : Conversion) (j k : Kind) → Converts c j k → HasWords j
unfolding Converts
taken_has_words conversion.Kept j k con = subst HasWords (sym con.0) longs_have
taken_has_words (conversion.Widened from to) j k con = subst HasWords (sym con.0) ordinals_have
taken_has_words (conversion.Narrowed from to r) j k con = subst HasWords (sym con.1) longs_have
taken_has_words conversion.InCommon j k con = subst HasWords (sym con.0) longs_have

module _ (W : World) (n : ℕ) (expressions : ExpressionsFollow W n) (raises : RaiseFollows W n) where
  -- what is left of the values stands on the operands
  pub targets_follow : (ts : Targets) (K : Site) (w : Place) (ks : Kinds) (t : List Part) (vs : Values) (words : List ℕ) (a b : ℕ) (μ : Frames) (m : Store) (σ : State)
      → TargetsCode K.code w (length words) t ts a b → TargetsIn K.scope ts ks → AllDiffer (taken ts) → Took ks (taken ts) t → LieApart (length words) t
      → Show (texts_of W) ks vs words → InPlace W K w (hidden_targets ts) → Inside W K.ground a b → Now W (suc n) K μ m σ
      → Did W (suc n) K w.around b (promise.here K a (push (untaken t 0 words) []) μ m) (targets W.program (next W n) ts K.meant vs σ)
  unfolding targets hidden_targets TargetsIn AllDiffer taken on_values after carry value_then give
  targets_follow NoTargets K w ks t vs words a b μ m σ (row.no_targets own) sound differ took apart shown place inside now =
      let hi = w.slot + 0 in
      let left = untaken t 0 words in
      let size : length words - words_taken t ≡ length left = (let x = untaken_long t words apart in omega (arith, x)) in
      own_gives W K (leaving (length words) t w) hi place (suc n) μ m σ (pop_code (length left)) a b left [] []
      (subst (λ z. Own K.code (leaving (length words) t w) (pop_code z) a b) size own) (drops W (suc n) K (leaving (length words) t w) hi place μ m left) now
  targets_follow (AndTarget p h s range ts) K w ks t vs words a b μ m σ (row.and_target c static_s own code) sound differ took apart shown place inside now =
      let low = in_order own in let high = run_order (targets_run code) in
      let some = suffix_has_words K.scope s sound.1 sound.0 (variable_has_words W K place.code_of h sound.1 place.scope_in sound.4) sound.5 in
      let is : IsPart ks p = record { kind = sound.0; part_of = sound.2; words = sound.3; some = (let x = values_have_words.of_kind sound.0 some in let e = sound.3 in omega (arith, x, e)) } in
      let off = off_took ks (taken (AndTarget p h s range ts)) p t is (0, omega arith, refl) took in
      let le = within_all (texts_of W) ks vs words p shown is in
      let others = targets W.program (next W n) ts K.meant vs in
      let words_hidden = hidden_suffixes s + hidden_targets ts in
      subst (λ (q : Result). Did W (suc n) K w.around b (promise.here K a (push (untaken t 0 words) []) μ m)
      (value_then (λ us. takes W n raises K w (w.slot + words_hidden) place b vs p h range others (path_of us)) q.answer q.state)) (sym (static_path W.program (next W n) s K.meant σ static_s))
      (target_row W n raises K w (w.slot + words_hidden) place b ks vs words t p range h s sound.1 (leaving (length words) t w) a c others μ m σ shown is off apart sound.6 static_s
      sound.4 sound.5 refl own (inside_part W K.ground a b a c (omega arith) high inside) now (λ ν l agrees.
      targets_follow ts K w ks (p ∷ t) vs words c b ν l (record σ { store = store_part K.meant h (path_of (static s)) (nth vs p.field) σ.store }) code sound.7 differ.1 (is, differ.0, took_less ks p.field (taken ts) t took) (le, off, apart) shown
      (place_first W K w words_hidden (hidden_targets ts) (omega arith) place) (inside_part W K.ground a b c b low (omega arith) inside) agrees))
  targets_follow (AndTarget p h s range ts) K w ks t vs words a b μ m σ (row.and_element c d f dynamic own first second code) sound differ took apart shown place inside now =
      let low = in_order own in let two = run_order (path_run first) in let three = in_order second in let four = run_order (targets_run code) in
      let variable = variable_has_words W K place.code_of h sound.1 place.scope_in sound.4 in
      let some = suffix_has_words K.scope s sound.1 sound.0 variable sound.5 in
      let is : IsPart ks p = record { kind = sound.0; part_of = sound.2; words = sound.3; some = (let x = values_have_words.of_kind sound.0 some in let e = sound.3 in omega (arith, x, e)) } in
      let off = off_took ks (taken (AndTarget p h s range ts)) p t is (0, omega arith, refl) took in
      let le = within_all (texts_of W) ks vs words p shown is in
      let others = targets W.program (next W n) ts K.meant vs in
      let words_hidden = hidden_suffixes s + hidden_targets ts in
      let hi = w.slot + words_hidden in
      let small = variable_small W K place.code_of h sound.1 place.scope_in sound.4 in
      let v = leaving (length words) t w in
      let rest = push (untaken t 0 words) [] in
      let s0 = promise.here K a rest μ m in
      let g = own_gives W K v hi place (suc n) μ m σ (i.Lit (fields_of s) ∷ []) a c [] (fields_of s ∷ []) rest own ((law W K v hi place μ m).number_leaf (fields_of s)) now in
      let s1 = standing K.ground c ((0 + fields_of s) ∷ rest) g.frames g.store in
      let r = path W.program (next W n) s K.meant σ in
      let found = expressions.path s K (deeper 1 v) sound.1 sound.0 c d 0 rest g.frames g.store σ first sound.5 variable (omega (arith, small))
      (place_first W K w words_hidden (hidden_suffixes s) (omega arith) place) (inside_part W K.ground a b c d low (omega (arith, three, four)) inside) g.agrees in
      did_later W (suc n) K w.around b s0 s1 (value_then (λ us. takes W n raises K w hi place b vs p h range others (path_of us)) r.answer r.state)
      (subst (λ o. Reaches W.image s0 (standing K.ground c (o ∷ rest) g.frames g.store)) (omega arith) g.reaches)
      (target_within_row W n raises K w hi place b ks vs words t p range h sound.1 (deeper 1 v) d f others s1 r shown is off apart sound.6 sound.4 refl second
      (inside_part W K.ground a b d f (omega (arith, low, two)) four inside) found (λ path ν l agrees.
      targets_follow ts K (beyond (hidden_suffixes s) w) ks (p ∷ t) vs words f b ν l (record r.state { store = store_part K.meant h path (nth vs p.field) r.state.store }) code sound.7 differ.1 (is, differ.0, took_less ks p.field (taken ts) t took) (le, off, apart) shown
      (place_part W K w words_hidden (hidden_suffixes s) (hidden_targets ts) (omega arith) place) (inside_part W K.ground a b f b (omega (arith, low, two, three)) (omega arith) inside) agrees))
  targets_follow (AndConverted p h s conversion ts) K w ks t vs words a b μ m σ (row.and_converted c static_s own code) sound differ took apart shown place inside now =
      let low = in_order own in let high = run_order (targets_run code) in
      let some = taken_has_words conversion sound.0 sound.1 sound.6 in
      let is : IsPart ks p = record { kind = sound.0; part_of = sound.3; words = sound.4; some = (let x = values_have_words.of_kind sound.0 some in let e = sound.4 in omega (arith, x, e)) } in
      let off = off_took ks (taken (AndConverted p h s conversion ts)) p t is (0, omega arith, refl) took in
      let le = within_all (texts_of W) ks vs words p shown is in
      let others = targets W.program (next W n) ts K.meant vs in
      let words_hidden = hidden_suffixes s + hidden_targets ts in
      subst (λ (q : Result). Did W (suc n) K w.around b (promise.here K a (push (untaken t 0 words) []) μ m)
      (value_then (λ us. converts W n raises K w (w.slot + words_hidden) place b vs p h conversion others (path_of us)) q.answer q.state)) (sym (static_path W.program (next W n) s K.meant σ static_s))
      (converted_target_row W n raises K w (w.slot + words_hidden) place b ks vs words t p conversion sound.1 h s sound.2 (leaving (length words) t w) a c others μ m σ shown is off apart sound.6
      (made_words conversion sound.0 sound.1 sound.6) static_s sound.7 sound.8 refl own (inside_part W K.ground a b a c (omega arith) high inside) now (λ x ν l agrees.
      targets_follow ts K w ks (p ∷ t) vs words c b ν l (record σ { store = store_part K.meant h (path_of (static s)) (value_by conversion x) σ.store }) code sound.9 differ.1 (is, differ.0, took_less ks p.field (taken ts) t took) (le, off, apart) shown
      (place_first W K w words_hidden (hidden_targets ts) (omega arith) place) (inside_part W K.ground a b c b low (omega arith) inside) agrees))
  targets_follow (AndConverted p h s conversion ts) K w ks t vs words a b μ m σ (row.and_converted_element c d f dynamic own first second code) sound differ took apart shown place inside now =
      let low = in_order own in let two = run_order (path_run first) in let three = in_order second in let four = run_order (targets_run code) in
      let variable = variable_has_words W K place.code_of h sound.2 place.scope_in sound.7 in
      let some = taken_has_words conversion sound.0 sound.1 sound.6 in
      let is : IsPart ks p = record { kind = sound.0; part_of = sound.3; words = sound.4; some = (let x = values_have_words.of_kind sound.0 some in let e = sound.4 in omega (arith, x, e)) } in
      let off = off_took ks (taken (AndConverted p h s conversion ts)) p t is (0, omega arith, refl) took in
      let le = within_all (texts_of W) ks vs words p shown is in
      let others = targets W.program (next W n) ts K.meant vs in
      let words_hidden = hidden_suffixes s + hidden_targets ts in
      let hi = w.slot + words_hidden in
      let small = variable_small W K place.code_of h sound.2 place.scope_in sound.7 in
      let v = leaving (length words) t w in
      let rest = push (untaken t 0 words) [] in
      let s0 = promise.here K a rest μ m in
      let g = own_gives W K v hi place (suc n) μ m σ (i.Lit (fields_of s) ∷ []) a c [] (fields_of s ∷ []) rest own ((law W K v hi place μ m).number_leaf (fields_of s)) now in
      let s1 = standing K.ground c ((0 + fields_of s) ∷ rest) g.frames g.store in
      let r = path W.program (next W n) s K.meant σ in
      let found = expressions.path s K (deeper 1 v) sound.2 sound.1 c d 0 rest g.frames g.store σ first sound.8 variable (omega (arith, small))
      (place_first W K w words_hidden (hidden_suffixes s) (omega arith) place) (inside_part W K.ground a b c d low (omega (arith, three, four)) inside) g.agrees in
      did_later W (suc n) K w.around b s0 s1 (value_then (λ us. converts W n raises K w hi place b vs p h conversion others (path_of us)) r.answer r.state)
      (subst (λ o. Reaches W.image s0 (standing K.ground c (o ∷ rest) g.frames g.store)) (omega arith) g.reaches)
      (converted_within_row W n raises K w hi place b ks vs words t p conversion sound.1 h sound.2 (deeper 1 v) d f others s1 r shown is off apart sound.6
      (made_words conversion sound.0 sound.1 sound.6) sound.7 refl second
      (inside_part W K.ground a b d f (omega (arith, low, two)) four inside) found (λ path x ν l agrees.
      targets_follow ts K (beyond (hidden_suffixes s) w) ks (p ∷ t) vs words f b ν l (record r.state { store = store_part K.meant h path (value_by conversion x) r.state.store }) code sound.9 differ.1 (is, differ.0, took_less ks p.field (taken ts) t took) (le, off, apart) shown
      (place_part W K w words_hidden (hidden_suffixes s) (hidden_targets ts) (omega arith) place) (inside_part W K.ground a b f b (omega (arith, low, two, three)) (omega arith) inside) agrees))

  -- of a record's value, and of the results of a call

  record_shown : (texts : Strings) (ks : Kinds) (words : List ℕ) → Show texts (one (Record ks)) (value.one (value_at texts (slots_of words) 0 (Record ks))) words
      → Show texts ks (parts (value_at texts (slots_of words) 0 (Record ks))) words
  unfolding one value.one value_at values_at parts words_in words_in_all
  record_shown texts ks words shown = record { size = (let x = shown.size in omega (arith, x)); worth = refl; small = shown.small }

  record_words : (ks : Kinds) → words_in_all (one (Record ks)) ≡ words_in_all ks
  unfolding one words_in words_in_all
  record_words ks = omega arith

  pub extract_follows : (of_record : Bool) (ts : Targets) (e : Expr) → Follows W n (Extract of_record ts e)
  unfolding does hidden StmtIn on_value on_values after carry
  extract_follows true ts e K w a b μ m σ (row.extract c code more) sound place inside now =
      let ks = sound.2 in
      let low = run_order (expr_run code) in let high = run_order (targets_run more) in
      let words_hidden = hidden_targets ts + hidden_expr e in
      let r = meant_value W.program (next W n) e K.meant σ in
      value_on W (suc n) K w.around (λ s r. Did W (suc n) K w.around b s r) (λ s t r k h. did_later W (suc n) K w.around b s t r k h)
      (λ s a σ h. did_out W (suc n) K w.around b s a σ h) (Record ks) c [] (λ v. targets W.program (next W n) ts K.meant (parts v)) (promise.here K a [] μ m) r
      (expressions.value e K (beyond (hidden_targets ts) w) (one (Record ks)) a c [] μ m σ code sound.3
      (place_part W K w words_hidden (hidden_targets ts) (hidden_expr e) (omega arith) place) (inside_part W K.ground a b a c (omega arith) high inside) now)
      (λ words ν l shown agrees.
      let v = value_at (texts_of W) (slots_of words) 0 (Record ks) in
      let shows = record_shown (texts_of W) ks words shown in
      let size : words_of e ≡ length words = sizes_agree.of_expression K.scope e (one (Record ks)) sound.3 ∙ record_words ks ∙ sym shows.size in
      subst (λ us. Did W (suc n) K w.around b (standing K.ground c (push us []) ν l) (targets W.program (next W n) ts K.meant (parts v) r.state)) (untaken_none 0 words)
      (targets_follow ts K w ks [] (parts v) words c b ν l r.state (subst (λ z. TargetsCode K.code w z [] ts c b) size more) sound.4 sound.1 tt tt shows
      (place_first W K w words_hidden (hidden_targets ts) (omega arith) place) (inside_part W K.ground a b c b low (omega arith) inside) agrees))
  extract_follows false ts e K w a b μ m σ (row.extract c code more) sound place inside now =
      let ks = sound.3 in
      let low = run_order (expr_run code) in let high = run_order (targets_run more) in
      let words_hidden = hidden_targets ts + hidden_expr e in
      let r = meant_value W.program (next W n) e K.meant σ in
      values_on W (suc n) K w.around (λ s r. Did W (suc n) K w.around b s r) (λ s t r k h. did_later W (suc n) K w.around b s t r k h)
      (λ s a σ h. did_out W (suc n) K w.around b s a σ h) ks c [] (λ vs. targets W.program (next W n) ts K.meant vs) (promise.here K a [] μ m) r
      (expressions.value e K (beyond (hidden_targets ts) w) ks a c [] μ m σ code sound.4
      (place_part W K w words_hidden (hidden_targets ts) (hidden_expr e) (omega arith) place) (inside_part W K.ground a b a c (omega arith) high inside) now)
      (λ vs words ν l shown agrees.
      let size : words_of e ≡ length words = sizes_agree.of_expression K.scope e ks sound.4 ∙ sym shown.size in
      subst (λ us. Did W (suc n) K w.around b (standing K.ground c (push us []) ν l) (targets W.program (next W n) ts K.meant vs r.state)) (untaken_none 0 words)
      (targets_follow ts K w ks [] vs words c b ν l r.state (subst (λ z. TargetsCode K.code w z [] ts c b) size more) sound.5 sound.1 tt tt shown
      (place_first W K w words_hidden (hidden_targets ts) (omega arith) place) (inside_part W K.ground a b c b low (omega arith) inside) agrees))
