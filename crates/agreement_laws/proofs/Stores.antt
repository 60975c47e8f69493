-- Words are stored in a part of a variable, on both sides.
use Rattle.std.proofs.Common.{◌≡◌, ℕ, ◌+◌, ◌≤◌, List, [], ◌∷◌, length, Bool, true, false, Some, refl, sym, ap, ◌∙◌, subst, arith}
use Rattle.std.specs.Prelude.{nat_eq, nat_le, unwrap_or, if◌then◌else◌}
use Rattle.std.proofs.lemmas.Bool.{eqb-true, le-leb}
use Rattle.mesa_types.specs.declared.typed_parts.Home.{Home}
use Rattle.mesa_types.specs.declared.typed_parts.Home.TheVariants.{Global, Local}
use Rattle.mesa_types.specs.Typed.{Kind}
use Rattle.mesa_types.specs.Shapes.{one, words_in, words_in_all, KindAt}
use Rattle.mesa_types.specs.Sound.{VariableIn}
use Rattle.code_forms.specs.declared.instruction.Instruction.{Instruction}
use Rattle.code_forms.specs.declared.instruction.Instruction.TheVariants as i
use Rattle.code_forms.specs.Instructions.{bytes_of}
use Rattle.source_meaning.specs.Value.{Value, nth, with_nth, with_part}
use Rattle.source_meaning.specs.Value as value
use Rattle.source_meaning.specs.State.{State}
use Rattle.source_meaning.specs.Variables.{fetch, store as put, store_part, set_globals}
use Rattle.machine_rules.specs.State.{Store, Runs, Goes}
use Rattle.machine_rules.specs.Words.{push, popped, under, put_words, on_top}
use Rattle.machine_rules.specs.LookUps.{module_number, text_of}
use Rattle.machine_rules.specs.Calls.{set_of}
use Rattle.machine_rules.specs.Moves.{with}
use Rattle.machine_rules.specs.Working.{Work, Worked, Works, works, stores_local, stores_global, in_bounds}
use Rattle.machine_rules.specs.Steps.{work_of, worked, works_in, begin, run, step}
use Rattle.code_rules.specs.Reading.{Coded, Place, Own, no_more, one_more, read}
use Rattle.code_rules.specs.Slots.{store, store_within, local_slot, global_slot, words_at}
use Rattle.agreement_rules.specs.Layout.{Strings, Show}
use Rattle.agreement_rules.specs.Operators.{PathAt, Lies}
use Rattle.agreement_rules.specs.Reaches.{Reaches}
use Rattle.agreement_rules.proofs.Memory.{under_all, popped_all}
use Rattle.agreement_rules.proofs.Values.{path_within}
use Rattle.agreement_laws.specs.World.{World, texts_of, locals_of}
use Rattle.agreement_laws.specs.Standing.{Frames, at, filled, fill}
use Rattle.agreement_laws.specs.Relation.{Ground, heres, Agrees, standing}
use Rattle.agreement_laws.specs.Contexts.{Site, Context}
use Rattle.agreement_laws.specs.Answers.{Comes}
use Rattle.agreement_laws.proofs.Codes.{locals_are, globals_are, variables_here, named_here, locals_lie, globals_lie, variable_there}
use Rattle.agreement_laws.proofs.Control.{begun_more, agreed_begun, stands_at}
use Rattle.agreement_laws.proofs.Going.{reaches_step}
use Rattle.agreement_laws.proofs.Jumps.{own_reads}
use Rattle.agreement_laws.proofs.Owning.{stack_is}
use Rattle.agreement_laws.proofs.Parameters.{word_count}
use Rattle.agreement_laws.proofs.Stacks.{with_words}
use Rattle.agreement_laws.proofs.Stored as stored
use Rattle.agreement_laws.proofs.Storing.{agreed_variables, agreed_globals}

pub own_end : {P : Coded} {u : Place} {x : Instruction} {o b : ℕ} → Own P u (x ∷ []) o b → o + bytes_of x ≡ b
own_end (one_more r no_more) = refl

-- What is put where it was changes nothing.

set_old : {A : Type 0} (f : ℕ → A) (j n : ℕ) → set_of f j (f j) n ≡ f n
unfolding set_of
set_old f j n = old (nat_eq n j) refl
  where
    old : (b : Bool) → nat_eq n j ≡ b → (if b then f j else f n) ≡ f n
    old true e = ap f (sym (eqb-true n j e))
    old false e = refl

words_old : (μ : Frames) (f g : ℕ) → with_words μ f (μ f) g ≡ μ g
words_old μ f g = old (nat_eq g f) refl
  where
    old : (b : Bool) → nat_eq g f ≡ b → (if b then μ f else μ g) ≡ μ g
    old true e = ap μ (sym (eqb-true g f e))
    old false e = refl

pub same_globals : (m : Store) (j : ℕ) → record (begun_more m) { globals = set_of m.globals j (m.globals j) } ≡ begun_more m
same_globals m j = ap (λ g. record (begun_more m) { globals = g }) (λ d x. set_old m.globals j x d)

pub same_words : (μ : Frames) (f : ℕ) → with_words μ f (μ f) ≡ μ
same_words μ f = λ d g. words_old μ f g d

one_words : (k : Kind) → words_in_all (one k) ≡ words_in k
unfolding words_in_all one
one_words k = omega arith

-- What stores do.

module _ (texts : Strings) (number : ℕ) (vs gs ws rest : List ℕ) where
  pub store_l_works : (s n : ℕ) → n ≡ length ws → works texts number (i.StoreL s n) (record { operands = push ws rest; variables = vs; globals = gs })
      ≡ Works (record { operands = rest; variables = put_words vs s ws; globals = gs })
  unfolding works stores_local
  store_l_works s n e =
      ap (λ k. Works (record { operands = under k (push ws rest); variables = put_words vs s (popped k (push ws rest)); globals = gs })) e
      ∙ ap (λ l. Works (record { operands = under (length ws) (push ws rest); variables = put_words vs s l; globals = gs })) (popped_all ws rest)
      ∙ ap (λ l. Works (record { operands = l; variables = put_words vs s ws; globals = gs })) (under_all ws rest)

  pub store_g_works : (s n : ℕ) → n ≡ length ws → works texts number (i.StoreG s n) (record { operands = push ws rest; variables = vs; globals = gs })
      ≡ Works (record { operands = rest; variables = vs; globals = put_words gs s ws })
  unfolding works stores_global
  store_g_works s n e =
      ap (λ k. Works (record { operands = under k (push ws rest); variables = vs; globals = put_words gs s (popped k (push ws rest)) })) e
      ∙ ap (λ l. Works (record { operands = under (length ws) (push ws rest); variables = vs; globals = put_words gs s l })) (popped_all ws rest)
      ∙ ap (λ l. Works (record { operands = l; variables = vs; globals = put_words gs s ws })) (under_all ws rest)

  abbrev at_top : (ℕ → ℕ → List ℕ → List ℕ → Worked) → ℕ → List ℕ → Worked
  at_top f n operands = on_top (under n operands) (λ o more. f n o more (popped n operands))

  -- an offset lies under the words
  on_offset : (f : ℕ → ℕ → List ℕ → List ℕ → Worked) (n o : ℕ) → n ≡ length ws → at_top f n (push ws (o ∷ rest)) ≡ f n o rest ws
  on_offset f n o e =
      ap (λ k. on_top (under k (push ws (o ∷ rest))) (λ y more. f n y more (popped k (push ws (o ∷ rest))))) e
      ∙ ap (λ l. on_top l (λ y more. f n y more (popped (length ws) (push ws (o ∷ rest))))) (under_all ws (o ∷ rest))
      ∙ ap (λ l. f n o rest l) (popped_all ws (o ∷ rest))

  pub store_lx_works : (s x n o : ℕ) → n ≡ length ws → o + n ≤ x
      → works texts number (i.StoreLX s x n) (record { operands = push ws (o ∷ rest); variables = vs; globals = gs })
      ≡ Works (record { operands = rest; variables = put_words vs (s + o) ws; globals = gs })
  unfolding works stores_local in_bounds
  store_lx_works s x n o e le =
      on_offset (λ n y more l. in_bounds (nat_le (y + n) x) (stores_local (s + y) l more (record { operands = push ws (o ∷ rest); variables = vs; globals = gs }))) n o e
      ∙ ap (λ b. in_bounds b (Works (record { operands = rest; variables = put_words vs (s + o) ws; globals = gs }))) (le-leb (o + n) x le)

  pub store_gx_works : (s x n o : ℕ) → n ≡ length ws → o + n ≤ x
      → works texts number (i.StoreGX s x n) (record { operands = push ws (o ∷ rest); variables = vs; globals = gs })
      ≡ Works (record { operands = rest; variables = vs; globals = put_words gs (s + o) ws })
  unfolding works stores_global in_bounds
  store_gx_works s x n o e le =
      on_offset (λ n y more l. in_bounds (nat_le (y + n) x) (stores_global (s + y) l more (record { operands = push ws (o ∷ rest); variables = vs; globals = gs }))) n o e
      ∙ ap (λ b. in_bounds b (Works (record { operands = rest; variables = vs; globals = put_words gs (s + o) ws }))) (le-leb (o + n) x le)

module _ (W : World) (bound : ℕ) (K : Site) (w : Place) (hi : ℕ) (ctx : Context W K w.points w.around w.slot hi) where
  abbrev G : Ground
  G = K.ground

  abbrev f : ℕ
  f = K.meant.frame

  abbrev instance : ℕ
  instance = K.ground.here.procedure.instance

  -- an instruction that stands at an offset, with this effect on the frame's variables and the instance's globals
  abbrev pub Does : (μ : Frames) (m : Store) → Instruction → (operands : List ℕ) → Work → Type 0
  Does μ m j operands v = (number : ℕ) → works (texts_of W) number j (record { operands = operands; variables = μ K.meant.frame; globals = m.globals K.ground.here.procedure.instance }) ≡ Works v

  pub works_here : (μ : Frames) (m : Store) (σ : State) (o d : ℕ) (operands : List ℕ) (j : Instruction) (v : Work)
      → read K.code o ≡ Some (record { instruction = j; depth = d; around = w.around }) → Does μ m j operands v → Agrees W bound G μ m σ
      → Reaches W.image (standing G o operands μ m)
      (standing G (o + bytes_of j) v.operands (with_words μ f v.variables) (record (begun_more m) { globals = set_of m.globals instance v.globals }))
  unfolding step run begin works_in worked work_of with
  works_here μ m σ o d operands j v r does h =
      let a = filled μ (at G.here o operands) in
      let S = fill μ G.below in
      let l = record (begun_more m) { globals = set_of m.globals instance v.globals } in
      reaches_step W.image (Runs (fill μ (at G.here o operands ∷ G.below)) m)
      (standing G (o + bytes_of j) v.operands (with_words μ f v.variables) l)
      (ap (λ x. with x m (λ j. begin W.image j a S m)) (stands_at W K w.points w.around w.slot hi ctx μ o d operands j w.around r)
      ∙ ap (λ vs. worked W.image j (works (text_of W.image) (unwrap_or (module_number W.image a.instance) 0) j (record { operands = operands; variables = vs; globals = m.globals a.instance })) a S (begun_more m))
      (variables_here W K w.points w.around w.slot hi ctx μ o operands)
      ∙ ap (λ y. worked W.image j y a S (begun_more m)) (does (unwrap_or (module_number W.image a.instance) 0))
      ∙ ap (λ T. Goes (Runs T l)) (stack_is W K w hi ctx bound μ m σ (o + bytes_of j) o v.operands operands v.variables h))

  near : (u : Place) → u.around ≡ w.around → (x : Instruction) (o b : ℕ) → Own K.code u (x ∷ []) o b
      → read K.code o ≡ Some (record { instruction = x; depth = u.depth; around = w.around })
  near u same x o b own = own_reads own ∙ ap (λ l. Some (record { instruction = x; depth = u.depth; around = l })) same

  -- a part of a variable of the frame
  pub local_comes : (n : ℕ) (j k : Kind) (path : List ℕ) (z d o : ℕ) (v : Value) (words operands rest : List ℕ) (x : Instruction) (μ : Frames) (m : Store) (σ : State)
      → read K.code o ≡ Some (record { instruction = x; depth = d; around = w.around })
      → Does μ m x operands (record { operands = rest; variables = put_words (μ f) (local_slot K.code n + z) words; globals = m.globals instance })
      → KindAt K.code.locals n j → PathAt path j k z → Show (texts_of W) (one k) (value.one v) words → Agrees W bound G μ m σ
      → Comes W bound G (o + bytes_of x) rest (standing G o operands μ m) (record σ { store = store_part K.meant (Local n) path v σ.store })
  unfolding store_part put fetch
  local_comes n j k path z d o v words operands rest x μ m σ r does there at shown h =
      let new = put_words (μ f) (local_slot K.code n + z) words in
      let kinds = ap (λ p. locals_of W p) (named_here W K w.points w.around w.slot hi ctx bound μ m σ h) ∙ locals_are W K.ground.here.procedure K.code ctx.code_of in
      record {
        frames = with_words μ f new;
        store = begun_more m;
        agrees = agreed_begun W bound G (with_words μ f new) m (record σ { store = store_part K.meant (Local n) path v σ.store })
            (agreed_variables W bound G.control G.hold (heres G) μ m σ f
            (with_nth (σ.store.variables f) n (with_part path (nth (σ.store.variables f) n) v)) new
            (subst (λ ks. Lies (texts_of W) ks (with_nth (σ.store.variables f) n (with_part path (nth (σ.store.variables f) n) v)) new) (sym kinds)
            (stored.part_lies (texts_of W) K.code.locals (μ f) n j k path z v words there at shown (σ.store.variables f)
            (locals_lie W K w.points w.around w.slot hi ctx bound μ m σ h)))
            (λ y u e. stored.part_behind (texts_of W) K.code.locals (μ f) n j k path z v words there at shown y
            (let a = h.laid.above f y u e in let s = ap words_in_all kinds in omega (arith, a, s)) ∙ h.laid.held f y u e) h);
        reaches = subst (λ l. Reaches W.image (standing G o operands μ m) (standing G (o + bytes_of x) rest (with_words μ f new) l)) (same_globals m instance)
            (works_here μ m σ o d operands x (record { operands = rest; variables = new; globals = m.globals instance }) r does h);
      }

  -- a part of a variable of the module
  pub global_comes : (n : ℕ) (j k : Kind) (path : List ℕ) (z d o : ℕ) (v : Value) (words operands rest : List ℕ) (x : Instruction) (μ : Frames) (m : Store) (σ : State)
      → read K.code o ≡ Some (record { instruction = x; depth = d; around = w.around })
      → Does μ m x operands (record { operands = rest; variables = μ f; globals = put_words (m.globals instance) (global_slot K.code n + z) words })
      → KindAt K.code.globals n j → PathAt path j k z → Show (texts_of W) (one k) (value.one v) words → Agrees W bound G μ m σ
      → Comes W bound G (o + bytes_of x) rest (standing G o operands μ m) (record σ { store = store_part K.meant (Global n) path v σ.store })
  unfolding store_part put fetch
  global_comes n j k path z d o v words operands rest x μ m σ r does there at shown h =
      let new = put_words (m.globals instance) (global_slot K.code n + z) words in
      let vs = with_nth (σ.store.globals K.meant.instance) n (with_part path (nth (σ.store.globals K.meant.instance) n) v) in
      let l : Store = record m { globals = set_of m.globals instance new } in
      record {
        frames = μ;
        store = begun_more l;
        agrees = agreed_begun W bound G μ l (record σ { store = set_globals K.meant.instance vs σ.store })
            (subst (λ q. Agrees W bound G μ l (record σ { store = set_globals q vs σ.store })) ctx.instance
            (agreed_globals W bound G.control G.hold (heres G) μ m σ instance vs new
            (subst (λ ks. Lies (texts_of W) ks vs new) (sym (globals_are W K.ground.here.procedure K.code ctx.code_of))
            (stored.part_lies (texts_of W) K.code.globals (m.globals instance) n j k path z v words there at shown (σ.store.globals K.meant.instance)
            (globals_lie W K w.points w.around w.slot hi ctx bound μ m σ h)))
            h));
        reaches = subst (λ ν. Reaches W.image (standing G o operands μ m) (standing G (o + bytes_of x) rest ν (begun_more l))) (same_words μ f)
            (works_here μ m σ o d operands x (record { operands = rest; variables = μ f; globals = new }) r does h);
      }

  size_is : (k : Kind) (v : Value) (words : List ℕ) → Show (texts_of W) (one k) (value.one v) words → words_in k ≡ length words
  size_is k v words shown = sym (shown.size ∙ one_words k)

  -- a store of a part of a variable
  pub stored_comes : (h : Home) (j k : Kind) (path : List ℕ) (z o b : ℕ) (v : Value) (words rest : List ℕ) (u : Place) (μ : Frames) (m : Store) (σ : State) → u.around ≡ w.around
      → VariableIn K.scope h j → PathAt path j k z → Show (texts_of W) (one k) (value.one v) words → Own K.code u (store K.code h z (words_in k) ∷ []) o b → Agrees W bound G μ m σ
      → Comes W bound G b rest (standing G o (push words rest) μ m) (record σ { store = store_part K.meant h path v σ.store })
  stored_comes (Local n) j k path z o b v words rest u μ m σ same there at shown own h =
      let x = i.StoreL (local_slot K.code n + z) (words_in k) in
      subst (λ e. Comes W bound G e rest (standing G o (push words rest) μ m) (record σ { store = store_part K.meant (Local n) path v σ.store })) (own_end own)
      (local_comes n j k path z u.depth o v words (push words rest) rest x μ m σ (near u same x o b own)
      (λ number. store_l_works (texts_of W) number (μ f) (m.globals instance) words rest (local_slot K.code n + z) (words_in k) (size_is k v words shown))
      (variable_there W K w.points w.around w.slot hi ctx (Local n) j there) at shown h)
  stored_comes (Global n) j k path z o b v words rest u μ m σ same there at shown own h =
      let x = i.StoreG (global_slot K.code n + z) (words_in k) in
      subst (λ e. Comes W bound G e rest (standing G o (push words rest) μ m) (record σ { store = store_part K.meant (Global n) path v σ.store })) (own_end own)
      (global_comes n j k path z u.depth o v words (push words rest) rest x μ m σ (near u same x o b own)
      (λ number. store_g_works (texts_of W) number (μ f) (m.globals instance) words rest (global_slot K.code n + z) (words_in k) (size_is k v words shown))
      (variable_there W K w.points w.around w.slot hi ctx (Global n) j there) at shown h)

  -- where the offset of the part is under the words
  pub stored_within_comes : (h : Home) (j k : Kind) (path : List ℕ) (z o b : ℕ) (v : Value) (words rest : List ℕ) (u : Place) (μ : Frames) (m : Store) (σ : State) → u.around ≡ w.around
      → VariableIn K.scope h j → PathAt path j k z → Show (texts_of W) (one k) (value.one v) words → Own K.code u (store_within K.code h (words_in k) ∷ []) o b → Agrees W bound G μ m σ
      → Comes W bound G b rest (standing G o (push words (z ∷ rest)) μ m) (record σ { store = store_part K.meant h path v σ.store })
  stored_within_comes (Local n) j k path z o b v words rest u μ m σ same there at shown own h =
      let x = i.StoreLX (local_slot K.code n) (words_at K.code.locals n) (words_in k) in
      let is_there = variable_there W K w.points w.around w.slot hi ctx (Local n) j there in
      let le = path_within path j k z at in let all = word_count K.code.locals n j is_there in
      subst (λ e. Comes W bound G e rest (standing G o (push words (z ∷ rest)) μ m) (record σ { store = store_part K.meant (Local n) path v σ.store })) (own_end own)
      (local_comes n j k path z u.depth o v words (push words (z ∷ rest)) rest x μ m σ (near u same x o b own)
      (λ number. store_lx_works (texts_of W) number (μ f) (m.globals instance) words rest (local_slot K.code n) (words_at K.code.locals n) (words_in k) z
      (size_is k v words shown) (omega (arith, le, all)))
      is_there at shown h)
  stored_within_comes (Global n) j k path z o b v words rest u μ m σ same there at shown own h =
      let x = i.StoreGX (global_slot K.code n) (words_at K.code.globals n) (words_in k) in
      let is_there = variable_there W K w.points w.around w.slot hi ctx (Global n) j there in
      let le = path_within path j k z at in let all = word_count K.code.globals n j is_there in
      subst (λ e. Comes W bound G e rest (standing G o (push words (z ∷ rest)) μ m) (record σ { store = store_part K.meant (Global n) path v σ.store })) (own_end own)
      (global_comes n j k path z u.depth o v words (push words (z ∷ rest)) rest x μ m σ (near u same x o b own)
      (λ number. store_gx_works (texts_of W) number (μ f) (m.globals instance) words rest (global_slot K.code n) (words_at K.code.globals n) (words_in k) z
      (size_is k v words shown) (omega (arith, le, all)))
      is_there at shown h)
