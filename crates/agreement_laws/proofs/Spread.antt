-- One value on the operands goes to several variables: it is stored in the first, and each other is set to the first one's value.
use Rattle.std.proofs.Common.{◌≡◌, ℕ, zero, suc, ◌+◌, List, [], ◌∷◌, Some, refl, ap, ◌∙◌, subst, arith}
use Rattle.std.specs.Prelude.{All}
use Rattle.mesa_types.specs.declared.typed_parts.Home.{Home}
use Rattle.mesa_types.specs.declared.typed_parts.Home.TheVariants.{Global, Local}
use Rattle.mesa_types.specs.Typed.{Kind}
use Rattle.mesa_types.specs.Shapes.{one, words_in}
use Rattle.mesa_types.specs.Sound.{VariableIn}
use Rattle.code_forms.specs.declared.instruction.Instruction.{Instruction}
use Rattle.code_forms.specs.Instructions.{bytes_of}
use Rattle.source_meaning.specs.Value.{Value, Values, NoValues, AndValue, nth, with_nth, with_part, part_at}
use Rattle.source_meaning.specs.Value as value
use Rattle.source_meaning.specs.State as source
use Rattle.source_meaning.specs.State.{State}
use Rattle.source_meaning.specs.Variables.{Where, fetch, store as put, store_part, store_all, set_globals, set_variables}
use Rattle.machine_rules.specs.State.{Store}
use Rattle.machine_rules.specs.Words.{push}
use Rattle.code_rules.specs.Reading.{Coded, Place, Own, no_more, one_more, behind}
use Rattle.code_rules.specs.Slots.{load, store, copy_code, spread_code}
use Rattle.agreement_rules.specs.Layout.{Show}
use Rattle.agreement_rules.specs.Operators.{PathAt}
use Rattle.agreement_laws.specs.World.{World, texts_of}
use Rattle.agreement_laws.specs.Standing.{Frames}
use Rattle.agreement_laws.specs.Relation.{Ground, Agrees, standing}
use Rattle.agreement_laws.specs.Contexts.{Site, Context}
use Rattle.agreement_laws.specs.Answers.{Comes}
use Rattle.agreement_laws.proofs.Doing.{comes_here}
use Rattle.agreement_laws.proofs.Going.{comes_later}
use Rattle.agreement_laws.proofs.Owning.{own_gives}
use Rattle.agreement_laws.proofs.Stores.{stored_comes}
use Rattle.agreement_laws.proofs.Storing.{put_here}
use Rattle.agreement_laws.proofs.Variables.{part_of}

-- Own code where other words are on the operands: of its place only the phrases around and the depth are spoken of.

abbrev pub moved : Place → Place → Place
moved u w = record w { depth = u.depth }

pub own_moved : {P : Coded} {u : Place} {is : List Instruction} {a b : ℕ} (w : Place) → u.around ≡ w.around → Own P u is a b → Own P (moved u w) is a b
own_moved w same no_more = no_more
own_moved {P = P} {u = u} w same (one_more {i = i} r rest) =
    one_more (r ∙ ap (λ l. Some (record { instruction = i; depth = u.depth; around = l })) same) (own_moved {P = P} {u = behind P i u} w same rest)

-- What is fetched from a variable when values were stored.

nth_with : (vs : Values) (n : ℕ) (v : Value) → nth (with_nth vs n v) n ≡ v
unfolding nth with_nth
nth_with NoValues zero v = refl
nth_with NoValues (suc n) v = nth_with NoValues n v
nth_with (AndValue x vs) zero v = refl
nth_with (AndValue x vs) (suc n) v = nth_with vs n v

nth_kept : (vs : Values) (m n : ℕ) (v : Value) → nth vs n ≡ v → nth (with_nth vs m v) n ≡ v
unfolding nth with_nth
nth_kept NoValues zero zero v e = refl
nth_kept NoValues zero (suc n) v e = e
nth_kept NoValues (suc m) zero v e = e
nth_kept NoValues (suc m) (suc n) v e = nth_kept NoValues m n v e
nth_kept (AndValue x vs) zero zero v e = refl
nth_kept (AndValue x vs) zero (suc n) v e = e
nth_kept (AndValue x vs) (suc m) zero v e = e
nth_kept (AndValue x vs) (suc m) (suc n) v e = nth_kept vs m n v e

pub fetch_put : (w : Where) (h : Home) (v : Value) (s : source.Store) → fetch w h (put w h v s) ≡ v
unfolding fetch put set_globals set_variables
fetch_put w (Global n) v s = ap (λ vs. nth vs n) (put_here s.globals w.instance (with_nth (s.globals w.instance) n v)) ∙ nth_with (s.globals w.instance) n v
fetch_put w (Local n) v s = ap (λ vs. nth vs n) (put_here s.variables w.frame (with_nth (s.variables w.frame) n v)) ∙ nth_with (s.variables w.frame) n v

-- another variable of the same value, or the same one
pub fetch_kept : (w : Where) (h x : Home) (v : Value) (s : source.Store) → fetch w h s ≡ v → fetch w h (put w x v s) ≡ v
unfolding fetch put set_globals set_variables
fetch_kept w (Global n) (Global m) v s e =
    ap (λ vs. nth vs n) (put_here s.globals w.instance (with_nth (s.globals w.instance) m v)) ∙ nth_kept (s.globals w.instance) m n v e
fetch_kept w (Global n) (Local m) v s e = e
fetch_kept w (Local n) (Global m) v s e = e
fetch_kept w (Local n) (Local m) v s e =
    ap (λ vs. nth vs n) (put_here s.variables w.frame (with_nth (s.variables w.frame) m v)) ∙ nth_kept (s.variables w.frame) m n v e

whole : (k : Kind) → PathAt [] k k 0
unfolding PathAt
whole k = (refl, refl)

module _ (W : World) (n : ℕ) (K : Site) (w : Place) (hi : ℕ) (ctx : Context W K w.points w.around w.slot hi) where
  abbrev G : Ground
  G = K.ground

  -- the words of a variable are stored in another
  copied : (h x : Home) (k : Kind) (u : Place) (a b : ℕ) (v : Value) (μ : Frames) (m : Store) (σ : State) → u.around ≡ w.around → VariableIn K.scope h k → VariableIn K.scope x k
      → fetch K.meant h σ.store ≡ v → Own K.code u (load K.code h 0 (words_in k) ∷ store K.code x 0 (words_in k) ∷ []) a b → Agrees W (suc n) G μ m σ
      → Comes W (suc n) G b [] (standing G a [] μ m) (record σ { store = put K.meant x v σ.store })
  unfolding part_at store_part with_part
  copied h x k u a b v μ m σ same from to is (one_more r rest) agrees =
      let j = load K.code h 0 (words_in k) in
      let c = a + bytes_of j in
      let p = part_of W n K (moved u w) hi ctx μ m σ h k k [] 0 agrees from (whole k) in
      let one_load : Own K.code u (j ∷ []) a c = one_more r no_more in
      let g = own_gives W K (moved u w) hi ctx (suc n) μ m σ (j ∷ []) a c [] p.words [] (own_moved w same one_load) p.loads agrees in
      comes_later W (suc n) G b [] (standing G a [] μ m) (standing G c (push p.words []) g.frames g.store) (record σ { store = put K.meant x v σ.store }) g.reaches
      (stored_comes W (suc n) K w hi ctx x k k [] 0 c b v p.words [] (behind K.code j u) g.frames g.store σ same to (whole k)
      (subst (λ y. Show (texts_of W) (one k) (value.one y) p.words) is p.shown) rest g.agrees)

  copies_come : (h : Home) (hs : List Home) (k : Kind) (u : Place) (a b : ℕ) (v : Value) (μ : Frames) (m : Store) (σ : State) → u.around ≡ w.around → VariableIn K.scope h k
      → All (λ x. VariableIn K.scope x k) hs → fetch K.meant h σ.store ≡ v → Own K.code u (copy_code K.code h hs (words_in k)) a b → Agrees W (suc n) G μ m σ
      → Comes W (suc n) G b [] (standing G a [] μ m) (record σ { store = store_all K.meant hs v σ.store })
  unfolding store_all
  copies_come h [] k u a b v μ m σ same from all is no_more agrees = comes_here W (suc n) K w.around a μ m σ agrees
  copies_come h (x ∷ hs) k u a b v μ m σ same from all is (one_more r (one_more q rest)) agrees =
      let i = load K.code h 0 (words_in k) in
      let j = store K.code x 0 (words_in k) in
      let o = (a + bytes_of i) + bytes_of j in
      let c = copied h x k u a o v μ m σ same from (all 0 x (omega arith)) is (one_more r (one_more q no_more)) agrees in
      let τ : State = record σ { store = put K.meant x v σ.store } in
      comes_later W (suc n) G b [] (standing G a [] μ m) (standing G o [] c.frames c.store) (record σ { store = store_all K.meant hs v (put K.meant x v σ.store) }) c.reaches
      (copies_come h hs k (behind K.code j (behind K.code i u)) o b v c.frames c.store τ same from (λ y d lt. all (suc y) d (omega (arith, lt)))
      (fetch_kept K.meant h x v σ.store is) rest c.agrees)

  -- the words on the operands go to each variable
  pub spread_comes : (h : Home) (hs : List Home) (k : Kind) (u : Place) (a b : ℕ) (v : Value) (words : List ℕ) (μ : Frames) (m : Store) (σ : State) → u.around ≡ w.around
      → All (λ x. VariableIn K.scope x k) (h ∷ hs) → Show (texts_of W) (one k) (value.one v) words → Own K.code u (spread_code K.code (h ∷ hs) (words_in k)) a b
      → Agrees W (suc n) G μ m σ
      → Comes W (suc n) G b [] (standing G a (push words []) μ m) (record σ { store = store_all K.meant (h ∷ hs) v σ.store })
  unfolding store_all store_part with_part
  spread_comes h hs k u a b v words μ m σ same all shown (one_more r rest) agrees =
      let j = store K.code h 0 (words_in k) in
      let o = a + bytes_of j in
      let there : VariableIn K.scope h k = all 0 h (omega arith) in
      let one_store : Own K.code u (j ∷ []) a o = one_more r no_more in
      let c = stored_comes W (suc n) K w hi ctx h k k [] 0 a o v words [] u μ m σ same there (whole k) shown one_store agrees in
      let τ : State = record σ { store = put K.meant h v σ.store } in
      comes_later W (suc n) G b [] (standing G a (push words []) μ m) (standing G o [] c.frames c.store) (record σ { store = store_all K.meant hs v (put K.meant h v σ.store) }) c.reaches
      (copies_come h hs k (behind K.code j u) o b v c.frames c.store τ same there (λ y d lt. all (suc y) d (omega (arith, lt))) (fetch_put K.meant h v σ.store) rest c.agrees)
