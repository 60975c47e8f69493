-- All globals are zero and nothing is marked.
use Rattle.std.proofs.Common.{◌≡◌, ℕ, zero, suc, ◌+◌, ◌<◌, ◌≤◌, ⊎_elim, List, [], ◌∷◌, length, set, replicate, get_or, Bool, false, Option, Some, None, refl, sym, ap, subst, ◌∙◌, arith, length-set}
use Rattle.std.specs.Prelude.{◌≢◌, slice_get, IsSomeAnd, IfSome}
use Rattle.std.specs.Vec.{with_items}
use Rattle.std.specs.declared.vec.Vec.{Vec}
use Rattle.std.proofs.lemmas.Bool.{cases_lt}
use Rattle.std.proofs.lemmas.List.{length-replicate}
use Rattle.std.proofs.lemmas.Option.{none-some, same_Some, slice_get_within, slice_get_read}
use Rattle.object_files.specs.declared.image.Image.{Image}
use Rattle.machine_rules.specs.LookUps.{code_of}
use Rattle.machine_rules.specs.Steps.{globals_in}
use Rattle.machine_rules.specs.Words.{zeros}
use Rattle.machine_calls.specs.Started.{ShowsStarted}
use Rattle.machine_ready.specs.declared.prepared.Prepared.{Prepared}
use Rattle.machine_ready.specs.Ready.{IsReady}
use Rattle.machine_ready.proofs.Each.{some_and}
use Rattle.frame_machine.specs.Clearing.{AreZero}
use Rattle.frame_machine.specs.SoFar.{ShowsGlobals}
use Rattle.frame_machine.proofs.Pausing.{words_then}

get_set_same : {X : Type 0} (xs : List X) (i : ℕ) (y : X) → i < length xs → slice_get (set xs i y) i ≡ Some y
get_set_same [] i y less = absurd (omega (arith, less))
get_set_same (x ∷ xs) zero y less = refl
get_set_same (x ∷ xs) (suc i) y less = get_set_same xs i y (omega (arith, less))

get_set_other : {X : Type 0} (xs : List X) (i j : ℕ) (y : X) → i ≢ j → slice_get (set xs i y) j ≡ slice_get xs j
get_set_other [] i j y other = refl
get_set_other (x ∷ xs) zero zero y other = absurd (other refl)
get_set_other (x ∷ xs) zero (suc j) y other = refl
get_set_other (x ∷ xs) (suc i) zero y other = refl
get_set_other (x ∷ xs) (suc i) (suc j) y other = get_set_other xs i j y (λ e. other (ap suc e))

-- the globals of the first so many instances are zero, and the others are as they were
pub record ClearedUpTo {Z : Type 0} (n : ℕ) (old new : List (Vec ℕ Z)) : Type 0 where
  pub many : length new ≡ length old
  pub done : (j : ℕ) (words : Vec ℕ Z) → j < n → slice_get old j ≡ Some words → IsSomeAnd (slice_get new j) (λ (w : Vec ℕ Z). w.items ≡ zeros (length words.items))
  pub others : (j : ℕ) → n ≤ j → slice_get new j ≡ slice_get old j

pub none_cleared : {Z : Type 0} (old : List (Vec ℕ Z)) → ClearedUpTo 0 old old
none_cleared old = record { many = refl; done = λ j words less is. absurd (omega (arith, less)); others = λ j l. refl }

module _ {Z : Type 0} (n : ℕ) (old new : List (Vec ℕ Z)) (so : ClearedUpTo n old new) (less : n < length new) (v : Vec ℕ Z) (read : v ≡ get_or new n v)
    (words : List ℕ) (zero_so : words ≡ zeros (length v.items)) where
  abbrev later : List (Vec ℕ Z)
  later = set new n (with_items v words)

  was : slice_get new n ≡ Some v
  was = slice_get_read new (length new) n v refl less read

  set_zero : (own : Vec ℕ Z) → slice_get old n ≡ Some own → (with_items v words).items ≡ zeros (length own.items)
  set_zero own is =
      let same : v ≡ own = same_Some v own (sym was ∙ so.others n (omega arith) ∙ is) in
      words_then v words (ap (λ (l : List ℕ). length l) zero_so ∙ length-replicate (length v.items) 0)
      ∙ zero_so ∙ ap (λ (x : Vec ℕ Z). zeros (length x.items)) same

  done_then : (j : ℕ) (own : Vec ℕ Z) → j < n + 1 → slice_get old j ≡ Some own → IsSomeAnd (slice_get later j) (λ (w : Vec ℕ Z). w.items ≡ zeros (length own.items))
  done_then j own l is = ⊎_elim
      (λ (low : j < n). subst (λ (o : Option (Vec ℕ Z)). IsSomeAnd o (λ (w : Vec ℕ Z). w.items ≡ zeros (length own.items)))
      (sym (get_set_other new n j (with_items v words) (λ e. omega (arith, e, low)))) (so.done j own low is))
      (λ (high : n ≤ j).
      let same : n ≡ j = omega (arith, l, high) in
      subst (λ k. IsSomeAnd (slice_get later k) (λ (w : Vec ℕ Z). w.items ≡ zeros (length own.items))) same
      (subst (λ (o : Option (Vec ℕ Z)). IsSomeAnd o (λ (w : Vec ℕ Z). w.items ≡ zeros (length own.items))) (sym (get_set_same new n (with_items v words) less))
      (set_zero own (ap (slice_get old) same ∙ is))))
      (cases_lt j n)

  pub one_cleared : ClearedUpTo (n + 1) old (set new n (with_items v words))
  one_cleared = record {
    many = length-set new n (with_items v words) ∙ so.many;
    done = done_then;
    others = λ j l. get_set_other new n j (with_items v words) (λ e. omega (arith, e, l)) ∙ so.others j (omega (arith, l));
  }

pub all_cleared : {Z : Type 0} (n : ℕ) (old new : List (Vec ℕ Z)) → length old ≤ n → ClearedUpTo n old new → AreZero old new
all_cleared n old new l so j words is = so.done j words (let w = slice_get_within old j words is in omega (arith, w, l)) is

-- The marks.

none_marked : (n j : ℕ) (b : Bool) → slice_get (replicate n false) j ≡ Some b → false ≡ b
none_marked zero j b e = absurd (none-some b e)
none_marked (suc n) zero b e = same_Some false b e
none_marked (suc n) (suc j) b e = none_marked n j b e

pub nothing_started : (marks : List Bool) (n : ℕ) → marks ≡ replicate n false → ShowsStarted marks (λ j. false)
nothing_started marks n is j b at = none_marked n j b (ap (λ (l : List Bool). slice_get l j) (sym is) ∙ at)

-- What a run finds.

if_there : {X : Type 0} (o : Option X) (P : X → Type 0) → ((x : X) → o ≡ Some x → P x) → IfSome o P
if_there None P f = tt
if_there (Some x) P f = f x refl

module _ (image : Image) (p p' : Prepared) (ready : IsReady image p) (many : length p'.globals.items ≡ length p.globals.items) (zero_so : AreZero p.globals.items p'.globals.items) where
  pub zero_of : (j : ℕ) → j < length image.instances → IsSomeAnd (slice_get p'.globals.items j) (λ words. words.items ≡ zeros (globals_in (code_of image j)))
  zero_of j less =
      let own = some_and (slice_get p.globals.items j) (λ words. length words.items ≡ globals_in (code_of image j)) (ready.globals j less) in
      let now = some_and (slice_get p'.globals.items j) (λ words. words.items ≡ zeros (length own.0.items)) (zero_so j own.0 own.1) in
      subst (λ o. IsSomeAnd o (λ words. words.items ≡ zeros (globals_in (code_of image j)))) (sym now.1) (now.2 ∙ ap zeros own.2)

  pub shows_zero : ShowsGlobals p' (λ j. zeros (globals_in (code_of image j)))
  shows_zero j = if_there (slice_get p'.globals.items j) (λ words. zeros (globals_in (code_of image j)) ≡ words.items) (λ words e.
      let within = slice_get_within p'.globals.items j words e in let all = ready.all_globals in
      sym (subst (λ o. IsSomeAnd o (λ w. w.items ≡ zeros (globals_in (code_of image j)))) e (zero_of j (omega (arith, within, many, all)))))

  pub still_many : (j : ℕ) → j < length image.instances → IsSomeAnd (slice_get p'.globals.items j) (λ words. length words.items ≡ globals_in (code_of image j))
  still_many j less =
      let now = some_and (slice_get p'.globals.items j) (λ words. words.items ≡ zeros (globals_in (code_of image j))) (zero_of j less) in
      subst (λ o. IsSomeAnd o (λ words. length words.items ≡ globals_in (code_of image j))) (sym now.1)
      (ap (λ (l : List ℕ). length l) now.2 ∙ length-replicate {A = ℕ} (globals_in (code_of image j)) 0)
