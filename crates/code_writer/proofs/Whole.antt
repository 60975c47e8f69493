-- The writing of a procedure.
use Rattle.std.proofs.Common.{◌≡◌, refl, sym, ap, ◌∙◌, subst, ℕ, zero, suc, ◌+◌, ◌^◌, ◌<◌, ◌≤◌, List, [], ◌∷◌, ◌++◌, get_or, length, Some, arith}
use Rattle.std.proofs.lemmas.Option.{slice_get-map, slice_get_read}
use Rattle.std.specs.Prelude.{slice_get, option_map}
use Rattle.code_forms.specs.declared.limits.TheConstants.{STACK_WORDS}
use Rattle.code_forms.specs.declared.module_code.CodeEntry.{CodeEntry}
use Rattle.code_forms.specs.declared.module_code.Phrase.{Phrase}
use Rattle.code_trees.specs.Plain.{off_in_arms}
use Rattle.code_writer.specs.declared.draft.Draft.{Draft}
use Rattle.code_writer.specs.declared.draft.Pending.{Pending}
use Rattle.code_writer.specs.declared.scope.Scope.{Scope}
use Rattle.code_writer.specs.Drafts.{pend, pends, found, AllHeld, Fits, Adds, region_at}
use Rattle.code_writer.specs.Scopes.{env_at}
use Rattle.code_writer.proofs.Arena.{env_none}
use Rattle.code_writer.proofs.Queue.{Stage, Onward, first_stage, onward, end_of_all, depth_of_all}
use Rattle.code_blocks.specs.Blocks.{Block}
use Rattle.code_blocks.specs.Modules.{deepest}
use Rattle.code_blocks.specs.Sizes.{size, phrase_count}
use Rattle.code_blocks.specs.Writing.{in_procedure, in_arms, block_code, block_phrases, arms_code, arms_phrases, arms_size, phrase_from}
use Rattle.code_blocks.specs.Writing as w
use Rattle.code_blocks.specs.Regions.{Written, returning, first_region, with_arms, written}

abbrev pub so_far : List CodeEntry → ℕ → List w.Pending → List Phrase → Written
so_far code end found done = record { code = code; end = end; found = found; done = done }

same_so_far : (c d : List CodeEntry) (m n : ℕ) (ps qs : List w.Pending) (xs ys : List Phrase) → c ≡ d → m ≡ n → ps ≡ qs → xs ≡ ys
    → so_far c m ps xs ≡ so_far d n qs ys
same_so_far c d m n ps qs xs ys e f g h =
    ap (λ x. so_far x m ps xs) e ∙ ap (λ x. so_far d x ps xs) f ∙ ap (λ x. so_far d n x xs) g ∙ ap (λ x. so_far d n qs x) h

-- the body's region

in_nothing : (scopes : List Scope) → scopes ≡ [] → env_at scopes 0 ≡ in_procedure
in_nothing scopes e = env_none scopes

pub first_fits : (b : Block) (d : Draft) → d.scopes.items ≡ [] → d.phrases.items ≡ [] → (written b).end < 2 ^ 32
    → deepest (written b).code ≤ STACK_WORDS → Fits (returning b) d 0 (region_at 0)
first_fits b d scopes phrases short shallow =
    let v : Written = first_region (returning b) in
    record {
      room = omega (arith, short, end_of_all (phrase_count b) v);
      shallow =
          subst (λ E. deepest (block_code (returning b) E 0 0) ≤ STACK_WORDS) (sym (env_none d.scopes.items))
          (omega (arith, shallow, depth_of_all (phrase_count b) v));
      there = omega arith;
      held = subst (λ qs. AllHeld (length d.scopes.items) qs) (sym phrases) tt;
    }

pub first_is : (b : Block) (old new : Draft) (end : ℕ) (done : List Phrase) → old.entries ≡ [] → old.phrases.items ≡ []
    → Adds (block_code (returning b) (env_at old.scopes.items 0) 0 0) (block_phrases (returning b) (env_at old.scopes.items 0) 0) old new
    → end ≡ 0 + size (returning b) → done ≡ [] → Stage b (so_far new.entries end (found new) done)
first_is b old new end done entries phrases h ends none =
    let env : env_at old.scopes.items 0 ≡ in_procedure = env_none old.scopes.items in
    let code : new.entries ≡ block_code (returning b) in_procedure 0 0 =
    h.code ∙ ap (λ x. x ++ block_code (returning b) (env_at old.scopes.items 0) 0 0) entries ∙ ap (λ E. block_code (returning b) E 0 0) env in
    let there : found new ≡ block_phrases (returning b) in_procedure 0 =
    h.found ∙ ap (λ x. pends old.scopes.items x ++ block_phrases (returning b) (env_at old.scopes.items 0) 0) phrases
    ∙ ap (λ E. block_phrases (returning b) E 0) env in
    let size_is : end ≡ size (returning b) = omega (arith, ends) in
    subst (Stage b) (sym (same_so_far _ _ _ _ _ _ _ _ code size_is there none)) (first_stage b)

-- the next phrase

pub held_at : (n : ℕ) (qs : List Pending) (k : ℕ) (q : Pending) → k < length qs → q ≡ get_or qs k q → AllHeld n qs
    → (q.around ≤ n) × (off_in_arms q.arms.now ≡ 0)
held_at n [] k q lt e h = absurd (omega (arith, lt))
held_at n (p ∷ qs) zero q lt e h = subst (λ (x : Pending). (x.around ≤ n) × (off_in_arms x.arms.now ≡ 0)) (sym e) (h.0, h.1)
held_at n (p ∷ qs) (suc k) q lt e h = held_at n qs k q (omega (arith, lt)) e h.2

pub found_at : (d : Draft) (k : ℕ) (q : Pending) → k < length d.phrases.items → q ≡ get_or d.phrases.items k q
    → slice_get (found d) k ≡ Some (pend d.scopes.items q)
found_at d k q lt e =
    slice_get-map (pend d.scopes.items) d.phrases.items k
    ∙ ap (option_map (pend d.scopes.items)) (slice_get_read d.phrases.items (length d.phrases.items) k q refl lt e)

pub next_is : (b : Block) (old new : Draft) (end after : ℕ) (done next : List Phrase) (q : w.Pending) (p : Phrase)
    → Onward b (so_far old.entries end (found old) done) q
    → Adds (arms_code q.arms (in_arms q.env) end) (arms_phrases q.arms (in_arms q.env) end) old new → p ≡ phrase_from q end
    → after ≡ end + arms_size q.arms → next ≡ done ++ p ∷ []
    → so_far new.entries after (found new) next ≡ with_arms (so_far old.entries end (found old) done) (Some q)
next_is b old new end after done next q p o h is ends pushed =
    same_so_far _ _ _ _ _ _ _ _ h.code ends h.found (pushed ∙ ap (λ x. done ++ x ∷ []) is)

pub turn : (b : Block) (d : Draft) (end : ℕ) (done : List Phrase) (q : Pending) → Stage b (so_far d.entries end (found d) done)
    → length done < length d.phrases.items → q ≡ get_or d.phrases.items (length done) q
    → Onward b (so_far d.entries end (found d) done) (pend d.scopes.items q)
turn b d end done q s lt e = onward b (so_far d.entries end (found d) done) (pend d.scopes.items q) s (found_at d (length done) q lt e)
