-- The phrases of a draft.
use Rattle.std.proofs.Common.{◌≡◌, refl, sym, ap, ◌∙◌, subst, ℕ, zero, suc, ◌+◌, ◌≤◌, List, [], ◌∷◌, ◌++◌, length, arith}
use Rattle.std.proofs.Common.{append-nil}
use Rattle.std.proofs.lemmas.List.{map-append}
use Rattle.code_trees.specs.declared.block.ArmBlock.{ArmBlock}
use Rattle.code_trees.specs.Plain.{plain_arms, off_in_arms}
use Rattle.code_writer.specs.declared.draft.Pending.{Pending}
use Rattle.code_writer.specs.declared.scope.Scope.{Scope}
use Rattle.code_writer.specs.Drafts.{pend, pends, AllHeld}
use Rattle.code_writer.specs.Scopes.{env_at, Grows}
use Rattle.code_writer.proofs.Forms.{no_arms, arms_next}
use Rattle.code_forms.proofs.Ordered.{some_bytes}
use Rattle.code_blocks.specs.Blocks.{ArmBlocks, Block, Does, Calls, Both, Ends, Out, Goes, Rounds, Enables}
use Rattle.code_blocks.specs.Sizes.{size}
use Rattle.code_blocks.specs.Writing.{Env, in_part, block_phrases, own_phrase, pending, unless_empty}
use Rattle.code_blocks.specs.Writing as w

pub grows_itself : (scopes : List Scope) → Grows scopes scopes
grows_itself scopes = record { longer = omega arith; same = λ n le. refl }

pub grows_on : (xs ys zs : List Scope) → Grows xs ys → Grows ys zs → Grows xs zs
grows_on xs ys zs g h = record {
  longer = omega (arith, g.longer, h.longer);
  same = λ n le. h.same n (omega (arith, le, g.longer)) ∙ g.same n le;
}

pub still_held : (m n : ℕ) (qs : List Pending) → m ≤ n → AllHeld m qs → AllHeld n qs
still_held m n [] le h = tt
still_held m n (q ∷ qs) le h = (omega (arith, h.0, le), h.1, still_held m n qs le h.2)

pub held_more : (n : ℕ) (qs : List Pending) (q : Pending) → q.around ≤ n → off_in_arms q.arms.now ≡ 0 → AllHeld n qs → AllHeld n (qs ++ q ∷ [])
held_more n [] q there off h = (there, off, tt)
held_more n (p ∷ qs) q there off h = (h.0, h.1, held_more n qs q there off h.2)

-- more scopes change no phrase
pub same_pends : (xs ys : List Scope) (qs : List Pending) → Grows xs ys → AllHeld (length xs) qs → pends ys qs ≡ pends xs qs
same_pends xs ys [] g h = refl
same_pends xs ys (q ∷ qs) g h =
    ap (λ E. pending q.from q.upto (plain_arms q.arms.now) E ∷ pends ys qs) (g.same q.around h.0)
    ∙ ap (λ l. pend xs q ∷ l) (same_pends xs ys qs g h.2)

pub no_own : (arms : List ArmBlock) (E : Env) (a b : ℕ) → arms ≡ [] → own_phrase (plain_arms arms) E a b ≡ []
no_own arms E a b e = ap (λ l. own_phrase (plain_arms l) E a b) e ∙ ap (λ (l : ArmBlocks). own_phrase l E a b) no_arms

pub some_own : (arms : List ArmBlock) (E : Env) (a b : ℕ) → (arms ≡ [] → ⊥) → own_phrase (plain_arms arms) E a b ≡ pending a b (plain_arms arms) E ∷ []
some_own [] E a b h = absurd (h refl)
some_own (x ∷ arms) E a b h =
    subst (λ (l : ArmBlocks). own_phrase l E a b ≡ pending a b l E ∷ []) (sym (arms_next x arms)) refl

pub one_found : (scopes : List Scope) (qs after : List Pending) (q : Pending) → after ≡ qs ++ q ∷ [] → (q.arms.now ≡ [] → ⊥)
    → pends scopes after ≡ pends scopes qs ++ own_phrase (plain_arms q.arms.now) (env_at scopes q.around) q.from q.upto
one_found scopes qs after q e some =
    ap (pends scopes) e ∙ map-append (pend scopes) qs (q ∷ [])
    ∙ ap (λ l. pends scopes qs ++ l) (sym (some_own q.arms.now (env_at scopes q.around) q.from q.upto some))

pub none_found : (scopes : List Scope) (qs : List Pending) (arms : List ArmBlock) (E : Env) (a b : ℕ) → arms ≡ []
    → pends scopes qs ≡ pends scopes qs ++ own_phrase (plain_arms arms) E a b
none_found scopes qs arms E a b e =
    sym (append-nil (pends scopes qs)) ∙ ap (λ l. pends scopes qs ++ l) (sym (no_own arms E a b e))

-- the phrase of a part that may be empty

pub unless_none : (n : ℕ) (ps qs : List w.Pending) → (n ≡ 0 → qs ≡ []) → unless_empty n (ps ++ qs) ≡ unless_empty n ps ++ qs
unless_none zero ps qs h = sym (h refl)
unless_none (suc n) ps qs h = refl

pub none_enabled : (scopes : List Scope) (qs : List Pending) (ps : List w.Pending) (n : ℕ) → n ≡ 0 → pends scopes qs ≡ pends scopes qs ++ unless_empty n ps
none_enabled scopes qs ps n e = sym (append-nil (pends scopes qs)) ∙ ap (λ k. pends scopes qs ++ unless_empty k ps) (sym e)

pub some_enabled : (n : ℕ) (ps : List w.Pending) → (n ≡ 0 → ⊥) → unless_empty n ps ≡ ps
some_enabled zero ps h = absurd (h refl)
some_enabled (suc n) ps h = refl

no_bytes : (b c : ℕ) → b + c ≡ 0 → (b ≡ 0) × (c ≡ 0)
no_bytes b c e = (omega (arith, e), omega (arith, e))

both_none : (ps qs : List w.Pending) → ps ≡ [] → qs ≡ [] → ps ++ qs ≡ []
both_none ps qs e f = ap (λ l. l ++ qs) e ∙ f

-- a block without code has no phrases
pub no_phrases : (b : Block) (E : Env) (a : ℕ) → size b ≡ 0 → block_phrases b E a ≡ []
no_phrases (Does is) E a e = refl
no_phrases (Calls call takes puts arms) E a e = absurd (omega (arith, e, some_bytes call))
no_phrases (Both b c) E a e =
    let parts = no_bytes (size b) (size c) e in
    both_none (block_phrases b E a) (block_phrases c E (a + size b)) (no_phrases b E a parts.0) (no_phrases c E (a + size b) parts.1)
no_phrases (Ends mark b) E a e = no_phrases b (in_part mark a (a + size b) E) a e
no_phrases (Out leap part) E a e = refl
no_phrases (Goes arms p) E a e = refl
no_phrases (Rounds b) E a e = absurd (omega (arith, e))
no_phrases (Enables arms b) E a e = ap (λ n. unless_empty n (own_phrase arms E a (a + size b) ++ block_phrases b E a)) e
