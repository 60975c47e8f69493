-- A block's code where more words are on the operand stack than there is room for.
use Rattle.std.proofs.Common.{◌≡◌, refl, sym, ap, ◌∙◌, ℕ, zero, suc, ◌+◌, ◌<◌, ◌≤◌, inl, inr, List, [], ◌∷◌, ◌++◌, max, arith}
use Rattle.code_forms.specs.declared.limits.TheConstants.{STACK_WORDS}
use Rattle.code_forms.specs.declared.module_code.CodeEntry.{CodeEntry}
use Rattle.code_writer.specs.Cursors.{IsDepth}
use Rattle.code_blocks.specs.Blocks.{Mark, Statement, Labels, Here, Block, Does, Calls, Both, Ends, Out, Goes, Rounds, Enables}
use Rattle.code_blocks.specs.Modules.{deepest}
use Rattle.code_blocks.specs.Sizes.{size, at_end, depth_behind}
use Rattle.code_blocks.specs.Writing.{Env, in_part, block_code}

pub deepest_both : (es fs : List CodeEntry) → deepest (es ++ fs) ≡ max (deepest es) (deepest fs)
deepest_both [] fs = omega arith
deepest_both (e ∷ es) fs = omega (arith, deepest_both es fs)

pub front_shallow : (es fs : List CodeEntry) (m : ℕ) → deepest (es ++ fs) ≤ m → deepest es ≤ m
front_shallow es fs m h = omega (arith, h, deepest_both es fs)

pub back_shallow : (es fs : List CodeEntry) (m : ℕ) → deepest (es ++ fs) ≤ m → deepest fs ≤ m
back_shallow es fs m h = omega (arith, h, deepest_both es fs)

-- the end of a part is no shallower
pub at_end_is : (mark : Mark) (d : ℕ) → d ≤ at_end mark d
at_end_is (Statement n) d = omega arith
at_end_is (Labels ls) d = omega arith
at_end_is (Here zero) d = omega arith
at_end_is (Here (suc n)) d = omega arith

record Bare (b : Block) (E : Env) (a d m : ℕ) : Type 0 where
  code : block_code b E a d ≡ []
  behind : m < depth_behind b d

no_entries : (es fs : List CodeEntry) → es ≡ [] → fs ≡ [] → es ++ fs ≡ []
no_entries es fs e f = ap (λ l. l ++ fs) e ∙ f

-- a block that has no instruction at one depth that is too great has none at another
bare : (m : ℕ) (b : Block) (E : Env) (a d e : ℕ) → m < e → m < d → deepest (block_code b E a e) ≤ m → Bare b E a d m
bare m (Does []) E a d e p q h = record { code = refl; behind = q }
bare m (Does (i ∷ is)) E a d e p q h = absurd (omega (arith, p, h))
bare m (Calls call takes puts arms) E a d e p q h = absurd (omega (arith, p, h))
bare m (Both b c) E a d e p q h =
    let hb : deepest (block_code b E a e) ≤ m = front_shallow (block_code b E a e) (block_code c E (a + size b) (depth_behind b e)) m h in
    let hc : deepest (block_code c E (a + size b) (depth_behind b e)) ≤ m =
    back_shallow (block_code b E a e) (block_code c E (a + size b) (depth_behind b e)) m h in
    let first : Bare b E a d m = bare m b E a d e p q hb in
    let same : Bare b E a e m = bare m b E a e e p p hb in
    let second : Bare c E (a + size b) (depth_behind b d) m = bare m c E (a + size b) (depth_behind b d) (depth_behind b e) same.behind first.behind hc in
    record { code = no_entries _ _ first.code second.code; behind = second.behind }
bare m (Ends mark b) E a d e p q h =
    let inner : Bare b (in_part mark a (a + size b) E) a d m = bare m b (in_part mark a (a + size b) E) a d e p q h in
    record { code = inner.code; behind = omega (arith, q, at_end_is mark d) }
bare m (Out leap part) E a d e p q h = absurd (omega (arith, p, h))
bare m (Goes arms point) E a d e p q h = absurd (omega (arith, p, h))
bare m (Rounds b) E a d e p q h =
    let hb : deepest (block_code b E a e) ≤ m = front_shallow (block_code b E a e) _ m h in
    let same : Bare b E a e m = bare m b E a e e p p hb in
    absurd (omega (arith, same.behind, back_shallow (block_code b E a e) _ m h))
bare m (Enables arms b) E a d e p q h =
    let inner : Bare b E a d m = bare m b E a d e p q h in
    record { code = inner.code; behind = inner.behind }

-- where a number tells the depth, code at the number is code at the depth, and the depths behind are told
pub same_code : (b : Block) (E : Env) (a n d : ℕ) → IsDepth n d → deepest (block_code b E a d) ≤ STACK_WORDS → block_code b E a n ≡ block_code b E a d
same_code b E a n d (inl e) h = ap (block_code b E a) e
same_code b E a n d (inr x) h = (bare STACK_WORDS b E a n d x.1 x.0 h).code ∙ sym (bare STACK_WORDS b E a d d x.1 x.1 h).code

pub same_depth : (b : Block) (E : Env) (a n d : ℕ) → IsDepth n d → deepest (block_code b E a d) ≤ STACK_WORDS → IsDepth (depth_behind b n) (depth_behind b d)
same_depth b E a n d (inl e) h = inl (ap (depth_behind b) e)
same_depth b E a n d (inr x) h = inr ((bare STACK_WORDS b E a n d x.1 x.0 h).behind, (bare STACK_WORDS b E a d d x.1 x.1 h).behind)

pub then_depth : (a b c : ℕ) → IsDepth a b → IsDepth b c → IsDepth a c
then_depth a b c (inl e) (inl f) = inl (e ∙ f)
then_depth a b c (inl e) (inr f) = inr (omega (arith, e, f.0), f.1)
then_depth a b c (inr e) (inl f) = inr (e.0, omega (arith, f, e.1))
then_depth a b c (inr e) (inr f) = inr (e.0, f.1)
