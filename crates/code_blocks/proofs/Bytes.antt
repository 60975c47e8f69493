-- The code of a block has the block's bytes.
use Rattle.std.proofs.Common.{◌≡◌, refl, ap, ◌∙◌, ℕ, zero, suc, ◌+◌, List, [], ◌∷◌, ◌++◌, true, false, arith}
use Rattle.mesa_types.specs.Typed.{Point, Start, After, At, Leave}
use Rattle.code_forms.specs.declared.instruction.Instruction.{Instruction}
use Rattle.code_forms.specs.declared.instruction.Instruction.TheVariants as i
use Rattle.code_forms.specs.declared.module_code.CodeEntry.{CodeEntry}
use Rattle.code_forms.specs.Instructions.{bytes_of}
use Rattle.code_forms.specs.Depths.{depth_after}
use Rattle.code_blocks.specs.Blocks.{Leap, Anyhow, Where, Block, Does, Calls, Both, Ends, Out, Goes, Rounds, Enables}
use Rattle.code_blocks.specs.Own.{alone, bytes_in}
use Rattle.code_blocks.specs.Sizes.{leap_to, goes_to, size, depth_behind}
use Rattle.code_blocks.specs.Weights.{entries_bytes}
use Rattle.code_blocks.specs.Writing.{Env, in_part, end_at, offset_of, entry, entries, block_code}

pub bytes_joined : (es fs : List CodeEntry) → entries_bytes (es ++ fs) ≡ entries_bytes es + entries_bytes fs
bytes_joined [] fs = omega arith
bytes_joined (e ∷ es) fs = omega (arith, bytes_joined es fs)

pub in_joined : (is js : List Instruction) → bytes_in (is ++ js) ≡ bytes_in is + bytes_in js
in_joined [] js = omega arith
in_joined (i ∷ is) js = omega (arith, in_joined is js)

pub leap_bytes : (l : Leap) (target : ℕ) → bytes_of (leap_to l target) ≡ bytes_of (leap_to l 0)
leap_bytes Anyhow target = refl
leap_bytes (Where true) target = refl
leap_bytes (Where false) target = refl

pub goes_bytes : (arms : ℕ) (p : Point) (target : ℕ) → bytes_of (goes_to arms p target) ≡ bytes_of (goes_to arms p 0)
goes_bytes zero (Start n) target = refl
goes_bytes zero (After n) target = refl
goes_bytes zero (At l) target = refl
goes_bytes zero Leave target = refl
goes_bytes (suc k) (Start n) target = refl
goes_bytes (suc k) (After n) target = refl
goes_bytes (suc k) (At l) target = refl
goes_bytes (suc k) Leave target = refl

pub own_bytes : (is : List Instruction) (a d : ℕ) → entries_bytes (entries is a d) ≡ bytes_in is
own_bytes [] a d = refl
own_bytes (i ∷ is) a d = ap (λ n. bytes_of i + n) (own_bytes is (a + bytes_of i) (depth_after alone i d))

pub block_bytes : (b : Block) (E : Env) (a d : ℕ) → entries_bytes (block_code b E a d) ≡ size b
block_bytes (Does is) E a d = own_bytes is a d
block_bytes (Calls call takes puts arms) E a d = omega arith
block_bytes (Both b c) E a d =
    bytes_joined (block_code b E a d) (block_code c E (a + size b) (depth_behind b d))
    ∙ omega (arith, block_bytes b E a d, block_bytes c E (a + size b) (depth_behind b d))
block_bytes (Ends mark b) E a d = block_bytes b (in_part mark a (a + size b) E) a d
block_bytes (Out leap part) E a d = omega (arith, leap_bytes leap (end_at E.ends part))
block_bytes (Goes arms p) E a d = omega (arith, goes_bytes arms p (offset_of (E.points p)))
block_bytes (Rounds b) E a d =
    bytes_joined (block_code b E a d) (entry (a + size b) (depth_behind b d) (i.JumpBack a) ∷ []) ∙ omega (arith, block_bytes b E a d)
block_bytes (Enables arms b) E a d = block_bytes b E a d
