-- Jumps that are written.
use Rattle.std.proofs.Common.{◌≡◌, refl, ap, ◌∙◌, ℕ, zero, suc, ◌+◌, ◌^◌, ◌<◌, ◌≤◌, inl, List, [], ◌∷◌, ◌++◌, true, false, arith}
use Rattle.mesa_types.specs.Typed.{Point, Start, After, At, Leave}
use Rattle.code_forms.specs.declared.instruction.Instruction.{Instruction}
use Rattle.code_forms.specs.declared.limits.TheConstants.{STACK_WORDS}
use Rattle.code_forms.specs.declared.module_code.CodeEntry.{CodeEntry}
use Rattle.code_forms.specs.Depths.{depth_after}
use Rattle.code_forms.specs.Instructions.{bytes_of}
use Rattle.code_writer.specs.declared.cursor.Cursor.{Cursor}
use Rattle.code_writer.specs.declared.draft.Draft.{Draft}
use Rattle.code_writer.specs.Drafts.{IsHeld, Fits, Writes}
use Rattle.code_writer.proofs.Steps.{with_entries, writes_plainly}
use Rattle.code_blocks.specs.Blocks.{Leap, Anyhow, Where, Calls, Out, Goes, ArmBlocks}
use Rattle.code_blocks.specs.Own.{alone}
use Rattle.code_blocks.specs.Sizes.{leap_to, left_by_leap, goes_to}
use Rattle.code_blocks.specs.Writing.{Env, end_at, offset_of, entry}
use Rattle.code_blocks.proofs.Bytes.{leap_bytes, goes_bytes}

leap_depth : (l : Leap) (target d : ℕ) → depth_after alone (leap_to l target) d ≡ left_by_leap l d
leap_depth Anyhow target d = omega arith
leap_depth (Where true) target d = omega arith
leap_depth (Where false) target d = omega arith

goes_depth : (arms : ℕ) (p : Point) (target d : ℕ) → depth_after alone (goes_to arms p target) d ≡ d
goes_depth zero (Start n) target d = omega arith
goes_depth zero (After n) target d = omega arith
goes_depth zero (At l) target d = omega arith
goes_depth zero Leave target d = omega arith
goes_depth (suc k) (Start n) target d = omega arith
goes_depth (suc k) (After n) target d = omega arith
goes_depth (suc k) (At l) target d = omega arith
goes_depth (suc k) Leave target d = omega arith

abbrev pub cursor : (at depth : ℕ) → Cursor
cursor at depth = record { at = at; depth = depth }

pub calls_depth : (call : Instruction) (takes puts : ℕ) (arms : ArmBlocks) (d : Draft) (around : ℕ) (from : Cursor)
    → Fits (Calls call takes puts arms) d around from → from.depth ≤ STACK_WORDS
calls_depth call takes puts arms d around from f = omega (arith, f.shallow)

pub out_depth : (l : Leap) (part : ℕ) (d : Draft) (around : ℕ) (from : Cursor) → Fits (Out l part) d around from → from.depth ≤ STACK_WORDS
out_depth l part d around from f = omega (arith, f.shallow)

pub goes_shallow : (arms : ℕ) (p : Point) (d : Draft) (around : ℕ) (from : Cursor) → Fits (Goes arms p) d around from → from.depth ≤ STACK_WORDS
goes_shallow arms p d around from f = omega (arith, f.shallow)

pub out_room : (l : Leap) (part target : ℕ) (x : Instruction) (d : Draft) (around : ℕ) (from : Cursor) → x ≡ leap_to l target
    → Fits (Out l part) d around from → from.at + bytes_of x < 2 ^ 32
out_room l part target x d around from e f = omega (arith, f.room, leap_bytes l target, ap bytes_of e)

pub goes_room : (arms : ℕ) (p : Point) (target : ℕ) (x : Instruction) (d : Draft) (around : ℕ) (from : Cursor) → x ≡ goes_to arms p target
    → Fits (Goes arms p) d around from → from.at + bytes_of x < 2 ^ 32
goes_room arms p target x d around from e f = omega (arith, f.room, goes_bytes arms p target, ap bytes_of e)

pub writes_out : (l : Leap) (part target : ℕ) (x : Instruction) (E : Env) (from : Cursor) (old : Draft) (to : Cursor) (es : List CodeEntry)
    → x ≡ leap_to l target → target ≡ end_at E.ends part → es ≡ old.entries ++ entry from.at from.depth x ∷ []
    → to ≡ cursor (from.at + bytes_of x) (depth_after alone x from.depth) → IsHeld old → Writes (Out l part) E from old to (with_entries old es)
writes_out l part target x E from old to es is lies e behind held =
    writes_plainly (Out l part) E from old to es
    (omega (arith, ap (λ (c : Cursor). c.at) behind, ap bytes_of is, leap_bytes l target))
    (inl (ap (λ (c : Cursor). c.depth) behind ∙ ap (λ y. depth_after alone y from.depth) is ∙ leap_depth l target from.depth))
    (e ∙ ap (λ y. old.entries ++ entry from.at from.depth y ∷ []) (is ∙ ap (leap_to l) lies))
    refl held

pub writes_goes : (arms : ℕ) (p : Point) (target : ℕ) (x : Instruction) (E : Env) (from : Cursor) (old : Draft) (to : Cursor) (es : List CodeEntry)
    → x ≡ goes_to arms p target → target ≡ offset_of (E.points p) → es ≡ old.entries ++ entry from.at from.depth x ∷ []
    → to ≡ cursor (from.at + bytes_of x) (depth_after alone x from.depth) → IsHeld old → Writes (Goes arms p) E from old to (with_entries old es)
writes_goes arms p target x E from old to es is lies e behind held =
    writes_plainly (Goes arms p) E from old to es
    (omega (arith, ap (λ (c : Cursor). c.at) behind, ap bytes_of is, goes_bytes arms p target))
    (inl (ap (λ (c : Cursor). c.depth) behind ∙ ap (λ y. depth_after alone y from.depth) is ∙ goes_depth arms p target from.depth))
    (e ∙ ap (λ y. old.entries ++ entry from.at from.depth y ∷ []) (is ∙ ap (goes_to arms p) lies))
    refl held
