-- What the writing of regions adds to a draft.
use Rattle.std.proofs.Common.{◌≡◌, refl, sym, ap, ◌∙◌, subst, ℕ, ◌+◌, ◌^◌, ◌<◌, ◌≤◌, inl, List, [], ◌∷◌, ◌++◌, append_assoc, append-nil, length, arith}
use Rattle.code_forms.specs.declared.instruction.Instruction.{Instruction}
use Rattle.code_forms.specs.declared.limits.TheConstants.{STACK_WORDS}
use Rattle.code_forms.specs.declared.module_code.Arm.{Arm}
use Rattle.code_forms.specs.declared.module_code.CodeEntry.{CodeEntry}
use Rattle.code_forms.specs.declared.module_code.Phrase.{Phrase}
use Rattle.code_forms.specs.Depths.{depth_after}
use Rattle.code_forms.specs.Instructions.{bytes_of}
use Rattle.code_trees.specs.declared.block.ArmBlock.{ArmBlock}
use Rattle.code_trees.specs.Plain.{plain, plain_arms, off, off_in_arms}
use Rattle.code_writer.specs.declared.cursor.Cursor.{Cursor}
use Rattle.code_writer.specs.declared.draft.Draft.{Draft}
use Rattle.code_writer.specs.Drafts.{found, AllHeld, IsHeld, Fits, Leaves, Writes, Adds, ArmsFit, LeavesArms, region_at, arm_from}
use Rattle.code_writer.specs.Scopes.{env_at, Grows}
use Rattle.code_writer.proofs.Deep.{front_shallow, back_shallow}
use Rattle.code_writer.proofs.Forms.{no_arms, arms_next, arms_off_next}
use Rattle.code_writer.proofs.Held.{grows_itself, grows_on, still_held}
use Rattle.code_writer.proofs.Shapes.{both_zero}
use Rattle.code_writer.proofs.Steps.{with_entries, writes_plainly, leaves_all, leaves_next, leaves_none, fits_next, same_found}
use Rattle.code_blocks.specs.Blocks.{Block, Does, Both, ArmBlocks, NoArmBlock, AndArmBlock}
use Rattle.code_blocks.specs.Modules.{deepest}
use Rattle.code_blocks.specs.Own.{alone}
use Rattle.code_blocks.specs.Sizes.{size}
use Rattle.code_blocks.specs.Writing.{Env, in_arms, entry, block_code, block_phrases, region, arms_code, arms_phrases, arms_size, regions}

abbrev pub ending : Block → Instruction → Block
ending b x = Both b (Does (x ∷ []))

pub fits_body : (b : Block) (x : Instruction) (d : Draft) (around : ℕ) (from : Cursor) → Fits (ending b x) d around from → Fits b d around from
fits_body b x d around from f =
    fits_next (ending b x) b (Does (x ∷ [])) around from d from d f (leaves_all (ending b x) (env_at d.scopes.items around) from d f.shallow f.held)

-- the last instruction is left
pub leaves_last : (b : Block) (x : Instruction) (around : ℕ) (from : Cursor) (old : Draft) (to : Cursor) (new : Draft) → Fits (ending b x) old around from
    → Writes b (env_at old.scopes.items around) from old to new
    → Leaves (ending b x) (Does (x ∷ [])) (env_at old.scopes.items around) from old to new
leaves_last b x around from old to new f h =
    leaves_next (ending b x) b (Does (x ∷ [])) _ from old from old to new (leaves_all (ending b x) _ from old f.shallow f.held) h

pub last_room : (b : Block) (x : Instruction) (around : ℕ) (from : Cursor) (old : Draft) (to : Cursor) (new : Draft) → Fits (ending b x) old around from
    → Writes b (env_at old.scopes.items around) from old to new → to.at + bytes_of x < 2 ^ 32
last_room b x around from old to new f h = omega (arith, f.room, h.at)

pub last_shallow : (b : Block) (x : Instruction) (around : ℕ) (from : Cursor) (old : Draft) (to : Cursor) (new : Draft) → Fits (ending b x) old around from
    → Writes b (env_at old.scopes.items around) from old to new → to.depth ≤ STACK_WORDS
last_shallow b x around from old to new f h = omega (arith, (leaves_last b x around from old to new f h).shallow)

pub adds_ending : (b : Block) (x : Instruction) (around : ℕ) (from : Cursor) (old : Draft) (mid : Cursor) (d : Draft) (es : List CodeEntry) (to : Cursor)
    → Fits (ending b x) old around from → Writes b (env_at old.scopes.items around) from old mid d
    → es ≡ d.entries ++ entry mid.at mid.depth x ∷ [] → to ≡ record { at = mid.at + bytes_of x; depth = depth_after alone x mid.depth }
    → Writes (ending b x) (env_at old.scopes.items around) from old to (with_entries d es)
adds_ending b x around from old mid d es to f h e behind =
    leaves_none (ending b x) (Does (x ∷ [])) _ from old mid d to (with_entries d es) (leaves_last b x around from old mid d f h)
    (writes_plainly (Does (x ∷ [])) _ mid d to es (omega (arith, ap (λ (c : Cursor). c.at) behind)) (inl (ap (λ (c : Cursor). c.depth) behind)) e refl h.held)

pub writes_adds : (b : Block) (E : Env) (from : Cursor) (old : Draft) (to : Cursor) (new : Draft) → Writes b E from old to new
    → Adds (block_code b E from.at from.depth) (block_phrases b E from.at) old new
writes_adds b E from old to new h = record { code = h.code; found = h.found; held = h.held; grows = h.grows }

-- Arms, one behind the other.

pub arms_all : (arms : ArmBlocks) (d : Draft) (around at : ℕ) → ArmsFit arms d around at
    → LeavesArms arms arms (env_at d.scopes.items around) at d at d []
arms_all arms d around at f = record {
  at = refl;
  code = refl;
  found = refl;
  made = refl;
  shallow = f.shallow;
  held = f.held;
  grows = grows_itself d.scopes.items;
}

pub fits_arm : (arms rest more : ArmBlocks) (a : ArmBlock) (around from : ℕ) (old : Draft) (at : ℕ) (d : Draft) (made : List Arm)
    → rest ≡ AndArmBlock a.labels a.slot a.words (plain a.body) more → ArmsFit arms old around from
    → LeavesArms arms rest (env_at old.scopes.items around) from old at d made → Fits (region (plain a.body)) d around (region_at at)
fits_arm arms rest more a around from old at d made e f l =
    let E : Env = env_at old.scopes.items around in
    let b : Block = region (plain a.body) in
    let size_is : arms_size rest ≡ size b + arms_size more = ap arms_size e in
    let code_is : arms_code rest E at ≡ block_code b E at 0 ++ arms_code more E (at + size b) = ap (λ x. arms_code x E at) e in
    let here : deepest (block_code b E at 0) ≤ STACK_WORDS =
    front_shallow (block_code b E at 0) (arms_code more E (at + size b)) STACK_WORDS (subst (λ x. deepest x ≤ STACK_WORDS) code_is l.shallow) in
    record {
      room = omega (arith, f.room, l.at, size_is);
      shallow = subst (λ F. deepest (block_code b F at 0) ≤ STACK_WORDS) (sym (l.grows.same around f.there)) here;
      there = omega (arith, f.there, l.grows.longer);
      held = l.held;
    }

pub arms_one : (arms rest more : ArmBlocks) (a : ArmBlock) (around from : ℕ) (old : Draft) (at : ℕ) (d : Draft) (made : List Arm) (x : Arm) (new : Draft) (after : List Arm)
    → rest ≡ AndArmBlock a.labels a.slot a.words (plain a.body) more → around ≤ length old.scopes.items
    → LeavesArms arms rest (env_at old.scopes.items around) from old at d made → x ≡ arm_from a at
    → Adds (block_code (region (plain a.body)) (env_at d.scopes.items around) at 0) (block_phrases (region (plain a.body)) (env_at d.scopes.items around) at) d new
    → after ≡ made ++ x ∷ []
    → LeavesArms arms more (env_at old.scopes.items around) from old x.end new after
arms_one arms rest more a around from old at d made x new after e there l is h pushed =
    let E : Env = env_at old.scopes.items around in
    let b : Block = region (plain a.body) in
    let same : env_at d.scopes.items around ≡ E = l.grows.same around there in
    let end : x.end ≡ at + size b = ap (λ (y : Arm). y.end) is in
    let size_is : arms_size rest ≡ size b + arms_size more = ap arms_size e in
    let code_is : arms_code rest E at ≡ block_code b E at 0 ++ arms_code more E (at + size b) = ap (λ y. arms_code y E at) e in
    record {
      at = omega (arith, l.at, end, size_is);
      code =
          ap (λ y. y ++ arms_code more E x.end) h.code
          ∙ append_assoc d.entries (block_code b (env_at d.scopes.items around) at 0) (arms_code more E x.end)
          ∙ ap (λ F. d.entries ++ (block_code b F at 0 ++ arms_code more E x.end)) same
          ∙ ap (λ o. d.entries ++ (block_code b E at 0 ++ arms_code more E o)) end
          ∙ ap (λ y. d.entries ++ y) (sym code_is)
          ∙ l.code;
      found =
          ap (λ y. y ++ arms_phrases more E x.end) h.found
          ∙ append_assoc (found d) (block_phrases b (env_at d.scopes.items around) at) (arms_phrases more E x.end)
          ∙ ap (λ F. found d ++ (block_phrases b F at ++ arms_phrases more E x.end)) same
          ∙ ap (λ o. found d ++ (block_phrases b E at ++ arms_phrases more E o)) end
          ∙ ap (λ y. found d ++ arms_phrases y E at) (sym e)
          ∙ l.found;
      made =
          ap (λ y. y ++ regions more x.end) pushed
          ∙ append_assoc made (x ∷ []) (regions more x.end)
          ∙ ap (λ y. made ++ (y ∷ regions more x.end)) is
          ∙ ap (λ o. made ++ (arm_from a at ∷ regions more o)) end
          ∙ ap (λ y. made ++ regions y at) (sym e)
          ∙ l.made;
      shallow =
          subst (λ o. deepest (arms_code more E o) ≤ STACK_WORDS) (sym end)
          (back_shallow (block_code b E at 0) (arms_code more E (at + size b)) STACK_WORDS (subst (λ y. deepest y ≤ STACK_WORDS) code_is l.shallow));
      held = h.held;
      grows = grows_on old.scopes.items d.scopes.items new.scopes.items l.grows h.grows;
    }

pub arms_none : (arms rest : ArmBlocks) (E : Env) (from : ℕ) (old : Draft) (to : ℕ) (new : Draft) (made : List Arm) → rest ≡ NoArmBlock
    → LeavesArms arms rest E from old to new made → Adds (arms_code arms E from) (arms_phrases arms E from) old new
arms_none arms rest E from old to new made e l = record {
  code = sym (append-nil new.entries) ∙ ap (λ y. new.entries ++ arms_code y E to) (sym e) ∙ l.code;
  found = sym (append-nil (found new)) ∙ ap (λ y. found new ++ arms_phrases y E to) (sym e) ∙ l.found;
  held = l.held;
  grows = l.grows;
}

pub arms_made : (arms rest : ArmBlocks) (E : Env) (from : ℕ) (old : Draft) (to : ℕ) (new : Draft) (made : List Arm) → rest ≡ NoArmBlock
    → LeavesArms arms rest E from old to new made → (made ≡ regions arms from) × (to ≡ from + arms_size arms)
arms_made arms rest E from old to new made e l =
    (sym (append-nil made) ∙ ap (λ y. made ++ regions y to) (sym e) ∙ l.made, omega (arith, l.at, ap arms_size e))

pub arms_at : (a : ArmBlock) (arms rest : List ArmBlock) → rest ≡ a ∷ arms
    → plain_arms rest ≡ AndArmBlock a.labels a.slot a.words (plain a.body) (plain_arms arms)
arms_at a arms rest e = ap plain_arms e ∙ arms_next a arms

pub arms_off_at : (a : ArmBlock) (arms rest : List ArmBlock) → rest ≡ a ∷ arms → off_in_arms rest ≡ 0 → (off a.body ≡ 0) × (off_in_arms arms ≡ 0)
arms_off_at a arms rest e z = both_zero (off a.body) (off_in_arms arms) (sym (ap off_in_arms e ∙ arms_off_next a arms) ∙ z)

pub arms_gone : (rest : List ArmBlock) → rest ≡ [] → plain_arms rest ≡ NoArmBlock
arms_gone rest e = ap plain_arms e ∙ no_arms

-- The arms of a phrase.

pub fits_phrase : (arms rest : ArmBlocks) (around inner at : ℕ) (old d : Draft) → rest ≡ arms → d.phrases.items ≡ old.phrases.items
    → Grows old.scopes.items d.scopes.items → inner ≤ length d.scopes.items
    → env_at d.scopes.items inner ≡ in_arms (env_at old.scopes.items around) → at + arms_size arms < 2 ^ 32
    → deepest (arms_code arms (in_arms (env_at old.scopes.items around)) at) ≤ STACK_WORDS → IsHeld old → ArmsFit rest d inner at
fits_phrase arms rest around inner at old d is same grows there env room shallow held = record {
  room = omega (arith, room, ap arms_size is);
  shallow =
      subst (λ x. deepest (arms_code x (env_at d.scopes.items inner) at) ≤ STACK_WORDS) (sym is)
      (subst (λ F. deepest (arms_code arms F at) ≤ STACK_WORDS) (sym env) shallow);
  there = there;
  held = subst (λ qs. AllHeld (length d.scopes.items) qs) (sym same) (still_held _ _ old.phrases.items grows.longer held);
}

pub adds_phrase : (arms rest : ArmBlocks) (around inner at : ℕ) (old d new : Draft) → rest ≡ arms → d.entries ≡ old.entries
    → d.phrases.items ≡ old.phrases.items → Grows old.scopes.items d.scopes.items → IsHeld old
    → env_at d.scopes.items inner ≡ in_arms (env_at old.scopes.items around)
    → Adds (arms_code rest (env_at d.scopes.items inner) at) (arms_phrases rest (env_at d.scopes.items inner) at) d new
    → Adds (arms_code arms (in_arms (env_at old.scopes.items around)) at) (arms_phrases arms (in_arms (env_at old.scopes.items around)) at) old new
adds_phrase arms rest around inner at old d new is entries same grows held env h = record {
  code =
      h.code ∙ ap (λ x. x ++ arms_code rest (env_at d.scopes.items inner) at) entries
      ∙ ap (λ F. old.entries ++ arms_code rest F at) env
      ∙ ap (λ x. old.entries ++ arms_code x (in_arms (env_at old.scopes.items around)) at) is;
  found =
      h.found ∙ ap (λ x. x ++ arms_phrases rest (env_at d.scopes.items inner) at) (same_found old d held same grows)
      ∙ ap (λ F. found old ++ arms_phrases rest F at) env
      ∙ ap (λ x. found old ++ arms_phrases x (in_arms (env_at old.scopes.items around)) at) is;
  held = h.held;
  grows = grows_on old.scopes.items d.scopes.items new.scopes.items grows h.grows;
}

abbrev pub with_arms_of : (from upto : ℕ) → List Arm → Phrase
with_arms_of from upto arms = record { from = from; to = upto; arms = arms }
