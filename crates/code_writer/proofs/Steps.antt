-- What the writing of each form of a block adds to a draft, by what the writing of its parts adds.
use Rattle.std.proofs.Common.{◌≡◌, refl, sym, ap, ◌∙◌, subst, ℕ, ◌+◌, ◌-◌, ◌≤◌, inl, inr, List, [], ◌∷◌, ◌++◌, append_assoc, append-nil, length, arith}
use Rattle.code_forms.specs.declared.instruction.Instruction.{Instruction}
use Rattle.code_forms.specs.declared.instruction.Instruction.TheVariants as i
use Rattle.code_forms.specs.declared.limits.TheConstants.{STACK_WORDS}
use Rattle.code_forms.specs.declared.module_code.CodeEntry.{CodeEntry}
use Rattle.code_forms.specs.Instructions.{bytes_of}
use Rattle.code_writer.specs.declared.cursor.Cursor.{Cursor}
use Rattle.code_writer.specs.declared.draft.Draft.{Draft}
use Rattle.code_writer.specs.Cursors.{IsDepth}
use Rattle.code_writer.specs.Drafts.{pends, found, AllHeld, IsHeld, Fits, Leaves, Writes}
use Rattle.code_writer.specs.Scopes.{env_at, Grows}
use Rattle.code_writer.proofs.Deep.{front_shallow, back_shallow, same_code, same_depth, then_depth}
use Rattle.code_writer.proofs.Held.{grows_itself, grows_on, still_held, same_pends, unless_none, no_phrases}
use Rattle.code_blocks.specs.Blocks.{Mark, Block, Calls, Both, Ends, Rounds, Enables, ArmBlocks}
use Rattle.code_blocks.specs.Modules.{deepest}
use Rattle.code_blocks.specs.Sizes.{size, at_end, depth_behind}
use Rattle.code_blocks.specs.Writing.{Env, in_part, entry, block_code, block_phrases, own_phrase, unless_empty}

-- the draft with other entries
abbrev pub with_entries : Draft → List CodeEntry → Draft
with_entries d es = record { entries = es; scopes = d.scopes; phrases = d.phrases }

-- a block without phrases
pub writes_plainly : (b : Block) (E : Env) (from : Cursor) (old : Draft) (to : Cursor) (es : List CodeEntry) → to.at ≡ from.at + size b
    → IsDepth to.depth (depth_behind b from.depth) → es ≡ old.entries ++ block_code b E from.at from.depth → block_phrases b E from.at ≡ []
    → IsHeld old → Writes b E from old to (with_entries old es)
writes_plainly b E from old to es at depth code none held = record {
  at = at;
  depth = depth;
  code = code;
  found = sym (append-nil (found old)) ∙ ap (λ l. found old ++ l) (sym none);
  held = held;
  grows = grows_itself old.scopes.items;
}

-- One behind the other.

pub leaves_all : (b : Block) (E : Env) (from : Cursor) (old : Draft) → deepest (block_code b E from.at from.depth) ≤ STACK_WORDS → IsHeld old
    → Leaves b b E from old from old
leaves_all b E from old shallow held = record {
  at = refl;
  depth = inl refl;
  code = refl;
  found = refl;
  shallow = shallow;
  held = held;
  grows = grows_itself old.scopes.items;
}

pub leaves_next : (w b c : Block) (E : Env) (from : Cursor) (old : Draft) (mid : Cursor) (d : Draft) (to : Cursor) (new : Draft)
    → Leaves w (Both b c) E from old mid d → Writes b E mid d to new → Leaves w c E from old to new
leaves_next w b c E from old mid d to new l h =
    let at : to.at ≡ mid.at + size b = h.at in
    let deep : deepest (block_code c E (mid.at + size b) (depth_behind b mid.depth)) ≤ STACK_WORDS =
    back_shallow (block_code b E mid.at mid.depth) (block_code c E (mid.at + size b) (depth_behind b mid.depth)) STACK_WORDS l.shallow in
    let same : block_code c E to.at to.depth ≡ block_code c E (mid.at + size b) (depth_behind b mid.depth) =
    ap (λ a. block_code c E a to.depth) at ∙ same_code c E (mid.at + size b) to.depth (depth_behind b mid.depth) h.depth deep in
    record {
      at = omega (arith, at, l.at);
      depth = then_depth _ _ _ (same_depth c E (mid.at + size b) to.depth (depth_behind b mid.depth) h.depth deep) l.depth;
      code =
          ap (λ x. x ++ block_code c E to.at to.depth) h.code
          ∙ append_assoc d.entries (block_code b E mid.at mid.depth) (block_code c E to.at to.depth)
          ∙ ap (λ x. d.entries ++ (block_code b E mid.at mid.depth ++ x)) same
          ∙ l.code;
      found =
          ap (λ x. x ++ block_phrases c E to.at) h.found
          ∙ append_assoc (found d) (block_phrases b E mid.at) (block_phrases c E to.at)
          ∙ ap (λ a. found d ++ (block_phrases b E mid.at ++ block_phrases c E a)) at
          ∙ l.found;
      shallow = subst (λ x. deepest x ≤ STACK_WORDS) (sym same) deep;
      held = h.held;
      grows = grows_on old.scopes.items d.scopes.items new.scopes.items l.grows h.grows;
    }

pub leaves_none : (w b : Block) (E : Env) (from : Cursor) (old : Draft) (mid : Cursor) (d : Draft) (to : Cursor) (new : Draft)
    → Leaves w b E from old mid d → Writes b E mid d to new → Writes w E from old to new
leaves_none w b E from old mid d to new l h = record {
  at = omega (arith, h.at, l.at);
  depth = then_depth _ _ _ h.depth l.depth;
  code = h.code ∙ l.code;
  found = h.found ∙ l.found;
  held = h.held;
  grows = grows_on old.scopes.items d.scopes.items new.scopes.items l.grows h.grows;
}

-- there is room for the next one
pub fits_next : (w b c : Block) (around : ℕ) (from : Cursor) (old : Draft) (mid : Cursor) (d : Draft)
    → Fits w old around from → Leaves w (Both b c) (env_at old.scopes.items around) from old mid d → Fits b d around mid
fits_next w b c around from old mid d f l =
    let E : Env = env_at old.scopes.items around in
    let here : deepest (block_code b E mid.at mid.depth) ≤ STACK_WORDS =
    front_shallow (block_code b E mid.at mid.depth) (block_code c E (mid.at + size b) (depth_behind b mid.depth)) STACK_WORDS l.shallow in
    record {
      room = omega (arith, f.room, l.at);
      shallow = subst (λ F. deepest (block_code b F mid.at mid.depth) ≤ STACK_WORDS) (sym (l.grows.same around f.there)) here;
      there = omega (arith, f.there, l.grows.longer);
      held = l.held;
    }

pub fits_last : (w b : Block) (around : ℕ) (from : Cursor) (old : Draft) (mid : Cursor) (d : Draft)
    → Fits w old around from → Leaves w b (env_at old.scopes.items around) from old mid d → Fits b d around mid
fits_last w b around from old mid d f l = record {
  room = omega (arith, f.room, l.at);
  shallow = subst (λ F. deepest (block_code b F mid.at mid.depth) ≤ STACK_WORDS) (sym (l.grows.same around f.there)) l.shallow;
  there = omega (arith, f.there, l.grows.longer);
  held = l.held;
}

-- A part with a mark.

pub fits_ends : (mark : Mark) (b : Block) (around inner : ℕ) (from : Cursor) (old d : Draft) → Fits (Ends mark b) old around from
    → d.phrases.items ≡ old.phrases.items → Grows old.scopes.items d.scopes.items → inner ≤ length d.scopes.items
    → env_at d.scopes.items inner ≡ in_part mark from.at (from.at + size b) (env_at old.scopes.items around) → Fits b d inner from
fits_ends mark b around inner from old d f same grows there is = record {
  room = f.room;
  shallow = subst (λ F. deepest (block_code b F from.at from.depth) ≤ STACK_WORDS) (sym is) f.shallow;
  there = there;
  held = subst (λ qs. AllHeld (length d.scopes.items) qs) (sym same) (still_held _ _ old.phrases.items grows.longer f.held);
}

pub same_found : (old d : Draft) → IsHeld old → d.phrases.items ≡ old.phrases.items → Grows old.scopes.items d.scopes.items → found d ≡ found old
same_found old d held same grows =
    ap (pends d.scopes.items) same ∙ same_pends old.scopes.items d.scopes.items old.phrases.items grows held

pub writes_ends : (mark : Mark) (b : Block) (E F : Env) (from : Cursor) (old d : Draft) (mid to : Cursor) (new : Draft) → d.entries ≡ old.entries
    → d.phrases.items ≡ old.phrases.items → Grows old.scopes.items d.scopes.items → IsHeld old → F ≡ in_part mark from.at (from.at + size b) E
    → Writes b F from d mid new → to.at ≡ from.at + size b → IsDepth to.depth (at_end mark from.depth) → Writes (Ends mark b) E from old to new
writes_ends mark b E F from old d mid to new entries same grows held is h at depth = record {
  at = at;
  depth = depth;
  code =
      h.code ∙ ap (λ x. x ++ block_code b F from.at from.depth) entries ∙ ap (λ G. old.entries ++ block_code b G from.at from.depth) is;
  found =
      h.found ∙ ap (λ x. x ++ block_phrases b F from.at) (same_found old d held same grows)
      ∙ ap (λ G. found old ++ block_phrases b G from.at) is;
  held = h.held;
  grows = grows_on old.scopes.items d.scopes.items new.scopes.items grows h.grows;
}

-- What is done again and again.

pub exact : (n d : ℕ) → IsDepth n d → d ≤ STACK_WORDS → n ≡ d
exact n d (inl e) le = e
exact n d (inr x) le = absurd (omega (arith, x.1, le))

pub fits_rounds : (b : Block) (around : ℕ) (from : Cursor) (old : Draft) → Fits (Rounds b) old around from → Fits b old around from
fits_rounds b around from old f = record {
  room = omega (arith, f.room);
  shallow = front_shallow (block_code b (env_at old.scopes.items around) from.at from.depth) _ STACK_WORDS f.shallow;
  there = f.there;
  held = f.held;
}

-- the jump back stands at the depth behind the part
pub back_depth : (b : Block) (around : ℕ) (from : Cursor) (old : Draft) (mid : Cursor) → Fits (Rounds b) old around from
    → IsDepth mid.depth (depth_behind b from.depth) → (mid.depth ≡ depth_behind b from.depth) × (depth_behind b from.depth ≤ STACK_WORDS)
back_depth b around from old mid f h =
    let le : depth_behind b from.depth ≤ STACK_WORDS =
    omega (
      arith,
      back_shallow (block_code b (env_at old.scopes.items around) from.at from.depth)
          (entry (from.at + size b) (depth_behind b from.depth) (i.JumpBack from.at) ∷ []) STACK_WORDS f.shallow,
    ) in
    (exact mid.depth (depth_behind b from.depth) h le, le)

pub writes_rounds : (b : Block) (E : Env) (from : Cursor) (old : Draft) (mid : Cursor) (d : Draft) (to : Cursor) (es : List CodeEntry)
    → Writes b E from old mid d → mid.depth ≡ depth_behind b from.depth → es ≡ d.entries ++ entry mid.at mid.depth (i.JumpBack from.at) ∷ []
    → to.at ≡ mid.at + 5 → to.depth ≡ mid.depth → Writes (Rounds b) E from old to (with_entries d es)
writes_rounds b E from old mid d to es h deep e at depth = record {
  at = omega (arith, at, h.at);
  depth = inl (depth ∙ deep);
  code =
      e ∙ ap (λ x. x ++ entry mid.at mid.depth (i.JumpBack from.at) ∷ []) h.code
      ∙ append_assoc old.entries (block_code b E from.at from.depth) (entry mid.at mid.depth (i.JumpBack from.at) ∷ [])
      ∙ ap (λ a. old.entries ++ (block_code b E from.at from.depth ++ entry a mid.depth (i.JumpBack from.at) ∷ [])) h.at
      ∙ ap (λ n. old.entries ++ (block_code b E from.at from.depth ++ entry (from.at + size b) n (i.JumpBack from.at) ∷ [])) deep;
  found = h.found;
  held = h.held;
  grows = h.grows;
}

-- Phrases.

pub writes_calls : (call : Instruction) (takes puts : ℕ) (arms : ArmBlocks) (E : Env) (from : Cursor) (old d : Draft) (to : Cursor) (es : List CodeEntry)
    → found d ≡ found old ++ own_phrase arms E from.at (from.at + bytes_of call) → d.entries ≡ old.entries → d.scopes.items ≡ old.scopes.items → IsHeld d
    → es ≡ d.entries ++ entry from.at from.depth call ∷ [] → to.at ≡ from.at + bytes_of call → IsDepth to.depth (from.depth - takes + puts)
    → Writes (Calls call takes puts arms) E from old to (with_entries d es)
writes_calls call takes puts arms E from old d to es more entries scopes held e at depth = record {
  at = at;
  depth = depth;
  code = e ∙ ap (λ x. x ++ entry from.at from.depth call ∷ []) entries;
  found = more;
  held = held;
  grows = subst (λ s. Grows old.scopes.items s) (sym scopes) (grows_itself old.scopes.items);
}

pub fits_enables : (arms : ArmBlocks) (b : Block) (around : ℕ) (from : Cursor) (old d : Draft) → Fits (Enables arms b) old around from
    → d.scopes.items ≡ old.scopes.items → IsHeld d → Fits b d around from
fits_enables arms b around from old d f scopes held = record {
  room = f.room;
  shallow = subst (λ s. deepest (block_code b (env_at s around) from.at from.depth) ≤ STACK_WORDS) (sym scopes) f.shallow;
  there = subst (λ s. around ≤ length s) (sym scopes) f.there;
  held = held;
}

pub writes_enables : (arms : ArmBlocks) (b : Block) (around : ℕ) (from : Cursor) (old d : Draft) (to : Cursor) (new : Draft)
    → found d ≡ found old ++ unless_empty (size b) (own_phrase arms (env_at old.scopes.items around) from.at (from.at + size b))
    → d.entries ≡ old.entries → d.scopes.items ≡ old.scopes.items
    → Writes b (env_at d.scopes.items around) from d to new → Writes (Enables arms b) (env_at old.scopes.items around) from old to new
writes_enables arms b around from old d to new more entries scopes h =
    let E : Env = env_at old.scopes.items around in
    let same : env_at d.scopes.items around ≡ E = ap (λ s. env_at s around) scopes in
    record {
      at = h.at;
      depth = h.depth;
      code =
          h.code ∙ ap (λ x. x ++ block_code b (env_at d.scopes.items around) from.at from.depth) entries
          ∙ ap (λ F. old.entries ++ block_code b F from.at from.depth) same;
      found =
          h.found ∙ ap (λ x. x ++ block_phrases b (env_at d.scopes.items around) from.at) more
          ∙ ap (λ F. (found old ++ unless_empty (size b) (own_phrase arms E from.at (from.at + size b))) ++ block_phrases b F from.at) same
          ∙ append_assoc (found old) _ (block_phrases b E from.at)
          ∙ ap (λ x. found old ++ x) (sym (unless_none (size b) (own_phrase arms E from.at (from.at + size b)) (block_phrases b E from.at) (no_phrases b E from.at)));
      held = h.held;
      grows = subst (λ s. Grows s new.scopes.items) scopes h.grows;
    }
